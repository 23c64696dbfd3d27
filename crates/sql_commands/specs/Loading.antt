-- What a load of a batch finds, its outcome, and what it leaves.
use Rattle.std.specs.Prelude.{[], ◌≡◌, ℕ, ◌+◌, ◌-◌, not, true, false, List, ◌∷◌, map, position, nat_le, Option, Some, None, IsTrue}
use Rattle.std.specs.List.{list_all}
use Rattle.allotment.specs.declared.cells.Cell.{Cell}
use Rattle.allotment.specs.declared.cells.Row.{Row}
use Rattle.allotment.specs.declared.places.Held.{Held as HeldPlaces}
use Rattle.commands.specs.Asks.{Asked}
use Rattle.commands.specs.BatchData.{Batched}
use Rattle.commands.specs.Batches.{is_good_row}
use Rattle.commands.specs.declared.replies.Refusal.{Refusal}
use Rattle.commands.specs.declared.replies.Refusal.TheVariants.{BelowHeld}
use Rattle.commands.specs.declared.replies.Reply.{Reply}
use Rattle.ledger.specs.Answer.{State, kept_for}
use Rattle.ledger.specs.Ledger.{batches_named, held, is_not_below_held}
use Rattle.ledger.specs.Replies as rules
use Rattle.desk_sql.specs.Rows.{StockRow}
use Rattle.desk_sql.specs.declared.batches.BatchFound.{BatchFound}
use Rattle.sql_model.specs.ExpectedRows.{batch_text}
use Rattle.sql_model.specs.Reading.{stock_row_of}
use Rattle.sql_model.specs.Standing.{IsDesk}
use Rattle.sql_model.specs.Loading.{loaded_row}
use Rattle.sql_writes.specs.declared.events.Numbers.{Numbers}
use Rattle.sql_commands.specs.Answering.{AreNext}

-- Known batches.

-- the batch with this name was loaded with these rows, and this is their text
pub record IsTextOf (s : State) (name content : List ℕ) (known : List Row) : Type 0 where
  pub named : batches_named s.ledger name ≡ known ∷ []
  pub good : IsTrue (list_all is_good_row known)
  pub text : content ≡ batch_text known

-- what is found for a name: the text of the batch that has it, or that no batch has it
abbrev pub TellsName : List ℕ → State → Option BatchFound → Type 0
TellsName name s None = batches_named s.ledger name ≡ []
TellsName name s (Some b) = (known : List Row) × IsTextOf s name b.content.items known

-- the reply to a batch whose name is known, where this is the text of the known rows
abbrev pub AnswersKnown : Batched → List ℕ → Reply → Type 0
AnswersKnown b content r =
    (known : List Row) → IsTrue (list_all is_good_row known) → content ≡ batch_text known
    → r ≡ (rules.answer_known b.name b.rows known).reply

-- New batches.

-- the places of a row's cell, of which so many are held: those that are not held are free; none if the
-- row has fewer
abbrev pub LeavesPlaces : Row → ℕ → Option HeldPlaces → Type 0
LeavesPlaces r n None = nat_le n r.places ≡ false
LeavesPlaces r n (Some p) =
    (nat_le n r.places ≡ true) × (p.allot ≡ r.places) × (p.free ≡ r.places - n)

-- the places that a row's cell gets, or none if the row is below what is held
abbrev pub GetsPlaces : Row → State → Option HeldPlaces → Type 0
GetsPlaces r s places = LeavesPlaces r (held s.ledger r.cell) places

-- the row of a loaded cell
abbrev pub row_loaded : State → Row → StockRow
row_loaded s r = loaded_row (held s.ledger r.cell) r

-- no row is below what is held, and these are the cells with the places that they get
pub record HavePlaces (rows : List Row) (s : State) (cells : List (Cell × HeldPlaces)) : Type 0 where
  pub above : list_all (is_not_below_held s.ledger) rows ≡ true
  pub told : map stock_row_of cells ≡ map (row_loaded s) rows

-- the refusal names the first row that is below what is held
abbrev pub TellsBelow : List Row → State → Refusal → Type 0
TellsBelow rows s why =
    (i : ℕ) × (why ≡ BelowHeld (i + 1))
    × (position (λ (r : Row). not (is_not_below_held s.ledger r)) rows ≡ Some i)

-- A load for which nothing is kept, of a name that no batch has. The numbers are those of the ledger's next event.
pub record IsNewName (ask : Option Asked) (n : Numbers) (name : List ℕ) (s : State) : Type 0 where
  pub desk : IsDesk s
  pub new : kept_for s ask ≡ None
  pub counted : AreNext s n
  pub unknown : batches_named s.ledger name ≡ []

-- the same, if no row is below what is held
pub record IsLoadDue (ask : Option Asked) (n : Numbers) (name : List ℕ) (rows : List Row)
    (cells : List (Cell × HeldPlaces)) (s : State) : Type 0 where
  pub new_name : IsNewName ask n name s
  pub places : HavePlaces rows s cells

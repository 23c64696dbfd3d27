-- What found rows say of a ledger and its kept replies.
use Rattle.std.specs.Prelude.{◌≡◌, ℕ, zero, suc, ◌+◌, ◌-◌, ◌==◌, ◌&&◌, nat_le, bytes_eq, Bool, List, ⊤, Option, Some, None, option_map, IsTrue}
use Rattle.allotment.specs.Want.{Wanted}
use Rattle.allotment.specs.Cells.{kind_number}
use Rattle.allotment.specs.declared.cells.Cell.{Cell}
use Rattle.allotment.specs.declared.places.Held.{Held}
use Rattle.commands.specs.Texts.{reply_line, is_accepted}
use Rattle.commands.specs.declared.items.Cause.{Cause}
use Rattle.commands.specs.declared.items.Cause.TheVariants.{Stop, Refused, Asked}
use Rattle.commands.specs.declared.items.Cursor.{Cursor}
use Rattle.commands.specs.declared.items.Item.{Item}
use Rattle.commands.specs.declared.items.Item.TheVariants.{Transaction, Compensation, Turn, Save}
use Rattle.commands.specs.declared.items.Phase.{Phase}
use Rattle.commands.specs.declared.items.Phase.TheVariants.{Run, Back, Ended, Undone}
use Rattle.plan.specs.PlanModel.{step_count}
use Rattle.ledger.specs.Answer.{KeptReply}
use Rattle.ledger.specs.Ledger.{Event, Journey, history}
use Rattle.saga_core.specs.Views.{Places, cursor_of}
use Rattle.saga_core.specs.declared.records.Brief.{Brief}
use Rattle.desk_sql.specs.Rows.{StockRow, JourneyRow, CursorRow, StepRow, EntryRow, AnswerRow}
use Rattle.desk_sql.specs.declared.stock.NightRange.{NightRange}
use Rattle.desk_sql.specs.declared.stock.NightFound.{NightFound}
use Rattle.sql_model.specs.ExpectedRows.{cursor_row}
use Rattle.sql_model.specs.Standing.{places_told}

-- the found row matches what there is: a row for something, and no row for nothing
abbrev pub Tells : {R X : Type 0} → (R → X → Type 0) → Option R → Option X → Type 0
Tells IsOf None None = ⊤
Tells IsOf (Some r) (Some x) = IsOf r x
Tells IsOf None (Some x) = ⊥
Tells IsOf (Some r) None = ⊥

-- the row is that of a kept reply, which can be read from its line
pub record IsAnswerOf (a : AnswerRow) (k : KeptReply) : Type 0 where
  pub ask : a.ask ≡ k.text
  pub reply : a.reply ≡ reply_line k.reply
  pub accepted : IsTrue (is_accepted k.reply)

-- the row is that of a journey, with the cursor after its items
pub record IsJourneyOf (l : List Event) (r : JourneyRow) (a : Journey) : Type 0 where
  pub agent : r.agent ≡ a.agent
  pub steps : r.steps ≡ step_count a.plan
  pub tries : r.tries ≡ a.plan.tries
  pub cursor : r.cursor ≡ cursor_row (cursor_of a.plan (history l r.id))

-- the row is that of a journey's brief
pub record IsBriefOf (r : JourneyRow) (b : Brief) : Type 0 where
  pub id : r.id ≡ b.id
  pub agent : r.agent ≡ b.agent
  pub cursor : r.cursor ≡ cursor_row b.cursor

-- the phase that a number and a target give
abbrev pub phase_in : ℕ → ℕ → Option Phase
phase_in zero target = Some Run
phase_in (suc zero) target = Some (Back target)
phase_in (suc (suc zero)) target = Some Ended
phase_in (suc (suc (suc zero))) target = Some Undone
phase_in (suc (suc (suc (suc n)))) target = None

-- the cursor that a row gives
abbrev pub cursor_in : CursorRow → Option Cursor
cursor_in c =
    option_map (λ (p : Phase). record { pos = c.pos; phase = p; used = c.used })
    (phase_in c.phase c.target)

-- the row of an option, without the mark that it is taken
abbrev pub not_taken : StepRow → StepRow
not_taken s = record s { taken = 0 }

-- the cause of a turn, by its number
abbrev pub cause_in : ℕ → Option Cause
cause_in zero = Some Stop
cause_in (suc zero) = Some Refused
cause_in (suc (suc zero)) = Some Asked
cause_in (suc (suc (suc n))) = None

-- the item that three numbers give: its kind, and two more
abbrev pub item_of_numbers : ℕ → ℕ → ℕ → Option Item
item_of_numbers zero a b = Some (Transaction a b)
item_of_numbers (suc zero) a b = Some (Compensation a b)
item_of_numbers (suc (suc zero)) a b = option_map (Turn a) (cause_in b)
item_of_numbers (suc (suc (suc zero))) a b = Some (Save a)
item_of_numbers (suc (suc (suc (suc n)))) a b = None

-- the item of a row
abbrev pub item_in : EntryRow → Option Item
item_in e = item_of_numbers e.item e.a e.b

-- Stock.

-- the range is that of a want's nights
pub record IsRangeOf (r : NightRange) (w : Wanted) : Type 0 where
  pub kind : r.kind ≡ kind_number w.kind
  pub supplier : r.supplier.now ≡ w.supplier
  pub product : r.product.now ≡ w.product
  pub first : r.first ≡ w.first
  pub last : r.last ≡ w.first + w.nights - 1

-- a found night with its places
abbrev pub night_seen : NightFound → ℕ × Places
night_seen n = (n.night, record { allot = n.allot; free = n.free })

-- the row is that of a wanted cell: of the same product, and of one of the nights
abbrev pub is_wanted_row : Wanted → StockRow → Bool
is_wanted_row w r =
    (r.kind == kind_number w.kind)
    && (bytes_eq r.supplier w.supplier
    && (bytes_eq r.product w.product
    && (nat_le w.first r.night && nat_le r.night (w.first + w.nights - 1))))

-- the night of a row of stock, with its places
abbrev pub night_told : StockRow → ℕ × Places
night_told r = (r.night, places_told r)

-- the row of a cell with its places
abbrev pub stock_row_of : Cell × Held → StockRow
stock_row_of c = record {
  kind = kind_number c.0.kind;
  supplier = c.0.supplier;
  product = c.0.product;
  night = c.0.night;
  allot = c.1.allot;
  free = c.1.free;
}

-- The outcome of a load, and the rows that represent it. For the functions of `loading` that answer.
use Rattle.std.proofs.Common.{◌≡◌, ℕ, ◌+◌, List, length, Bool, true, false, if◌then◌else◌, Option, Some, None, IsTrue, inl, refl, sym, ap, subst, ◌∙◌, position, not, bytes_eq, ◌&&◌}
use Rattle.std.specs.List.{list_all}
use Rattle.std.proofs.lemmas.Bool.{and_parts}
use Rattle.commands.specs.Limits.{most_rows}
use Rattle.allotment.specs.Limits.{is_between}
use Rattle.allotment.specs.declared.cells.Cell.{Cell}
use Rattle.allotment.specs.declared.cells.Row.{Row}
use Rattle.allotment.specs.declared.places.Held.{Held as HeldPlaces}
use Rattle.commands.specs.Asks.{Asked}
use Rattle.commands.specs.Names.{is_batch_name}
use Rattle.commands.specs.Batches.{is_batch, is_good_row, are_distinct}
use Rattle.commands.specs.Request.{Load}
use Rattle.commands.specs.declared.replies.Refusal.{Refusal}
use Rattle.commands.specs.declared.replies.Refusal.TheVariants.{BelowHeld, BatchDiffers}
use Rattle.commands.specs.declared.replies.Reply.{Reply}
use Rattle.commands.specs.declared.replies.Reply.TheVariants as reply
use Rattle.ledger.specs.Answer.{State, Answer, asker, answer_within, kept_for}
use Rattle.ledger.specs.Ledger.{Loaded, is_not_below_held}
use Rattle.ledger.specs.Replies.{refused, loaded, answer_known, answer_new, answer_load, are_same_rows}
use Rattle.sqlite_rules.specs.Lists.{Has}
use Rattle.desk_sql.specs.Rows.{Tables}
use Rattle.desk_sql.specs.FoundRows.{FindsBatch}
use Rattle.desk_sql.specs.declared.batches.BatchFound.{BatchFound}
use Rattle.sql_model.specs.ExpectedRows.{batch_text}
use Rattle.sql_model.specs.Standing.{StandsFor, IsDesk}
use Rattle.sql_model.proofs.Batches.{batch_read, named_good}
use Rattle.sql_model.proofs.Lines.{same_batch}
use Rattle.sql_writes.specs.declared.events.Numbers.{Numbers}
use Rattle.sql_commands.specs.Loading.{IsTextOf, TellsName, AnswersKnown, TellsBelow, IsNewName, IsLoadDue}
use Rattle.sql_commands.proofs.Executing.{IsUnmoved}
use Rattle.sql_commands.proofs.LeadLemmas.{unmoved}
use Rattle.sql_commands.proofs.LoadRows.{none_below}

-- the rows of a batch keep the limits
pub good_rows : (name : List ℕ) (rows : List Row) → IsTrue (is_batch name rows) → list_all is_good_row rows ≡ true
good_rows name rows batch =
    let limits =
    (and_parts (is_batch_name name && is_between 1 most_rows (length rows) && list_all is_good_row rows)
    (are_distinct rows) batch).0 in
    (and_parts (is_batch_name name && is_between 1 most_rows (length rows)) (list_all is_good_row rows) limits).1

-- Known batches.

-- the row found for a name is that of the batch that has it
pub name_told : (t : Tables) (s : State) → StandsFor t s → IsDesk s → (name : List ℕ) (found : Option BatchFound)
    → FindsBatch name t found → TellsName name s found
name_told t s st desk name None finds = batch_read t s name None st desk finds
name_told t s st desk name (Some b) finds =
    let told = batch_read t s name (Some b) st desk finds in (
      told.0,
      record {
        named = told.1;
        good = named_good s.ledger desk.legal name told.0 (subst (λ bs. Has bs told.0) (sym told.1) (inl refl));
        text = told.2;
      },
    )

-- the answer to a known batch, by whether the rows are the same
abbrev known_by : Bool → List ℕ → List Row → Answer
known_by same name rows = if same then record { event = None; reply = loaded name rows } else refused BatchDiffers

-- the reply to a known batch, by whether the text is the kept one
pub known_answer : (name : List ℕ) (rows known : List Row) (content : List ℕ) (b : Bool) → IsTrue (is_batch name rows)
    → IsTrue (list_all is_good_row known) → content ≡ batch_text known → b ≡ bytes_eq (batch_text rows) content
    → (if b then loaded name rows else reply.Refused BatchDiffers) ≡ (answer_known name rows known).reply
known_answer name rows known content b batch good text same =
    go b (are_same_rows rows known)
    (same ∙ ap (bytes_eq (batch_text rows)) text ∙ sym (same_batch rows known (good_rows name rows batch) good))
  where
    go : (c d : Bool) → c ≡ d → (if c then loaded name rows else reply.Refused BatchDiffers) ≡ (known_by d name rows).reply
    go true true e = refl
    go false false e = refl
    go true false e = cc
    go false true e = cc

module _ (s : State) (ask : Option Asked) (name : List ℕ) (rows : List Row) where
  -- a batch with a known name
  pub known_comes : (content : List ℕ) (known : List Row) (r : Reply) → kept_for s ask ≡ None → IsTextOf s name content known
      → AnswersKnown (record { name = name; rows = rows }) content r → IsUnmoved s ask (Load name rows) r
  known_comes content known r new is answers =
      subst (IsUnmoved s ask (Load name rows)) (sym (answers known is.good is.text))
      (unmoved s ask (Load name rows) (answer_known name rows known) new (none (are_same_rows rows known))
      (ap (answer_load s.ledger name rows) is.named))
    where
      none : (b : Bool) → (known_by b name rows).event ≡ None
      none true = refl
      none false = refl

  module _ (n : Numbers) where
    -- the answer of the rules if no batch has the name
    by_place : IsNewName ask n name s → (place : Option ℕ)
        → position (λ r. not (is_not_below_held s.ledger r)) rows ≡ place
        → answer_within s.ledger (asker ask) (Load name rows) ≡ answer_new name rows place
    by_place is place first = ap (answer_load s.ledger name rows) is.unknown ∙ ap (answer_new name rows) first

    -- a batch with a row below what is held
    pub below_comes : (why : Refusal) → IsNewName ask n name s → TellsBelow rows s why
        → IsUnmoved s ask (Load name rows) (reply.Refused why)
    below_comes why is tells =
        subst (λ w. IsUnmoved s ask (Load name rows) (reply.Refused w)) (sym tells.1)
        (unmoved s ask (Load name rows) (refused (BelowHeld (tells.0 + 1))) is.new refl (by_place is (Some tells.0) tells.2))

    module _ (cells : List (Cell × HeldPlaces)) (due : IsLoadDue ask n name rows cells s) where
      -- the answer of the rules if no row is below what is held
      pub fitting : answer_within s.ledger (asker ask) (Load name rows)
          ≡ record { event = Some (Loaded name rows); reply = loaded name rows }
      fitting = by_place due.new_name None (none_below (is_not_below_held s.ledger) rows due.places.above)

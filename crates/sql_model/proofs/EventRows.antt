-- What one more event adds to the rows that are expected of a ledger, and the rows that all events write alike: those of
-- meta, of a batch or an item, and of a reply. For the lemmas of each event.
use Rattle.std.proofs.Common.{◌≡◌, ℕ, ◌+◌, List, [], ◌∷◌, ◌++◌, length, map, flat_map, Option, Some, None, sym, ap, ◌∙◌, append-nil, IsPermutation, suc, refl, arith, filter_map, rules, false, find, option_map, IsTrue}
use Rattle.std.specs.List.{cons_option}
use Rattle.std.proofs.lemmas.List.Sorted.{IsPermutation-append_left}
use Rattle.std.proofs.lemmas.List.{length-map}
use Rattle.std.proofs.lemmas.List.Elements.{filter_map-append}
use Rattle.std.proofs.lemmas.Bool.{and_parts, and_from}
use Rattle.std.proofs.lemmas.Slice.Eq.{bytes_eq-Decides}
use Rattle.sqlite_trees.proofs.ListLemmas.{all_weaker}
use Rattle.allotment.specs.declared.cells.Cell.{Cell}
use Rattle.commands.specs.Asks.{Asked}
use Rattle.commands.specs.declared.replies.Reply.{Reply}
use Rattle.commands.specs.Texts.{is_accepted}
use Rattle.ledger.specs.Answer.{State, state_with, kept_for, Kept, keep, kept_after}
use Rattle.ledger.specs.History.{is_taken}
use Rattle.ledger.specs.Ledger.{Event, Journey, journeys, history, Loaded, Began, Did}
use Rattle.ledger.proofs.Events.{length-more}
use Rattle.saga_core.specs.Views.{places_of}
use Rattle.desk_sql.specs.Rows.{Tables, StockRow, MarkRow, AnswerRow}
use Rattle.desk_sql.specs.FoundRows.{is_for}
use Rattle.sql_model.specs.ExpectedRows.{counted_from, batch_row_of, journeys_called, is_standing, step_rows, steps_called, entry_row_if, Begun, begun_of, begun}
use Rattle.sql_model.specs.Standing.{StockStands, MarksStand, StandsFor, is_same_answer, as_written, answer_told, AnswersStand, IsKeepable}
use Rattle.sql_model.specs.Beginning.{meta_row_at, with_answer, answer_row_of}
use Rattle.sql_model.proofs.Numbering.{counted_from-last}
use Rattle.sql_model.proofs.Finding.{find-back, find-last_fails, find-none, apart-last}

-- Expected rows.

-- what one more event gives, by its number, is appended
gives-more : {Y : Type 0} (f : ℕ → Event → Option Y) (l : List Event) (e : Event)
    → filter_map (λ (p : ℕ × Event). f p.0 p.1) (counted_from 1 (l ++ e ∷ [])) ≡ filter_map (λ (p : ℕ × Event). f p.0 p.1)
    (counted_from 1 l) ++ cons_option (f (length l + 1) e) []
gives-more f l e = search (rules, arith, counted_from-last, filter_map-append)

-- a begin adds a journey, and no other event does
pub begun-more : (l : List Event) (e : Event)
    → begun (l ++ e ∷ []) ≡ begun l ++ cons_option (begun_of (length l + 1) e) []
begun-more l e = gives-more begun_of l e

begun_from-journeys : (n : ℕ) (l : List Event)
    → map (λ (b : Begun). b.journey) (filter_map (λ (p : ℕ × Event). begun_of p.0 p.1) (counted_from n l)) ≡ journeys l
begun_from-journeys n [] = refl
begun_from-journeys n (Loaded name rows ∷ l) = begun_from-journeys (suc n) l
begun_from-journeys n (Began agent plan ∷ l) = search (rules, arith, begun_from-journeys (suc n) l)
begun_from-journeys n (Did j item ∷ l) = begun_from-journeys (suc n) l

-- the journeys as they were begun are the journeys
pub begun-journeys : (l : List Event) → map (λ (b : Begun). b.journey) (begun l) ≡ journeys l
begun-journeys l = begun_from-journeys 1 l

-- there are as many journeys as were begun
pub length-begun : (l : List Event) → length (begun l) ≡ length (journeys l)
length-begun l = search (rules, arith, length-map, begun-journeys)

-- Kept replies.

-- one more row for a reply that is kept for an ask whose key had none
pub answers_stand-more : (kept : Kept) (rows : List AnswerRow) (ask : Asked) (reply : Reply)
    → AnswersStand kept rows → kept ask.agent ask.key ≡ None
    → AnswersStand (keep kept ask reply) (rows ++ answer_row_of ask reply ∷ [])
answers_stand-more kept rows ask reply stand new = record {
  each = each;
  once = apart-last is_same_answer rows row stand.once
      (all_weaker (λ (a : AnswerRow). is_for ask.agent ask.key a ≡ false) (λ (a : AnswerRow). is_same_answer a row ≡ false)
      other rows (find-none (is_for ask.agent ask.key) rows unknown));
}
  where
    row : AnswerRow
    row = answer_row_of ask reply

    unknown : find (is_for ask.agent ask.key) rows ≡ None
    unknown = search (rules, arith)

    other : (a : AnswerRow) → is_for ask.agent ask.key a ≡ false
        → is_same_answer a (answer_row_of ask reply) ≡ false
    other a e = search (rules, arith)

    each : (agent key : List ℕ)
        → option_map answer_told (find (is_for agent key) (rows ++ answer_row_of ask reply ∷ [])) ≡ option_map as_written
        (keep kept ask reply agent key)
    each agent key = search (rules, arith, bytes_eq-Decides, and_parts, and_from, find-back, find-last_fails)

-- one more row for a reply that is kept, if there is an ask
pub answer_stands : (t : Tables) (s : State) (ask : Option Asked) (reply : Reply) → StandsFor t s
    → kept_for s ask ≡ None
    → StandsFor (with_answer ask reply t)
    (record { ledger = s.ledger; kept = kept_after s.kept ask reply })
answer_stands t s None reply st new = st
answer_stands t s (Some ask) reply st new = search (rules, arith, answers_stand-more)

-- after an accepted reply the kept replies can still be read
pub keepable-more : (kept : Kept) (ask : Option Asked) (reply : Reply) → IsKeepable kept
    → IsTrue (is_accepted reply) → IsKeepable (kept_after kept ask reply)
keepable-more kept ask reply able accepted agent key = search (rules, arith)

-- Tables.

-- the rows of stock, of journeys, of steps and of save-points are those of the ledger
pub record HasMoved (l : List Event) (t : Tables) : Type 0 where
  pub stock : StockStands l t.stock
  pub journey : IsPermutation (journeys_called l) t.journey
  pub step : IsPermutation (steps_called l) t.step
  pub mark : MarksStand l t.mark

-- one more row, if there is one
abbrev pub with_more : {X : Type 0} → List X → Option X → List X
with_more rows None = rows
with_more rows (Some r) = rows ++ r ∷ []

-- the rows of the old tables, with those of an event that all events write alike; the others are those of the new tables
abbrev pub with_event : ℕ → ℕ → Event → Tables → Tables → Tables
with_event num many e old new = record new {
  meta = map (λ _. meta_row_at num many) old.meta;
  batch = with_more old.batch (batch_row_of num e);
  answer = old.answer;
  entries = with_more old.entries (entry_row_if num e);
}

grown : {X : Type 0} (called after rows : List X) (o : Option X) → after ≡ called ++ cons_option o []
    → IsPermutation called rows → IsPermutation after (with_more rows o)
grown called after rows None more same = rw (more, append-nil called) same
grown called after rows (Some r) more same = rw more (IsPermutation-append_left (r ∷ []) called rows same)

-- tables that represent a ledger, with the rows of one more event, represent the ledger with it
pub event_stands : (t u : Tables) (s : State) (ask : Option Asked) (reply : Reply) (e : Event) (many : ℕ)
    → StandsFor t s → kept_for s ask ≡ None → length (journeys (s.ledger ++ e ∷ [])) ≡ many
    → HasMoved (s.ledger ++ e ∷ []) u
    → StandsFor (with_answer ask reply (with_event (length s.ledger + 1) many e t u)) (state_with s ask reply (Some e))
event_stands t u s ask reply e many st new counted now =
    let l = s.ledger in
    let num = length l + 1 in
    answer_stands (with_event num many e t u) (record { ledger = l ++ e ∷ []; kept = s.kept }) ask reply
    (record {
      meta =
          ap (map (λ _. meta_row_at num many)) st.meta
          ∙ (λ i. meta_row_at (sym (length-more l e) i) (sym counted i) ∷ []);
      stock = now.stock;
      batch = grown _ _ t.batch (batch_row_of num e) (gives-more batch_row_of l e) st.batch;
      journey = now.journey;
      step = now.step;
      answer = st.answer;
      entries = grown _ _ t.entries (entry_row_if num e) (gives-more entry_row_if l e) st.entries;
      mark = now.mark;
    }) new

-- What an event leaves as it is.
module _ (l m : List Event) where
  -- if each cell has the same places, the rows of stock stay
  pub stock-stays : (rows : List StockRow) → ((x : Cell) → places_of m x ≡ places_of l x)
      → StockStands l rows → StockStands m rows
  stock-stays rows same stand = record {
    each = λ x. stand.each x ∙ sym (same x);
    once = stand.once;
    known = stand.known;
  }

  -- if the same save-points stand, their rows stay
  pub marks-stay : (rows : List MarkRow) → ((j p : ℕ) → is_taken (history m j) p ≡ is_taken (history l j) p)
      → MarksStand l rows → MarksStand m rows
  marks-stay rows same stand = record { each = λ j p. stand.each j p ∙ sym (same j p); once = stand.once }

  -- if the same transactions stand, the rows of steps stay
  pub steps-stay : journeys m ≡ journeys l
      → ((j step option : ℕ) → is_standing (history m j) step option ≡ is_standing (history l j) step option)
      → steps_called m ≡ steps_called l
  steps-stay js same =
      λ i. flat_map (λ (a : ℕ × Journey). step_rows (λ step option. same a.0 step option i) a.0 a.1.plan)
      (counted_from 1 (js i))

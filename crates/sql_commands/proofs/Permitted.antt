-- The rows of a desk permit a begin, a load of a new batch, each item that the rules allow, and the reply that is kept with an event. For
-- the functions that commit.
use Rattle.std.proofs.Common.{[], ◌≡◌, ◌==◌, ◌+◌, ◌≤◌, ◌^◌, ℕ, List, length, false, IsTrue, sym, ap, subst, arith, leb-true, ◌&&◌, Option, None, Some, nat_le, ◌-◌, true, refl, ◌∙◌, option_map}
use Rattle.std.specs.List.{AllByRecursion, list_all}
use Rattle.std.proofs.lemmas.Bool.{and_parts, false_from_ne_true}
use Rattle.sqlite_rules.proofs.ListLemmas.{all_from, has_kept, all_has, some_from}
use Rattle.allotment.specs.Limits.{is_between}
use Rattle.allotment.specs.declared.cells.Row.{Row}
use Rattle.commands.specs.Asks.{Asked}
use Rattle.commands.specs.Batches.{are_distinct, is_batch, is_good_row}
use Rattle.commands.specs.Limits.{longest_agent, longest_batch_name, longest_key, most_rows}
use Rattle.commands.specs.Names.{is_agent, is_agent_byte, is_batch_byte, is_batch_name, is_key, is_key_byte}
use Rattle.commands.specs.Texts.{is_accepted, reply_line}
use Rattle.commands.specs.declared.replies.Reply.{Reply}
use Rattle.ledger.specs.Answer.{State, kept_for}
use Rattle.ledger.specs.Ledger.{batches_named, journeys, Event, Journey, allotment, fits, held, history, places_in, IsLegal}
use Rattle.desk_sql.specs.Changes.{AreJourneysBelow, is_mark_at}
use Rattle.desk_sql.specs.FoundRows.{is_for, is_named}
use Rattle.desk_sql.specs.Rows.{Tables, BatchRow, JourneyRow, MarkRow, StockRow}
use Rattle.desk_sql.specs.Writable.{MayKeep}
use Rattle.sql_model.specs.Beginning.{answer_row_of}
use Rattle.sql_model.specs.ExpectedRows.{batch_text}
use Rattle.sql_model.specs.Reading.{IsAnswerOf, Tells}
use Rattle.sql_model.specs.Standing.{IsDesk, StandsFor, IsOfCell, places_told}
use Rattle.sql_model.proofs.Answered.{answer_found}
use Rattle.sql_model.proofs.Readings.{next_is_above}
use Rattle.sql_writes.specs.Permits.{HasNoOptions, MayBegin, MayLoadBatch, Permits, PermitsEvent, HaveHeldFor, MayAdd, MayMoveOn}
use Rattle.sql_writes.specs.declared.events.BatchLoaded.{BatchLoaded}
use Rattle.sql_writes.specs.declared.events.Event.{Event as Written}
use Rattle.sql_writes.specs.declared.events.JourneyBegun.{JourneyBegun}
use Rattle.sql_writes.specs.declared.events.Numbers.{Numbers}
use Rattle.sql_commands.specs.Failing.{HasShortText}
use Rattle.sql_commands.proofs.RowLimits.{batches_unnamed, batches_unnumbered, journeys_unnumbered, next_has_no_options, short_cells, word_within, has_journey, short_agents, short_options}
use Rattle.sql_commands.proofs.TextLengths.{line_within, batch_within}
use Rattle.allotment.specs.Want.{Wanted}
use Rattle.allotment.specs.Cells.{wants_cell}
use Rattle.allotment.specs.declared.cells.Cell.{Cell}
use Rattle.plan.specs.PlanModel.{want_at}
use Rattle.commands.specs.declared.items.Cursor.{Cursor}
use Rattle.commands.specs.declared.items.Item.{Item}
use Rattle.commands.specs.declared.items.Item.TheVariants as item
use Rattle.ledger.specs.History.{next_want}
use Rattle.ledger.proofs.Histories.{may_come-allowed}
use Rattle.ledger.proofs.PlacesMoved.{held-compensation, held_within, places_in-cell, transaction_fits}
use Rattle.saga_core.specs.Views.{Places, places_of}
use Rattle.sql_model.specs.Spelling.{IsSpelled}
use Rattle.sql_model.proofs.StockRows.{stock_at-row}
use Rattle.sql_reads.proofs.GoodStock.{good_row}
use Rattle.sql_model.proofs.Conditions.{items_below, nights_have_free}
use Rattle.sql_model.proofs.Plans.{wanted_nights}
use Rattle.sql_model.proofs.Ranges.{range_row}
use Rattle.sql_model.proofs.Moves.{save-new}
use Rattle.sql_model.proofs.Wants.{wanted_row}
use Rattle.sql_commands.specs.Moving.{Says}
use Rattle.sql_commands.proofs.LeadLemmas.{IsMade}

-- The rows of a desk permit a begin, a load of a new batch, and the reply that is kept with an event.

module _ (t : Tables) (s : State) (st : StandsFor t s) (desk : IsDesk s) where
  -- a begin, for an agent
  pub begin_permitted : (n : Numbers) (b : JourneyBegun) → n.num ≡ length s.ledger + 1 → n.journeys ≡ length (journeys s.ledger) + 1
      → IsTrue (is_agent b.agent.now) → MayBegin n b t
  begin_permitted n b num number agent =
      let few = word_within is_agent_byte longest_agent b.agent.now agent in
      let short : length b.agent.now ≤ 10 ^ 8 = omega (arith, few) in
      record {
        journey = record {
          below = subst (λ k. AreJourneysBelow k t) (sym number) (next_is_above t s st desk);
          unnumbered = subst (λ k. AllByRecursion (λ (j : JourneyRow). (j.num == k) ≡ false) t.journey) (sym num) (journeys_unnumbered t s st);
          short = short;
        };
        options = subst (λ k. HasNoOptions k t) (sym number) (next_has_no_options t s st);
      }

  -- a load, where no batch has its name
  pub load_permitted : (n : Numbers) (b : BatchLoaded) (name : List ℕ) (rows : List Row) → n.num ≡ length s.ledger + 1
      → batches_named s.ledger name ≡ [] → b.name.now ≡ name → b.content.now ≡ batch_text rows → IsTrue (is_batch name rows)
      → MayLoadBatch n b t
  load_permitted n b name rows num new named content batch =
      let three = (and_parts (is_batch_name name && is_between 1 most_rows (length rows) && list_all is_good_row rows) (are_distinct rows) batch).0 in
      let two = and_parts (is_batch_name name && is_between 1 most_rows (length rows)) (list_all is_good_row rows) three in
      let one = and_parts (is_batch_name name) (is_between 1 most_rows (length rows)) two.0 in
      let few = leb-true (length rows) most_rows (and_parts (nat_le 1 (length rows)) (nat_le (length rows) most_rows) one.1).1 in
      let word = word_within is_batch_byte longest_batch_name name one.0 in
      let text = batch_within rows two.1 in
      let own : length b.name.now ≡ length name = ap length named in
      let lines : length b.content.now ≡ length (batch_text rows) = ap length content in
      let short : length b.name.now + length b.content.now ≤ 10 ^ 8 = omega (arith, few, word, text, own, lines) in
      record {
        batch = record {
          unnamed = subst (λ k. AllByRecursion (λ (x : BatchRow). is_named k x ≡ false) t.batch) (sym named) (batches_unnamed t s st desk name new);
          unnumbered = subst (λ k. AllByRecursion (λ (x : BatchRow). (x.num == k) ≡ false) t.batch) (sym num) (batches_unnumbered t s st);
          short = short;
        };
        apart = st.stock.once;
        cells = short_cells t s st desk;
      }

  -- a reply, where none is kept for the ask, whose text is short, by an agent under a key
  pub answer_permitted : (ask : Asked) (reply : Reply) → kept_for s (Some ask) ≡ None → HasShortText (Some ask)
      → IsTrue (is_accepted reply) → IsTrue (is_agent ask.agent) → IsTrue (is_key ask.key) → MayKeep (answer_row_of ask reply) t
  answer_permitted ask reply new short accepted agent key =
      let line = line_within reply accepted in
      let text : length ask.text ≤ 10 ^ 7 = short in
      let whose = word_within is_agent_byte longest_agent ask.agent agent in
      let under = word_within is_key_byte longest_key ask.key key in
      let all : length ask.agent + (length ask.key + (length ask.text + length (reply_line reply))) ≤ 10 ^ 8 =
      omega (arith, line, text, whose, under) in
      record {
        unkept =
            all_from _ t.answer
            (λ k has.
            false_from_ne_true (is_for ask.agent ask.key k)
            (λ on. subst (Tells IsAnswerOf (Some k)) new
            (answer_found s.kept t.answer ask.agent ask.key (Some k) st.answer desk.keepable
            (has_kept (is_for ask.agent ask.key) t.answer k has on))));
        short = all;
      }

-- an event is permitted with its reply, if there is an ask for which none is kept
pub answered_permitted : (t : Tables) (s : State) → StandsFor t s → IsDesk s → (n : Numbers) (e : Written) (ask : Option Asked) (reply : Reply)
    → Permits n e t → kept_for s ask ≡ None → HasShortText ask → IsTrue (is_accepted reply) → PermitsEvent n e ask (reply_line reply) t
answered_permitted t s st desk n e None reply permits new short accepted = permits
answered_permitted t s st desk n e (Some ask) reply permits new short accepted =
    (permits, answer_permitted t s st desk ask reply new short accepted)

-- The rows of a desk permit each item that the rules allow.

-- where so many places of a cell are held, its row has room for as many free ones
row_held : (l : List Event) (x : Cell) (r : StockRow) (count : ℕ) → IsLegal l → count ≤ held l x → places_of l x ≡ Some (places_told r)
    → r.free + count ≤ r.allot
row_held l x r count legal enough told = go (allotment l x) refl told
  where
    go : (o : Option ℕ) → allotment l x ≡ o
        → option_map (λ (n : ℕ). record { allot = n; free = n - held l x }) o ≡ Some (places_told r) → r.free + count ≤ r.allot
    go None e is = cc
    go (Some n) e is =
        let same : record { allot = n; free = n - held l x } ≡ places_told r = cc in
        let allot : n ≡ r.allot = ap (λ (p : Places). p.allot) same in
        let free : n - held l x ≡ r.free = ap (λ (p : Places). p.free) same in
        omega (arith, allot, free, held_within l x n legal e, enough)

module _ (s : State) (spelled : IsSpelled s.ledger) (ask : Option Asked) (id : ℕ) (a : Journey) (n : Numbers) (then : Cursor)
    (t : Tables) (st : StandsFor t s) where
  -- the journey has its row, and each item a smaller number
  may_add : (x : Item) → IsMade s ask id a x n then → MayAdd n id t
  may_add x is = record { journey_is = has_journey t s st id a is.at; below = rw is.num (items_below s.ledger t st.entries) }

  may_move_on : (x : Item) → IsMade s ask id a x n then → MayMoveOn n id t
  may_move_on x is = record { item = may_add x is; short = short_agents t s st spelled }

  -- a save-point is taken only where no row has it
  unmarked : (p : ℕ) → IsMade s ask id a (item.Save p) n then → AllByRecursion (λ (m : MarkRow). is_mark_at id p m ≡ false) t.mark
  unmarked p is =
      let h = history s.ledger id in
      let comes = may_come-allowed s.ledger id a (item.Save p) is.at is.may in
      let none = save-new a.plan h (fits s.ledger (next_want a.plan h)) p comes in
      all_from _ t.mark
      (λ m has.
      false_from_ne_true (is_mark_at id p m)
      (λ on. let bad : true ≡ false = sym (some_from (is_mark_at id p) t.mark m has on) ∙ st.mark.each id p ∙ none in cc))

  -- the places that a compensation gives back are held
  given_held : (i c : ℕ) (w : Wanted) → want_at a.plan i c ≡ Some w → IsMade s ask id a (item.Compensation i c) n then
      → (x : Cell) → wants_cell w x ≡ true → w.count ≤ held s.ledger x
  given_held i c w want is x wanted =
      let given = held-compensation s.ledger id i c a x is.desk.legal is.at is.may in
      let places : places_in x (want_at a.plan i c) ≡ w.count = ap (places_in x) want ∙ places_in-cell w x wanted in
      omega (arith, given, places)

  have_held : (i c : ℕ) (w : Wanted) → want_at a.plan i c ≡ Some w → IsMade s ask id a (item.Compensation i c) n then → HaveHeldFor w t
  have_held i c w want is range of =
      all_from _ t.stock
      (λ r has within.
      let known = all_has IsOfCell t.stock r st.stock.known has in
      let some = wanted_nights s.ledger id i c a w is.desk.legal is.at want in
      let wanted = sym (wanted_row w known.0 r some known.1) ∙ sym (range_row range w of r) ∙ within in
      let told = sym (st.stock.each known.0) ∙ stock_at-row t.stock known.0 r st.stock.once has known.1 in
      let few = (good_row s.ledger is.desk.legal t.stock st.stock r has).places.few in
      (row_held s.ledger known.0 r w.count is.desk.legal (given_held i c w want is known.0 wanted) told, omega (arith, few)))

  -- each item is permitted
  pub item_permitted : (x : Item) (e : Written) → Says id a.plan then x e → IsMade s ask id a x n then → Permits n e t
  item_permitted (item.Turn p cause) e says is = rw says (may_move_on (item.Turn p cause) is)
  item_permitted (item.Save p) e says is =
      rw says (record {
        item = may_add (item.Save p) is;
        mark = record { journey_is = has_journey t s st id a is.at; unmarked = unmarked p is };
      })
  item_permitted (item.Compensation i c) e says is =
      rw says.2 (record {
        move = may_move_on (item.Compensation i c) is;
        held = have_held i c says.0 says.1 is;
        cells = short_cells t s st is.desk;
        options = short_options t s st is.desk;
      })
  item_permitted (item.Transaction i c) e says is =
      rw says.2 (record {
        move = may_move_on (item.Transaction i c) is;
        free = λ r range. nights_have_free s.ledger t is.desk.legal st.stock r says.0 range
            (wanted_nights s.ledger id i c a says.0 is.desk.legal is.at says.1)
            (ap (fits s.ledger) (sym says.1) ∙ transaction_fits s.ledger id i c a is.at is.may);
        cells = short_cells t s st is.desk;
        options = short_options t s st is.desk;
      })

-- Where the search for the items of a journey starts. For the reads of its items.
use Rattle.std.proofs.Common.{◌≡◌, ℕ, List, [], ◌∷◌, ◌++◌, take, drop, Option, None, Some, refl, sym, ap, ◌∙◌, arith, option_map, take-append-drop, rules}
use Rattle.std.proofs.lemmas.List.Elements.{filter_map-append}
use Rattle.plan.specs.PlanModel.{step_count}
use Rattle.commands.specs.declared.items.Item.{Item}
use Rattle.ledger.specs.Answer.{State}
use Rattle.ledger.specs.Ledger.{Event, Journey, journey_at, item_of, history}
use Rattle.ledger.proofs.Ledgers.{all_go}
use Rattle.desk_sql.specs.FoundRows.{FindsJourney, FindsNextItem, journey_of, item_of as item_row}
use Rattle.desk_sql.specs.declared.journeys.ItemFound.{ItemFound}
use Rattle.desk_sql.specs.declared.versions.Version.{Version}
use Rattle.desk_sql.specs.Rows.{Tables, JourneyRow, ShowsIn}
use Rattle.sqlite.specs.Tree.{Trees}
use Rattle.desk_sql.specs.declared.journeys.JourneyFound.{JourneyFound}
use Rattle.sql_model.specs.Reading.{Tells, IsJourneyOf}
use Rattle.sql_model.specs.Standing.{StandsIn, IsDesk}
use Rattle.sql_model.proofs.Readings.{journey_read, begins_read, next_read}
use Rattle.sql_model.proofs.NextItems.{TellsIfNext}
use Rattle.sql_reads.specs.ItemSearch.{AreSoughtAt, IsNextOf}
use Rattle.sql_reads.specs.declared.item_search.Sought.{Sought}
use Rattle.sql_reads.specs.FoundJourney.{IsRowAt, IsRowOf}
use Rattle.sql_reads.proofs.ReadJourneys.{journey_there, none_taken}
use Rattle.sql_reads.proofs.ReadReasons.{found_there, row_agent, row_cursor, row_number}

first_none : (xs ys : List Item) → xs ++ ys ≡ [] → xs ≡ []
first_none [] ys e = refl
first_none (x ∷ xs) ys e = cc

-- a journey without items has no item in any prefix of the ledger
none_first : (l : List Event) (j n : ℕ) → history l j ≡ [] → history (take n l) j ≡ []
none_first l j n none =
    first_none (history (take n l) j) (history (drop n l) j)
    (sym (filter_map-append (item_of j) (take n l) (drop n l)) ∙ ap (λ es. history es j) (take-append-drop n l) ∙ none)

-- if the first events have no item of a journey, all of its items come after them
pub all_behind : (l : List Event) (j n : ℕ) → history (take n l) j ≡ [] → history (drop n l) j ≡ history l j
all_behind l j n none =
    ap (λ front. front ++ history (drop n l) j) (sym none) ∙ sym (filter_map-append (item_of j) (take n l) (drop n l))
    ∙ ap (λ es. history es j) (take-append-drop n l)

-- if there is no journey, the search finds nothing
pub sought_nowhere : (s : State) (desk : IsDesk s) (id : ℕ) (w : Sought) → w.journey ≡ 0 → journey_at s.ledger id ≡ None
    → AreSoughtAt id s w
sought_nowhere s desk id w zero_is absent =
    let go = all_go s.ledger desk.legal in
    let none : history s.ledger w.journey ≡ [] = ap (history s.ledger) zero_is ∙ go.none 0 refl in
    record {
      items = none ∙ sym (go.none id absent);
      first = none_first s.ledger w.journey w.after none;
      steps = λ a at. let bad : None ≡ Some a = sym (ap (journey_at s.ledger) zero_is) ∙ at in cc;
    }

-- if no row with a number is found, no journey has that number
pub absent_read : {v : Version} (t : Tables) (s : State) (st : StandsIn v t s) (desk : IsDesk s) (id : ℕ) → FindsJourney id t None
    → journey_at s.ledger id ≡ None
absent_read t s st desk id finds = go (journey_at s.ledger id) refl (journey_read t s st desk id None finds)
  where
    go : (o : Option Journey) → journey_at s.ledger id ≡ o
        → Tells (λ (r : JourneyRow) a. (r.id ≡ id) × IsJourneyOf s.ledger r a) None o → journey_at s.ledger id ≡ None
    go o e tells = search (rules, arith)

-- a row that is found is that of the journey
pub row_found : {v : Version} {db : Trees} (t : Tables) (s : State) → ShowsIn v db t → StandsIn v t s → IsDesk s → (id : ℕ)
    (found : Option JourneyFound) → FindsJourney id t found → IsRowAt v id s found
row_found t s shown st desk id None finds = absent_read t s st desk id finds
row_found {db = db} t s shown st desk id (Some r) finds = record {
  tells = journey_read t s st desk id (Some r) finds;
  begun = begins_read t s st desk id r finds;
  unmarked = λ first p. none_taken db t s first shown st id p;
  agent = λ spelled. row_agent t s st spelled (journey_of r) (found_there t s st spelled id r finds);
  cursor = λ spelled. row_cursor t s st spelled r (found_there t s st spelled id r finds);
  early = λ spelled. row_number t s st spelled id r finds;
}

-- a found row gives the number of the journey's steps, and the event that began it
pub sought_there : {v : Version} (s : State) (id : ℕ) (found : JourneyFound) → IsRowOf v id s found → (w : Sought) → w.journey ≡ id
    → w.after ≡ found.num → w.steps ≡ found.steps → AreSoughtAt id s w
sought_there s id found row w journey after steps =
    let there = journey_there s.ledger id (journey_of found) row.tells in
    record {
      items = ap (history s.ledger) journey;
      first = ap (λ n. history (take n s.ledger) w.journey) after ∙ ap (history (take found.num s.ledger)) journey ∙ row.begun;
      steps = λ a at.
          let is : a ≡ there.journey = cc in
          ap (λ (b : Journey). step_count b.plan) is ∙ sym there.is.steps ∙ sym steps;
    }

-- the row found after an event is that of the next item of the search
pub next_sought : {v : Version} (t : Tables) (s : State) (st : StandsIn v t s) (desk : IsDesk s) (w : Sought) (found : Option ItemFound)
    → FindsNextItem w.journey w.after t found → IsNextOf w s found
next_sought t s st desk w found finds = go found (next_read t s st desk w.journey w.after found finds)
  where
    go : (o : Option ItemFound) → TellsIfNext w.journey 1 w.after s.ledger (option_map (item_row w.journey) o) → IsNextOf w s o
    go o none = search (rules, arith)

-- The rows of a migrated desk represent the state that the old rows represented. For bring_over.
use Rattle.std.proofs.Common.{◌≡◌, ◌+◌, [], ◌∷◌, length, map, sym, ap, subst, ◌∙◌}
use Rattle.std.specs.List.Sorted.{IsPermutation}
use Rattle.ledger.specs.Ledger.{journeys}
use Rattle.ledger.specs.Answer.{State}
use Rattle.desk_sql.specs.declared.versions.Version.TheVariants.{One, Two}
use Rattle.desk_sql.specs.declared.meta.Meta.{Meta}
use Rattle.desk_sql.specs.Rows.{Tables, MetaRow}
use Rattle.sql_model.specs.ExpectedRows.{entries_called, meta_in}
use Rattle.sql_model.specs.Standing.{StandsIn}
use Rattle.sql_model.proofs.Conditions as conditions
use Rattle.tables.specs.Copying.{items_below}
use Rattle.tables.specs.Migrating.{AreNumbersOf, migrated}
use Rattle.tables.proofs.Ranges.{items_below-all}

-- the migrated rows represent the same state, as rows of version 2
pub migrated_stands : (m : Meta) (t : Tables) (s : State) → AreNumbersOf m s → StandsIn One t s → StandsIn Two (migrated m t) s
migrated_stands m t s numbers stands =
    let events : m.events ≡ length s.ledger = ap (λ (r : MetaRow). r.events) numbers in
    let count : m.journeys ≡ length (journeys s.ledger) = ap (λ (r : MetaRow). r.journeys) numbers in
    let row : MetaRow = record { version = 2; events = m.events; journeys = m.journeys } in
    let is_row : row ≡ meta_in Two s.ledger
    = ap (λ n. record { version = 2; events = n; journeys = m.journeys }) events
    ∙ ap (λ n. record { version = 2; events = length s.ledger; journeys = n }) count in
    let all : items_below (m.events + 1) t.entries ≡ t.entries
    = ap (λ n. items_below (n + 1) t.entries) events
    ∙ items_below-all (length s.ledger + 1) t.entries (conditions.items_below s.ledger t stands.entries) in
    record {
      meta = ap (map (λ _. row)) stands.meta ∙ ap (λ r. r ∷ []) is_row;
      stock = stands.stock;
      batch = stands.batch;
      journey = stands.journey;
      step = stands.step;
      answer = stands.answer;
      entries = subst (IsPermutation (entries_called s.ledger)) (sym all) stands.entries;
      mark = stands.mark;
    }

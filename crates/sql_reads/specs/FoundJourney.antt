-- The row of a journey that is found in tables of one version, of a desk that they represent.
use Rattle.std.specs.Prelude.{◌≡◌, ◌≤◌, ℕ, false, Option, Some, None, IsSome, IsTrue}
use Rattle.commands.specs.Names.{is_agent}
use Rattle.desk_sql.specs.FoundRows.{journey_of}
use Rattle.desk_sql.specs.Rows.{JourneyRow}
use Rattle.desk_sql.specs.declared.journeys.JourneyFound.{JourneyFound}
use Rattle.desk_sql.specs.declared.versions.Version.{Version}
use Rattle.desk_sql.specs.declared.versions.Version.TheVariants.{One}
use Rattle.ledger.specs.Answer.{State, most_events}
use Rattle.ledger.specs.History.{is_taken}
use Rattle.ledger.specs.Ledger.{journey_at, history}
use Rattle.sql_model.specs.Reading.{Tells, IsJourneyOf, cursor_in}
use Rattle.sql_model.specs.Spelling.{IsSpelled}
use Rattle.sql_reads.specs.ItemSearch.{HasNoItemTo}
use Rattle.sql_reads.specs.Reading.{row_of}

-- The row is that of the journey with this number, which has no item up to the event of the row, and in version 1 no save-point. Where
-- agents have the form of one, it tells an agent and a cursor, and an event that a ledger may have.
pub record IsRowOf (v : Version) (id : ℕ) (s : State) (r : JourneyFound) : Type 0 where
  pub tells : Tells (λ (x : JourneyRow) a. (x.id ≡ id) × IsJourneyOf s.ledger x a) (Some (journey_of r)) (journey_at s.ledger id)
  pub begun : HasNoItemTo id r.num s
  pub unmarked : v ≡ One → (p : ℕ) → is_taken (history s.ledger id) p ≡ false
  pub agent : IsSpelled s.ledger → IsTrue (is_agent (journey_of r).agent)
  pub cursor : IsSpelled s.ledger → IsSome (cursor_in (row_of r.cursor))
  pub early : IsSpelled s.ledger → r.num ≤ most_events

-- the same; or no row, and no journey has this number
abbrev pub IsRowAt : Version → ℕ → State → Option JourneyFound → Type 0
IsRowAt v id s None = journey_at s.ledger id ≡ None
IsRowAt v id s (Some r) = IsRowOf v id s r

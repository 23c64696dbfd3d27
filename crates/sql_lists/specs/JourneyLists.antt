-- The statements that return journeys: which rows they return, their texts, and what these mean.
use Rattle.std.specs.Prelude.{ℕ, ◌&&◌, Bool, true, false, List, [], ◌∷◌, codes, filter, nat_le}
use Rattle.saga_core.specs.CellFilters.{is_name_asked}
use Rattle.saga_core.specs.declared.journey_filters.JourneyFilter.{JourneyFilter}
use Rattle.saga_core.specs.declared.journey_filters.JourneyState.{JourneyState}
use Rattle.saga_core.specs.declared.journey_filters.JourneyState.TheVariants.{Run, Back, Ended, Undone}
use Rattle.saga_core.specs.declared.journey_filters.Phases.{Phases}
use Rattle.saga_core.specs.declared.journey_filters.Phases.TheVariants.{All, Unfinished, Only}
use Rattle.sqlite.specs.Store.{Ghosts}
use Rattle.sqlite.specs.Held.{Held}
use Rattle.sqlite.specs.Query.{Query}
use Rattle.sqlite.specs.Term.{Term, col, op2}
use Rattle.sqlite_sql.specs.declared.ops.BinaryOp.TheVariants.{Compare}
use Rattle.sqlite_sql.specs.declared.ops.CompareOp.TheVariants.{Ge, Gt, Le}
use Rattle.sqlite_value.specs.declared.keys.Collation.TheVariants.{Binary}
use Rattle.desk_sql.specs.Lists.{IsListed}
use Rattle.desk_sql.specs.Meanings.{first_unfinished_query, is_equal, journey_project, rising, sorted_rows}
use Rattle.desk_sql.specs.RemainingRows.{IsByNumber, journey_shown}
use Rattle.desk_sql.specs.Rows.{JourneyRow, Tables}
use Rattle.sql_lists.specs.Listing.{Listing, RestsOf}

-- the number of a state in the tables
abbrev pub state_number : JourneyState → ℕ
state_number Run = 0
state_number Back = 1
state_number Ended = 2
state_number Undone = 3

-- the least and the greatest number of the phases
abbrev pub least_phase : Phases → ℕ
least_phase All = 0
least_phase Unfinished = 0
least_phase (Only state) = state_number state

abbrev pub most_phase : Phases → ℕ
most_phase All = 3
most_phase Unfinished = 1
most_phase (Only state) = state_number state

-- the row is of the agent, if one is named, and of one of the phases
abbrev pub is_journey_listed : JourneyFilter → JourneyRow → Bool
is_journey_listed f j =
    is_name_asked f.agent j.agent
    && (nat_le (least_phase f.phases) j.cursor.phase && nat_le j.cursor.phase (most_phase f.phases))

-- those journeys, in order
abbrev pub ListsJourneys : JourneyFilter → Tables → List JourneyRow → Type 0
ListsJourneys f t listed = IsListed IsByNumber (filter (is_journey_listed f) t.journey) listed

-- the statements that return journeys: of the unfinished ones above a number, of those of an agent above a number, and of those in
-- some phases, by whether an agent is named
pub data JourneyList : Type 0 where
  UnfinishedAbove : JourneyList
  OwnedAbove : JourneyList
  InPhases : (agent : Bool) → JourneyList

-- their texts
abbrev pub journey_list_text : JourneyList → List ℕ
journey_list_text UnfinishedAbove = codes "SELECT id, num, agent, steps, tries, pos, phase, target, used FROM journey WHERE id > ?1 AND phase <= 1 ORDER BY id"
journey_list_text OwnedAbove = codes "SELECT id, num, agent, steps, tries, pos, phase, target, used FROM journey WHERE id > ?1 AND agent = ?2 ORDER BY id"
journey_list_text (InPhases false) = codes "SELECT id, num, agent, steps, tries, pos, phase, target, used FROM journey WHERE phase BETWEEN ?1 AND ?2 ORDER BY id"
journey_list_text (InPhases true) = codes "SELECT id, num, agent, steps, tries, pos, phase, target, used FROM journey WHERE agent = ?1 AND phase BETWEEN ?2 AND ?3 ORDER BY id"

-- the phase is not below one parameter, and not above another
abbrev pub is_phase_between : ℕ → ℕ → List Term
is_phase_between least most =
    op2 (Compare Ge Binary) (col 1 7) (col 0 least) ∷ op2 (Compare Le Binary) (col 1 7) (col 0 most) ∷ []

-- the tests of the texts
abbrev pub journey_list_tests : JourneyList → List Term
journey_list_tests UnfinishedAbove = first_unfinished_query.filter
journey_list_tests OwnedAbove = op2 (Compare Gt Binary) (col 1 0) (col 0 0) ∷ is_equal (col 1 3) (col 0 1) ∷ []
journey_list_tests (InPhases false) = is_phase_between 0 1
journey_list_tests (InPhases true) = is_equal (col 1 3) (col 0 0) ∷ is_phase_between 1 2

-- what the texts mean
abbrev pub journey_list_query : JourneyList → Query
journey_list_query statement = sorted_rows 6 (journey_list_tests statement) journey_project ((col 1 0, rising) ∷ [])

abbrev pub journey_list : Listing JourneyList JourneyRow
journey_list = record { text = journey_list_text; query = journey_list_query; shows = journey_shown }

-- these journeys remain of one of the statements
abbrev pub JourneysRest : {S : Type 0} → Ghosts S → Held S → List JourneyRow → Type 0
JourneysRest g h later = RestsOf journey_list g h later

-- Which journeys a filter lets through.
use Rattle.std.specs.Prelude.{ℕ, ◌&&◌, not, Bool, true, false, List, codes, bytes_eq, filter, filter_map, if◌then◌else◌, Option, None, Some}
use Rattle.commands.specs.declared.items.Phase.{Phase}
use Rattle.commands.specs.declared.items.Phase.TheVariants as phase
use Rattle.ledger.specs.History.{is_finished}
use Rattle.ledger.specs.Ledger.{Event, numbers}
use Rattle.saga_core.specs.Views.{brief_of}
use Rattle.saga_core.specs.declared.records.Brief.{Brief}
use Rattle.saga_core.specs.CellFilters.{is_name_asked}
use Rattle.saga_core.specs.declared.journey_filters.JourneyFilter.{JourneyFilter}
use Rattle.saga_core.specs.declared.journey_filters.JourneyState.{JourneyState}
use Rattle.saga_core.specs.declared.journey_filters.JourneyState.TheVariants.{Run, Back, Ended, Undone}
use Rattle.saga_core.specs.declared.journey_filters.Phases.{Phases}
use Rattle.saga_core.specs.declared.journey_filters.Phases.TheVariants.{All, Unfinished, Only}

-- the word of a state
abbrev pub state_word : JourneyState → List ℕ
state_word Run = codes "run"
state_word Back = codes "back"
state_word Ended = codes "ended"
state_word Undone = codes "undone"

-- the state with this word
abbrev pub state_named : List ℕ → Option JourneyState
state_named text =
    if bytes_eq text (state_word Run) then Some Run
    else if bytes_eq text (state_word Back) then Some Back
    else if bytes_eq text (state_word Ended) then Some Ended
    else if bytes_eq text (state_word Undone) then Some Undone
    else None

-- the state of a journey in this phase
abbrev pub state_of : Phase → JourneyState
state_of phase.Run = Run
state_of (phase.Back target) = Back
state_of phase.Ended = Ended
state_of phase.Undone = Undone

-- a journey in this phase is in this state
abbrev pub is_in_state : JourneyState → Phase → Bool
is_in_state Run phase.Run = true
is_in_state Back (phase.Back target) = true
is_in_state Ended phase.Ended = true
is_in_state Undone phase.Undone = true
is_in_state _ _ = false

-- the phase is one of those that are asked for
abbrev pub is_phase_asked : Phases → Phase → Bool
is_phase_asked All p = true
is_phase_asked Unfinished p = not (is_finished p)
is_phase_asked (Only state) p = is_in_state state p

-- the journey is the agent's, if one is named, and in one of the phases
abbrev pub is_journey_asked : JourneyFilter → Brief → Bool
is_journey_asked f b = is_name_asked f.agent b.agent && is_phase_asked f.phases b.cursor.phase

-- the journeys of a ledger that are asked for, in order of number
abbrev pub asked_of : JourneyFilter → List Event → List Brief
asked_of f l = filter (is_journey_asked f) (filter_map (brief_of l) (numbers l))

-- The state of a journey, by its number in the tables.
use Rattle.std.specs.Prelude.{ℕ, zero, suc, Option, None, Some}
use Rattle.saga_core.specs.declared.journey_filters.JourneyState.{JourneyState}
use Rattle.saga_core.specs.declared.journey_filters.JourneyState.TheVariants.{Run, Back, Ended, Undone}

-- the state that has this number
abbrev pub state_numbered : ℕ → Option JourneyState
state_numbered zero = Some Run
state_numbered (suc zero) = Some Back
state_numbered (suc (suc zero)) = Some Ended
state_numbered (suc (suc (suc zero))) = Some Undone
state_numbered (suc (suc (suc (suc n)))) = None

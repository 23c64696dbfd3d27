-- The worked examples at which the laws are used: journeys that were aborted, stopped and cut off, and what each law has to
-- be told of them.
use Rattle.std.specs.Prelude.{◌≡◌, ℕ, zero, suc, false, [], ◌∷◌, Some, refl}
use Rattle.allotment.specs.declared.cells.Cell.{Cell}
use Rattle.allotment.specs.declared.codes.Kind.TheVariants.{Flight, Transfer}
use Rattle.plan.specs.PlanModel.{Planned, is_marked_at}
use Rattle.commands.specs.Names.{house}
use Rattle.ledger.specs.Examples.{want, row, step, untried}
use Rattle.ledger.specs.JourneyExamples.{one_aborted, saved_after_1_and_3, stopped_twice, begun_unmarked}
use Rattle.ledger.specs.Laws.{HasNoSavePoint}
use Rattle.ledger.specs.Ledger.{Journey, journey_at, history, IsLegal}
pub use Rattle.ledger.specs.RecoveryExamples.{recovered_from_2, begun_from_2}
use Rattle.ledger.specs.RecoveryExamples.{allowed_by_test, aborted_to_2}

-- two steps without a save-point, the first one done and compensated: the first journey of `one_aborted`
abbrev pub flight_and_transfer : Planned
flight_and_transfer = untried (step (want Flight 1 2 ∷ []) ∷ step (want Transfer 1 1 ∷ []) ∷ [])

abbrev pub aborted : Journey
aborted = record { agent = house; plan = flight_and_transfer }

pub aborted_is_there : journey_at one_aborted.ledger 1 ≡ Some aborted
aborted_is_there = refl

pub one_aborted_is_legal : IsLegal one_aborted.ledger
one_aborted_is_legal = allowed_by_test [] one_aborted.ledger refl

-- none of its steps is marked, and it took no save-point
unmarked_steps : (i : ℕ) → is_marked_at flight_and_transfer i ≡ false
unmarked_steps zero = refl
unmarked_steps (suc zero) = refl
unmarked_steps (suc (suc zero)) = refl
unmarked_steps (suc (suc (suc i))) = refl

pub aborted_has_no_save_point : HasNoSavePoint flight_and_transfer (history one_aborted.ledger 1)
aborted_has_no_save_point = record { unmarked = unmarked_steps; untaken = refl }

-- the cell whose places are held
abbrev pub seat : Cell
seat = (row Flight 1 10).cell

-- the journey that was stopped twice and has ended
abbrev pub stopped : Journey
stopped = record { agent = house; plan = saved_after_1_and_3 }

pub stopped_is_there : journey_at stopped_twice.ledger 1 ≡ Some stopped
stopped_is_there = refl

pub stopped_twice_is_legal : IsLegal stopped_twice.ledger
stopped_twice_is_legal = allowed_by_test [] stopped_twice.ledger refl

-- a journey that runs, before its first step
pub begun_unmarked_is_legal : IsLegal begun_unmarked.ledger
begun_unmarked_is_legal = allowed_by_test [] begun_unmarked.ledger refl

-- a journey that goes back
pub aborted_to_2_is_legal : IsLegal aborted_to_2
aborted_to_2_is_legal = allowed_by_test [] aborted_to_2 refl

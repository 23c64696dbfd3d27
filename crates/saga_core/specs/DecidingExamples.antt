-- A worked example of the next step: a journey of three flights that has done its first step, and what the definitions
-- of a decided move say there. A definition with one more premise, which this journey does not meet, is refused here.
use Rattle.std.specs.Prelude.{true, List, [], ◌∷◌, IsTrue, refl}
use Rattle.std.specs.FinSet as set
use Rattle.std.specs.Ordering.{nat_cmp}
use Rattle.commands.specs.declared.items.Item.{Item}
use Rattle.commands.specs.declared.items.Phase.TheVariants.{Run}
use Rattle.ledger.specs.Examples.{done}
use Rattle.ledger.specs.History.{may_come}
use Rattle.ledger.specs.Recovery.{is_forward}
use Rattle.ledger.specs.Cursors.{marks_of}
use Rattle.ledger.specs.TransitionExamples.{at, three_flights, three_flights_have_a_history}
use Rattle.saga_core.specs.Deciding.{names, IsHere, NamesOnlyStep, NamesStep}
use Rattle.saga_core.specs.declared.deciding.Move.{Move}

-- what the journey has done
abbrev pub past : List Item
past = done 1 ∷ []

-- no save-point was taken
abbrev pub no_marks : set.FinSet nat_cmp
no_marks = marks_of past

-- the journey is at position 1, and runs
pub journey_is_here : IsHere three_flights no_marks (at 1 Run 0) past
journey_is_here = record { has = three_flights_have_a_history; cursor_is = refl; marks_are = refl }

-- there, if the next want fits, the move names the second step, which may come next
pub second_step_is_named :
    (decided : Move) → IsHere three_flights no_marks (at 1 Run 0) past
    → NamesOnlyStep three_flights no_marks (at 1 Run 0) true decided → IsTrue (names decided (done 2))
second_step_is_named decided here only = only past (done 2) here refl refl

-- and it names a step at all
pub some_step_is_named :
    (decided : Move) → IsHere three_flights no_marks (at 1 Run 0) past
    → NamesStep three_flights no_marks (at 1 Run 0) true decided
    → (x : Item) × IsTrue (is_forward x) × IsTrue (may_come three_flights past true x) × IsTrue (names decided x)
some_step_is_named decided here one = one past here refl

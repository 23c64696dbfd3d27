-- Worked examples of recovery: each is computed by the definitions.
use Rattle.std.specs.Prelude.{◌≡◌, ℕ, zero, suc, ◌<◌, ◌&&◌, ◌++◌, Bool, true, false, List, [], ◌∷◌, map, Some, replicate, refl}
use Rattle.std.specs.List.{list_all}
use Rattle.std.proofs.Common.{ap, sym, ◌∙◌}
use Rattle.std.proofs.lemmas.Bool.{and_parts}
use Rattle.std.proofs.Math.Nat.{not-suc-le-zero, le_of_suc-le-suc}
use Rattle.allotment.specs.declared.codes.Kind.TheVariants.{Flight, Room, Transfer}
use Rattle.plan.specs.PlanModel.{Planned}
use Rattle.commands.specs.Names.{house}
use Rattle.commands.specs.Request.{Begin, Step, Abort, Save}
use Rattle.commands.specs.declared.items.Cause.TheVariants as cause
use Rattle.commands.specs.declared.items.Item.{Item}
use Rattle.commands.specs.declared.items.Item.TheVariants.{Turn}
use Rattle.commands.specs.declared.items.Phase.{Phase}
use Rattle.commands.specs.declared.items.Phase.TheVariants.{Back}
use Rattle.ledger.specs.Answer.{start}
use Rattle.ledger.specs.Examples.{want, row, step, marked, untried, flight, six_flights, load, steps, done, undone, after_all}
use Rattle.ledger.specs.History.{is_going_back, is_open, is_compensation}
use Rattle.ledger.specs.JourneyExamples.{begun_unmarked}
use Rattle.ledger.specs.Ledger.{Event, Loaded, Began, Did, phase_of, is_in, is_allowed, AreAllowedAfter}
use Rattle.ledger.specs.Recovery.{stops, is_by_number, are_items, has_none, is_forward, bound, IsRecovered, HasComeTo, going_back}

-- Recovery, as a test of its parts.

-- each event is allowed by those before it
abbrev pub are_allowed_after : List Event → List Event → Bool
are_allowed_after before [] = true
are_allowed_after before (e ∷ later) =
    is_allowed before e && are_allowed_after (before ++ e ∷ []) later

-- events that pass the test are allowed: the test checks each of them as legality does
pub allowed_by_test : (before later : List Event)
    → are_allowed_after before later ≡ true → AreAllowedAfter before later
allowed_by_test before [] passes = tt
allowed_by_test before (e ∷ later) passes =
    let both = and_parts _ _ passes in
    (both.0, allowed_by_test (before ++ e ∷ []) later both.1)

-- the ledger, then turns, compensations and steps, is as recovery leaves it
abbrev pub is_recovery : List Event → List Event → List Event → List Event → Bool
is_recovery l turns backward forward =
    list_all (are_items is_compensation) backward && is_by_number backward
    && has_none is_going_back (l ++ turns ++ backward)
    && (list_all (are_items is_forward) forward && is_by_number forward
    && has_none is_open (l ++ turns ++ backward ++ forward))

-- what passes the tests is recovered: they are the parts of that definition
pub recovered_by_test : (l turns backward forward : List Event) → stops l ≡ turns
    → are_allowed_after [] (l ++ turns ++ backward ++ forward) ≡ true
    → is_recovery l turns backward forward ≡ true
    → IsRecovered l (l ++ turns ++ backward ++ forward)
recovered_by_test l turns backward forward made allowed passes =
    let both = and_parts _ _ passes in
    let first = and_parts _ _ both.0 in
    let start = and_parts _ _ first.0 in
    let last = and_parts _ _ both.1 in
    let forwards = and_parts _ _ last.0 in
    record {
      backward = backward;
      forward = forward;
      whole = ap (λ s. l ++ s ++ backward ++ forward) (sym made);
      legal = allowed_by_test [] (l ++ turns ++ backward ++ forward) allowed;
      compensations = start.0;
      by_number = start.1;
      none_back = ap (λ s. has_none is_going_back (l ++ s ++ backward)) made ∙ first.1;
      steps = forwards.0;
      in_order = forwards.1;
      all_finished = last.1;
    }

-- these items of journey 1, as events
abbrev pub items : List Item → List Event
items made = map (Did 1) made

-- How many events recovery may need.

-- one journey of 24 steps, each tried up to 9 times, is begun
abbrev pub longest_journey : List Event
longest_journey = Began house (record { steps = replicate 24 (step (flight 1)); tries = 9 }) ∷ []

-- 24 steps, forward and back, for 9 tries and 2 more
pub longest_journey_needs_at_most_528 : bound longest_journey ≡ 528
longest_journey_needs_at_most_528 = refl

-- A journey that goes back keeps its target.

-- six flights, with save-points after the second and the fourth
abbrev pub saved_after_2_and_4 : Planned
saved_after_2_and_4 =
    untried
    (step (flight 1) ∷ marked (flight 2) ∷ step (flight 3) ∷ marked (flight 4)
    ∷ step (flight 5) ∷ step (flight 6) ∷ [])

-- after five steps it is aborted to 2, and one step is compensated
abbrev pub aborted_to_2 : List Event
aborted_to_2 =
    Loaded (97 ∷ []) six_flights ∷ Began house saved_after_2_and_4
    ∷ items
    (done 1 ∷ done 2 ∷ done 3 ∷ done 4 ∷ done 5 ∷ Turn 2 cause.Asked ∷ undone 5 ∷ [])

-- these requests make it
pub steps_and_an_abort_make_these_events :
    (after_all start
    (load 97 six_flights ∷ Begin saved_after_2_and_4 ∷ steps 5 ++ Abort 1 2 ∷ Step 1 ∷ [])).ledger
    ≡ aborted_to_2
steps_and_an_abort_make_these_events = refl

-- its phase then
pub aborted_it_goes_back : phase_of aborted_to_2 1 ≡ Some (Back 2)
aborted_it_goes_back = refl

-- 6 steps, forward and back, without tries
pub aborted_it_needs_at_most_24 : bound aborted_to_2 ≡ 24
aborted_it_needs_at_most_24 = refl

-- what recovery makes of it
abbrev pub recovered_from_2 : List Event
recovered_from_2 =
    aborted_to_2 ++ [] ++ items (undone 4 ∷ undone 3 ∷ [])
    ++ items (done 3 ∷ done 4 ∷ done 5 ∷ done 6 ∷ [])

-- recovery keeps its target, compensates two more steps, and goes forward: 6 events
pub journey_going_back_is_recovered : IsRecovered aborted_to_2 recovered_from_2
journey_going_back_is_recovered =
    recovered_by_test aborted_to_2 [] (items (undone 4 ∷ undone 3 ∷ []))
    (items (done 3 ∷ done 4 ∷ done 5 ∷ done 6 ∷ [])) refl refl refl

-- no journey has a number below 1
pub none_is_below_1 : (passes : Phase → Bool) (l : List Event) (j : ℕ) → j < 1
    → is_in passes l j ≡ false
none_is_below_1 passes l zero below = refl
none_is_below_1 passes l (suc j) below = absurd (not-suc-le-zero (le_of_suc-le-suc below))

-- the ledger after the first of these two compensations
abbrev pub begun_from_2 : List Event
begun_from_2 = aborted_to_2 ++ [] ++ items (undone 4 ∷ [])

-- there recovery is in progress
pub journey_going_back_is_under_way : HasComeTo aborted_to_2 begun_from_2
journey_going_back_is_under_way = going_back (items (undone 4 ∷ [])) 1 (record {
  allowed = (refl, tt);
  items = refl;
  by_number = refl;
  up_to = refl;
  done = none_is_below_1 is_going_back (aborted_to_2 ++ items (undone 4 ∷ []));
})

-- A running journey turns back to a save-point that was taken.

-- a save-point was taken after the first step, and a second step is done
abbrev pub saved_at_1 : List Event
saved_at_1 =
    (after_all begun_unmarked (Step 1 ∷ Save 1 ∷ Step 1 ∷ [])).ledger

-- recovery turns it back to 1, and makes 4 events
pub journey_with_a_taken_save_point_is_recovered :
    IsRecovered saved_at_1
    (saved_at_1 ++ items (Turn 1 cause.Stop ∷ []) ++ items (undone 2 ∷ [])
    ++ items (done 2 ∷ done 3 ∷ []))
journey_with_a_taken_save_point_is_recovered =
    recovered_by_test saved_at_1 (items (Turn 1 cause.Stop ∷ [])) (items (undone 2 ∷ []))
    (items (done 2 ∷ done 3 ∷ [])) refl refl refl

-- The second journey gives back what the first one needs.

-- the second journey has the only room, which the first one wants next
abbrev pub two_want_one_room : List Event
two_want_one_room =
    (after_all start
    (load 97 (row Flight 1 5 ∷ row Transfer 1 5 ∷ row Room 1 1 ∷ [])
    ∷ Begin (untried (marked (flight 1) ∷ step (want Room 1 1 ∷ []) ∷ []))
    ∷ Begin (untried (step (want Room 1 1 ∷ []) ∷ step (want Transfer 1 1 ∷ []) ∷ []))
    ∷ Step 1 ∷ Step 2 ∷ [])).ledger

-- both turn back
abbrev pub both_turn_back : List Event
both_turn_back = Did 1 (Turn 1 cause.Stop) ∷ Did 2 (Turn 0 cause.Stop) ∷ []

-- the second journey gives its room back before the first takes it
pub second_journey_goes_back_before_the_first_goes_on :
    IsRecovered two_want_one_room
    (two_want_one_room ++ both_turn_back ++ (Did 2 (undone 1) ∷ []) ++ Did 1 (done 2) ∷ [])
second_journey_goes_back_before_the_first_goes_on =
    recovered_by_test two_want_one_room both_turn_back (Did 2 (undone 1) ∷ [])
    (Did 1 (done 2) ∷ []) refl refl refl

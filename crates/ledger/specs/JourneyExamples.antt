-- Worked examples of journeys: each is computed by the definitions.
use Rattle.std.specs.Prelude.{◌≡◌, ℕ, ◌++◌, List, [], ◌∷◌, Some, refl}
use Rattle.allotment.specs.declared.cells.Row.{Row}
use Rattle.allotment.specs.declared.codes.Kind.TheVariants.{Flight, Room, Transfer}
use Rattle.plan.specs.PlanModel.{Planned}
use Rattle.commands.specs.Request.{Request, Begin, Step, Abort, Stop, Save}
use Rattle.commands.specs.declared.items.Cause.TheVariants as cause
use Rattle.commands.specs.declared.items.Item.TheVariants as item
use Rattle.commands.specs.declared.items.Item.TheVariants.{Transaction, Turn}
use Rattle.commands.specs.declared.items.Phase.TheVariants.{Run, Back, Ended, Undone}
use Rattle.commands.specs.declared.replies.Refusal.TheVariants.{NoJourney, Finished, NoSavePoint, BelowHeld, BatchDiffers, NoSave}
use Rattle.commands.specs.declared.replies.Reply.TheVariants.{Loaded, Begun, Moved, Refused}
use Rattle.ledger.specs.Answer.{State, start}
use Rattle.ledger.specs.Examples.{nights_of, want, row_after, row, step, marked, untried, flight, six_flights, load, steps, done, undone, after_all, replies_to}
use Rattle.ledger.specs.Ledger.{history, allotment, held, phase_of}
use Rattle.ledger.specs.Word.{word, Up, Down}

-- Loads and begins.

-- a plan of one flight, for so many
abbrev pub one_flight : ℕ → Planned
one_flight count = untried (step (want Flight 1 count ∷ []) ∷ [])

-- two begins, the second of the same plan
pub begins_are_numbered_from_1 :
    replies_to start (Begin (one_flight 1) ∷ Begin (one_flight 1) ∷ []) ≡ Begun 1 ∷ Begun 2 ∷ []
begins_are_numbered_from_1 = refl

-- a batch, the same again, and its name with other places
pub known_batch_loads_again_or_differs :
    replies_to start
    (load 97 (row Flight 1 10 ∷ []) ∷ load 97 (row Flight 1 10 ∷ [])
    ∷ load 97 (row Flight 1 11 ∷ []) ∷ [])
    ≡ Loaded (97 ∷ []) 1 ∷ Loaded (97 ∷ []) 1 ∷ Refused BatchDiffers ∷ []
known_batch_loads_again_or_differs = refl

-- with 3 places held a row of 2 is refused, and its whole batch with it; a journey that has ended takes no step, and
-- neither does one that is absent
pub batch_below_what_is_held_is_refused :
    replies_to start
    (load 97 (row Flight 1 10 ∷ row Flight 2 10 ∷ []) ∷ Begin (one_flight 3) ∷ Step 1
    ∷ load 98 (row Flight 2 2 ∷ row Flight 1 2 ∷ []) ∷ Step 1 ∷ Step 9 ∷ [])
    ≡ Loaded (97 ∷ []) 2 ∷ Begun 1 ∷ Moved 1 (done 1) 1 Ended ∷ Refused (BelowHeld 2)
    ∷ Refused Finished ∷ Refused NoJourney ∷ []
batch_below_what_is_held_is_refused = refl

-- Options and tries.

-- a flight, a save-point, and a room of three hotels in order of preference
abbrev pub three_hotels : ℕ → Planned
three_hotels tries = record {
  steps = marked (flight 1) ∷ step (want Room 1 1 ∷ want Room 2 1 ∷ want Room 3 1 ∷ []) ∷ [];
  tries = tries;
}

-- only the third hotel has a room
abbrev pub one_room : List Row
one_room = row Flight 1 1 ∷ row Room 1 0 ∷ row Room 2 0 ∷ row Room 3 1 ∷ []

-- the plan with so many tries, and four steps
abbrev pub four_steps : ℕ → List Request
four_steps tries = load 97 one_room ∷ Begin (three_hotels tries) ∷ steps 4

-- with two tries, two hotels refuse, and the third is taken
pub third_option_after_two_refusals :
    replies_to start (four_steps 2)
    ≡ Loaded (97 ∷ []) 4 ∷ Begun 1 ∷ Moved 1 (done 1) 1 Run
    ∷ Moved 1 (Turn 1 cause.Refused) 1 Run ∷ Moved 1 (Turn 1 cause.Refused) 1 Run
    ∷ Moved 1 (Transaction 2 3) 2 Ended ∷ []
third_option_after_two_refusals = refl

-- with one try, the second refusal leads to the start
pub undone_once_the_tries_are_used_up :
    replies_to start (four_steps 1)
    ≡ Loaded (97 ∷ []) 4 ∷ Begun 1 ∷ Moved 1 (done 1) 1 Run
    ∷ Moved 1 (Turn 1 cause.Refused) 1 Run ∷ Moved 1 (Turn 0 cause.Refused) 1 (Back 0)
    ∷ Moved 1 (undone 1) 0 Undone ∷ []
undone_once_the_tries_are_used_up = refl

-- three nights of a room, of which the last has no place
pub want_without_its_last_night_does_not_fit :
    replies_to start
    (load 97 (row Room 1 1 ∷ row_after 1 Room 1 1 ∷ row_after 2 Room 1 0 ∷ [])
    ∷ Begin (untried (step (nights_of 3 Room 1 1 ∷ []) ∷ [])) ∷ Step 1 ∷ [])
    ≡ Loaded (97 ∷ []) 3 ∷ Begun 1 ∷ Moved 1 (Turn 0 cause.Refused) 0 Undone ∷ []
want_without_its_last_night_does_not_fit = refl

-- Places.

-- one journey takes 2 of 10 places, another takes 3, and the first is aborted
abbrev pub one_aborted : State
one_aborted =
    after_all start
    (load 97 (row Flight 1 10 ∷ row Transfer 1 10 ∷ [])
    ∷ Begin (untried (step (want Flight 1 2 ∷ []) ∷ step (want Transfer 1 1 ∷ []) ∷ []))
    ∷ Begin (one_flight 3) ∷ Step 1 ∷ Step 2 ∷ Abort 1 0 ∷ Step 1 ∷ [])

-- the 3 places of the other journey are held
pub compensation_gives_back_what_it_took : held one_aborted.ledger (row Flight 1 10).cell ≡ 3
compensation_gives_back_what_it_took = refl

-- 10 places are still allotted
pub allotment_stays_where_it_was_set :
    allotment one_aborted.ledger (row Flight 1 10).cell ≡ Some 10
allotment_stays_where_it_was_set = refl

-- Save-points of the plan.

-- six flights, with save-points after the first and the third
abbrev pub saved_after_1_and_3 : Planned
saved_after_1_and_3 =
    untried
    (marked (flight 1) ∷ step (flight 2) ∷ marked (flight 3) ∷ step (flight 4)
    ∷ step (flight 5) ∷ step (flight 6) ∷ [])

-- the desk was stopped after the second step and again after the fifth
abbrev pub stopped_twice : State
stopped_twice =
    after_all start
    (load 97 six_flights ∷ Begin saved_after_1_and_3 ∷ Step 1 ∷ Step 1 ∷ Stop 1
    ∷ steps 5 ++ Stop 1 ∷ steps 5)

-- the first stop turned back to 1, the second to 3
pub stops_turn_back_to_the_last_save_point :
    history stopped_twice.ledger 1
    ≡ done 1 ∷ done 2 ∷ Turn 1 cause.Stop ∷ undone 2 ∷ done 2 ∷ done 3 ∷ done 4 ∷ done 5
    ∷ Turn 3 cause.Stop ∷ undone 5 ∷ undone 4 ∷ done 4 ∷ done 5 ∷ done 6 ∷ []
stops_turn_back_to_the_last_save_point = refl

-- after both stops the journey went on to its end
pub stopped_twice_it_has_ended : phase_of stopped_twice.ledger 1 ≡ Some Ended
stopped_twice_it_has_ended = refl

-- without its turns it reads like this
pub stopped_twice_it_reads :
    word (history stopped_twice.ledger 1)
    ≡ Up 1 ∷ Up 2 ∷ Down 2 ∷ Up 2 ∷ Up 3 ∷ Up 4 ∷ Up 5 ∷ Down 5 ∷ Down 4 ∷ Up 4 ∷ Up 5 ∷ Up 6 ∷ []
stopped_twice_it_reads = refl

-- at position 2, no save-point: to 1 alone; going back to 1, only further down; and no stop then
pub abort_goes_to_a_save_point_alone :
    replies_to start
    (load 97 six_flights ∷ Begin saved_after_1_and_3 ∷ Step 1 ∷ Step 1 ∷ Abort 1 2
    ∷ Abort 1 1 ∷ Abort 1 1 ∷ Stop 1 ∷ Abort 1 0 ∷ [])
    ≡ Loaded (97 ∷ []) 6 ∷ Begun 1 ∷ Moved 1 (done 1) 1 Run ∷ Moved 1 (done 2) 2 Run
    ∷ Refused NoSavePoint ∷ Moved 1 (Turn 1 cause.Asked) 2 (Back 1) ∷ Refused NoSavePoint
    ∷ Refused NoSavePoint ∷ Moved 1 (Turn 0 cause.Asked) 2 (Back 0) ∷ []
abort_goes_to_a_save_point_alone = refl

-- Save-points taken while the journey runs.

-- three steps with no mark
abbrev pub unmarked : Planned
unmarked =
    untried
    (step (flight 1) ∷ step (want Transfer 1 1 ∷ []) ∷ step (want Room 1 1 ∷ []) ∷ [])

-- its cells have 10 places each, and it is begun
abbrev pub begun_unmarked : State
begun_unmarked =
    after_all start
    (load 97 (row Flight 1 10 ∷ row Transfer 1 10 ∷ row Room 1 10 ∷ []) ∷ Begin unmarked ∷ [])

-- none at the start, one after the first step, and no second one there
pub save_point_is_taken_once_and_not_at_0 :
    replies_to begun_unmarked (Save 1 ∷ Step 1 ∷ Save 1 ∷ Save 1 ∷ [])
    ≡ Refused NoSave ∷ Moved 1 (done 1) 1 Run ∷ Moved 1 (item.Save 1) 1 Run ∷ Refused NoSave ∷ []
save_point_is_taken_once_and_not_at_0 = refl

-- a save-point was taken after the first step, the desk was stopped after the second
abbrev pub saved_and_stopped : State
saved_and_stopped =
    after_all begun_unmarked (Step 1 ∷ Save 1 ∷ Step 1 ∷ Stop 1 ∷ steps 3)

-- it turned back to 1, not to the start
pub stop_turns_back_to_a_save_point_that_was_taken :
    history saved_and_stopped.ledger 1
    ≡ done 1 ∷ item.Save 1 ∷ done 2 ∷ Turn 1 cause.Stop ∷ undone 2 ∷ done 2 ∷ done 3 ∷ []
stop_turns_back_to_a_save_point_that_was_taken = refl

-- after the stop the journey went on to its end
pub saved_and_stopped_it_has_ended : phase_of saved_and_stopped.ledger 1 ≡ Some Ended
saved_and_stopped_it_has_ended = refl

-- save-points taken after steps 1 and 2, then back to 1 and forward again
pub compensation_drops_the_save_point_of_its_step :
    replies_to (after_all begun_unmarked (Step 1 ∷ Save 1 ∷ Step 1 ∷ Save 1 ∷ []))
    (Abort 1 1 ∷ Save 1 ∷ Step 1 ∷ Step 1 ∷ Abort 1 2 ∷ Save 1 ∷ [])
    ≡ Moved 1 (Turn 1 cause.Asked) 2 (Back 1) ∷ Refused NoSave ∷ Moved 1 (undone 2) 1 Run
    ∷ Moved 1 (done 2) 2 Run ∷ Refused NoSavePoint ∷ Moved 1 (item.Save 2) 2 Run ∷ []
compensation_drops_the_save_point_of_its_step = refl

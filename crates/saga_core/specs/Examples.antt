-- Worked examples of requests about a journey, and of what a book reports: each is computed by the definitions.
use Rattle.std.specs.Prelude.{◌≡◌, ℕ, ◌+◌, List, [], ◌∷◌, ◌++◌, map, Some, None, Result, Ok, Err, option_map, refl}
use Rattle.std.specs.FinSet as set
use Rattle.std.specs.FinSet.{contains-empty}
use Rattle.std.specs.Ordering.{nat_cmp}
use Rattle.plan.specs.PlanModel.{Planned}
use Rattle.plan.specs.declared.turns.Turn.TheVariants as turn
use Rattle.commands.specs.Names.{house}
use Rattle.commands.specs.Request.{Begin, Step}
use Rattle.commands.specs.declared.items.Cause.TheVariants as cause
use Rattle.commands.specs.declared.items.Cursor.{Cursor}
use Rattle.commands.specs.declared.items.Item.{Item}
use Rattle.commands.specs.declared.items.Item.TheVariants.{Turn, Save}
use Rattle.commands.specs.declared.items.Phase.{Phase}
use Rattle.commands.specs.declared.items.Phase.TheVariants.{Run, Back, Ended}
use Rattle.commands.specs.declared.replies.Refusal.{Refusal}
use Rattle.commands.specs.declared.replies.Refusal.TheVariants.{Finished, NoSavePoint, NoSave}
use Rattle.commands.specs.declared.replies.Reply.TheVariants.{Begun}
use Rattle.allotment.specs.declared.codes.Kind.TheVariants.{Flight, Room}
use Rattle.ledger.specs.Answer.{start}
use Rattle.ledger.specs.KeyExamples.{ann, ann_began}
use Rattle.ledger.specs.Ledger.{Event, Began}
use Rattle.ledger.specs.Examples.{june, after_all, step, marked, untried, flight, load, row, row_after, nights_of}
use Rattle.saga_core.specs.Rulings.{turn_said, save_said}
use Rattle.saga_core.specs.Views.{first_unfinished, owned_above, counts_of, kept_under, places_shown}
use Rattle.saga_core.specs.declared.records.Brief.{Brief}

-- a journey at this position, in this phase, without refusals
abbrev pub at : ℕ → Phase → Cursor
at pos phase = record { pos = pos; phase = phase; used = 0 }

-- six flights, with marks on the second and the fourth
abbrev pub six_flights : Planned
six_flights =
    untried
    (step (flight 1) ∷ marked (flight 2) ∷ step (flight 3) ∷ marked (flight 4) ∷ step (flight 5)
    ∷ step (flight 6) ∷ [])

-- no save-point was taken
abbrev pub none_taken : set.FinSet nat_cmp
none_taken = set.empty

-- the ruling where a caller asks to turn back to a position
abbrev pub asked_for : Cursor → ℕ → Result Item Refusal
asked_for c p = turn_said six_flights c none_taken (turn.Asked p) cause.Asked

-- at position 5 it may turn to the marks and to the start, and to no other position
pub turns_to_its_save_points_alone :
    map (asked_for (at 5 Run)) (0 ∷ 1 ∷ 2 ∷ 3 ∷ 4 ∷ [])
    ≡ Ok (Turn 0 cause.Asked) ∷ Err NoSavePoint ∷ Ok (Turn 2 cause.Asked) ∷ Err NoSavePoint
    ∷ Ok (Turn 4 cause.Asked) ∷ []
turns_to_its_save_points_alone =
    rw (contains-empty nat_cmp 1, contains-empty nat_cmp 3) refl

-- a journey that goes back to 2 may be sent further back, and no stop turns it; at its end nothing turns it
pub goes_further_down_alone :
    map (asked_for (at 5 (Back 2))) (0 ∷ 2 ∷ 4 ∷ [])
    ++ (turn_said six_flights (at 5 (Back 2)) none_taken turn.Stop cause.Stop
    ∷ asked_for (at 6 Ended) 0 ∷ [])
    ≡ Ok (Turn 0 cause.Asked) ∷ Err NoSavePoint ∷ Err NoSavePoint ∷ Err NoSavePoint
    ∷ Err Finished ∷ []
goes_further_down_alone = refl

-- a save-point may be taken at 1 and 3, but not at 0 or at a mark, while it goes back, or at the end
pub save_point_is_taken_where_none_stands :
    map (λ c. save_said six_flights c none_taken)
    (at 0 Run ∷ at 1 Run ∷ at 2 Run ∷ at 3 Run ∷ at 3 (Back 2) ∷ at 6 Ended ∷ [])
    ≡ Err NoSave ∷ Ok (Save 1) ∷ Err NoSave ∷ Ok (Save 3) ∷ Err NoSave ∷ Err Finished ∷ []
save_point_is_taken_where_none_stands =
    rw (contains-empty nat_cmp 1, contains-empty nat_cmp 3) refl

-- journey 2 of three has ended
abbrev pub second_has_ended : List Event
second_has_ended =
    (after_all start
    (load 97 (row Flight 1 9 ∷ []) ∷ Begin (untried (step (flight 2) ∷ []))
    ∷ Begin (untried (step (flight 1) ∷ [])) ∷ Begin (untried (step (flight 3) ∷ []))
    ∷ Step 2 ∷ [])).ledger

-- the first unfinished journey above 0, 1 and 3
pub finished_journey_is_passed_by :
    map (λ after. option_map (λ (b : Brief). b.id) (first_unfinished second_has_ended after))
    (0 ∷ 1 ∷ 3 ∷ [])
    ≡ Some 1 ∷ Some 3 ∷ None ∷ []
finished_journey_is_passed_by = refl

-- three of the five events began journeys, of which the first and the third run
pub finished_journey_is_not_counted :
    counts_of second_has_ended ≡ record { events = 5; journeys = 3; unfinished = 2 }
finished_journey_is_not_counted = refl

-- the agent bob
abbrev pub bob : List ℕ
bob = 98 ∷ 111 ∷ 98 ∷ []

-- the three journeys of the house, and then one of bob
abbrev pub bob_began_last : List Event
bob_began_last = second_has_ended ++ Began bob (untried (step (flight 2) ∷ [])) ∷ []

-- the house's journeys above 0, 1 and 3, and bob's above 0 and 4
pub finished_journey_is_owned :
    map (λ after. map (λ (b : Brief). b.id) (owned_above bob_began_last house after))
    (0 ∷ 1 ∷ 3 ∷ [])
    ++ map (λ after. map (λ (b : Brief). b.id) (owned_above bob_began_last bob after))
    (0 ∷ 4 ∷ [])
    ≡ (1 ∷ 2 ∷ 3 ∷ []) ∷ (2 ∷ 3 ∷ []) ∷ [] ∷ (4 ∷ []) ∷ [] ∷ []
finished_journey_is_owned = refl

-- ann began journey 1 under the key k: that is kept for her and that key alone
pub reply_is_kept_for_its_agent_and_key :
    kept_under ann_began ann (107 ∷ []) ∷ kept_under ann_began bob (107 ∷ []) ∷ kept_under ann_began ann (109 ∷ []) ∷ []
    ≡ Some (Begun 1) ∷ None ∷ None ∷ []
reply_is_kept_for_its_agent_and_key = refl

-- a room has 4 places on the first night and 2 on the third; one place of the first is taken
abbrev pub two_of_three_nights : List Event
two_of_three_nights =
    (after_all start
    (load 97 (row Room 1 4 ∷ row_after 2 Room 1 2 ∷ [])
    ∷ Begin (untried (step (nights_of 1 Room 1 1 ∷ []) ∷ [])) ∷ Step 1 ∷ [])).ledger

-- two of the three nights are shown
pub night_without_allotment_is_left_out :
    places_shown two_of_three_nights (nights_of 3 Room 1 1)
    ≡ (june, record { allot = 4; free = 3 }) ∷ (june + 2, record { allot = 2; free = 2 }) ∷ []
night_without_allotment_is_left_out = refl

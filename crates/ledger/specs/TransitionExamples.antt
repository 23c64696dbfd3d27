-- Worked examples of what one item changes: each is computed by the definitions.
use Rattle.std.specs.Prelude.{◌≡◌, ℕ, ◌+◌, ◌==◌, Bool, true, false, List, [], ◌∷◌, map, refl}
use Rattle.plan.specs.PlanModel.{Planned}
use Rattle.commands.specs.Names.{house}
use Rattle.commands.specs.Request.{Begin, Step}
use Rattle.commands.specs.declared.items.Cause.TheVariants.{Stop, Refused, Asked}
use Rattle.commands.specs.declared.items.Cursor.{Cursor}
use Rattle.commands.specs.declared.items.Item.{Item}
use Rattle.commands.specs.declared.items.Item.TheVariants.{Transaction, Compensation, Turn, Save}
use Rattle.commands.specs.declared.items.Phase.{Phase}
use Rattle.commands.specs.declared.items.Phase.TheVariants.{Run, Back, Ended, Undone}
use Rattle.ledger.specs.Answer.{start}
use Rattle.ledger.specs.Examples.{after_all, done, flight, load, six_flights, step, untried}
use Rattle.ledger.specs.Ledger.{Event}
use Rattle.ledger.specs.RecoveryExamples.{allowed_by_test}
use Rattle.ledger.specs.JourneyChanges.{cursor_after, is_taken_after}
use Rattle.ledger.specs.Legal.{HasHistory}

-- a journey at this position, in this phase, with so many refusals
abbrev pub at : ℕ → Phase → ℕ → Cursor
at pos phase used = record { pos = pos; phase = phase; used = used }

-- three flights
abbrev pub three_flights : Planned
three_flights = untried (step (flight 1) ∷ step (flight 2) ∷ step (flight 3) ∷ [])

-- where a journey of three flights is after this item
abbrev pub then : Cursor → Item → Cursor
then c item = cursor_after three_flights c item

-- the last step but one, and the last one
pub last_step_ends_the_journey :
    map (λ (c : Cursor). then c (Transaction (c.pos + 1) 1)) (at 1 Run 0 ∷ at 2 Run 0 ∷ [])
    ≡ at 2 Run 0 ∷ at 3 Ended 0 ∷ []
last_step_ends_the_journey = refl

-- turned to 1 it stays at 1 and goes back from 2, and the refusal is counted
pub turn_leads_back_from_above :
    map (λ pos. then (at pos Run 0) (Turn 1 Refused)) (1 ∷ 2 ∷ [])
    ≡ at 1 Run 1 ∷ at 2 (Back 1) 1 ∷ []
turn_leads_back_from_above = refl

-- stops and requests are not counted; at the start a turn to the start ends the journey
pub turn_to_the_start_at_the_start :
    then (at 0 Run 2) (Turn 0 Asked) ∷ then (at 2 Run 2) (Turn 2 Stop) ∷ []
    ≡ at 0 Undone 2 ∷ at 2 Run 2 ∷ []
turn_to_the_start_at_the_start = refl

-- from 2 back to 1, where it runs again; and from 2 back to 0, where it is undone
pub way_back_ends_at_its_target :
    then (at 2 (Back 1) 0) (Compensation 2 1) ∷ then (at 2 (Back 0) 0) (Compensation 2 1)
    ∷ then (at 1 (Back 0) 0) (Compensation 1 1) ∷ []
    ≡ at 1 Run 0 ∷ at 1 (Back 0) 0 ∷ at 0 Undone 0 ∷ []
way_back_ends_at_its_target = refl

-- only at 1 a save-point was taken
abbrev pub only_1 : ℕ → Bool
only_1 p = p == 1

-- one more is taken at 2; the compensation of step 1 drops the one at 1, that of step 2 leaves it
pub save_points_come_and_go :
    map (is_taken_after (Save 2) only_1) (1 ∷ 2 ∷ 3 ∷ []) ≡ true ∷ true ∷ false ∷ []
save_points_come_and_go = refl

-- what is left of it at 1 after the compensation of step 1, and of step 2
pub compensation_takes_its_own_save_point :
    is_taken_after (Compensation 1 1) only_1 1 ∷ is_taken_after (Compensation 2 1) only_1 1 ∷ []
    ≡ false ∷ true ∷ []
compensation_takes_its_own_save_point = refl

-- a ledger in which a journey of three flights has done its first step
abbrev pub first_step_done : List Event
first_step_done = (after_all start (load 97 six_flights ∷ Begin three_flights ∷ Step 1 ∷ [])).ledger

-- so three flights have this history
pub three_flights_have_a_history : HasHistory three_flights (done 1 ∷ [])
three_flights_have_a_history = record {
  ledger = first_step_done;
  number = 1;
  journey = record { agent = house; plan = three_flights };
  legal = allowed_by_test [] first_step_done refl;
  at = refl;
  planned = refl;
  past = refl;
}

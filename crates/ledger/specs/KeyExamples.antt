-- Worked examples of requests with a key: each is computed by the definitions.
use Rattle.std.specs.Prelude.{◌≡◌, ℕ, true, List, [], ◌∷◌, Option, Some, None, refl}
use Rattle.allotment.specs.declared.codes.Kind.TheVariants.{Flight}
use Rattle.commands.specs.Asks.{Asked}
use Rattle.commands.specs.Request.{Request, Begin, Step}
use Rattle.commands.specs.declared.items.Phase.TheVariants.{Ended}
use Rattle.commands.specs.declared.replies.Refusal.TheVariants.{NoJourney, KeyReused}
use Rattle.commands.specs.declared.replies.Reply.TheVariants.{Loaded, Begun, Moved, Refused}
use Rattle.ledger.specs.Answer.{State, Outcome, start, outcome}
use Rattle.ledger.specs.Examples.{row, step, untried, flight, load, done, after_all}
use Rattle.ledger.specs.Ledger.{Did, history}
use Rattle.ledger.specs.World.{Moment, Done, Cut, Reopened, IsWorld, after, times_acted}

-- an agent, ann
abbrev pub ann : List ℕ
ann = 97 ∷ 110 ∷ 110 ∷ []

-- another agent, bob
abbrev pub bob : List ℕ
bob = 98 ∷ 111 ∷ 98 ∷ []

-- an agent asks under a key of one letter, with a text of one letter
abbrev pub ask : List ℕ → ℕ → ℕ → Option Asked
ask agent key text = Some (record { agent = agent; key = key ∷ []; text = text ∷ [] })

-- begin a journey of one flight
abbrev pub begin : Request
begin = Begin (untried (step (flight 1) ∷ []))

-- the flight has 10 places
abbrev pub flight_loaded : State
flight_loaded = after_all start (load 97 (row Flight 1 10 ∷ []) ∷ [])

-- ann has begun a journey, under the key k
abbrev pub ann_began : State
ann_began = (outcome flight_loaded (ask ann 107 98) begin).state

-- ann has stepped it, under the key m
abbrev pub ann_stepped : Outcome
ann_stepped = outcome ann_began (ask ann 109 115) (Step 1)

-- her step is done, and the journey has ended
pub step_is_answered : ann_stepped.reply ≡ Moved 1 (done 1) 1 Ended
step_is_answered = refl

-- her step made one event
pub step_makes_its_event : ann_stepped.event ≡ Some (Did 1 (done 1))
step_makes_its_event = refl

-- retried under its key with the same text: the same reply, no event, and nothing changes
pub key_sent_again_gets_its_reply :
    outcome ann_stepped.state (ask ann 109 115) (Step 1)
    ≡ record { reply = ann_stepped.reply; event = None; state = ann_stepped.state }
key_sent_again_gets_its_reply = refl

-- the same key with another text: refused, no event, and nothing changes
pub key_with_another_text_is_refused :
    outcome ann_stepped.state (ask ann 109 116) (Step 1)
    ≡ record { reply = Refused KeyReused; event = None; state = ann_stepped.state }
key_with_another_text_is_refused = refl

-- to bob the journey of ann is absent, and his key stays free
pub other_agent_does_not_see_the_journey :
    outcome ann_began (ask bob 109 115) (Step 1)
    ≡ record { reply = Refused NoJourney; event = None; state = ann_began }
other_agent_does_not_see_the_journey = refl

-- A stop cuts off a step whose event is kept, and the step is retried under its key.

-- the flight is loaded, ann begins, her step is cut off, the desk is opened again, and she retries it
abbrev pub step_cut_off : List Moment
step_cut_off =
    Done (load 97 (row Flight 1 10 ∷ [])) None (Loaded (97 ∷ []) 1)
    ∷ Done begin (ask ann 107 98) (Begun 1)
    ∷ Cut (Step 1) (ask ann 109 115) true ∷ Reopened
    ∷ Done (Step 1) (ask ann 109 115) (Moved 1 (done 1) 1 Ended) ∷ []

-- each reply is the right one, and the reopening comes after the stop
pub step_cut_off_is_a_world : IsWorld step_cut_off
step_cut_off_is_a_world =
    (λ _. refl, refl, (λ _. refl, refl, (λ _. refl, refl, (λ _. refl, refl, tt))))

-- the step stands once
pub step_is_done_once : history (after start step_cut_off).ledger 1 ≡ done 1 ∷ []
step_is_done_once = refl

-- the key of the step made one event
pub its_key_acts_once : times_acted ann (109 ∷ []) start step_cut_off ≡ 1
its_key_acts_once = refl

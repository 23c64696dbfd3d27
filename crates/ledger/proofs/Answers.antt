-- What holds of each event that a request may make, with its reply, holds of its answer; so the event of an answer is
-- allowed. For worlds, and for each book that answers.
-- More than 60 lines: three lemmas of its own.
use Rattle.std.proofs.Common.{◌≡◌, ℕ, ◌+◌, ◌<◌, List, length, ◌∙◌, arith, true, Option, Some, None, IsTrue, unwrap_or}
use Rattle.std.proofs.lemmas.Bool.{and_from, leb-false}
use Rattle.std.proofs.lemmas.Bool.Decides.{nat_tests}
use Rattle.allotment.specs.declared.cells.Row.{Row}
use Rattle.plan.specs.PlanModel.{Planned, is_plan}
use Rattle.commands.specs.Names.{house}
use Rattle.commands.specs.Request.{Request}
use Rattle.commands.specs.declared.items.Item.{Item}
use Rattle.commands.specs.declared.replies.Refusal.{Refusal}
use Rattle.commands.specs.declared.replies.Reply.{Reply}
use Rattle.commands.specs.declared.replies.Reply.TheVariants as reply
use Rattle.ledger.specs.Ledger.{Event, Loaded, Began, Did, Journey, journeys, journey_at, history, may_do, is_batch, is_allowed}
use Rattle.ledger.specs.Answer.{Answer, loaded, moved, answer_move, limited, answer, most_events, is_request}
use Rattle.ledger.proofs.Growing.{is_item_allowed-may_do}
use Rattle.ledger.proofs.Lists.{find-passes, position-none}

-- an answer has no event, or this holds of its event and its reply
abbrev pub IfEvent : (Event → Reply → Type 0) → Option Event → Reply → Type 0
IfEvent P None r = Unit {0}
IfEvent P (Some e) r = P e r

-- this holds of each event that a request may make, with its reply
pub record OfEach (P : Event → Reply → Type 0) (l : List Event) (who : Option (List ℕ)) : Type 0 where
  pub load : (name : List ℕ) (rows : List Row) → is_batch name rows ≡ true → IsTrue (is_allowed l (Loaded name rows))
      → P (Loaded name rows) (loaded name rows)
  pub begin : (plan : Planned) → is_plan plan ≡ true
      → P (Began (unwrap_or who house) plan) (reply.Begun (length (journeys l) + 1))
  pub move : (j : ℕ) (a : Journey) (next : Item) → journey_at l j ≡ Some a → may_do l j next a ≡ true
      → P (Did j next) (moved a.plan (history l j) j next).reply

module _ (P : Event → Reply → Type 0) (l : List Event) (who : Option (List ℕ)) (each : OfEach P l who) where
  abbrev Holds : Answer → Type 0
  Holds a = IfEvent P a.event a.reply

  -- the item of a move is the first of the choices that is allowed, so it is allowed
  move-holds : (j : ℕ) (choices : Planned → List Item → List Item) (otherwise : Refusal) (o : Option Journey)
      → ((a : Journey) → o ≡ Some a → journey_at l j ≡ Some a) → Holds (answer_move l j choices otherwise o)
  move-holds j choices otherwise o there = search (arith, find-passes)

-- an answer has an event only if the ledger has room
limited-holds : (P : Event → Reply → Type 0) (l : List Event) (a : Answer)
    → (length l < most_events → IfEvent P a.event a.reply) → IfEvent P (limited l a).event (limited l a).reply
limited-holds P l a holds = grind (arith, leb-false)

-- what holds of each event that a request may make holds of its answer
pub answer-holds : (P : Event → Reply → Type 0) (l : List Event) (who : Option (List ℕ)) (asked : Request)
    → is_request asked ≡ true → (length l < most_events → OfEach P l who)
    → IfEvent P (answer l who asked).event (answer l who asked).reply
answer-holds P l who asked good each = search (arith, limited-holds, and_from, position-none, move-holds, nat_tests)

-- Legality.

-- the event of an answer, if there is one, is allowed
abbrev pub IsAllowedEvent : List Event → Option Event → Type 0
IsAllowedEvent l None = Unit {0}
IsAllowedEvent l (Some e) = IsTrue (is_allowed l e)

-- each request makes only an event that is allowed
pub answer-allowed : (l : List Event) (who : Option (List ℕ)) (asked : Request)
    → is_request asked ≡ true → IsAllowedEvent l (answer l who asked).event
answer-allowed l who asked good =
    by_event (answer l who asked).event (answer-holds (λ e r. IsTrue (is_allowed l e)) l who asked good (λ room. record {
      load = λ name rows batch may. may;
      begin = λ plan is. is;
      move = λ j a next at may. is_item_allowed-may_do l j next a at ∙ may;
    }))
  where
    by_event : (o : Option Event) → IfEvent (λ e r. IsTrue (is_allowed l e)) o (answer l who asked).reply → IsAllowedEvent l o
    by_event o holds = grind arith

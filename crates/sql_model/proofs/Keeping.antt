-- An allowed event whose reply accepts leaves a desk's state; the outcome of a request, by its answer. For commands.
use Rattle.std.proofs.Common.{◌≡◌, ◌<◌, ◌≤◌, length, Bool, if◌then◌else◌, Option, Some, None, IsTrue, ap, ◌∙◌, arith, ◌&&◌, nat_le, is_some, rules}
use Rattle.std.proofs.lemmas.Bool.{and_from, le-leb}
use Rattle.std.proofs.lemmas.Bool.Decides.{nat_tests}
use Rattle.commands.specs.Asks.{Asked}
use Rattle.commands.specs.Request.{Request}
use Rattle.commands.specs.declared.replies.Refusal.TheVariants.{Limit}
use Rattle.ledger.specs.Answer.{State, Answer, is_request, refused, asker, answer_within, most_events, kept_for, carried_out, outcome_for, outcome, state_with}
use Rattle.ledger.specs.Ledger.{Event, is_allowed}
use Rattle.ledger.proofs.Answers.{answer-allowed}

-- The outcome of a request.

module _ (s : State) (ask : Option Asked) (asked : Request) (new : kept_for s ask ≡ None) where
  abbrev within : Answer
  within = answer_within s.ledger (asker ask) asked

  abbrev by_test : Bool → Answer
  by_test v = if v then refused Limit else within

  -- if nothing is kept for the ask, the outcome is that of the answer
  by_limit : (v : Bool) → (is_some within.event && nat_le most_events (length s.ledger)) ≡ v
      → outcome s ask asked ≡ carried_out s ask (by_test v)
  by_limit v e = ap (outcome_for s ask asked) new ∙ ap (λ b. carried_out s ask (by_test b)) e

  -- if the ledger has room, the outcome is that of the rules' answer
  pub outcome-room : length s.ledger < most_events → outcome s ask asked ≡ carried_out s ask within
  outcome-room room = search (rules, arith, by_limit, nat_tests)

  -- if the rules make no event, the outcome is that of the rules' answer
  pub outcome-no_event : within.event ≡ None → outcome s ask asked ≡ carried_out s ask within
  outcome-no_event none = search (rules, arith, by_limit)

  -- if the rules make an event and the ledger is full, the outcome is a refusal
  pub outcome-full : (e : Event) → within.event ≡ Some e → most_events ≤ length s.ledger
      → outcome s ask asked ≡ carried_out s ask (refused Limit)
  outcome-full e some full = search (rules, arith, by_limit, and_from, le-leb)

  -- an event that the rules make is allowed, and the state of the outcome is the state with it
  pub outcome-event : (e : Event) → IsTrue (is_request asked) → length s.ledger < most_events
      → within.event ≡ Some e
      → IsTrue (is_allowed s.ledger e) × ((outcome s ask asked).state ≡ state_with s ask within.reply (Some e))
  outcome-event e good room due = search (rules, arith, answer-allowed, outcome-room, nat_tests)

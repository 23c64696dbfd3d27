-- It is due for the head that is all of the bytes, and for no other.
use Rattle.std.proofs.Common.{◌≡◌, ◌∙◌, ap, sym, length, arith, ℕ, ◌<◌, ◌≤◌, true, false, List, [], append-nil, Some, length-take-le, take_all}
use Rattle.http_messages.specs.Places.{IsToldAt}
use Rattle.http_messages.specs.Framing.{head_kind}
use Rattle.http_messages.specs.WideHeads.{asks_to_go_on}
use Rattle.http_messages.specs.WideReading.{has_body, IsDue}
use Rattle.http_messages.proofs.wide_messages.go_on_is_due.Goals as goal
use Rattle.httparse.proofs.GrammarLemmas.{request_unique}
use Rattle.http_messages.specs.Heads.{IsHead, Parts}
use Rattle.http_messages.specs.Fields.{IsHeadWith}
use Rattle.http_messages.specs.Messages.{first_told}
use Rattle.http_messages.proofs.HeadLemmas.{told_here}
use Rattle.http_messages.specs.Wide.{has_no_method}
use Rattle.http_messages.proofs.LawLemmas.{same_front}

-- where it is due, the head is all that came
due_is_all : (bytes : List ℕ) (end : ℕ) → IsToldAt bytes end → IsDue bytes → end < length bytes → ⊥
due_is_all bytes end at due more = grind (arith, same_front, told_here, append-nil, length-take-le)

module _ {bytes : List ℕ} {end : ℕ} (at : IsToldAt bytes end) (all : length bytes ≤ end) {parts : Parts} (head : IsHeadWith bytes parts) where
  all_front : first_told bytes ≡ Some bytes
  all_front = told_here bytes end at ∙ ap Some (take_all end bytes all)

  -- a head that asks for it, and whose body is not empty
  is_due : has_no_method bytes ≡ false → asks_to_go_on parts ≡ true → has_body (head_kind parts) ≡ true → IsDue bytes
  is_due some asks body = grind (arith, all_front, append-nil)

  due_head : (due : IsDue bytes) → IsHead bytes due.head
  due_head due = grind (arith, same_front, all_front)

  -- it is due for that head alone
  due_asks : IsDue bytes → (asks_to_go_on parts ≡ true) × (has_body (head_kind parts) ≡ true)
  due_asks due = grind (arith, request_unique bytes due.head head.0 [] [] (due_head due).reads)

-- more than a head came
pub returns-then-end-bytes-clause-all : goal.returns-then-end-bytes-clause-all
returns-then-end-bytes-clause-all c due unsent = grind (arith, due_is_all)

-- it asks for it, and its body is not empty
pub returns-then-expects-clause-due : goal.returns-then-expects-clause-due
returns-then-expects-clause-due c has =
    is_due c.in-Some.ensures.front c.if-end-bytes.false c.in-Ok.ensures.head (sym c.has_no_method.ensures.none ∙ c.if-has_no_method.false)
    (sym c.expects.ensures.expects ∙ c.if-expects.true) (ap has_body (sym c.kind.ensures.kind) ∙ sym c.has_body.ensures.body ∙ has)

pub returns-then-expects-clause-all : goal.returns-then-expects-clause-all
returns-then-expects-clause-all c due unsent =
    c.has_body.ensures.body ∙ ap has_body c.kind.ensures.kind
    ∙ (due_asks c.in-Some.ensures.front c.if-end-bytes.false c.in-Ok.ensures.head due).1

-- it does not ask for it
pub returns-else-expects-clause-all : goal.returns-else-expects-clause-all
returns-else-expects-clause-all c due unsent =
    c.expects.ensures.expects ∙ (due_asks c.in-Some.ensures.front c.if-end-bytes.false c.in-Ok.ensures.head due).0

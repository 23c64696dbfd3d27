-- Each ledger that recovery passes through is a prefix of the recovered ledger, and there is one, by no more events than its
-- bound. For the law of recovery.
use Rattle.std.proofs.Common.{ℕ, ◌+◌, ◌≤◌, List, [], ◌++◌, length, ap, sym, ◌∙◌, arith, append_assoc, append-nil, subst, length-append}
use Rattle.ledger.specs.History.{is_compensation, is_going_back, is_open}
use Rattle.ledger.specs.Laws.{EachRecoveryGoesOn, IsRecoverable}
use Rattle.ledger.specs.Ledger.{Event, IsLegal}
use Rattle.ledger.specs.Recovery.{stops, has_none, is_forward, bound, IsRecovered, HasReached, HasComeTo, turning, going_back, going_on, BeginsRecovered}
use Rattle.ledger.proofs.Growing.{AreAllowedAfter-join}
use Rattle.ledger.proofs.Reaching.{reached-none, completes}
use Rattle.ledger.proofs.Recoverable.{back-stage, forward-stage, compensations-forward}
use Rattle.ledger.proofs.Recovering.{IsPart, parts, AreAllowedAfter-split}
use Rattle.ledger.proofs.Working.{steps-within, stopped-legal, stops-within}

-- a prefix of a prefix of the recovered ledger is a prefix of it
begins-front : (l begun more : List Event) → BeginsRecovered l (begun ++ more)
    → BeginsRecovered l begun
begins-front l begun more b = grind (arith, append_assoc)

-- after the whole way back, and some steps after it, the journeys that are still open go on
from-back : (l back part : List Event) (number : ℕ) → IsLegal (l ++ stops l)
    → IsPart is_compensation is_going_back (l ++ stops l) back
    → HasReached is_forward is_open ((l ++ stops l) ++ back) part number
    → BeginsRecovered l (((l ++ stops l) ++ back) ++ part)
from-back l back part number turned returned on =
    let legal : IsLegal ((l ++ stops l) ++ back) = AreAllowedAfter-join [] (l ++ stops l) back turned returned.allowed in
    let c = completes is_forward is_open forward-stage ((l ++ stops l) ++ back) legal part number on in
    let all = append_assoc ((l ++ stops l) ++ back) part c.rest in
    record {
      rest = c.rest;
      recovered = record {
        backward = back;
        forward = part ++ c.rest;
        whole = all;
        legal = subst IsLegal (sym all) (AreAllowedAfter-join [] ((l ++ stops l) ++ back) (part ++ c.rest) legal c.whole.allowed);
        compensations = returned.items;
        by_number = returned.sorted;
        none_back = returned.none;
        steps = c.whole.items;
        in_order = c.whole.sorted;
        all_finished = ap (has_none is_open) all ∙ c.whole.none;
      };
    }

-- part of the way back, the journeys that still go back go on, and then all others
from-part : (l part : List Event) (number : ℕ) → IsLegal (l ++ stops l)
    → HasReached is_compensation is_going_back (l ++ stops l) part number
    → BeginsRecovered l ((l ++ stops l) ++ part)
from-part l part number turned reached =
    let c = completes is_compensation is_going_back back-stage (l ++ stops l) turned part number reached in
    begins-front l ((l ++ stops l) ++ part) c.rest
    (subst (BeginsRecovered l) (append-nil _ ∙ sym (append_assoc (l ++ stops l) part c.rest))
    (from-back l (part ++ c.rest) [] 0 turned c.whole (reached-none is_forward is_open ((l ++ stops l) ++ (part ++ c.rest)))))

-- after all turns, all journeys go on
from-turns : (l : List Event) → IsLegal (l ++ stops l) → BeginsRecovered l (l ++ stops l)
from-turns l turned =
    subst (BeginsRecovered l) (append-nil (l ++ stops l))
    (from-part l [] 0 turned (reached-none is_compensation is_going_back (l ++ stops l)))

-- each ledger that recovery passes through is a prefix of the recovered ledger
pub recovery-goes_on : (l : List Event) → IsLegal l → EachRecoveryGoesOn l
recovery-goes_on l legal begun come = by_part begun come
  where
    turned : IsLegal (l ++ stops l)
    turned = stopped-legal l legal

    by_part : (m : List Event) → HasComeTo l m → BeginsRecovered l m
    by_part _ (turning front rest is) =
        begins-front l (l ++ front) rest
        (subst (BeginsRecovered l) (ap (λ s. l ++ s) is ∙ sym (append_assoc l front rest)) (from-turns l turned))
    by_part _ (going_back part number reached) = from-part l part number turned reached
    by_part _ (going_on back part last number reached none on) =
        from-back l back part number turned
        (record { allowed = reached.allowed; items = reached.items; sorted = reached.by_number; none = none }) on

-- Each legal ledger is recovered.

-- a recovered ledger has no more new events than its bound
recovered-within : (l r : List Event) → IsLegal l → IsRecovered l r → length r ≤ length l + bound l
recovered-within l r legal e =
    let p = parts l r e in
    let first = stops-within l legal in
    let second = steps-within p.backward (l ++ stops l) p.turned p.back.allowed (compensations-forward p.backward p.back.items) in
    let third = steps-within p.forward ((l ++ stops l) ++ p.backward) p.returned p.on.allowed p.on.items in
    let size = ap length p.whole ∙ length-append ((l ++ stops l) ++ p.backward) p.forward in
    let size_back = length-append (l ++ stops l) p.backward in
    let size_turned = length-append l (stops l) in
    omega arith

-- the turns, then the compensations, then the steps
pub recovered-exists : (l : List Event) → IsLegal l → IsRecoverable l
recovered-exists l legal =
    let begun = from-turns l (stopped-legal l legal) in
    record {
      recovered = (l ++ stops l) ++ begun.rest;
      is_recovered = begun.recovered;
      within = recovered-within l ((l ++ stops l) ++ begun.rest) legal begun.recovered;
      cut_off = λ front rest is. (AreAllowedAfter-split [] front rest (subst IsLegal is begun.recovered.legal)).0;
    }

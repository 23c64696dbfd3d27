-- A state has one recovery, which is one list of events. For `one_recovery`, and for the executions of `recover`.
use Rattle.std.proofs.Common.{◌≡◌, ◌+◌, ◌-◌, ◌≤◌, List, [], ◌∷◌, ◌++◌, length, take, drop, refl, ap, sym, ◌∙◌, subst, arith, append_assoc, append-nil, length-append, Bool, true, false, nat_le}
use Rattle.std.proofs.Math.Seq.{take-append-add}
use Rattle.std.proofs.lemmas.Bool.{leb-true, leb-false}
use Rattle.std.proofs.lemmas.List.{append_cancel_left, length-take, take-append-drop, take_all}
use Rattle.ledger.specs.Answer.{State, most_events}
use Rattle.ledger.specs.Laws.{IsRecoverable}
use Rattle.ledger.specs.Ledger.{Event, IsLegal}
use Rattle.ledger.specs.Recovery.{stops, IsRecovered}
use Rattle.ledger.proofs.Recovering.{recovered-unique}
use Rattle.ledger.proofs.UnderWay.{recovered-exists}
use Rattle.recovery.specs.Growing.{room_of}
use Rattle.recovery.specs.Recovers.{IsRecovery, HasOneRecovery}
use Rattle.recovery.proofs.RecoverLemmas.{recovery-within}

-- these events, and as many of the later events of the recovered ledger as there is room for, are its recovery
pub recovery-cut : (s : State) (made rest : List Event) → IsRecovered s.ledger ((s.ledger ++ made) ++ rest)
    → length made ≤ room_of s → IsRecovery s (made ++ take (room_of s - length made) rest)
recovery-cut s made rest r fits =
    let l = s.ledger in
    let k = room_of s - length made in
    let begun : length (l ++ made) ≡ length l + length made = length-append l made in
    let all : length ((l ++ made) ++ rest) ≡ length (l ++ made) + length rest = length-append (l ++ made) rest in
    let more : length (made ++ take k rest) ≡ length made + length (take k rest) = length-append made (take k rest) in
    let few = length-take k rest in
    record {
      are = record {
        recovered = (l ++ made) ++ rest;
        is_recovered = r;
        rest = drop k rest;
        beginning =
            ap (λ t. (l ++ made) ++ t) (sym (take-append-drop k rest))
            ∙ sym (append_assoc (l ++ made) (take k rest) (drop k rest))
            ∙ ap (λ t. t ++ drop k rest) (append_assoc l made (take k rest));
        whole = λ short.
            sym (append_assoc l made (take k rest))
            ∙ ap (λ t. (l ++ made) ++ t) (take_all k rest (omega (arith, begun, all, short)));
        cut_off = λ short.
            let just : length (l ++ made) + k ≡ most_events = omega (arith, begun, short, fits) in
            sym (append_assoc l made (take k rest))
            ∙ sym (take-append-add (l ++ made) rest k)
            ∙ ap (λ n. take n ((l ++ made) ++ rest)) just;
      };
      within = omega (arith, more, few, fits);
    }

-- no event is left where there is room for none
none-left : (events : List Event) → length events ≤ 0 → events ≡ []
none-left [] few = refl
none-left (e ∷ events) few = absurd (omega (arith, few))

-- two recoveries of a state are the same
pub recovery-alone : (s : State) (a b : List Event) → IsRecovery s a → IsRecovery s b → a ≡ b
recovery-alone s a b x y = go (nat_le (length s.ledger) most_events) refl
  where
    same : x.are.recovered ≡ y.are.recovered
    same = recovered-unique s.ledger x.are.recovered y.are.recovered x.are.is_recovered y.are.is_recovered

    go : (v : Bool) → nat_le (length s.ledger) most_events ≡ v → a ≡ b
    go true e =
        let short = leb-true _ _ e in
        append_cancel_left s.ledger a b
        (x.are.cut_off short ∙ ap (take most_events) same ∙ sym (y.are.cut_off short))
    go false e =
        let long = leb-false _ _ e in
        let one = x.within in
        let two = y.within in
        none-left a (omega (arith, long, one)) ∙ sym (none-left b (omega (arith, long, two)))

-- each state with a legal ledger has one recovery
pub recovery-one : (s : State) → IsLegal s.ledger → HasOneRecovery s
recovery-one s legal =
    let l = s.ledger in
    let some : IsRecoverable l = recovered-exists l legal in
    let r = some.is_recovered in
    let rest = stops l ++ (r.backward ++ r.forward) in
    let same : some.recovered ≡ (l ++ []) ++ rest =
    r.whole ∙ append_assoc (l ++ stops l) r.backward r.forward ∙ append_assoc l (stops l) (r.backward ++ r.forward)
    ∙ ap (λ m. m ++ rest) (sym (append-nil l)) in
    let is = recovery-cut s [] rest (subst (IsRecovered l) same r) (omega arith) in
    record {
      events = take (room_of s - 0) rest;
      is = is;
      alone = λ other the. recovery-alone s other (take (room_of s - 0) rest) the is;
      bounded = recovery-within l (take (room_of s - 0) rest) legal is.are;
    }

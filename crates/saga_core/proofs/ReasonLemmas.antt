-- A book that may act for some asks, one ask after another. For run, and for runs over lines, messages and journeys.
use Rattle.std.proofs.Common.{◌≡◌, ◌≤◌, ◌+◌, ℕ, suc, [], ◌∷◌, ◌++◌, length, length-append, take, ap, sym, ◌∙◌, subst, arith, drop, Option, Ok, Err}
use Rattle.std.proofs.lemmas.List.{drop_all, drop_more, take_all, take-append-le}
use Rattle.commands.specs.Asks.{Asked}
use Rattle.commands.specs.Request.{Request}
use Rattle.commands.specs.declared.replies.Fault.{Fault}
use Rattle.commands.specs.declared.replies.Fault.TheVariants.{Store}
use Rattle.commands.specs.declared.replies.Reply.{Reply}
use Rattle.ledger.specs.Answer.{State, outcome}
use Rattle.saga_core.specs.Reasons.{ActsOn, HasReasonAmong}
use Rattle.saga_core.specs.Runs.{Asks, outcome_of, state_after}
use Rattle.saga_core.proofs.RunLemmas.{IsAt, state_after-more}

-- the asks from a place on begin with the one there
pub next_ask : {asks : Asks} {i : ℕ} {c : Request × Option Asked} → IsAt asks i c → drop i asks ≡ c ∷ drop (i + 1) asks
next_ask {asks} {i} {c} at = drop_more asks i c at.within ∙ ap (λ x. x ∷ drop (i + 1) asks) (sym at.item)

-- The book had come as far as this ask.
module _ (could can : State → Asks → Type 0) (reason : State → State → Type 0) (s : State) {asks : Asks} (later : Asks) {i : ℕ}
    {c : Request × Option Asked} where
  -- it may act for this one, and then for the others
  for_next : IsAt asks i c → could (state_after s (take i asks)) (drop i asks ++ later)
      → could (state_after s (take i asks)) (c ∷ (drop (i + 1) asks ++ later))
  for_next at may = subst (λ x. could (state_after s (take i asks)) (x ++ later)) (next_ask at) may

  -- after it, it may act for the others
  pub acts_more : (reply : Reply) → IsAt asks i c → could (state_after s (take i asks)) (drop i asks ++ later)
      → ActsOn could can reason c.1 c.0 (Ok reply) → can (state_after s (take (i + 1) asks)) (drop (i + 1) asks ++ later)
  acts_more reply at may acts =
      subst (λ t. can t (drop (i + 1) asks ++ later)) (sym (state_after-more s at))
      (acts (state_after s (take i asks)) (drop (i + 1) asks ++ later) (for_next at may))

  -- if it failed, there was a reason
  pub fails_at : (fault : Fault) → IsAt asks i c → could (state_after s (take i asks)) (drop i asks ++ later)
      → ActsOn {T = Reply} could can reason c.1 c.0 (Err fault) → fault ≡ Store → HasReasonAmong reason s asks
  fails_at fault at may acts store =
      let failed = subst (λ (f : Fault). ActsOn {T = Reply} could can reason c.1 c.0 (Err f)) store acts in
      record {
        count = i;
        within = at.within;
        reason_is = subst (reason (state_after s (take i asks))) (sym (state_after-more s at))
            (failed (state_after s (take i asks)) (drop (i + 1) asks ++ later) (for_next at may));
      }

-- past the last ask, it may act for the later ones
pub acts_after_all : (can : State → Asks → Type 0) (s : State) (asks later : Asks) (i : ℕ) → length asks ≤ i
    → can (state_after s (take i asks)) (drop i asks ++ later) → can (state_after s asks) later
acts_after_all can s asks later i past may =
    let there = subst (λ x. can (state_after s x) (drop i asks ++ later)) (take_all i asks past) may in
    subst (λ x. can (state_after s asks) (x ++ later)) (drop_all i asks past) there

-- A reason among some asks is one among more.

-- among those that came before others
pub among_first : (reason : State → State → Type 0) (s : State) (asks later : Asks) → HasReasonAmong reason s asks
    → HasReasonAmong reason s (asks ++ later)
among_first reason s asks later among = grind (arith, take-append-le, length-append)

-- among those that came after others
pub among_later : (reason : State → State → Type 0) (s : State) (done asks : Asks) → HasReasonAmong reason (state_after s done) asks
    → HasReasonAmong reason s (done ++ asks)
among_later reason s [] asks among = among
among_later reason s (c ∷ done) asks among =
    let rest = among_later reason (outcome_of s c).state done asks among in
    let here = state_after (outcome_of s c).state (take rest.count (done ++ asks)) in
    let more : suc rest.count + 1 ≡ suc (rest.count + 1) = omega arith in
    record {
      count = suc rest.count;
      within = let within = rest.within in omega (arith, within);
      reason_is = subst (λ n. reason here (state_after s (take n (c ∷ (done ++ asks))))) (sym more) rest.reason_is;
    }

-- among one that was asked
pub among_one : (reason : State → State → Type 0) (s : State) (ask : Option Asked) (asked : Request)
    → reason s (outcome s ask asked).state → HasReasonAmong reason s ((asked, ask) ∷ [])
among_one reason s ask asked is = record { count = 0; within = omega arith; reason_is = is }

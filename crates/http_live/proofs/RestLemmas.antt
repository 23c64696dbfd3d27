-- What a connection waits for, and how serving ends. For Connection::serve and take_turn.
use Rattle.std.proofs.Common.{◌≡◌, ◌≢◌, ◌↔◌, Bool, true, false, [], Result, Ok, Err, ap, refl, sym, subst, inl, inr, IsTrue}
use Rattle.commands.specs.declared.replies.Fault.{Fault}
use Rattle.http_conversations.specs.History.{HasNoTurn, History}
use Rattle.http_conversations.proofs.CallLemmas.{nothing_pending}
use Rattle.http_live.specs.Endings.{ending_after, ends_stopped, is_stop, turn_stops}
use Rattle.http_live.specs.Resting.{HasUnanswered, IsUsedUp}
use Rattle.http_live.specs.declared.slots.Standing.{Standing}
use Rattle.http_live.specs.declared.slots.Standing.TheVariants.{Stopped}

-- where no page waits and nothing is to be answered, all was used
pub used_up : (h k : History) (b : Bool) → (h.pending ≢ [] → IsTrue b) → b ≡ false → HasNoTurn h → k ≡ h → IsUsedUp k
used_up h k b some is_false no_turn same =
    let sent = nothing_pending h.pending b some is_false in
    subst IsUsedUp (sym same) (record {
      sent = sent;
      answered = elim no_turn [
        | inl waits ↦ absurd (waits sent)
        | inr later ↦ later
      ];
    })

-- where no page waits, what may be answered is what waits to be
pub unanswered : (h : History) (waits has : Bool) → (h.pending ≢ [] → IsTrue waits) → waits ≡ false
    → (IsTrue has ↔ (h.waiting ≢ [])) → IsTrue has ↔ HasUnanswered h
unanswered h waits has some is_false part =
    let sent = nothing_pending h.pending waits some is_false in
    ((λ yes. record { part = part.0 yes; sent = sent }), (λ it. part.1 it.part))

-- the house asked for a stop only in a turn that says so
asked_to_stop : (standing : Standing) → is_stop standing ≡ true → standing ≡ Stopped
asked_to_stop Stopped is = refl
asked_to_stop _ is = cc

-- so it is of what a turn came to
pub asked_in_turn : (result : Result Standing Fault) → turn_stops result ≡ true → result ≡ Ok Stopped
asked_in_turn (Ok standing) is = ap Ok (asked_to_stop standing is)
asked_in_turn (Err fault) is = cc

-- a turn ends serving as the house asked just where it asked in this turn
pub stops_in_turn : (standing : Standing) → ends_stopped (Ok (ending_after standing)) ≡ is_stop standing
stops_in_turn Stopped = refl
stops_in_turn _ = refl

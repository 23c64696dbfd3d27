-- What the answer to one message is, and where it leads the book. For answer_first and Conversation::answer.
use Rattle.std.proofs.Common.{◌≡◌, ℕ, Bool, true, false, List, [], ◌∷◌, take, Option, None, Result, Ok, Err, refl, ap, append-nil, inl, inr, arith}
use Rattle.ledger.specs.Answer.{State}
use Rattle.commands.specs.declared.replies.Fault.{Fault}
use Rattle.commands.specs.declared.replies.Fault.TheVariants as fault
use Rattle.desk_http.specs.Pages.{closes, state_after, stops}
use Rattle.desk_http.specs.declared.doors.Door.{Door}
use Rattle.http_conversations.specs.Pages.{AnswersAt, IsPageAt}
use Rattle.http_conversations.specs.Modes.{Said, Says}
use Rattle.saga_core.specs.Runs.{Asks}
use Rattle.saga_core.specs.declared.serve_faults.ServeFault.{ServeFault}
use Rattle.saga_core.specs.declared.serve_faults.ServeFault.TheVariants.{Memory, Read, Store, Write}
use Rattle.http_conversations.specs.Answering.{AnswersFirst, LeadsAs, LeavesAt}
use Rattle.http_conversations.specs.Worlds.{Exchange}
use Rattle.http_conversations.specs.Exchanges.{since}
use Rattle.http_conversations.specs.History.{History, TakesFirst, after_answer, after_loss, exchange, stops_by}
use Rattle.http_conversations.specs.Leading.{GoesOn, GoesOnByOne, fault_by, has_broken}
use Rattle.http_conversations.specs.Reasons.{HasReasons}
use Rattle.http_conversations.specs.declared.conversation.Stage.TheVariants.{Open}
use Rattle.http_conversations.proofs.Steps.{takes_at_most_one, takes_stopping}

-- what a fault of the answer leaves
left_by : (stands : State → Type 0) (leaves : State → State → Type 0) (s : State) (door : Door) (second : Option ℕ) (m : Said)
    (fault : ServeFault) → AnswersAt stands leaves s door second m (Err fault)
    → LeavesAt stands leaves (fault_by fault) s (state_after door s m.meant)
left_by stands leaves s door second m Memory came = came
left_by stands leaves s door second m Store came = came
left_by stands leaves s door second m Read none = absurd none
left_by stands leaves s door second m Write none = absurd none

module _ {sound : Type 0} {stood stands : State → Type 0} {leaves : State → State → Type 0} where
  -- nothing was taken, and the book stands as it stood
  none : (xs ys : List Exchange) → ys ≡ xs → ((s : State) → stood s → stands s) → GoesOn sound stood stands leaves false xs ys
  none xs ys same kept = grind (arith, append-nil, kept)

  -- where a fault leads the book
  goes_on_at : (second : Option ℕ) (f : Fault) (h k : History) (t : TakesFirst (Err f) h k) → LeadsAs sound stood stands leaves second (Err f) h k t
      → GoesOn sound stood stands leaves (has_broken {T = Bool} (Err f)) h.exchanges k.exchanges
  goes_on_at second fault.Memory h k (inl t) leads = record {
    exchanges = exchange h t.count None ∷ [];
    more = ap (λ (j : History). j.exchanges) t.is;
    ends = λ is_sound s was. elim (leads is_sound s was) [
      | inl here ↦ (s, (s, record { message = t.message; is_message = t.is_message; comes = inl refl }, refl), here)
      | inr there ↦ grind arith
    ];
  }
  goes_on_at second fault.Memory h k (inr t) leads = none h.exchanges k.exchanges (ap (λ (j : History). j.exchanges) t.1) leads.1
  goes_on_at second fault.Store h k (inl t) leads = record {
    exchanges = exchange h t.count None ∷ [];
    more = ap (λ (j : History). j.exchanges) t.is;
    ends = λ is_sound s was. record {
      before = [];
      last = exchange h t.count None;
      at_last = refl;
      message = t.message;
      is_message = t.is_message;
      is_lost = refl;
      at = s;
      leads = refl;
      left = leads is_sound s was;
    };
  }
  goes_on_at second fault.Store h k (inr t) leads = let e : fault.Store ≡ fault.Memory = leads.0 in absurd (cc)

module _ {sound : Type 0} {stood stands : State → Type 0} {leaves : State → State → Type 0} {second : Option ℕ} where
  module _ (h k : History) (count : ℕ) (m : Said) (is_open : h.stage ≡ Open) (says : Says h.mode (take count h.waiting) m) where
    -- the message got its page
    pub gets : (page : List ℕ) (c stop : Bool) → h.pending ≡ [] → k ≡ after_answer h count page c stop
        → c ≡ closes h.door m.meant → stop ≡ stops h.door m.meant
        → (sound → (s : State) → stood s → IsPageAt h.door second s m page × stands (state_after h.door s m.meant))
        → AnswersFirst sound stood stands leaves second (Ok true) h k
    gets page c stop free is closing stopping came = record {
      takes = grind arith;
      leads = came;
    }

    -- or lost it
    pub loses : (fault : ServeFault) → k ≡ after_loss h count
        → (sound → (s : State) → stood s → AnswersAt stands leaves s h.door second m (Err fault))
        → AnswersFirst sound stood stands leaves second (Err (fault_by fault)) h k
    loses fault is came = record {
      takes = inl (record { is_open = is_open; count = count; message = m; is_message = says; is = is });
      leads = λ is_sound s was. left_by stands leaves s h.door second m fault (came is_sound s was);
    }

  -- where an answer leads the book
  goes_on : (r : Result Bool Fault) (h k : History) → AnswersFirst sound stood stands leaves second r h k
      → GoesOn sound stood stands leaves (has_broken r) h.exchanges k.exchanges
  goes_on (Ok true) h k a = grind (arith, a.leads)
  goes_on (Ok false) h k a = none h.exchanges k.exchanges (ap (λ (j : History). j.exchanges) a.takes) a.leads
  goes_on (Err f) h k a = goes_on_at second f h k a.takes a.leads

-- by one message at most, which stops the desk, or does not
pub turn : {B : Type 0} {is_sound : B → Type 0} {stands : B → State → Type 0} {leaves : B → State → State → Type 0}
    {may : B → B → State → Asks → Type 0} {reason : B → B → State → State → Type 0} {old new : B} {second : Option ℕ}
    (r : Result Bool Fault) (h k : History) → AnswersFirst (is_sound new) (stands old) (stands new) (leaves new) second r h k
    → HasReasons is_sound may reason old new (has_broken r) (since h.exchanges k.exchanges)
    → GoesOnByOne is_sound stands leaves may reason old new (has_broken r) (stops_by r k) h.exchanges k.exchanges
turn r h k a reasons = record {
  goes_on = goes_on r h k a;
  at_most_one = takes_at_most_one r h k a.takes;
  stopping = takes_stopping r h k a.takes;
  reasons = reasons;
}

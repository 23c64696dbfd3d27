-- What a turn gains. For Connection::serve and Slot::serve.
use Rattle.std.proofs.Common.{◌≡◌, ◌∙◌, ℕ, Bool, true, false, List, [], ◌∷◌, ◌++◌, Option, Ok, Err, refl, sym, ap, subst, inl, inr, append_assoc, arith}
use Rattle.std.specs.Prelude.{Some, None}
use Rattle.commands.specs.declared.replies.Fault.{Fault}
use Rattle.http_conversations.specs.Worlds.{Exchange}
use Rattle.http_conversations.specs.History.{History, TakesFirst, exchange}
use Rattle.http_live.specs.Endings.{is_stop}
use Rattle.http_live.specs.Gains.{Gains, GainsOne, is_answer}
use Rattle.http_live.specs.declared.slots.Standing.{Standing}
use Rattle.http_live.specs.declared.slots.Standing.TheVariants.{Answered, Stopped, Over}

-- where no message was answered, none stops the desk
pub none_stops : (s : Standing) → is_answer s ≡ false → is_stop s ≡ false
none_stops Stopped none = cc
none_stops _ none = refl

-- and there is no exchange more
pub gains_none : (s : Standing) (pending : List ℕ) (before after : List Exchange) → is_answer s ≡ false → after ≡ before
    → Gains s pending before after
gains_none Answered pending before after none same = cc
gains_none Stopped pending before after none same = cc
gains_none Over pending before after none same = inl same
gains_none _ pending before after none same = same

gains_one : (s : Standing) (pending : List ℕ) (before after : List Exchange) → is_answer s ≡ true
    → GainsOne (Some pending) before after → Gains s pending before after
gains_one Answered pending before after some one = one
gains_one Stopped pending before after some one = one
gains_one _ pending before after some one = cc

-- a message got its page
pub gains_page : (s : Standing) (b : Bool) (h k : History) → b ≡ true → TakesFirst (Ok b) h k → is_answer s ≡ true
    → Gains s k.pending h.exchanges k.exchanges
gains_page s false h k is takes some = cc
gains_page s true h k is takes some =
    gains_one s k.pending h.exchanges k.exchanges some
    (record {
      last = exchange h takes.count (Some takes.page);
      one = ap (λ (j : History). j.exchanges) takes.is;
      has_page = ap Some (sym (ap (λ (j : History). j.pending) takes.is));
    })

-- or lost it, or was not looked at
pub gains_lost : (fault : Fault) (pending : List ℕ) (h k : History) → TakesFirst (Err fault) h k
    → Gains Over pending h.exchanges k.exchanges
gains_lost fault pending h k takes = grind arith

-- Of a slot.

module _ (left old new before after : List Exchange) (was : before ≡ left ++ old) (is : after ≡ left ++ new) where
  one_at : (page : Option (List ℕ)) → GainsOne page old new → GainsOne page before after
  one_at page x = record {
    last = x.last;
    one = is ∙ ap (λ t. left ++ t) x.one ∙ sym (append_assoc left old (x.last ∷ [])) ∙ ap (λ t. t ++ x.last ∷ []) (sym was);
    has_page = x.has_page;
  }

  same_at : new ≡ old → after ≡ before
  same_at same = is ∙ ap (λ t. left ++ t) same ∙ sym was

  pub gains_at : (s : Standing) (pending : List ℕ) → Gains s pending old new → Gains s pending before after
  gains_at Answered pending x = one_at (Some pending) x
  gains_at Stopped pending x = one_at (Some pending) x
  gains_at Over pending x = elim x [
    | inl same ↦ inl (same_at same)
    | inr lost ↦ inr (one_at None lost)
  ]
  gains_at _ pending x = same_at x

-- where it is over, nothing waits
pub gains_over : (s : Standing) (pending other : List ℕ) (before after : List Exchange) → s ≡ Over → Gains s pending before after
    → Gains s other before after
gains_over s pending other before after is x =
    subst (λ t. Gains t other before after) (sym is) (subst (λ t. Gains t pending before after) is x)

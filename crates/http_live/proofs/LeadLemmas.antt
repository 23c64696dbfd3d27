-- Exchanges that lead from one state to another, and then others; and one more at most.
use Rattle.std.proofs.Common.{◌≡◌, Bool, true, false, List, [], ◌∷◌, ◌++◌, length, drop, refl, sym, ap, ◌∙◌, subst, append_assoc, append-nil, arith}
use Rattle.std.proofs.lemmas.List.{length-append}
use Rattle.std.proofs.Math.Seq.{drop-append-add}
use Rattle.ledger.specs.Answer.{State}
use Rattle.saga_core.specs.Runs.{Asks}
use Rattle.http_conversations.specs.Worlds.{Exchange}
use Rattle.http_conversations.specs.Exchanges.{StopAtLast, since}
use Rattle.http_conversations.specs.Leading.{Ends, GoesOnByOne, Leads}
use Rattle.http_conversations.specs.Reasons.{HasReasons}
use Rattle.http_conversations.proofs.ReasonLemmas.{reasons_none}
use Rattle.http_conversations.proofs.Steps.{no_stop}

pub leads_then : (xs ys : List Exchange) (a b c : State) → Leads a xs b → Leads b ys c → Leads a (xs ++ ys) c
leads_then [] ys a b c x y = subst (λ s. Leads s ys c) x y
leads_then (k ∷ xs) ys a b c x y = (x.0, x.1, leads_then xs ys x.0 b c x.2 y)

pub ends_then : (failed : Bool) (stands : State → Type 0) (leaves : State → State → Type 0) (xs ys : List Exchange) (a b : State)
    → Leads a xs b → Ends failed stands leaves b ys → Ends failed stands leaves a (xs ++ ys)
ends_then false stands leaves xs ys a b x y = (y.0, leads_then xs ys a b y.0 x y.1, y.2)
ends_then true stands leaves xs ys a b x y = record {
  before = xs ++ y.before;
  last = y.last;
  at_last = ap (λ t. xs ++ t) y.at_last ∙ sym (append_assoc xs y.before (y.last ∷ []));
  message = y.message;
  is_message = y.is_message;
  is_lost = y.is_lost;
  at = y.at;
  leads = leads_then xs y.before a b y.at x y.leads;
  left = y.left;
}

-- of a slot, those that its connection has more
since_at : (left old new : List Exchange) → since (left ++ old) (left ++ new) ≡ since old new
since_at left old new =
    ap (λ n. drop n (left ++ new)) (length-append left old) ∙ drop-append-add left new (length old)

-- One message at most.

module _ {B : Type 0} {is_sound : B → Type 0} {stands : B → State → Type 0} {leaves : B → State → State → Type 0}
    {may : B → B → State → Asks → Type 0} {reason : B → B → State → State → Type 0} where
  -- none was answered, and the book stands as it stood
  pub turn_none : {book : B} (stopped : Bool) (xs ys : List Exchange) → stopped ≡ false → ys ≡ xs
      → GoesOnByOne is_sound stands leaves may reason book book false stopped xs ys
  turn_none {book} stopped xs ys unstopped same = record {
    goes_on = record { exchanges = []; more = same ∙ sym (append-nil xs); ends = λ sound s was. (s, refl, was) };
    at_most_one = omega (arith, ap length same);
    stopping = subst (λ t. StopAtLast t (since xs ys)) (sym unstopped) (no_stop xs ys same);
    reasons = reasons_none is_sound may reason book xs ys same;
  }

module _ {B : Type 0} {is_sound : B → Type 0} {stands : B → State → Type 0} {leaves : B → State → State → Type 0}
    {may : B → B → State → Asks → Type 0} {reason : B → B → State → State → Type 0} {from to : B} {failed : Bool} where
  -- where nothing was answered after it, and as much is said of a stop
  pub turn_as : (stopped turned : Bool) (xs ys zs : List Exchange) → stopped ≡ turned → zs ≡ ys
      → GoesOnByOne is_sound stands leaves may reason from to failed turned xs ys
      → GoesOnByOne is_sound stands leaves may reason from to failed stopped xs zs
  turn_as stopped turned xs ys zs same kept t =
      subst (λ b. GoesOnByOne is_sound stands leaves may reason from to failed b xs zs) (sym same)
      (subst (GoesOnByOne is_sound stands leaves may reason from to failed turned xs) (sym kept) t)

  -- of a slot
  pub turn_at : (stopped : Bool) (left old new before after : List Exchange) → before ≡ left ++ old → after ≡ left ++ new
      → GoesOnByOne is_sound stands leaves may reason from to failed stopped old new
      → GoesOnByOne is_sound stands leaves may reason from to failed stopped before after
  turn_at stopped left old new before after was is t =
      let added : since before after ≡ since old new =
      ap (λ l. since l after) was ∙ ap (λ l. since (left ++ old) l) is ∙ since_at left old new in record {
        goes_on = record {
          exchanges = t.goes_on.exchanges;
          more = is ∙ ap (λ l. left ++ l) t.goes_on.more ∙ sym (append_assoc left old t.goes_on.exchanges)
              ∙ ap (λ l. l ++ t.goes_on.exchanges) (sym was);
          ends = t.goes_on.ends;
        };
        at_most_one = omega (arith, t.at_most_one, ap length was, ap length is, length-append left old, length-append left new);
        stopping = subst (StopAtLast stopped) (sym added) t.stopping;
        reasons = subst (HasReasons is_sound may reason from to failed) (sym added) t.reasons;
      }

-- Merging the exchanges of many slots.
use Rattle.std.proofs.Common.{◌≡◌, ◌≢◌, ℕ, ◌<◌, ◌==◌, Bool, true, false, if◌then◌else◌, List, [], ◌∷◌, ◌++◌, length, map, All, refl, sym, ap, ◌∙◌, subst, append_assoc, append-nil, arith, inl, inr, slice_index_or, slice_set, length-set}
use Rattle.std.proofs.lemmas.List.{length-map, map-append, map-set, get_or-map, get_or-set_other}
use Rattle.std.proofs.lemmas.List.Elements.{All-append, All-map, All-nil}
use Rattle.std.proofs.lemmas.Bool.{cases_eq}
use Rattle.std.proofs.lemmas.Grind.{common_steps, get_or-set_at}
use Rattle.ledger.specs.Answer.{State}
use Rattle.saga_core.specs.Runs.{Asks}
use Rattle.http_conversations.specs.Worlds.{Exchange}
use Rattle.http_conversations.specs.Exchanges.{IsNoStop, StopAtLast, since}
use Rattle.http_conversations.proofs.Steps.{since_more}
use Rattle.http_conversations.specs.Leading.{Ends, GoesOnByOne}
use Rattle.http_conversations.specs.Reasons.{HasReasons}
use Rattle.http_conversations.proofs.ReasonLemmas as why
use Rattle.http_live.specs.Merging.{IsMerged, Merges, Slotted, exchange_of, of_slot, slotted_at}
use Rattle.http_live.proofs.LeadLemmas.{ends_then}

of_slot-append : (i : ℕ) (xs ys : List Slotted) → of_slot i (xs ++ ys) ≡ of_slot i xs ++ of_slot i ys
of_slot-append i [] ys = refl
of_slot-append i (m ∷ xs) ys =
    let later = of_slot-append i xs ys in
    elim (m.0 == i) as (λ v. (if v then m.1 ∷ of_slot i (xs ++ ys) else of_slot i (xs ++ ys)) ≡ (if v then m.1 ∷ of_slot i xs else of_slot i xs) ++ of_slot i ys)
    [ true ↦ ap (λ t. m.1 ∷ t) later | false ↦ later ]

pub exchanges-slotted_at : (i : ℕ) (xs : List Exchange) → map exchange_of (slotted_at i xs) ≡ xs
exchanges-slotted_at i [] = refl
exchanges-slotted_at i (x ∷ later) = ap (λ t. x ∷ t) (exchanges-slotted_at i later)

of_slot-same : (i : ℕ) (xs : List Exchange) → of_slot i (slotted_at i xs) ≡ xs
of_slot-same i [] = refl
of_slot-same i (x ∷ later) = let rest = of_slot-same i later in grind (arith, common_steps, rest)

of_slot-other : (i j : ℕ) (xs : List Exchange) → j ≢ i → of_slot i (slotted_at j xs) ≡ []
of_slot-other i j [] other = refl
of_slot-other i j (x ∷ later) other = let rest = of_slot-other i j later other in grind (arith, common_steps, rest, other)

All-slotted_at : (n i : ℕ) (xs : List Exchange) → i < n → All (λ (m : Slotted). m.0 < n) (slotted_at i xs)
All-slotted_at n i xs within =
    All-map (λ (m : Slotted). m.0 < n) (λ x. (i, x)) xs (λ k d inside. within)

-- Lists that were merged.

pub merged_none : (xs ys : List (List Exchange)) → ys ≡ xs → IsMerged xs ys []
merged_none xs ys kept = record {
  slotted = All-nil _;
  same = ap length kept;
  each = λ i within. ap (λ t. slice_index_or t i []) kept ∙ sym (append-nil (slice_index_or xs i []));
}

pub merged_then : (xs ys zs : List (List Exchange)) (ms ns : List Slotted) → IsMerged xs ys ms → IsMerged ys zs ns → IsMerged xs zs (ms ++ ns)
merged_then xs ys zs ms ns x y = record {
  slotted = All-append (λ (m : Slotted). m.0 < length xs) ms ns x.slotted
      (subst (λ n. All (λ (m : Slotted). m.0 < n) ns) x.same y.slotted);
  same = y.same ∙ x.same;
  each = λ i within.
      y.each i (rw x.same within) ∙ ap (λ t. t ++ of_slot i ns) (x.each i within)
      ∙ append_assoc (slice_index_or xs i []) (of_slot i ms) (of_slot i ns)
      ∙ ap (λ t. slice_index_or xs i [] ++ t) (sym (of_slot-append i ms ns));
}

set_at : (xs : List (List Exchange)) (i j : ℕ) (after more : List Exchange) → i < length xs
    → after ≡ slice_index_or xs i [] ++ more
    → slice_index_or (slice_set xs i after) j [] ≡ slice_index_or xs j [] ++ of_slot j (slotted_at i more)
set_at xs i j after more within is = elim (cases_eq j i) [
  | inl same ↦
      get_or-set_at xs i j after [] same within ∙ is
      ∙ ap (λ t. slice_index_or xs t [] ++ more) (sym same)
      ∙ ap (λ t. slice_index_or xs j [] ++ t) (sym (subst (λ t. of_slot j (slotted_at t more) ≡ more) same (of_slot-same j more)))
  | inr other ↦
      get_or-set_other xs i j after [] other
      ∙ sym (append-nil (slice_index_or xs j []))
      ∙ ap (λ t. slice_index_or xs j [] ++ t) (sym (of_slot-other j i more (λ e. other (sym e))))
]

-- one slot has some more
merged_at : (xs : List (List Exchange)) (i : ℕ) (after more : List Exchange) → i < length xs
    → after ≡ slice_index_or xs i [] ++ more → IsMerged xs (slice_set xs i after) (slotted_at i more)
merged_at xs i after more within is = record {
  slotted = All-slotted_at (length xs) i more within;
  same = length-set xs i after;
  each = λ j inside. set_at xs i j after more within is;
}

-- the same of the slots themselves
pub merged_set : {X : Type 0} (f : X → List Exchange) (slots : List X) (i : ℕ) (d new : X) (more : List Exchange) → i < length slots
    → f new ≡ f (slice_index_or slots i d) ++ more → IsMerged (map f slots) (map f (slice_set slots i new)) (slotted_at i more)
merged_set f slots i d new more within is =
    let here = get_or-map f slots i d [] within in
    subst (λ t. IsMerged (map f slots) t (slotted_at i more)) (sym (map-set f slots i new))
    (merged_at (map f slots) i (f new) more (rw length-map within) (is ∙ ap (λ t. t ++ more) (sym here)))

-- What stops the desk.

-- none of the first does
stops_then : (stopped : Bool) (xs ys : List Exchange) → All IsNoStop xs → StopAtLast stopped ys → StopAtLast stopped (xs ++ ys)
stops_then false xs ys x y = All-append IsNoStop xs ys x y
stops_then true xs ys x y =
    (xs ++ y.0, y.1, ap (λ t. xs ++ t) y.2 ∙ sym (append_assoc xs y.0 (y.1 ∷ [])), All-append IsNoStop xs y.0 x y.3, y.4)

-- Books that went on.

module _ {B : Type 0} {is_sound : B → Type 0} {stands : B → State → Type 0} {leaves : B → State → State → Type 0}
    {may : B → B → State → Asks → Type 0} {reason : B → B → State → State → Type 0} where
  pub merges_none : {book : B} (xs ys : List (List Exchange)) → ys ≡ xs
      → Merges is_sound stands leaves may reason book book false false xs ys []
  merges_none {book} xs ys kept = record {
    is_merged = merged_none xs ys kept;
    stopping = All-nil IsNoStop;
    ends = λ sound s stood. (s, refl, stood);
    reasons = λ sound first. why.ends_none (may first book) (reason first book);
  }

  pub merges_then : {a b c : B} (failed stopped : Bool) (xs ys zs : List (List Exchange)) (ms ns : List Slotted) → (is_sound c → is_sound b)
      → Merges is_sound stands leaves may reason a b false false xs ys ms
      → Merges is_sound stands leaves may reason b c failed stopped ys zs ns
      → Merges is_sound stands leaves may reason a c failed stopped xs zs (ms ++ ns)
  merges_then {a} {c = c} failed stopped xs ys zs ms ns back x y =
      let parts : map exchange_of (ms ++ ns) ≡ map exchange_of ms ++ map exchange_of ns = map-append exchange_of ms ns in record {
        is_merged = merged_then xs ys zs ms ns x.is_merged y.is_merged;
        stopping = subst (StopAtLast stopped) (sym parts)
            (stops_then stopped (map exchange_of ms) (map exchange_of ns) x.stopping y.stopping);
        ends = λ sound s was.
            let first = x.ends (back sound) s was in
            subst (Ends failed (stands c) (leaves c) s) (sym parts)
            (ends_then failed (stands c) (leaves c) (map exchange_of ms) (map exchange_of ns) s first.0 first.1 (y.ends sound first.0 first.2));
        reasons = subst (HasReasons is_sound may reason a c failed) (sym parts)
            (λ sound first. why.ends_then failed (map exchange_of ms) (map exchange_of ns) (x.reasons (back sound) first) (y.reasons sound first));
      }

module _ {X : Type 0} (f : X → List Exchange) {B : Type 0} {is_sound : B → Type 0} {stands : B → State → Type 0} {leaves : B → State → State → Type 0}
    {may : B → B → State → Asks → Type 0} {reason : B → B → State → State → Type 0} {from to : B} {failed stopped : Bool} where
  -- one slot went on
  pub merges_set : (slots : List X) (i : ℕ) (d new : X) → i < length slots
      → (x : GoesOnByOne is_sound stands leaves may reason from to failed stopped (f (slice_index_or slots i d)) (f new))
      → Merges is_sound stands leaves may reason from to failed stopped (map f slots) (map f (slice_set slots i new)) (slotted_at i x.goes_on.exchanges)
  merges_set slots i d new within x =
      let more = x.goes_on.exchanges in
      let added : since (f (slice_index_or slots i d)) (f new) ≡ map exchange_of (slotted_at i more) =
      since_more (f (slice_index_or slots i d)) (f new) more x.goes_on.more ∙ sym (exchanges-slotted_at i more) in record {
        is_merged = merged_set f slots i d new more within x.goes_on.more;
        stopping = subst (StopAtLast stopped) added x.stopping;
        ends = λ sound s was. subst (Ends failed (stands to) (leaves to) s) (sym (exchanges-slotted_at i more)) (x.goes_on.ends sound s was);
        reasons = subst (HasReasons is_sound may reason from to failed) added x.reasons;
      }

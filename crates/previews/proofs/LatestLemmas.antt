-- The option with which a step was done last: it is the one that stands, if any does. For the compensation of the step,
-- and for reading the items of a journey.
use Rattle.std.proofs.Common.{◌≡◌, ℕ, List, [], ◌∷◌, ◌++◌, refl, ap, sym, ◌∙◌, append-nil, eq-eqb, eqb-true, Bool, false, ◌==◌, ◌||◌, if◌then◌else◌, filter_map, Option, Some, None, arith}
use Rattle.std.proofs.lemmas.Bool.{false_from_ne_true}
use Rattle.std.proofs.lemmas.List.Elements.{filter_map-append}
use Rattle.std.specs.List.{cons_option, list_any}
use Rattle.commands.specs.declared.items.Item.{Item}
use Rattle.commands.specs.declared.items.Item.TheVariants.{Transaction, Compensation, Turn, Save}
use Rattle.ledger.specs.History.{net, last_of, is_compensation_of}
use Rattle.ledger.proofs.Lists.{last_of-is, last_of-append}
use Rattle.ledger.specs.JourneyChanges.{newer}
use Rattle.saga_core.specs.RowSources.{Hands}
use Rattle.reports.proofs.TakeLemmas.{Taken, taken_all, taken_more, taken_none}
use Rattle.previews.specs.Previews.{latest_option, option_done}

-- What stands.

-- the option of a transaction that stands, if it is of this step
abbrev picked : ℕ → ℕ × ℕ → Option ℕ
picked i t = if i == t.0 then Some t.1 else None

-- the options of the transactions of a step that stand, and of all of them
abbrev that_stand : ℕ → List Item → List ℕ
that_stand i h = filter_map (picked i) (net h)

abbrev all_done : ℕ → List Item → List ℕ
all_done i h = filter_map (option_done i) h

-- the option of a transaction of step k, if it is sought
abbrev if_same : Bool → ℕ → Option ℕ
if_same same d = if same then Some d else None

or_second : (b c : Bool) → (b || c) ≡ false → c ≡ false
or_second b c e = grind arith

-- without a compensation of the step, each of its transactions stands
untouched : (i : ℕ) (h : List Item) → list_any (is_compensation_of i) h ≡ false → that_stand i h ≡ all_done i h
untouched i [] e = refl
untouched i (Transaction k d ∷ later) e = grind (arith, eqb-true, false_from_ne_true, untouched i later e)
untouched i (Compensation k d ∷ later) e = untouched i later (or_second (i == k) _ e)
untouched i (Turn p cause ∷ later) e = untouched i later e
untouched i (Save p ∷ later) e = untouched i later e

-- a last element stays the last
last_of-before : (d : ℕ) (xs : List ℕ) (c : ℕ) → last_of xs ≡ Some c → last_of (d ∷ xs) ≡ Some c
last_of-before d xs c e = grind arith

-- the last option that stands was the last one that was done
last_stands : (i : ℕ) (h : List Item) (c : ℕ) → last_of (that_stand i h) ≡ Some c → last_of (all_done i h) ≡ Some c
last_stands i [] c e = cc
last_stands i (Transaction k d ∷ later) c e =
    go (λ f. last_stands i later c f) (list_any (is_compensation_of k) later) refl (i == k) refl e
  where
    with_same : (same : Bool) → (i == k) ≡ same
        → last_of (cons_option (if_same (i == k) d) (that_stand i later)) ≡ Some c
        → last_of (cons_option (if_same same d) (that_stand i later)) ≡ Some c
    with_same same s f = ap (λ b. last_of (cons_option (if_same b d) (that_stand i later))) (sym s) ∙ f

    go : (last_of (that_stand i later) ≡ Some c → last_of (all_done i later) ≡ Some c)
        → (gone : Bool) → list_any (is_compensation_of k) later ≡ gone → (same : Bool) → (i == k) ≡ same
        → last_of (filter_map (picked i) (if gone then net later else (k, d) ∷ net later)) ≡ Some c
        → last_of (cons_option (if_same (i == k) d) (all_done i later)) ≡ Some c
    go more gone g same s f = grind (arith, last_of-before, eqb-true, untouched, with_same, all_done)
last_stands i (Compensation k d ∷ later) c e = last_stands i later c e
last_stands i (Turn p cause ∷ later) c e = last_stands i later c e
last_stands i (Save p ∷ later) c e = last_stands i later c e

-- the last step that stands was done last with the option that it took
pub latest-standing : (h : List Item) (i c : ℕ) → last_of (net h) ≡ Some (i, c) → latest_option i h ≡ Some c
latest-standing h i c last =
    let cut = last_of-is (net h) (i, c) last in
    last_stands i h c
    (ap (λ ts. last_of (filter_map (picked i) ts)) cut.1
    ∙ ap last_of (filter_map-append (picked i) cut.0 ((i, c) ∷ []))
    ∙ ap (λ b. last_of (filter_map (picked i) cut.0 ++ cons_option (if_same b c) [])) (eq-eqb i i refl)
    ∙ last_of-append (filter_map (picked i) cut.0) c [])

-- Reading the items.

-- one more item: the option of a transaction of the step is newer than what was found before
latest-more : (i : ℕ) (h : List Item) (x : Item)
    → latest_option i (h ++ x ∷ []) ≡ newer (option_done i x) (latest_option i h)
latest-more i h x = grind (arith, filter_map-append, append-nil, last_of-append)

-- these items were read, and the others remain
pub record Read (i : ℕ) (rests : List Item → Type 0) (all : List Item) (latest : Option ℕ) : Type 0 where
  pub passed : List Item
  pub taken : Taken rests all passed
  pub latest_is : latest ≡ latest_option i passed

-- none was read
pub reads_none : (i : ℕ) (rests : List Item → Type 0) (all : List Item) → rests all → Read i rests all None
reads_none i rests all remain = record { passed = []; taken = taken_none all remain; latest_is = refl }

module _ (i : ℕ) (rested rests : List Item → Type 0) (all : List Item) (latest : Option ℕ) where
  -- one more was
  pub reads_more : (x : Item) (o : Option ℕ) → Read i rested all latest → Hands rested rests (Some x)
      → o ≡ newer (option_done i x) latest → Read i rests all o
  reads_more x o at hands is = record {
    passed = at.passed ++ x ∷ [];
    taken = taken_more at.taken rests hands;
    latest_is = is ∙ ap (newer (option_done i x)) at.latest_is ∙ sym (latest-more i at.passed x);
  }

  -- there is no other
  pub reads_all : Read i rested all latest → Hands rested rests None → (latest ≡ latest_option i all) × rests []
  reads_all at hands =
      let whole = taken_all at.taken rests hands in
      (at.latest_is ∙ ap (latest_option i) (sym whole.0), whole.1)

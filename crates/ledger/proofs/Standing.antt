-- What one more item does to the transactions that stand. For the modes of a journey and for places.
use Rattle.std.proofs.Common.{◌≡◌, ℕ, zero, suc, ◌+◌, ◌≤◌, List, [], ◌∷◌, ◌++◌, length, map, refl, ap, sym, ◌∙◌, arith, length-append, append-nil, eq-eqb, false, filter, not, ◌==◌, Some}
use Rattle.std.proofs.Math.Bool.{or-false}
use Rattle.std.proofs.lemmas.Bool.{ne_eqb, not_from_false}
use Rattle.std.proofs.lemmas.List.{map-append}
use Rattle.std.proofs.lemmas.List.Elements.{filter-append}
use Rattle.std.proofs.lemmas.List.Folds.{list_any-append}
use Rattle.std.specs.List.{list_any}
use Rattle.allotment.specs.Cells.{numbers_from}
use Rattle.commands.specs.declared.items.Cause.{Cause}
use Rattle.commands.specs.declared.items.Item.{Item}
use Rattle.commands.specs.declared.items.Item.TheVariants.{Transaction, Compensation, Turn, Save}
use Rattle.ledger.specs.History.{last_of, net, position_of, is_compensation_of}
use Rattle.ledger.proofs.Lists.{last_of-is, snoc-same}
use Rattle.ledger.proofs.Numbers.{numbers_from-append}

-- the steps that stand
abbrev pub standing : List Item → List ℕ
standing h = map (λ t. t.0) (net h)

-- an item that does not compensate step i does not change whether one does
pub compensated-other : (i : ℕ) (later : List Item) (x : Item) → is_compensation_of i x ≡ false
    → list_any (is_compensation_of i) (later ++ x ∷ []) ≡ list_any (is_compensation_of i) later
compensated-other i later x other = simp (list_any-append, other, or-false)

-- What each item does to the list of what stands.

-- an item that compensates nothing appends what it adds, since what stood still stands
net-other : (h : List Item) (x : Item) → ((i : ℕ) → is_compensation_of i x ≡ false)
    → net (h ++ x ∷ []) ≡ net h ++ net (x ∷ [])
net-other [] x other = refl
net-other (Transaction i c ∷ h) x other = grind (arith, compensated-other i h x (other i), net-other h x other)
net-other (_ ∷ h) x other = net-other h x other

-- a transaction is appended
pub net-transaction : (h : List Item) (i c : ℕ)
    → net (h ++ Transaction i c ∷ []) ≡ net h ++ (i, c) ∷ []
net-transaction h i c = net-other h (Transaction i c) (λ j. refl)

-- a turn leaves what stands
pub net-turn : (h : List Item) (p : ℕ) (cause : Cause) → net (h ++ Turn p cause ∷ []) ≡ net h
net-turn h p cause = net-other h (Turn p cause) (λ j. refl) ∙ append-nil (net h)

-- a save-point leaves what stands
pub net-save : (h : List Item) (p : ℕ) → net (h ++ Save p ∷ []) ≡ net h
net-save h p = net-other h (Save p) (λ j. refl) ∙ append-nil (net h)

-- a compensation removes every transaction of its step from what stands
pub net-compensation : (h : List Item) (i c : ℕ)
    → net (h ++ Compensation i c ∷ []) ≡ filter (λ t. not (t.0 == i)) (net h)
net-compensation [] i c = refl
net-compensation (Transaction j d ∷ h) i c = grind (arith, list_any-append, or-false, net-compensation h i)
net-compensation (_ ∷ h) i c = net-compensation h i c

-- Positions.

-- a transaction is one step further
pub position_of-transaction : (h : List Item) (i c : ℕ)
    → position_of (h ++ Transaction i c ∷ []) ≡ position_of h + 1
position_of-transaction h i c = grind (arith, net-transaction, length-append)

-- a turn does not move the journey
pub position_of-turn : (h : List Item) (p : ℕ) (cause : Cause)
    → position_of (h ++ Turn p cause ∷ []) ≡ position_of h
position_of-turn h p cause = ap length (net-turn h p cause)

-- a save-point does not move the journey
pub position_of-save : (h : List Item) (p : ℕ) → position_of (h ++ Save p ∷ []) ≡ position_of h
position_of-save h p = ap length (net-save h p)

-- Steps 1 to the position stand.

-- where the same transactions stand, the same steps do
pub standing-same : (g h : List Item) → net g ≡ net h → standing h ≡ numbers_from 1 (position_of h)
    → standing g ≡ numbers_from 1 (position_of g)
standing-same g h same e = rw same e

-- the next transaction adds the next step
pub standing-transaction : (h : List Item) (i c : ℕ) → i ≡ position_of h + 1
    → standing h ≡ numbers_from 1 (position_of h)
    → standing (h ++ Transaction i c ∷ [])
    ≡ numbers_from 1 (position_of (h ++ Transaction i c ∷ []))
standing-transaction h i c is e = grind (arith, net-transaction, map-append, numbers_from-append, position_of-transaction)

-- leaving out a number above all of these changes nothing
filter-above : (xs : List (ℕ × ℕ)) (first n m : ℕ) → map (λ t. t.0) xs ≡ numbers_from first n
    → first + n ≤ m → filter (λ t. not (t.0 == m)) xs ≡ xs
filter-above [] first n m e h = refl
filter-above (x ∷ xs) first zero m e h = cc
filter-above (x ∷ xs) first (suc n) m e h =
    let rest = filter-above xs (suc first) n m in grind (arith, not_from_false, ne_eqb)

-- what the compensation of the last transaction does: its step was the last that stood, the position is one lower, the
-- steps up to there stand, and no other transaction is gone
pub record Compensates (h : List Item) (i c : ℕ) : Type 0 where
  pub is_last : i ≡ position_of h
  pub lower : position_of (h ++ Compensation i c ∷ []) + 1 ≡ position_of h
  pub stands :
      standing (h ++ Compensation i c ∷ [])
      ≡ numbers_from 1 (position_of (h ++ Compensation i c ∷ []))
  pub left : net h ≡ net (h ++ Compensation i c ∷ []) ++ (i, c) ∷ []

-- where steps 1 to the position stand, the last of them is that of the position, so its compensation removes it alone
pub compensates : (h : List Item) (i c : ℕ) → standing h ≡ numbers_from 1 (position_of h)
    → last_of (net h) ≡ Some (i, c) → Compensates h i c
compensates h i c stands last =
    let cut = last_of-is (net h) (i, c) last in
    let front = cut.0 in
    let size : position_of h ≡ length front + 1 = ap length cut.1 ∙ length-append front ((i, c) ∷ []) in
    let numbered : map (λ t. t.0) front ++ i ∷ [] ≡ numbers_from 1 (length front) ++ (1 + length front) ∷ [] =
    sym (map-append (λ t. t.0) front ((i, c) ∷ [])) ∙ ap (map (λ t. t.0)) (sym cut.1) ∙ stands
    ∙ ap (numbers_from 1) size ∙ numbers_from-append 1 (length front) 1 in
    let same = snoc-same (map (λ t. t.0) front) (numbers_from 1 (length front)) i (1 + length front) numbered in
    let kept = filter-above front 1 (length front) i same.0 (omega (arith, same.1)) in
    let left : net (h ++ Compensation i c ∷ []) ≡ front =
    net-compensation h i c ∙ ap (filter (λ t. not (t.0 == i))) cut.1
    ∙ grind (arith, filter-append, eq-eqb, append-nil) in
    record {
      is_last = omega (arith, same.1);
      lower = let size_left = ap length left in omega arith;
      stands = ap (map (λ t. t.0)) left ∙ same.0 ∙ ap (λ xs. numbers_from 1 (length xs)) (sym left);
      left = cut.1 ∙ ap (λ ts. ts ++ (i, c) ∷ []) (sym left);
    }

-- What one more item changes of the journey's target, of its save-points, and of how often it was refused. For its modes,
-- and for how many steps it may still make.
use Rattle.std.proofs.Common.{◌≡◌, ℕ, ◌+◌, ◌≤◌, List, [], ◌∷◌, ◌++◌, arith, eq-eqb, false, if◌then◌else◌, Bool, true, refl, ◌⊎◌, ap, ◌∙◌, ◌||◌, ◌==◌, IsTrue, reverse, ◌&&◌, not}
use Rattle.std.proofs.lemmas.Bool.{ltb-true, or_parts}
use Rattle.std.proofs.lemmas.List.Sums.{sum_by_push}
use Rattle.plan.specs.PlanModel.{Planned}
use Rattle.commands.specs.declared.items.Cause.TheVariants.{Refused, Stop, Asked}
use Rattle.commands.specs.declared.items.Item.{Item}
use Rattle.commands.specs.declared.items.Item.TheVariants.{Turn, Compensation, Save}
use Rattle.ledger.specs.History.{refusals, refused_target, is_refused_turn, has_turned_to_start, is_turn_to, may_come, position_of, going_to, latest_turn, is_taken, is_save_point, is_compensation_of}
use Rattle.ledger.proofs.Coming.{refused-comes}
use Rattle.commands.specs.declared.items.Cause.{Cause}
use Rattle.std.proofs.Math.Bool.{or-false}
use Rattle.std.proofs.lemmas.Bool.Decides.{nat_tests}
use Rattle.std.proofs.lemmas.List.{reverse-append}
use Rattle.std.proofs.lemmas.List.Folds.{list_any-append}
use Rattle.ledger.proofs.Standing.{compensated-other, position_of-turn}
use Rattle.ledger.specs.JourneyChanges.{is_taken_after}

-- Its target.

-- one more item ends the way back, sets its target, or leaves it
pub going_to-more : (h : List Item) (x : Item) → going_to (h ++ x ∷ []) ≡ latest_turn (x ∷ reverse h)
going_to-more h x = ap latest_turn (reverse-append h (x ∷ []))

-- a journey has turned to its start if it had before, or if the new item is such a turn
pub turned-more : (h : List Item) (x : Item)
    → has_turned_to_start (h ++ x ∷ []) ≡ (has_turned_to_start h || is_turn_to 0 x)
turned-more h x = grind (arith, nat_tests, list_any-append, or-false)

-- an item that is no turn to the start does not change whether there was one
pub turned-other : (h : List Item) (x : Item) → is_turn_to 0 x ≡ false
    → has_turned_to_start (h ++ x ∷ []) ≡ has_turned_to_start h
turned-other h x other = grind (arith, nat_tests, turned-more, or-false)

-- where there was none, there is one after a turn to 0 alone
pub turned-turn : (h : List Item) (p : ℕ) (cause : Cause) → has_turned_to_start h ≡ false
    → has_turned_to_start (h ++ Turn p cause ∷ []) ≡ (0 == p)
turned-turn h p cause e = turned-more h (Turn p cause) ∙ ap (λ b. b || (0 == p)) e

-- Save-points.

-- an item that neither takes nor compensates p does not change whether a save-point was taken there
pub is_taken-other : (h : List Item) (x : Item) (p : ℕ) → is_compensation_of p x ≡ false
    → is_taken (x ∷ []) p ≡ false → is_taken (h ++ x ∷ []) p ≡ is_taken h p
is_taken-other [] x p other same = same
is_taken-other (Save q ∷ h) x p other same = grind (arith, nat_tests, is_taken-other h x p other same, compensated-other)
is_taken-other (_ ∷ h) x p other same = is_taken-other h x p other same

-- p is the start or a save-point after a turn if it was so before
pub kept-turn : (plan : Planned) (h : List Item) (q : ℕ) (cause : Cause) (p : ℕ)
    → (p ≡ 0) ⊎ IsTrue (is_save_point plan h p)
    → (p ≡ 0) ⊎ IsTrue (is_save_point plan (h ++ Turn q cause ∷ []) p)
kept-turn plan h q cause p x = grind (arith, nat_tests, position_of-turn, is_taken-other)

-- a save-point that the journey has not passed stays when another step is compensated
pub is_save_point-compensation : (plan : Planned) (h : List Item) (i c p : ℕ)
    → p ≤ position_of (h ++ Compensation i c ∷ []) → (p ≡ i → ⊥)
    → is_save_point plan h p ≡ true → is_save_point plan (h ++ Compensation i c ∷ []) p ≡ true
is_save_point-compensation plan h i c p low other e = grind (arith, nat_tests, is_taken-other)

-- a save-point adds one to those that were taken
is_taken-save : (h : List Item) (q p : ℕ)
    → is_taken (h ++ Save q ∷ []) p ≡ ((p == q) || is_taken h p)
is_taken-save [] q p = grind arith
is_taken-save (Save r ∷ h) q p = grind (arith, compensated-other p h (Save q) refl, is_taken-save h q p)
is_taken-save (_ ∷ h) q p = is_taken-save h q p

-- the compensation of step i drops the save-point at i, and no other
is_taken-compensation : (h : List Item) (i c p : ℕ)
    → is_taken (h ++ Compensation i c ∷ []) p ≡ (not (p == i) && is_taken h p)
is_taken-compensation [] i c p = grind arith
is_taken-compensation (Save r ∷ h) i c p = grind (arith, list_any-append, or-false, is_taken-compensation h i c)
is_taken-compensation (_ ∷ h) i c p = is_taken-compensation h i c p

-- each item changes the save-points that were taken as the rule says
pub is_taken-more : (h : List Item) (x : Item) (p : ℕ)
    → is_taken (h ++ x ∷ []) p ≡ is_taken_after x (is_taken h) p
is_taken-more h x p = grind (arith, is_taken-other, is_taken-compensation, is_taken-save)

-- Refusals.

-- it was refused no more often than it has tries, unless it has turned to its start
abbrev pub HasTries : Planned → List Item → Type 0
HasTries plan h = has_turned_to_start h ≡ false → refusals h ≤ plan.tries

-- only a refused turn is one more refusal
pub refusals-more : (h : List Item) (x : Item) → refusals (h ++ x ∷ []) ≡ refusals h + (if is_refused_turn x then 1 else 0)
refusals-more h x = sum_by_push (λ y. if is_refused_turn y then 1 else 0) h x

-- an item that is no refused turn does not change how often the journey was refused
pub refusals-other : (h : List Item) (x : Item) → is_refused_turn x ≡ false → refusals (h ++ x ∷ []) ≡ refusals h
refusals-other h x other = grind (arith, refusals-more)

-- where a history with one more item has not turned to the start, neither the history nor the item has
unturned-parts : (h : List Item) (x : Item) → has_turned_to_start (h ++ x ∷ []) ≡ false
    → (has_turned_to_start h ≡ false) × (is_turn_to 0 x ≡ false)
unturned-parts h x e = grind (arith, or_parts, turned-more)

-- an item that is no refused turn leaves the tries
pub has_tries-other : (plan : Planned) (h : List Item) (x : Item) → is_refused_turn x ≡ false
    → HasTries plan h → HasTries plan (h ++ x ∷ [])
has_tries-other plan h x other has unturned = grind (arith, refusals-other, unturned-parts)

-- a refused turn leads to the start where no try is left, and else uses one
pub has_tries-refused : (plan : Planned) (h : List Item) (p : ℕ) → p ≡ refused_target plan h
    → HasTries plan h → HasTries plan (h ++ Turn p Refused ∷ [])
has_tries-refused plan h p is has unturned = grind (arith, unturned-parts, ltb-true, refusals-more, eq-eqb)

-- each turn that may come does one or the other
pub has_tries-turn : (plan : Planned) (h : List Item) (fits : Bool) (p : ℕ) (cause : Cause)
    → may_come plan h fits (Turn p cause) ≡ true → HasTries plan h → HasTries plan (h ++ Turn p cause ∷ [])
has_tries-turn plan h fits p Refused may has = has_tries-refused plan h p (refused-comes plan h fits p may).target has
has_tries-turn plan h fits p Stop may has = has_tries-other plan h (Turn p Stop) refl has
has_tries-turn plan h fits p Asked may has = has_tries-other plan h (Turn p Asked) refl has

-- The set of the save-points that were taken, as a desk stores it: what it means for a history, and what one more item
-- changes of it.
use Rattle.std.proofs.Common.{◌≡◌, ℕ, zero, suc, ◌+◌, ◌-◌, ◌≤◌, List, [], ◌∷◌, ◌++◌, ap, sym, ◌∙◌, arith, eqb-true, Bool, true, false, not, ◌==◌, ◌||◌, ◌&&◌, filter, nat_le, nat_lt, IsTrue}
use Rattle.std.proofs.lemmas.Bool.{eqb-false, le-leb, lt-leb}
use Rattle.std.proofs.lemmas.Bool.Decides.{nat_tests}
use Rattle.std.specs.FinSet as set
use Rattle.std.specs.FinSet.{contains-from_list_nat}
use Rattle.std.specs.List.{list_any}
use Rattle.std.specs.Ordering.{nat_cmp}
use Rattle.allotment.specs.Cells.{numbers_from}
use Rattle.plan.specs.PlanModel.{Planned}
use Rattle.plan.specs.Marks.{last_mark, is_taken_in, same_marks}
use Rattle.commands.specs.declared.items.Cause.{Cause}
use Rattle.commands.specs.declared.items.Item.{Item}
use Rattle.commands.specs.declared.items.Item.TheVariants.{Transaction, Compensation, Turn, Save}
use Rattle.ledger.specs.History.{position_of, is_taken, is_save_point, last_save, refused_target, refusals, may_come}
use Rattle.plan.specs.Rules as rules
use Rattle.ledger.specs.Cursors.{marks_of}
use Rattle.ledger.proofs.Histories.{Follows, follows-more}
use Rattle.ledger.proofs.Items.{compensation-step, compensation_above}
use Rattle.ledger.proofs.Taking.{is_taken-more}

-- Members.

-- of so many consecutive numbers those that pass are the members, and no others
list_any-filter : (passes : ℕ → Bool) (first more p : ℕ)
    → list_any (λ q. q == p) (filter passes (numbers_from first more))
    ≡ (nat_le first p && nat_lt p (first + more) && passes p)
list_any-filter passes first zero p = grind (arith, nat_tests)
list_any-filter passes first (suc more) p = let later = list_any-filter passes (suc first) more p in grind (arith, nat_tests)

-- Histories.

-- a position is in the set of a history where a save-point was taken there
pub is_taken_in-marks_of : (plan : Planned) (h : List Item) (p : ℕ) → Follows plan h
    → is_taken_in (marks_of h) p ≡ is_taken h p
is_taken_in-marks_of plan h p f =
    let test = contains-from_list_nat (filter (is_taken h) (numbers_from 1 last_mark)) p in
    let members = list_any-filter (is_taken h) 1 last_mark p in grind (arith, nat_tests, f.taken p)

-- a set with those members is the set of the history
pub marks_of-is : (plan : Planned) (h : List Item) (marks : set.FinSet nat_cmp) → Follows plan h
    → ((p : ℕ) → is_taken_in marks p ≡ is_taken h p) → marks ≡ marks_of h
marks_of-is plan h marks f same =
    same_marks marks (marks_of h) (λ p. same p ∙ sym (is_taken_in-marks_of plan h p f))

-- nothing both passes and fails
nothing : (b : Bool) → (b && false) ≡ false
nothing b = grind arith

-- a journey that is just begun took none
pub marks_of-begin : (marks : set.FinSet nat_cmp) → ((p : ℕ) → is_taken_in marks p ≡ false)
    → marks ≡ marks_of []
marks_of-begin marks none =
    same_marks marks (marks_of [])
    (λ p. none p ∙ sym (contains-from_list_nat (filter (is_taken []) (numbers_from 1 last_mark)) p
    ∙ list_any-filter (is_taken []) 1 last_mark p ∙ nothing _))

-- The rules by the set.

-- the tests of the save-points that were taken are those of the set
pub taken_by-marks : (plan : Planned) (h : List Item) → Follows plan h
    → is_taken h ≡ is_taken_in (marks_of h)
taken_by-marks plan h f = λ i p. sym (is_taken_in-marks_of plan h p f) i

-- the last save-point, by the set
pub last_save_by-marks : (plan : Planned) (h : List Item) → Follows plan h
    → last_save plan h ≡ rules.last_save plan (is_taken_in (marks_of h)) (position_of h)
last_save_by-marks plan h f =
    ap (λ taken. rules.last_save plan taken (position_of h)) (taken_by-marks plan h f)

-- where a refused step leads, by the set
pub refused_target_by-marks : (plan : Planned) (h : List Item) → Follows plan h
    → refused_target plan h ≡ rules.refused_target plan (is_taken_in (marks_of h)) (position_of h)
    (refusals h)
refused_target_by-marks plan h f =
    ap (λ taken. rules.refused_target plan taken (position_of h) (refusals h))
    (taken_by-marks plan h f)

-- whether a save-point stands, by the set
pub is_save_point_by-marks : (plan : Planned) (h : List Item) (p : ℕ) → Follows plan h
    → is_save_point plan h p ≡ rules.is_save_point plan (is_taken_in (marks_of h)) (position_of h) p
is_save_point_by-marks plan h p f =
    ap (λ taken. rules.is_save_point plan taken (position_of h) p) (taken_by-marks plan h f)

-- One more item.

-- a save-point adds one member to the set
pub marks_of-save : (plan : Planned) (h : List Item) (may_fit : Bool) (p : ℕ)
    (marks : set.FinSet nat_cmp)
    → Follows plan h → IsTrue (may_come plan h may_fit (Save p))
    → ((q : ℕ) → is_taken_in marks q ≡ ((q == p) || is_taken_in (marks_of h) q))
    → marks ≡ marks_of (h ++ Save p ∷ [])
marks_of-save plan h may_fit p marks f may added =
    marks_of-is plan (h ++ Save p ∷ []) marks (follows-more plan h may_fit (Save p) f may)
    (λ q. added q ∙ ap (λ b. (q == p) || b) (is_taken_in-marks_of plan h q f)
    ∙ sym (is_taken-more h (Save p) q))

-- save-points stand up to the position: leaving out that of the last step leaves out those above the step before
cut_below : (q i pos : ℕ) (taken : Bool) → i ≡ pos → 1 ≤ pos → (taken ≡ true → q ≤ pos)
    → (nat_le q (pos - 1) && taken) ≡ (not (q == i) && taken)
cut_below q i pos taken step above reached = grind (arith, eqb-true, lt-leb, eqb-false, le-leb)

-- a compensation cuts the set at the new position
pub marks_of-compensation : (plan : Planned) (h : List Item) (may_fit : Bool) (i c : ℕ)
    (marks : set.FinSet nat_cmp) → Follows plan h
    → IsTrue (may_come plan h may_fit (Compensation i c))
    → ((q : ℕ) → is_taken_in marks q ≡ (nat_le q (position_of h - 1) && is_taken_in (marks_of h) q))
    → marks ≡ marks_of (h ++ Compensation i c ∷ [])
marks_of-compensation plan h may_fit i c marks f may cut =
    marks_of-is plan (h ++ Compensation i c ∷ []) marks
    (follows-more plan h may_fit (Compensation i c) f may)
    (λ q. cut q
    ∙ ap (λ b. nat_le q (position_of h - 1) && b) (is_taken_in-marks_of plan h q f)
    ∙ cut_below q i (position_of h) (is_taken h q) (compensation-step plan h may_fit i c f may)
    (compensation_above plan h may_fit i c f may)
    (λ e. (f.taken q e).reached)
    ∙ sym (is_taken-more h (Compensation i c) q))

-- a transaction leaves the set
pub marks_of-transaction : (h : List Item) (i c : ℕ)
    → marks_of (h ++ Transaction i c ∷ []) ≡ marks_of h
marks_of-transaction h i c = simp is_taken-more

-- a turn leaves the set
pub marks_of-turn : (h : List Item) (p : ℕ) (cause : Cause)
    → marks_of (h ++ Turn p cause ∷ []) ≡ marks_of h
marks_of-turn h p cause = simp is_taken-more

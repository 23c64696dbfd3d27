-- The plan and the save-points of a journey's record. For Readings, and for reads of journeys.
use Rattle.std.proofs.Common.{◌≡◌, ℕ, List, filter, Bool, true, false, Some, IsTrue, refl, sym, ap, ◌∙◌, arith, eqb-true, nat_eq, ◌&&◌, rules}
use Rattle.std.specs.FinSet as set
use Rattle.std.specs.List.{list_any}
use Rattle.std.specs.Ordering.{nat_cmp}
use Rattle.std.proofs.lemmas.Bool.{and_parts, or_left, or_right, leb-true, eqb-false}
use Rattle.std.proofs.lemmas.Map.Views.{any-filter_same}
use Rattle.allotment.specs.Limits.{is_between}
use Rattle.allotment.specs.Cells.{numbers_from}
use Rattle.plan.specs.Marks.{last_mark, is_taken_in, AreInRange, same_marks}
use Rattle.plan.specs.PlanModel.{is_plan}
use Rattle.commands.specs.declared.items.Item.{Item}
use Rattle.ledger.specs.History.{is_taken}
use Rattle.ledger.specs.Ledger.{Event, Journey, journey_at, IsLegal}
use Rattle.ledger.proofs.Histories.{follows}
use Rattle.saga_core.specs.Views.{marks_of}

-- each journey of a legal ledger has a plan that keeps the limits
pub plan_good : (l : List Event) (j : ℕ) (a : Journey) → IsLegal l → journey_at l j ≡ Some a
    → IsTrue (is_plan a.plan)
plan_good l j a legal e = (follows l legal j a e).good

-- a number from 1 to the last mark is in the list
low_numbers : (p : ℕ) → is_between 1 last_mark p ≡ true
    → list_any (λ y. nat_eq y p) (numbers_from 1 last_mark) ≡ true
low_numbers p e = search (rules, arith, and_parts, leb-true, or_left, eqb-false, or_right)

-- marks that are set where a save-point stands are the marks of the history
pub marks_told : (h : List Item) (marks : set.FinSet nat_cmp)
    → ((p : ℕ) → is_taken_in marks p ≡ is_taken h p) → AreInRange marks → marks ≡ marks_of h
marks_told h marks says low = same_marks marks (marks_of h) (λ p. says p ∙ sym (at p))
  where
    at : (p : ℕ) → is_taken_in (marks_of h) p ≡ is_taken h p
    at p =
        set.contains-from_list_nat (filter (is_taken h) (numbers_from 1 last_mark)) p
        ∙ any-filter_same (λ y. nat_eq y p) (is_taken h) (is_taken h p) (λ y e. ap (is_taken h) (eqb-true y p e))
        (numbers_from 1 last_mark)
        ∙ go (is_taken h p) refl
      where
        go : (v : Bool) → is_taken h p ≡ v
            → (v && list_any (λ y. nat_eq y p) (numbers_from 1 last_mark)) ≡ v
        go true e = low_numbers p (low p (says p ∙ e))
        go false e = refl

-- Invariants of the history of each journey of a legal ledger: it follows the rules. For what an item changes, and for
-- answers.
use Rattle.std.proofs.Common.{◌≡◌, ℕ, ◌<◌, ◌≤◌, List, [], ◌∷◌, ◌++◌, map, refl, sym, ◌∙◌, arith, subst, eqb-true, Bool, true, filter, Some, IsTrue}
use Rattle.std.proofs.lemmas.Bool.{and_parts, or_cases, and_from, eqb-false, ltb-true, le-leb, not-true}
use Rattle.std.proofs.lemmas.List.Folds.{list_all-append}
use Rattle.std.specs.List.{list_all}
use Rattle.plan.specs.Limits.{most_steps}
use Rattle.plan.proofs.LimitLemmas.{few_steps}
use Rattle.allotment.specs.Cells.{numbers_from}
use Rattle.allotment.specs.Limits.{is_between}
use Rattle.plan.specs.PlanModel.{Planned, is_plan, step_count, option_count}
use Rattle.plan.proofs.ChoiceLemmas.{one_le-option_count}
use Rattle.commands.specs.declared.items.Item.{Item}
use Rattle.commands.specs.declared.items.Item.TheVariants.{Transaction, Compensation, Turn, Save}
use Rattle.ledger.specs.History.{net, position_of, is_taken, may_come, next_want}
use Rattle.ledger.specs.Ledger.{Event, Journey, journey_at, history, IsLegal, Did, fits, is_allowed}
use Rattle.ledger.proofs.Coming.{step-comes, compensation-comes}
use Rattle.ledger.proofs.Journeys.{goes-begin, goes-more}
use Rattle.ledger.proofs.Modes.{Goes, running-rises, position_of-most}
use Rattle.ledger.proofs.Standing.{compensates, net-transaction, net-compensation, net-turn, net-save, position_of-transaction, position_of-turn, position_of-save}
use Rattle.ledger.specs.Legal.{HasHistory}
use Rattle.ledger.proofs.Taking.{is_taken-more}
use Rattle.ledger.proofs.Growing.{is_item_allowed-may_do}
use Rattle.ledger.proofs.Ledgers.{each_journey, AtBegin}

-- an item may come next in its journey
pub may_come-allowed : (l : List Event) (j : ℕ) (a : Journey) (x : Item) → journey_at l j ≡ Some a
    → IsTrue (is_allowed l (Did j x))
    → IsTrue (may_come a.plan (history l j) (fits l (next_want a.plan (history l j))) x)
may_come-allowed l j a x at may = sym (is_item_allowed-may_do l j x a at) ∙ may

-- What holds of each history.

-- the plan has this option of this step
abbrev pub is_option_of : Planned → ℕ × ℕ → Bool
is_option_of plan t = is_between 1 (option_count plan t.0) t.1

-- a save-point that was taken at p stands between the first step and the position, and below the last step
pub record IsWithin (plan : Planned) (h : List Item) (p : ℕ) : Type 0 where
  pub from_one : 1 ≤ p
  pub reached : p ≤ position_of h
  pub short : p < step_count plan

-- the history follows the rules: it is one that a journey of a legal ledger may have
pub record Follows (plan : Planned) (h : List Item) : Type 0 where
  pub good : IsTrue (is_plan plan)
  pub few : step_count plan ≤ most_steps
  pub goes : Goes plan h
  pub within : position_of h ≤ step_count plan
  -- the steps that stand are those up to the position, in order
  pub stands : map (λ t. t.0) (net h) ≡ numbers_from 1 (position_of h)
  -- each with one of its options
  pub options : list_all (is_option_of plan) (net h) ≡ true
  pub taken : (p : ℕ) → IsTrue (is_taken h p) → IsWithin plan h p

-- One more item.

-- if all elements of a list pass, so do those of a filtered list
filter-passing : {X : Type 0} (p keeps : X → Bool) (xs : List X) → list_all p xs ≡ true
    → list_all p (filter keeps xs) ≡ true
filter-passing p keeps [] all = refl
filter-passing p keeps (x ∷ xs) all = grind (arith, and_parts, and_from, filter-passing p keeps xs)

module _ (plan : Planned) (h : List Item) (may_fit : Bool) (f : Follows plan h) where
  -- one more item leaves a save-point within, if the position is not below it
  still : (x : Item) (p : ℕ) → IsTrue (is_taken h p) → p ≤ position_of (h ++ x ∷ []) → IsWithin plan (h ++ x ∷ []) p
  still x p before here = grind (arith, f.taken p before)

  -- each item that may come leaves the save-points within: one is taken where the journey runs, above the start, and a
  -- compensation drops that of its step, so that the others are below
  taken-more : (x : Item) → IsTrue (may_come plan h may_fit x) → (p : ℕ) → IsTrue (is_taken (h ++ x ∷ []) p)
      → IsWithin plan (h ++ x ∷ []) p
  taken-more (Transaction i c) may p e = grind (arith, is_taken-more, still, position_of-transaction)
  taken-more (Compensation i c) may p e =
      grind (arith, is_taken-more, and_parts, compensates, compensation-comes, eqb-false, not-true, still)
  taken-more (Turn q cause) may p e = grind (arith, is_taken-more, still, position_of-turn)
  taken-more (Save q) may p e =
      grind (arith, is_taken-more, position_of-save, or_cases, still, eqb-true, and_parts, ltb-true, running-rises)

  -- each item that may come leaves each transaction with an option of its step
  options-more : (x : Item) → IsTrue (may_come plan h may_fit x) → list_all (is_option_of plan) (net (h ++ x ∷ [])) ≡ true
  options-more (Transaction i c) may =
      grind (arith, step-comes, net-transaction, list_all-append, and_from, one_le-option_count, le-leb, running-rises)
  options-more (Compensation i c) may = grind (arith, net-compensation, filter-passing)
  options-more (Turn p cause) may = grind (arith, net-turn)
  options-more (Save p) may = grind (arith, net-save)

-- Legal ledgers.

-- a journey that is just begun follows the rules
pub follows-begin : AtBegin Follows
follows-begin plan good = grind (arith, few_steps, goes-begin)

-- a journey follows the rules with each item that may come
pub follows-more : (plan : Planned) (h : List Item) (may_fit : Bool) (x : Item) → Follows plan h
    → IsTrue (may_come plan h may_fit x) → Follows plan (h ++ x ∷ [])
follows-more plan h may_fit x f may = grind (arith, goes-more, options-more, position_of-most, taken-more)

-- the history of each journey of a legal ledger follows the rules
pub follows : (l : List Event) → IsLegal l → (j : ℕ) (a : Journey) → journey_at l j ≡ Some a
    → Follows a.plan (history l j)
follows l legal = (each_journey Follows follows-begin (λ plan h fits x may f. follows-more plan h fits x f may) l legal).go

-- each history that a journey of some legal ledger has follows the rules
pub follows-of : (plan : Planned) (h : List Item) → HasHistory plan h → Follows plan h
follows-of plan h has =
    subst (Follows plan) has.past
    (subst (λ p. Follows p (history has.ledger has.number)) has.planned
    (follows has.ledger has.legal has.number has.journey has.at))

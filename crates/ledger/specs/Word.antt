-- The shape of a journey's history: up by transactions, down by compensations, and up again only from a save-point. To
-- the end, or all the way down.
use Rattle.std.specs.Prelude.{◌≡◌, ℕ, suc, ◌-◌, ◌<◌, ◌≤◌, ◌⊎◌, List, [], ◌∷◌, ◌++◌, map, reverse, IsTrue}
use Rattle.plan.specs.PlanModel.{Planned, step_count}
use Rattle.allotment.specs.Cells.{numbers_from}
use Rattle.ledger.specs.History.{is_save_point}
use Rattle.commands.specs.declared.items.Item.{Item}
use Rattle.commands.specs.declared.items.Item.TheVariants.{Transaction, Compensation}

-- a step that was done, or compensated
pub data Letter : Type 0 where
  Up : (step : ℕ) → Letter
  Down : (step : ℕ) → Letter

-- a history without its turns, save-points and options
abbrev pub word : List Item → List Letter
word [] = []
word (Transaction i c ∷ later) = Up i ∷ word later
word (Compensation i c ∷ later) = Down i ∷ word later
word (_ ∷ later) = word later

-- the steps from a + 1 to b are done, in this order
abbrev pub up : ℕ → ℕ → List Letter
up a b = map Up (numbers_from (suc a) (b - a))

-- the steps from b down to a + 1 are compensated, in this order
abbrev pub down : ℕ → ℕ → List Letter
down b a = map Down (reverse (numbers_from (suc a) (b - a)))

-- this part of a history goes up from one position to a top, short of the end, and down to another
pub record IsTurnPart (plan : Planned) (from top to : ℕ) (part : List Item) : Type 0 where
  pub rises : from ≤ top
  pub short : top < step_count plan
  pub falls : to ≤ top
  pub reads : word part ≡ up from top ++ down top to

-- this part ends with a compensation, and a save-point stands there at this position
pub record EndsAtSave (plan : Planned) (before part : List Item) (to : ℕ) : Type 0 where
  pub front : List Item
  pub step : ℕ
  pub option : ℕ
  pub ends : part ≡ front ++ Compensation step option ∷ []
  pub save : IsTrue (is_save_point plan (before ++ part) to)

-- the journey went up and down, each time down by no step or to a save-point that stood then, and
-- is at this position, about to go up
pub data Returns (plan : Planned) : List Item → ℕ → Type 0 where
  begins : Returns plan [] 0
  goes_on : (before part : List Item) (from top to : ℕ) → Returns plan before from
      → IsTurnPart plan from top to part → 0 < to
      → (to ≡ top) ⊎ EndsAtSave plan before part to → Returns plan (before ++ part) to

-- after some ups and downs it goes up to its end
pub record GoesToEnd (plan : Planned) (h : List Item) : Type 0 where
  pub before : List Item
  pub part : List Item
  pub from : ℕ
  pub returns : Returns plan before from
  pub whole : h ≡ before ++ part
  pub no_higher : from ≤ step_count plan
  pub reads : word part ≡ up from (step_count plan)

-- after some ups and downs it goes up, short of its end, and all the way down
pub record GoesToStart (plan : Planned) (h : List Item) : Type 0 where
  pub before : List Item
  pub part : List Item
  pub from : ℕ
  pub top : ℕ
  pub returns : Returns plan before from
  pub whole : h ≡ before ++ part
  pub turns : IsTurnPart plan from top 0 part

-- a whole up-and-down word: to the end, or all the way down
abbrev pub IsUpAndDown : Planned → List Item → Type 0
IsUpAndDown plan h = GoesToEnd plan h ⊎ GoesToStart plan h

-- with some more items it would be whole
abbrev pub BeginsUpAndDown : Planned → List Item → Type 0
BeginsUpAndDown plan h = (rest : List Item) × IsUpAndDown plan (h ++ rest)

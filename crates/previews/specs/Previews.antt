-- The preview of a journey: what a step of the house would do with it now, and the want on which that depends.
use Rattle.std.specs.Prelude.{◌≡◌, ◌+◌, ◌<◌, ◌≤◌, ℕ, ◌==◌, Bool, true, false, List, [], filter_map, find, if◌then◌else◌, IfSome, IsSome, Option, Some, None, option_map, option_and_then, Result, Ok, Err}
use Rattle.allotment.specs.Want.{Wanted}
use Rattle.plan.specs.PlanModel.{Planned, option_count, step_count, want_at}
use Rattle.plan.specs.Rules.{next_option}
use Rattle.commands.specs.Request.{Step}
use Rattle.commands.specs.declared.items.Cause.TheVariants.{Refused}
use Rattle.commands.specs.declared.items.Item.{Item}
use Rattle.commands.specs.declared.items.Item.TheVariants.{Transaction, Compensation, Turn, Save}
use Rattle.commands.specs.declared.items.Phase.TheVariants.{Back}
use Rattle.commands.specs.declared.replies.Fault.{Fault}
use Rattle.commands.specs.declared.replies.Fault.TheVariants.{Store}
use Rattle.ledger.specs.Answer.{answer_within}
use Rattle.ledger.specs.History.{last_of, may_come}
use Rattle.ledger.specs.Ledger.{Event, Journey, fits, history, item_of, IsLegal}
use Rattle.ledger.specs.Replies.{step_choices}
use Rattle.saga_core.specs.Views.{brief_of_journey, record_of}
use Rattle.saga_core.specs.declared.deciding.Move.{Move}
use Rattle.saga_core.specs.declared.deciding.Move.TheVariants as move
use Rattle.saga_core.specs.declared.records.Record.{Record}
use Rattle.previews.specs.Nights.{nights_of}
use Rattle.previews.specs.declared.nights.FreeNight.{FreeNight}
use Rattle.previews.specs.declared.steps.NextStep.{NextStep}
use Rattle.previews.specs.declared.steps.Preview.{Preview}

-- the want that an item takes or gives back
abbrev pub want_of : Planned → Item → Option Wanted
want_of plan (Transaction i c) = want_at plan i c
want_of plan (Compensation i c) = want_at plan i c
want_of plan (Turn p cause) = None
want_of plan (Save p) = None

-- the item with its want
abbrev pub the_next : Item → Wanted → NextStep
the_next x w = record { item = x; want = w }

abbrev pub with_want : Planned → Item → Option NextStep
with_want plan x = option_map (the_next x) (want_of plan x)

-- the next step of a journey: the item that a step makes if the next want fits, and the want of that item; a finished
-- journey has none
abbrev pub next_of : Planned → List Item → Option NextStep
next_of plan h = option_and_then (with_want plan) (find (may_come plan h true) (step_choices plan h))

-- the item that a step of the house makes in journey j now, unless the ledger is full; a finished journey has none
abbrev pub step_of : List Event → ℕ → Option Item
step_of l j = option_and_then (item_of j) (answer_within l None (Step j)).event

-- the preview of journey j
abbrev pub preview_of : List Event → ℕ → Journey → Preview
preview_of l j a = record {
  brief = brief_of_journey j (history l j) a;
  next = next_of a.plan (history l j);
  step = step_of l j;
}

-- the next transaction of a journey at this position, of which so many steps were refused, with its want
pub record IsStepUp (plan : Planned) (pos used : ℕ) (next : NextStep) : Type 0 where
  pub in_plan : pos < step_count plan
  pub item_is : next.item ≡ Transaction (pos + 1) (next_option plan pos used)
  pub want_is : want_at plan (pos + 1) (next_option plan pos used) ≡ Some next.want

-- that transaction was returned if the plan has a step after this position; else the fault is the store's
abbrev pub StepsUp : Planned → ℕ → ℕ → Result NextStep Fault → Type 0
StepsUp plan pos used (Ok next) = IsStepUp plan pos used next
StepsUp plan pos used (Err fault) = (step_count plan ≤ pos) × (fault ≡ Store)

-- the compensation of this step, which took this option, with its want
pub record IsStepDown (plan : Planned) (step option : ℕ) (next : NextStep) : Type 0 where
  pub item_is : next.item ≡ Compensation step option
  pub want_is : want_at plan step option ≡ Some next.want

-- the plan has this option of this step
pub record HasOption (plan : Planned) (step option : ℕ) : Type 0 where
  pub from_one : 1 ≤ step
  pub in_plan : step ≤ step_count plan
  pub first : 1 ≤ option
  pub last : option ≤ option_count plan step

-- that compensation was returned if the step took an option that the plan has; else the fault is the store's
abbrev pub StepsDown : Planned → ℕ → Option ℕ → Result NextStep Fault → Type 0
StepsDown plan step taken (Ok next) = IfSome taken (λ option. IsStepDown plan step option next)
StepsDown plan step taken (Err fault) = (IfSome taken (HasOption plan step) → IsSome taken → ⊥) × (fault ≡ Store)

-- the item that a move makes of the next step
abbrev pub item_made : Option NextStep → Move → Option Item
item_made next (move.Turn target) = Some (Turn target Refused)
item_made next (move.Take step option) = option_map (λ (n : NextStep). n.item) next
item_made next (move.Undo step) = option_map (λ (n : NextStep). n.item) next
item_made next move.Nothing = None

-- `fitting` says whether the want of the next step fits
abbrev pub FitsNext : List Event → Option NextStep → Bool → Type 0
FitsNext l None fitting = fitting ≡ false
FitsNext l (Some next) fitting = fitting ≡ fits l (Some next.want)

-- the nights of the want of the next step
abbrev pub nights_ahead : List Event → Option NextStep → List FreeNight
nights_ahead l None = []
nights_ahead l (Some next) = nights_of l next.want

-- the record is that of journey j in this legal ledger
pub record IsJourneyOf (l : List Event) (j : ℕ) (r : Record) : Type 0 where
  pub legal : IsLegal l
  pub found : record_of l j ≡ Some r

-- a journey as it was begun
abbrev pub begun_as : Record → Journey
begun_as r = record { agent = r.agent; plan = r.plan }

-- the option of a transaction of this step
abbrev pub option_done : ℕ → Item → Option ℕ
option_done i (Transaction k c) = if i == k then Some c else None
option_done i _ = None

-- the option with which this step was done last
abbrev pub latest_option : ℕ → List Item → Option ℕ
latest_option i h = last_of (filter_map (option_done i) h)

-- if the journey goes back, this is the option with which the step at its position was done last
abbrev pub IsTaken : List Event → ℕ → Record → Option ℕ → Type 0
IsTaken l j r taken = (p : ℕ) → r.cursor.phase ≡ Back p → taken ≡ latest_option r.cursor.pos (history l j)

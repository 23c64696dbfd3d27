-- Laws of each legal ledger, and of each world.
use Rattle.std.specs.Prelude.{◌≡◌, ℕ, ◌+◌, ◌<◌, ◌≤◌, false, List, [], ◌++◌, length, map, Some, unwrap_or, IsTrue}
use Rattle.std.specs.List.{list_any}
use Rattle.allotment.specs.Cells.{numbers_from}
use Rattle.allotment.specs.declared.cells.Cell.{Cell}
use Rattle.plan.specs.PlanModel.{Planned, step_count, is_marked_at}
use Rattle.commands.specs.declared.items.Item.{Item}
use Rattle.commands.specs.declared.items.Phase.TheVariants.{Ended, Undone}
use Rattle.commands.specs.declared.replies.Refusal.TheVariants.{NoSavePoint}
use Rattle.ledger.specs.Answer.{step_choices, answer_move, start}
use Rattle.ledger.specs.History.{is_save, net, phase, is_open, is_finished}
use Rattle.ledger.specs.Ledger.{Event, Did, Journey, journey_at, history, allotment, held, is_item_allowed, is_in, IsLegal}
use Rattle.ledger.specs.Recovery.{is_forward, IsRecovered, HasComeTo, BeginsRecovered, bound}
use Rattle.ledger.specs.Word.{word, up, down, BeginsUpAndDown, GoesToEnd, GoesToStart}
use Rattle.ledger.specs.World.{Moment, after, events_of, times_acted}

-- Words and places.

-- the history begins an up-and-down word, and is a whole one where its journey has ended or is
-- undone
pub record IsUpAndDownSoFar (plan : Planned) (h : List Item) : Type 0 where
  pub begins : BeginsUpAndDown plan h
  pub ended : phase plan h ≡ Ended → GoesToEnd plan h
  pub undone : phase plan h ≡ Undone → GoesToStart plan h
  -- an ended journey holds each step once, and an undone one holds none
  pub holds_all : phase plan h ≡ Ended
      → map (λ t. t.0) (net h) ≡ numbers_from 1 (step_count plan)
  pub holds_none : phase plan h ≡ Undone → net h ≡ []

-- each journey of the ledger has such a history
abbrev pub EveryJourneyIsUpAndDown : List Event → Type 0
EveryJourneyIsUpAndDown l = (j : ℕ) (a : Journey) → journey_at l j ≡ Some a
    → IsUpAndDownSoFar a.plan (history l j)

-- the journey has no save-point: no step of its plan is marked, and it took none
pub record HasNoSavePoint (plan : Planned) (h : List Item) : Type 0 where
  pub unmarked : (i : ℕ) → is_marked_at plan i ≡ false
  pub untaken : list_any is_save h ≡ false

-- ended, it has done each step once and in order; undone, it has done some in order, short of all, and then compensated
-- these in the reverse order
pub record IsAllOrNothing (plan : Planned) (h : List Item) : Type 0 where
  pub ended : phase plan h ≡ Ended → word h ≡ up 0 (step_count plan)
  pub undone : phase plan h ≡ Undone
      → (top : ℕ) × (top < step_count plan) × (word h ≡ up 0 top ++ down top 0)

-- each journey of the ledger that has no save-point is all or nothing
abbrev pub EachPlainJourneyIsAllOrNothing : List Event → Type 0
EachPlainJourneyIsAllOrNothing l = (j : ℕ) (a : Journey) → journey_at l j ≡ Some a
    → HasNoSavePoint a.plan (history l j) → IsAllOrNothing a.plan (history l j)

-- no cell holds more than its allotment, and one without an allotment holds nothing
abbrev pub NoCellIsOverfull : List Event → Type 0
NoCellIsOverfull l = (x : Cell) → held l x ≤ unwrap_or (allotment l x) 0

-- Steps.

-- of the items that a step makes just one may come next in journey j, and the desk answers it
pub record HasOneStep (l : List Event) (j : ℕ) : Type 0 where
  pub step : Item
  pub forward : IsTrue (is_forward step)
  pub allowed : IsTrue (is_item_allowed l j step)
  pub alone : (other : Item) → IsTrue (is_forward other) → IsTrue (is_item_allowed l j other)
      → other ≡ step
  pub answered : (answer_move l j step_choices NoSavePoint (journey_at l j)).event
      ≡ Some (Did j step)

-- each journey that runs or goes back has one step
abbrev pub EachOpenJourneyHasOneStep : List Event → Type 0
EachOpenJourneyHasOneStep l = (j : ℕ) → IsTrue (is_in is_open l j) → HasOneStep l j

-- nothing may come next in a journey that has ended or is undone
abbrev pub NoFinishedJourneyGoesOn : List Event → Type 0
NoFinishedJourneyGoesOn l =
    (j : ℕ) (item : Item) → IsTrue (is_in is_finished l j) → is_item_allowed l j item ≡ false

-- Recovery.

-- no two ledgers are this one, recovered: recovery is deterministic
abbrev pub AtMostOneIsRecovered : List Event → Type 0
AtMostOneIsRecovered l = (r s : List Event) → IsRecovered l r → IsRecovered l s → r ≡ s

-- recovery terminates: this is the ledger, recovered, with no more new events than the bound; each prefix of it, which
-- is left at the limit of events or after a stop, is legal
pub record IsRecoverable (l : List Event) : Type 0 where
  pub recovered : List Event
  pub is_recovered : IsRecovered l recovered
  pub within : length recovered ≤ length l + bound l
  pub cut_off : (front rest : List Event) → recovered ≡ front ++ rest → IsLegal front

-- each ledger that recovery passes through is a prefix of the recovered ledger
abbrev pub EachRecoveryGoesOn : List Event → Type 0
EachRecoveryGoesOn l = (begun : List Event) → HasComeTo l begun → BeginsRecovered l begun

-- Worlds.

-- the ledger after a world is legal, it is the events of what was answered or was cut off and kept, in order, and under
-- each agent and key at most one event was made
pub record IsSound (w : List Moment) : Type 0 where
  pub legal : IsLegal (after start w).ledger
  pub events : (after start w).ledger ≡ events_of start w
  pub once : (agent key : List ℕ) → times_acted agent key start w ≤ 1

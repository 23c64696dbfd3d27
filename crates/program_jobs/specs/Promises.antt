-- What is promised of the ledger that a world leaves.
use Rattle.std.specs.Prelude.{◌≡◌, ◌⊎◌, ℕ, ◌+◌, ◌<◌, List, ◌++◌, Some}
use Rattle.allotment.specs.declared.cells.Cell.{Cell}
use Rattle.commands.specs.declared.items.Item.{Item}
use Rattle.plan.specs.PlanModel.{Planned, step_count}
use Rattle.ledger.specs.Answer.{start}
use Rattle.ledger.specs.Laws.{IsSound, EveryJourneyIsUpAndDown, HasNoSavePoint}
use Rattle.ledger.specs.Ledger.{Event, Journey, journey_at, history, held}
use Rattle.ledger.specs.Recovery.{IsRecovered}
use Rattle.ledger.specs.Word.{word, up, down, IsUpAndDown}
use Rattle.ledger.specs.World.{Moment, after}
use Rattle.saga_core.specs.Views.{Places, places_of}

-- in each cell that has an allotment the free places and the held ones are the allotted ones
abbrev pub FreeAndHeldAreAllotted : List Event → Type 0
FreeAndHeldAreAllotted l = (x : Cell) (p : Places) → places_of l x ≡ Some p → p.free + held l x ≡ p.allot

-- T1 .. Tn, or T1 .. Tj Cj .. C1
abbrev pub IsAllOrNone : Planned → List Item → Type 0
IsAllOrNone plan h =
    (word h ≡ up 0 (step_count plan))
    ⊎ ((top : ℕ) × (top < step_count plan) × (word h ≡ up 0 top ++ down top 0))

-- a whole up-and-down word, and without save-points all or none
pub record IsWhole (plan : Planned) (h : List Item) : Type 0 where
  pub word : IsUpAndDown plan h
  pub plain : HasNoSavePoint plan h → IsAllOrNone plan h

-- each journey of the ledger is so
abbrev pub EachJourneyIsWhole : List Event → Type 0
EachJourneyIsWhole l = (j : ℕ) (a : Journey) → journey_at l j ≡ Some a → IsWhole a.plan (history l j)

-- What is promised of the ledger after a world. It is legal; it is the events of what was answered or was cut off and
-- kept, in order, and under each agent and key at most one was made; the places add up; each word can become a whole
-- one, and is one where recovery is complete.
pub record IsKeptPromise (w : List Moment) : Type 0 where
  pub sound : IsSound w
  pub places : FreeAndHeldAreAllotted (after start w).ledger
  pub words : EveryJourneyIsUpAndDown (after start w).ledger
  pub recovered : (r : List Event) → IsRecovered (after start w).ledger r → EachJourneyIsWhole r

-- What each pass of recovery does to a book.
use Rattle.std.specs.Prelude.{◌≡◌, ℕ, ◌==◌, Bool, false, List, ◌++◌, IsTrue}
use Rattle.std.specs.List.{list_all}
use Rattle.commands.specs.declared.replies.Fault.{Fault}
use Rattle.commands.specs.declared.items.Item.{Item}
use Rattle.commands.specs.declared.items.Phase.{Phase}
use Rattle.ledger.specs.Answer.{State}
use Rattle.ledger.specs.History.{is_compensation, is_going_back, is_open}
use Rattle.ledger.specs.Ledger.{Event, is_in, AreAllowedAfter}
use Rattle.ledger.specs.Recovery.{stops, journey_of, are_items, has_none, is_forward, HasReached}
use Rattle.recovery.specs.Growing.{Grew, GrewFull, MayHaveGrown}
use Rattle.recovery.specs.declared.passes.Came.{Came}
use Rattle.recovery.specs.declared.passes.Came.TheVariants.{Through, Full}
use Rattle.recovery.specs.declared.passes.Pass.{Pass}
use Rattle.recovery.specs.declared.passes.Pass.TheVariants.{Back, On}

-- how many events the pass made
abbrev pub made_by : Came → ℕ
made_by (Through made) = made
made_by (Full made) = made

-- the phases in which a pass goes on with a journey
abbrev pub goes_on : Pass → Phase → Bool
goes_on Back = is_going_back
goes_on On = is_open

-- the items that a pass makes
abbrev pub makes : Pass → Item → Bool
makes Back = is_compensation
makes On = is_forward

-- the pass completed and made all such events, or the ledger is full and it made some of them
abbrev pub Comes : (State → Type 0) → State → (List Event → Type 0) → (List Event → Type 0) → Came
    → Type 0
Comes stands s All Some (Through made) = Grew stands All s made
Comes stands s All Some (Full made) = GrewFull stands Some s made

-- The turns.

-- all turns of the ledger
abbrev pub AreStops : List Event → List Event → Type 0
AreStops l events = events ≡ stops l

-- a prefix of the turns of the ledger
pub record AreFirstStops (l events : List Event) : Type 0 where
  pub rest : List Event
  pub all : stops l ≡ events ++ rest

abbrev pub MadeStops : (State → Type 0) → (State → Type 0) → Came → Type 0
MadeStops stood stands came =
    (s : State) → stood s → Comes stands s (AreStops s.ledger) (AreFirstStops s.ledger) came

abbrev pub MadeSomeStops : (State → Type 0) → (State → State → Type 0) → Fault → Type 0
MadeSomeStops stood left fault = (s : State) → stood s → MayHaveGrown left (AreFirstStops s.ledger) s fault

-- Journeys that a pass steps.

-- the events are items of journey j of the kind that the pass makes
pub record Carry (pass : Pass) (j : ℕ) (l events : List Event) : Type 0 where
  pub allowed : AreAllowedAfter l events
  pub items : IsTrue (list_all (are_items (makes pass)) events)
  pub of_journey : IsTrue (list_all (λ e. journey_of e == j) events)

-- after such items the pass is done with the journey
pub record CarryOut (pass : Pass) (j : ℕ) (l events : List Event) : Type 0 where
  pub carry : Carry pass j l events
  pub done : is_in (goes_on pass) (l ++ events) j ≡ false

-- the result of stepping a journey with which the pass goes on
abbrev pub CarriedOne : (State → Type 0) → (State → Type 0) → Pass → ℕ → Came → Type 0
CarriedOne stood stands pass j came =
    (s : State) → stood s → IsTrue (is_in (goes_on pass) s.ledger j)
    → Comes stands s (CarryOut pass j s.ledger) (Carry pass j s.ledger) came

abbrev pub CarriedOneSome : (State → Type 0) → (State → State → Type 0) → Pass → ℕ → Fault → Type 0
CarriedOneSome stood left pass j fault =
    (s : State) → stood s → IsTrue (is_in (goes_on pass) s.ledger j) → MayHaveGrown left (Carry pass j s.ledger) s fault

-- Passes.

-- the pass has reached some journey
pub record IsUnderWay (pass : Pass) (l events : List Event) : Type 0 where
  pub number : ℕ
  pub reached : HasReached (makes pass) (goes_on pass) l events number

-- the pass is done with all journeys
pub record IsThrough (pass : Pass) (l events : List Event) : Type 0 where
  pub under_way : IsUnderWay pass l events
  pub done : IsTrue (has_none (goes_on pass) (l ++ events))

abbrev pub CarriedAll : (State → Type 0) → (State → Type 0) → Pass → Came → Type 0
CarriedAll stood stands pass came =
    (s : State) → stood s → Comes stands s (IsThrough pass s.ledger) (IsUnderWay pass s.ledger) came

abbrev pub CarriedSome : (State → Type 0) → (State → State → Type 0) → Pass → Fault → Type 0
CarriedSome stood left pass fault = (s : State) → stood s → MayHaveGrown left (IsUnderWay pass s.ledger) s fault

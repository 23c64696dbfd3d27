-- Small words for the worked examples: wants, rows and plans of one supplier and one night, items with the first
-- option, and the outcome of a list of requests.
use Rattle.std.specs.Prelude.{ℕ, ◌+◌, true, false, List, [], ◌∷◌, None, replicate}
use Rattle.allotment.specs.Want.{Wanted}
use Rattle.allotment.specs.declared.codes.Kind.{Kind}
use Rattle.allotment.specs.declared.codes.Kind.TheVariants.{Flight}
use Rattle.allotment.specs.declared.cells.Row.{Row}
use Rattle.plan.specs.PlanModel.{StepPlan, Planned}
use Rattle.commands.specs.Request.{Request, Load, Step}
use Rattle.commands.specs.declared.items.Item.{Item}
use Rattle.commands.specs.declared.items.Item.TheVariants.{Transaction, Compensation}
use Rattle.commands.specs.declared.replies.Reply.{Reply}
use Rattle.ledger.specs.Answer.{State, outcome}

-- the day number of 2030-06-01, the night of all examples
abbrev pub june : ℕ
june = 22066

-- so many places, for some nights, of product 0 to 9 of supplier A
abbrev pub nights_of : ℕ → Kind → ℕ → ℕ → Wanted
nights_of nights kind product count = record {
  kind = kind;
  supplier = 65 ∷ [];
  product = (48 + product) ∷ [];
  first = june;
  nights = nights;
  count = count;
}

-- so many places, for one night, of product 0 to 9 of supplier A
abbrev pub want : Kind → ℕ → ℕ → Wanted
want kind product count = nights_of 1 kind product count

-- so many places are allotted of product 0 to 9 of supplier A, some nights after the first
abbrev pub row_after : ℕ → Kind → ℕ → ℕ → Row
row_after nights kind product places = record {
  cell = record {
    kind = kind;
    supplier = 65 ∷ [];
    product = (48 + product) ∷ [];
    night = june + nights;
  };
  places = places;
}

-- so many places are allotted of product 0 to 9 of supplier A, on the first night
abbrev pub row : Kind → ℕ → ℕ → Row
row kind product places = row_after 0 kind product places

-- a step with these options
abbrev pub step : List Wanted → StepPlan
step options = record { options = options; is_marked = false }

-- the same, with a save-point after it
abbrev pub marked : List Wanted → StepPlan
marked options = record { options = options; is_marked = true }

-- a plan without tries
abbrev pub untried : List StepPlan → Planned
untried steps = record { steps = steps; tries = 0 }

-- the one option of a step: a seat on this flight
abbrev pub flight : ℕ → List Wanted
flight product = want Flight product 1 ∷ []

-- six flights with 10 places each
abbrev pub six_flights : List Row
six_flights =
    row Flight 1 10 ∷ row Flight 2 10 ∷ row Flight 3 10 ∷ row Flight 4 10 ∷ row Flight 5 10
    ∷ row Flight 6 10 ∷ []

-- load a batch whose name is one letter
abbrev pub load : ℕ → List Row → Request
load letter rows = Load (letter ∷ []) rows

-- so many steps of journey 1
abbrev pub steps : ℕ → List Request
steps count = replicate count (Step 1)

-- this step is done, with its first option
abbrev pub done : ℕ → Item
done i = Transaction i 1

-- this step, done with its first option, is compensated
abbrev pub undone : ℕ → Item
undone i = Compensation i 1

-- the state of the desk after these requests of the house
abbrev pub after_all : State → List Request → State
after_all s [] = s
after_all s (asked ∷ later) = after_all (outcome s None asked).state later

-- the replies to these requests of the house
abbrev pub replies_to : State → List Request → List Reply
replies_to s [] = []
replies_to s (asked ∷ later) =
    (outcome s None asked).reply ∷ replies_to (outcome s None asked).state later

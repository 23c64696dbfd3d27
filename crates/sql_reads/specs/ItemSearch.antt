-- Where the items of a journey are in a store.
use Rattle.std.specs.Prelude.{◌≡◌, ◌<◌, ◌≤◌, ◌^◌, ℕ, List, [], ◌∷◌, take, drop, Option, Some, None, IfSome, option_map}
use Rattle.commands.specs.declared.items.Item.{Item}
use Rattle.desk_sql.specs.FoundRows.{item_of}
use Rattle.desk_sql.specs.declared.journeys.ItemFound.{ItemFound}
use Rattle.sql_model.specs.Reading.{item_in}
use Rattle.plan.specs.PlanModel.{step_count}
use Rattle.ledger.specs.Answer.{State, most_events}
use Rattle.ledger.specs.Ledger.{Event, Journey, journey_at, history}
use Rattle.saga_core.specs.Views.{brief_of}
use Rattle.saga_core.specs.declared.records.Brief.{Brief}
use Rattle.sql_model.specs.Spelling.{IsSpelled}
use Rattle.sql_reads.specs.declared.item_search.Sought.{Sought}

-- the journey of this number has no item in the first so many events
abbrev pub HasNoItemTo : ℕ → ℕ → State → Type 0
HasNoItemTo id after s = history (take after s.ledger) id ≡ []

-- each journey of this number has so many steps
abbrev pub HasSteps : List Event → ℕ → ℕ → Type 0
HasSteps l id steps = (a : Journey) → journey_at l id ≡ Some a → step_count a.plan ≡ steps

-- a store can be asked for both numbers
pub record IsLow (w : Sought) : Type 0 where
  pub journey : w.journey < 2 ^ 63
  pub after : w.after < 2 ^ 63

-- the items of this number's journey are those of the search, and none of them is at or before its start
pub record AreSoughtAt (id : ℕ) (s : State) (w : Sought) : Type 0 where
  pub items : history s.ledger w.journey ≡ history s.ledger id
  pub first : history (take w.after s.ledger) w.journey ≡ []
  pub steps : HasSteps s.ledger w.journey w.steps

-- the row is that of the next item of the search, and the later items come after its event
pub record TellsNext (w : Sought) (l : List Event) (i : ItemFound) : Type 0 where
  pub item : Item
  pub told : item_in (item_of 0 i) ≡ Some item
  pub rest : history (drop w.after l) w.journey ≡ item ∷ history (drop i.num l) w.journey

-- the row is that of the next item of the search; no row means no further item
abbrev pub IsNextOf : Sought → State → Option ItemFound → Type 0
IsNextOf w s None = history (drop w.after s.ledger) w.journey ≡ []
IsNextOf w s (Some i) = TellsNext w s.ledger i

-- the same, and the event of the row is one of those that a ledger may have
pub record IsNextRow (w : Sought) (s : State) (found : Option ItemFound) : Type 0 where
  pub next : IsNextOf w s found
  pub early : IsSpelled s.ledger → IfSome found (λ (i : ItemFound). i.num ≤ most_events)

-- the brief of the journey of this number, if there is one, with an event after which all of its items come
pub record IsBriefAt (id : ℕ) (s : State) (found : Option (Brief × ℕ)) : Type 0 where
  pub brief : option_map (λ (f : Brief × ℕ). f.0) found ≡ brief_of s.ledger id
  pub begun : IfSome found (λ (f : Brief × ℕ). HasNoItemTo id f.1 s)

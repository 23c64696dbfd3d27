-- Recovery: the ledger that it makes of another, and a bound on its events.
use Rattle.std.specs.Prelude.{◌≡◌, ℕ, ◌+◌, ◌*◌, ◌<◌, Bool, true, false, List, [], ◌∷◌, ◌++◌, map, filter, nat_le, sum_by, option_map, unwrap_or, IsTrue, not, ◌&&◌, ◌||◌}
use Rattle.std.specs.List.{list_all, list_any}
use Rattle.ledger.specs.Ledger.{Event, Did, Journey, journey_at, numbers, history, is_in, AreAllowedAfter, IsLegal}
use Rattle.ledger.specs.History.{last_save, is_running, is_going_back, is_open, is_compensation, is_transaction, is_refused_turn}
use Rattle.plan.specs.PlanModel.{step_count}
use Rattle.commands.specs.declared.items.Item.{Item}
use Rattle.commands.specs.declared.items.Item.TheVariants.{Turn}
use Rattle.commands.specs.declared.items.Cause.TheVariants.{Stop}
use Rattle.commands.specs.declared.items.Phase.{Phase}

-- the last save-point of journey j, or 0
abbrev pub last_save_of : List Event → ℕ → ℕ
last_save_of l j =
    unwrap_or (option_map (λ (a : Journey). last_save a.plan (history l j)) (journey_at l j)) 0

-- for each journey that was running, by its number, one turn to its last save-point
abbrev pub stops : List Event → List Event
stops l =
    map (λ j. Did j (Turn (last_save_of l j) Stop)) (filter (is_in is_running l) (numbers l))

-- the number of the journey that made an item
abbrev pub journey_of : Event → ℕ
journey_of (Did j item) = j
journey_of _ = 0

-- the items are ordered by the numbers of their journeys
abbrev pub is_by_number : List Event → Bool
is_by_number [] = true
is_by_number (e ∷ later) =
    list_all (λ d. nat_le (journey_of e) (journey_of d)) later && is_by_number later

-- the event is an item of a journey, and the item passes
abbrev pub are_items : (Item → Bool) → Event → Bool
are_items test (Did j item) = test item
are_items test _ = false

-- no journey is in a phase that passes
abbrev pub has_none : (Phase → Bool) → List Event → Bool
has_none test l = not (list_any (is_in test l) (numbers l))

-- what a step makes: a transaction, a compensation or a refused turn
abbrev pub is_forward : Item → Bool
is_forward item = is_transaction item || is_compensation item || is_refused_turn item

-- the ledger is recovered: first each running journey turns to its last save-point, then those that go back reach their
-- targets, then each goes on to its end; each time one journey after another
pub record IsRecovered (l recovered : List Event) : Type 0 where
  pub backward : List Event
  pub forward : List Event
  pub whole : recovered ≡ l ++ stops l ++ backward ++ forward
  pub legal : IsLegal recovered
  pub compensations : IsTrue (list_all (are_items is_compensation) backward)
  pub by_number : IsTrue (is_by_number backward)
  pub none_back : IsTrue (has_none is_going_back (l ++ stops l ++ backward))
  pub steps : IsTrue (list_all (are_items is_forward) forward)
  pub in_order : IsTrue (is_by_number forward)
  pub all_finished : IsTrue (has_none is_open recovered)

-- Recovery in progress.

-- so far a part of recovery has items of this kind, by rising number of their journeys up to this
-- number, and no journey below it is left in such a phase
pub record HasReached (test : Item → Bool) (passes : Phase → Bool) (before part : List Event)
    (number : ℕ) : Type 0 where
  pub allowed : AreAllowedAfter before part
  pub items : IsTrue (list_all (are_items test) part)
  pub by_number : IsTrue (is_by_number part)
  pub up_to : IsTrue (list_all (λ e. nat_le (journey_of e) number) part)
  pub done : (j : ℕ) → j < number → is_in passes (before ++ part) j ≡ false

-- recovery of a ledger has come to this one: it has made some of the turns; or all of them and some compensations; or
-- all of these and some steps
pub data HasComeTo (l : List Event) : List Event → Type 0 where
  turning : (front rest : List Event) → stops l ≡ front ++ rest → HasComeTo l (l ++ front)
  going_back : (part : List Event) (number : ℕ)
      → HasReached is_compensation is_going_back (l ++ stops l) part number
      → HasComeTo l (l ++ stops l ++ part)
  going_on : (back part : List Event) (last number : ℕ)
      → HasReached is_compensation is_going_back (l ++ stops l) back last
      → IsTrue (has_none is_going_back (l ++ stops l ++ back))
      → HasReached is_forward is_open (l ++ stops l ++ back) part number
      → HasComeTo l (l ++ stops l ++ back ++ part)

-- with some more events it is the recovered ledger
pub record BeginsRecovered (l begun : List Event) : Type 0 where
  pub rest : List Event
  pub recovered : IsRecovered l (begun ++ rest)

-- How many events it may need.

-- how many events recovery may need for journey j: twice its steps, for each of two more than its
-- tries
abbrev pub bound_of : List Event → ℕ → ℕ
bound_of l j =
    unwrap_or
    (option_map (λ (a : Journey). 2 * step_count a.plan * (a.plan.tries + 2)) (journey_at l j))
    0

-- how many events recovery may need: the sum over the journeys that are not finished
abbrev pub bound : List Event → ℕ
bound l = sum_by (bound_of l) (filter (is_in is_open l) (numbers l))

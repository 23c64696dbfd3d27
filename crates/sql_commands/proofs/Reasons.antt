-- The rows of a desk never are a fault of the store: a journey is where one may be, and each number is in range. For the
-- functions that read.
use Rattle.std.proofs.Common.{◌≡◌, ◌==◌, ℕ, ◌+◌, ◌<◌, ◌≤◌, List, [], ◌∷◌, length, Some, None, true, false, Bool, IsTrue, if◌then◌else◌, refl, sym, ap, subst, ◌∙◌, arith, option_map}
use Rattle.std.specs.List.{cons_option}
use Rattle.std.proofs.lemmas.List.Sums.{count_by-le-length}
use Rattle.plan.specs.Limits.{most_steps}
use Rattle.plan.specs.PlanModel.{Planned, step_count}
use Rattle.commands.specs.Limits.{most_events}
use Rattle.commands.specs.declared.items.Item.{Item}
use Rattle.commands.specs.declared.items.Cursor.{Cursor}
use Rattle.commands.specs.declared.items.Phase.{Phase}
use Rattle.commands.specs.declared.items.Phase.TheVariants.{Run, Back}
use Rattle.ledger.specs.Answer.{State}
use Rattle.ledger.specs.History.{is_open, is_refused_turn, phase, position_of}
use Rattle.ledger.specs.Ledger.{Event, Loaded, Began, Did, Journey, journeys, journey_at, history, IsLegal}
use Rattle.ledger.proofs.Lists.{number-within}
use Rattle.ledger.proofs.Histories.{Follows, follows}
use Rattle.ledger.proofs.Positions.{running_below, back_above, last_standing}
use Rattle.ledger.specs.Cursors.{cursor_of}
use Rattle.saga_core.specs.Views.{record_of}
use Rattle.sql_model.specs.Spelling.{IsSpelled}
use Rattle.sql_model.specs.Standing.{IsDesk}
use Rattle.sql_reads.specs.Reading.{stand_of}
use Rattle.sql_reads.specs.declared.reads.Stand.{Stand}
use Rattle.sql_reads.proofs.ReadReasons.{few_journeys}
use Rattle.sql_reads.specs.OptionChoice.{HasStep, TakesLast}
use Rattle.sql_commands.specs.Placing.{IsPlacedIn, StandsAt}
use Rattle.sql_commands.proofs.ComingLemmas.{stand_seen}

-- a journey has at most as many items as there are events
few_items : (l : List Event) (j : ℕ) → length (history l j) ≤ length l
few_items [] j = omega arith
few_items (Loaded name rows ∷ l) j = let rest = few_items l j in omega arith
few_items (Began agent plan ∷ l) j = let rest = few_items l j in omega arith
few_items (Did k item ∷ l) j = go (j == k) (few_items l j)
  where
    go : (v : Bool) → length (history l j) ≤ length l
        → length (cons_option (if v then Some item else None) (history l j)) ≤ length (Did k item ∷ l)
    go true rest = omega arith
    go false rest = omega arith

-- an open journey is below its last step
below_last : (plan : Planned) (h : List Item) → Follows plan h → (p : Phase) → phase plan h ≡ p → IsTrue (is_open p)
    → position_of h < step_count plan
below_last plan h f Run e opened = running_below plan h f e
below_last plan h f (Back q) e opened = (back_above plan h q f e).1
below_last plan h f _ e opened = cc

-- a journey of a legal ledger is where one may be
pub placed : (l : List Event) → IsLegal l → length l ≤ most_events → (id : ℕ) (a : Journey) → journey_at l id ≡ Some a
    → IsPlacedIn (step_count a.plan) (cursor_of a.plan (history l id))
placed l legal few id a at =
    let h = history l id in
    let f = follows l legal id a at in
    let used = count_by-le-length is_refused_turn (history l id) in
    let items = few_items l id in
    record {
      within = f.within;
      short = λ opened. below_last a.plan h f (phase a.plan h) refl opened;
      above = λ p back. (back_above a.plan h p f back).0;
      counted = omega (arith, used, items, few);
    }

-- the number of a journey is in range
pub low_number : (l : List Event) → length l ≤ most_events → (id : ℕ) (a : Journey) → journey_at l id ≡ Some a → id ≤ most_events
low_number l few id a at =
    omega (arith, (number-within (journeys l) id a at).1, few_journeys l, few)

-- where a journey that is found is
pub record IsInPlace (id : ℕ) (stand : Stand) : Type 0 where
  pub low : id ≤ most_events
  pub few : stand.steps ≤ most_steps
  pub placed : IsPlacedIn stand.steps stand.cursor

pub stand_placed : (s : State) → IsDesk s → IsSpelled s.ledger → (id : ℕ) (stand : Stand)
    → Some stand ≡ option_map stand_of (record_of s.ledger id) → IsInPlace id stand
stand_placed s desk spelled id stand found =
    let seen = stand_seen s None id stand found (λ plan. refl) in
    let r = seen.0 in
    let at = seen.1.at in
    let a : Journey = record { agent = r.agent; plan = r.plan } in
    let steps : step_count r.plan ≡ stand.steps = ap (λ (x : Stand). x.steps) seen.2 in
    let cursor : cursor_of r.plan (history s.ledger id) ≡ stand.cursor = sym seen.1.cursor ∙ ap (λ (x : Stand). x.cursor) seen.2 in
    let f = follows s.ledger desk.legal id a at in
    record {
      low = low_number s.ledger spelled.few id a at;
      few = subst (λ n. n ≤ most_steps) steps f.few;
      placed =
          subst (λ n. IsPlacedIn n stand.cursor) steps
          (subst (IsPlacedIn (step_count r.plan)) cursor (placed s.ledger desk.legal spelled.few id a at));
    }

-- a journey that is short of its last step has a next one
pub has_step : (s : State) (id : ℕ) (stand : Stand) → StandsAt id stand s → stand.cursor.pos < stand.steps → HasStep id (stand.cursor.pos + 1) s
has_step s id stand has below = record {
  journey = has.journey;
  at = has.at;
  from_one = omega arith;
  within = (let steps = has.steps in omega (arith, steps, below));
}

-- above the start a step stands, and the last one is that of the position
pub takes_last : (s : State) → IsDesk s → (id : ℕ) (stand : Stand) → StandsAt id stand s → 1 ≤ stand.cursor.pos → TakesLast id stand.cursor.pos s
takes_last s desk id stand has above =
    let a = has.journey in
    let h = history s.ledger id in
    let f = follows s.ledger desk.legal id a has.at in
    let pos : stand.cursor.pos ≡ position_of h = ap (λ (c : Cursor). c.pos) has.cursor in
    let last = last_standing a.plan h f (omega (arith, above, pos)) in
    record { journey = a; at = has.at; option = last.0; last = last.1 ∙ ap (λ n. Some (n, last.0)) (sym pos) }

-- A journey follows an up-and-down word, however it goes on: on the way up by a transaction, a save-point or a turn, and on the
-- way down by a turn further down, or a compensation. For all legal ledgers.
use Rattle.std.proofs.Common.{◌≡◌, ℕ, ◌+◌, ◌<◌, ◌≤◌, ◌⊎◌, List, [], ◌∷◌, ◌++◌, refl, ap, sym, ◌∙◌, arith, subst, append_assoc, append-nil, inr, false, ◌==◌, Some, IsTrue, Bool, true, ◌||◌, nat_lt, None}
use Rattle.std.proofs.lemmas.Bool.{ne_eqb, cases_lt, cases_eq, ltb-true, and_parts}
use Rattle.plan.specs.PlanModel.{Planned, step_count}
use Rattle.commands.specs.declared.items.Cause.{Cause}
use Rattle.commands.specs.declared.items.Item.{Item}
use Rattle.commands.specs.declared.items.Item.TheVariants.{Transaction, Compensation, Turn, Save}
use Rattle.ledger.specs.History.{position_of, going_to, is_save_point, has_turned_to_start, is_taken, refusals, phase, may_come, may_turn}
use Rattle.ledger.specs.Word.{word, up, down, Returns, goes_on, IsTurnPart, begins}
use Rattle.ledger.proofs.Taking.{going_to-more, turned-other, turned-turn, kept-turn, is_save_point-compensation, has_tries-other, has_tries-turn}
use Rattle.ledger.proofs.Modes.{Since, since-append, goes_to_start, Rising, Falling, Fallen, Mode, rises, falls, fell, Goes, upward, runs, ended, phase-falling, phase-fallen, running-rises, going_back-falls}
use Rattle.ledger.proofs.Numbers.{word-append, up-none, down-none, up-join, down-join, up-one, down-one}
use Rattle.ledger.proofs.Standing.{position_of-transaction, position_of-turn, position_of-save, Compensates, compensates, standing-transaction, standing-same, net-turn, net-save}
use Rattle.commands.specs.declared.items.Cause.TheVariants.{Stop, Refused, Asked}
use Rattle.commands.specs.declared.items.Phase.{Phase}
use Rattle.commands.specs.declared.items.Phase.TheVariants.{Run, Back, Ended, Undone}
use Rattle.ledger.proofs.Coming.{step-comes, compensation-comes, stop-comes, refused-comes, save-comes}
use Rattle.ledger.proofs.Targets.{last_save-target, refused-target, asked-target, IsTarget}

-- The way up.

-- an item that reads as a run up leaves the journey on its way up, if it is then at its target or below
rising-more : (plan : Planned) (h : List Item) (x : Item) → Rising plan h
    → word (x ∷ []) ≡ up (position_of h) (position_of (h ++ x ∷ []))
    → position_of h ≤ position_of (h ++ x ∷ []) → position_of (h ++ x ∷ []) ≤ step_count plan
    → has_turned_to_start (h ++ x ∷ []) ≡ false
    → ((p : ℕ) → going_to (h ++ x ∷ []) ≡ Some p → position_of (h ++ x ∷ []) ≤ p) → Rising plan (h ++ x ∷ [])
rising-more plan h x r run higher within unturned arrived = record {
  from = r.from;
  since = since-append r.since (x ∷ []);
  low = let low = r.low in omega arith;
  within = within;
  reads = grind (arith, word-append, up-join r.from (position_of h) (position_of (h ++ x ∷ [])) r.low);
  unturned = unturned;
  arrived = arrived;
}

-- the next transaction is one more step on the way up
pub rising-transaction : (plan : Planned) (h : List Item) (i c : ℕ) → Rising plan h
    → position_of h < step_count plan → i ≡ position_of h + 1
    → Rising plan (h ++ Transaction i c ∷ [])
rising-transaction plan h i c r below is = grind (arith, rising-more, position_of-transaction, up-one, turned-other, going_to-more)

-- a save-point changes neither the word nor the direction
pub rising-save : (plan : Planned) (h : List Item) (p : ℕ) → Rising plan h
    → Rising plan (h ++ Save p ∷ [])
rising-save plan h p r = grind (arith, rising-more, position_of-save, up-none, turned-other, going_to-more)

-- a turn to where the journey is, which is not the start, leaves it on its way up
turn-here : (plan : Planned) (h : List Item) (p : ℕ) (cause : Cause) → Rising plan h
    → position_of h ≤ p → 0 < p → Rising plan (h ++ Turn p cause ∷ [])
turn-here plan h p cause r here more = grind (arith, rising-more, position_of-turn, up-none, turned-turn, ne_eqb, going_to-more)

-- The way down.

-- an item that reads as a run down takes the last part further down
turns-more : (plan : Planned) (h part : List Item) (x : Item) (from top : ℕ) → IsTurnPart plan from top (position_of h) part
    → word (x ∷ []) ≡ down (position_of h) (position_of (h ++ x ∷ [])) → position_of (h ++ x ∷ []) ≤ position_of h
    → IsTurnPart plan from top (position_of (h ++ x ∷ [])) (part ++ x ∷ [])
turns-more plan h part x from top turns run lower = grind (arith, word-append, append_assoc, down-join)

-- where the journey is then above its target, it is on its way down
falling-more : (plan : Planned) (h : List Item) (x : Item) (from top target : ℕ) (s : Since plan h from)
    → IsTurnPart plan from top (position_of h) s.part
    → word (x ∷ []) ≡ down (position_of h) (position_of (h ++ x ∷ [])) → position_of (h ++ x ∷ []) ≤ position_of h
    → going_to (h ++ x ∷ []) ≡ Some target → target < position_of (h ++ x ∷ [])
    → has_turned_to_start (h ++ x ∷ []) ≡ (0 == target)
    → (target ≡ 0) ⊎ IsTrue (is_save_point plan (h ++ x ∷ []) target) → Falling plan (h ++ x ∷ [])
falling-more plan h x from top target s turns run lower going above turned kept = record {
  from = from;
  since = since-append s (x ∷ []);
  top = top;
  turns = turns-more plan h s.part x from top turns run lower;
  target = target;
  going = going;
  above = above;
  turned = turned;
  kept = kept;
}

-- short of its end the way up is a last part that goes down by no step yet
rising-turns : (plan : Planned) (h : List Item) (r : Rising plan h) → position_of h < step_count plan
    → IsTurnPart plan r.from (position_of h) (position_of h) r.since.part
rising-turns plan h r below = grind (arith, append-nil, down-none)

-- a turn to a target below begins the way down, or gives it a lower target
turn-down : (plan : Planned) (h : List Item) (p : ℕ) (cause : Cause) (from top : ℕ) (s : Since plan h from)
    → IsTurnPart plan from top (position_of h) s.part → has_turned_to_start h ≡ false
    → (p ≡ 0) ⊎ IsTrue (is_save_point plan h p) → p < position_of h → Falling plan (h ++ Turn p cause ∷ [])
turn-down plan h p cause from top s turns unturned kept lower =
    let pos = position_of-turn h p cause in
    falling-more plan h (Turn p cause) from top p s turns (grind (arith, down-none)) (omega arith) (going_to-more h (Turn p cause))
    (omega arith) (turned-turn h p cause unturned) (kept-turn plan h p cause p kept)

-- a turn to the start, at the start, ends the journey: no step had to be compensated
turn-at_start : (plan : Planned) (h : List Item) (p : ℕ) (cause : Cause) → Rising plan h
    → position_of h < step_count plan → position_of h ≡ 0 → p ≡ 0
    → Fallen plan (h ++ Turn p cause ∷ [])
turn-at_start plan h p cause r below at_start p_is =
    search (arith, goes_to_start, since-append, rises, falls, word-append, append-nil, position_of-turn, turned-turn)

-- a turn on the way up leads down, or leaves the journey where it is, or ends it at the start
pub rising-turn : (plan : Planned) (h : List Item) (p : ℕ) (cause : Cause) → Rising plan h
    → position_of h < step_count plan → (p ≡ 0) ⊎ IsTrue (is_save_point plan h p)
    → Mode plan (h ++ Turn p cause ∷ [])
rising-turn plan h p cause r below kept =
    grind (arith, cases_lt, falls, turn-down, rising-turns plan h r below, cases_eq, fell, turn-at_start, rises, turn-here)

-- a turn further down gives the way down a lower target
pub falling-turn : (plan : Planned) (h : List Item) (p : ℕ) (cause : Cause) (f : Falling plan h)
    → p < f.target → (p ≡ 0) ⊎ IsTrue (is_save_point plan h p)
    → Falling plan (h ++ Turn p cause ∷ [])
falling-turn plan h p cause f lower kept = grind (arith, turn-down, ne_eqb)

module _ (plan : Planned) (h : List Item) (i c : ℕ) (f : Falling plan h) (k : Compensates h i c) where
  -- the history with the compensation of the last step
  abbrev next : List Item
  next = h ++ Compensation i c ∷ []

  -- its last part goes up, and down to the new position: the compensation reads as one more step on the way down
  part-compensation : IsTurnPart plan f.from f.top (position_of next) (f.since.part ++ Compensation i c ∷ [])
  part-compensation = grind (arith, turns-more plan h f.since.part (Compensation i c) f.from f.top f.turns, down-one)

  -- the target stays the start or a save-point while the journey is not below it
  kept-compensation : f.target ≤ position_of next
      → (f.target ≡ 0) ⊎ IsTrue (is_save_point plan next f.target)
  kept-compensation low = grind (arith, is_save_point-compensation)

  -- a compensation is no turn, so the target of the last turn stays
  turned-compensation : has_turned_to_start next ≡ (0 == f.target)
  turned-compensation = turned-other h (Compensation i c) refl ∙ f.turned

  -- above its target the journey is still on its way down
  compensation-on : f.target < position_of next → Falling plan next
  compensation-on above = grind (arith, falling-more, down-one, going_to-more, turned-compensation, kept-compensation)

  -- at the start it is all the way down
  compensation-to_start : f.target ≡ 0 → position_of next ≡ 0 → Fallen plan next
  compensation-to_start start here = record {
    start = goes_to_start (since-append f.since (Compensation i c ∷ [])) f.top (rw here at part-compensation);
    low = here;
    turned = turned-compensation ∙ ap (λ n. 0 == n) start;
  }

  -- at its target, a save-point, the way down has ended where the journey may turn upward, and it is on its way up again
  compensation-to_save_point : 0 < f.target → position_of next ≡ f.target → Rising plan next
  compensation-to_save_point more here =
      record {
        from = position_of next;
        since = record { before = next; part = []; returns = returns; whole = sym (append-nil next) };
        low = omega arith;
        within = let turns = f.turns in let lower = k.lower in omega arith;
        reads = sym (up-none (position_of next));
        unturned = turned-compensation ∙ ne_eqb 0 f.target (λ z. omega arith);
        arrived = λ q r. let going = going_to-more h (Compensation i c) in grind arith;
      }
    where
      whole : next ≡ f.since.before ++ (f.since.part ++ Compensation i c ∷ [])
      whole = grind (arith, append_assoc)

      save : IsTrue (is_save_point plan next (position_of next))
      save = let kept = kept-compensation (omega arith) in grind arith

      returns : Returns plan next (position_of next)
      returns =
          subst (λ g. Returns plan g (position_of next)) (sym whole)
          (goes_on f.since.before (f.since.part ++ Compensation i c ∷ []) f.from f.top (position_of next) f.since.returns
          part-compensation (omega arith) (inr (record {
            front = f.since.part;
            step = i;
            option = c;
            ends = refl;
            save = subst (λ g. IsTrue (is_save_point plan g (position_of next))) whole save;
          })))

  -- a compensation leads on down, all the way down, or to the target
  pub falling-compensation : Mode plan (h ++ Compensation i c ∷ [])
  falling-compensation =
      grind (arith, cases_lt, falls, compensation-on, cases_eq, fell, compensation-to_start, rises, compensation-to_save_point)

-- Each item that may come.

-- after a turn that may come, the journey is short of its end, has turned to the start if the turn leads there, and follows
-- its word
pub record Turned (plan : Planned) (h : List Item) (p : ℕ) (cause : Cause) : Type 0 where
  pub short : position_of h ≡ step_count plan → ⊥
  pub turned : has_turned_to_start (h ++ Turn p cause ∷ []) ≡ (0 == p)
  pub mode : Mode plan (h ++ Turn p cause ∷ [])

module _ (plan : Planned) (h : List Item) (p : ℕ) (cause : Cause) where
  -- on the way up, short of the end, a turn may lead to the start or a save-point
  turned-up : Rising plan h → position_of h < step_count plan → IsTarget plan (is_taken h) (position_of h) p
      → Turned plan h p cause
  turned-up r below kept = grind (arith, turned-turn, rising-turn)

  -- on the way down it may do so too, if that is lower than the target
  turned-down : (f : Falling plan h) → p < f.target → IsTarget plan (is_taken h) (position_of h) p → Turned plan h p cause
  turned-down f lower kept = record {
    short = λ e. let high = f.turns.falls in let short = f.turns.short in omega arith;
    turned = turned-turn h p cause (f.turned ∙ ne_eqb 0 f.target (λ e. omega arith));
    mode = falls (falling-turn plan h p cause f lower kept);
  }

-- each turn that may come does one or the other
pub turn-turned : (plan : Planned) (h : List Item) (fits : Bool) (p : ℕ) (cause : Cause) → Mode plan h
    → IsTrue (may_come plan h fits (Turn p cause)) → Turned plan h p cause
turn-turned plan h fits p Stop mode may =
    let comes = stop-comes plan h fits p may in
    let up = running-rises plan h mode comes.0 in
    turned-up plan h p Stop up.0 up.1 (last_save-target plan (is_taken h) (position_of h) p comes.1)
turn-turned plan h fits p Refused mode may =
    let comes = refused-comes plan h fits p may in
    let up = running-rises plan h mode comes.running in
    turned-up plan h p Refused up.0 up.1 (refused-target plan (is_taken h) (position_of h) (refusals h) p comes.target)
turn-turned plan h fits p Asked mode may = by_mode mode
  where
    at : (q : Phase) → phase plan h ≡ q → may_turn plan h q p ≡ true
    at q e = ap (λ r. may_turn plan h r p) (sym e) ∙ may

    by_mode : Mode plan h → Turned plan h p Asked
    by_mode (rises r) = elim (upward plan h r) [
      | runs below e ↦ turned-up plan h p Asked r below (asked-target plan (is_taken h) (position_of h) p None (at Run e))
      | ended top e ↦ cc (at Ended e)
    ]
    by_mode (falls f) =
        let back = at (Back f.target) (phase-falling plan h f) in
        turned-down plan h p Asked f (ltb-true _ _ (and_parts ((p == 0) || is_save_point plan h p) (nat_lt p f.target) back).1)
        (asked-target plan (is_taken h) (position_of h) p (Some f.target) back)
    by_mode (fell f) = cc (at Undone (phase-fallen plan h f))

-- a journey goes on along its word with each item that may come
pub goes-more : (plan : Planned) (h : List Item) (fits : Bool) (x : Item) → Goes plan h
    → IsTrue (may_come plan h fits x) → Goes plan (h ++ x ∷ [])
goes-more plan h fits (Transaction i c) g may =
    let comes = step-comes plan h fits i c may in
    let up = running-rises plan h g.mode comes.running in
    record {
      stands = standing-transaction h i c comes.step g.stands;
      mode = rises (rising-transaction plan h i c up.0 up.1 comes.step);
      tries = has_tries-other plan h (Transaction i c) refl g.tries;
    }
goes-more plan h fits (Compensation i c) g may =
    let comes = compensation-comes plan h fits i c may in
    let k = compensates h i c g.stands comes.last in
    record {
      stands = k.stands;
      mode = falling-compensation plan h i c (going_back-falls plan h g.mode comes.back) k;
      tries = has_tries-other plan h (Compensation i c) refl g.tries;
    }
goes-more plan h fits (Turn p cause) g may = record {
  stands = standing-same (h ++ Turn p cause ∷ []) h (net-turn h p cause) g.stands;
  mode = (turn-turned plan h fits p cause g.mode may).mode;
  tries = has_tries-turn plan h fits p cause may g.tries;
}
goes-more plan h fits (Save p) g may = record {
  stands = standing-same (h ++ Save p ∷ []) h (net-save h p) g.stands;
  mode = rises (rising-save plan h p (running-rises plan h g.mode (save-comes plan h fits p may)).0);
  tries = has_tries-other plan h (Save p) refl g.tries;
}

-- a journey that was just begun is at its start, on its way up
pub goes-begin : (plan : Planned) → Goes plan []
goes-begin plan = record {
  stands = refl;
  mode = rises (record {
    from = 0;
    since = record { before = []; part = []; returns = begins; whole = refl };
    low = omega arith;
    within = omega arith;
    reads = refl;
    unturned = refl;
    arrived = λ p e. cc;
  });
  tries = λ unturned. omega arith;
}

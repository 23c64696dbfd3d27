-- The next step of a journey, and the item that a step makes, by the journey's cursor. For the preview.
use Rattle.std.proofs.Common.{◌≡◌, ℕ, zero, suc, ◌+◌, ◌<◌, ◌≤◌, List, [], ◌∷◌, length, refl, ap, sym, ◌∙◌, arith, eq-eqb, Bool, true, false, nat_le, slice_get, find, Option, Some, None, option_map, option_and_then, subst}
use Rattle.std.proofs.lemmas.Bool.{and_parts, leb-true}
use Rattle.std.specs.Prelude.{unwrap_or}
use Rattle.std.specs.List.{list_all}
use Rattle.allotment.specs.Want.{Wanted}
use Rattle.plan.specs.PlanModel.{Planned, StepPlan, numbered, option_count, step_count, want_at}
use Rattle.commands.specs.declared.items.Cause.TheVariants.{Refused}
use Rattle.commands.specs.declared.items.Cursor.{Cursor}
use Rattle.commands.specs.declared.items.Item.{Item}
use Rattle.commands.specs.declared.items.Item.TheVariants.{Transaction, Compensation, Turn}
use Rattle.commands.specs.declared.items.Phase.{Phase}
use Rattle.commands.specs.declared.items.Phase.TheVariants.{Run, Back, Ended, Undone}
use Rattle.commands.specs.declared.replies.Refusal.TheVariants.{NoSavePoint}
use Rattle.ledger.specs.History.{net, last_of, position_of, refusals, phase, is_running, is_finished, may_come, next_option, next_want, refused_target}
use Rattle.ledger.specs.Ledger.{Event, Journey, journey_at, history, fits, item_of}
use Rattle.ledger.specs.Replies.{answer_move, compensation, step_choices}
use Rattle.ledger.proofs.Coming.{step-may_come, compensation-may_come}
use Rattle.ledger.specs.AnswerChanges.{moves}
use Rattle.ledger.specs.Cursors.{cursor_of, marks_of}
use Rattle.ledger.proofs.Answering.{step-fits, step-refused, step-back}
use Rattle.ledger.proofs.Histories.{Follows, follows, is_option_of}
use Rattle.ledger.proofs.Moves.{find-first, find-next, move-finished, seen}
use Rattle.ledger.proofs.Positions.{back_above, last_standing, running_below}
use Rattle.ledger.proofs.Taken.{refused_target_by-marks}
use Rattle.plan.specs.Marks.{is_taken_in}
use Rattle.plan.specs.Rules as rules
use Rattle.saga_core.specs.Views.{record_of, record_of_journey}
use Rattle.saga_core.specs.declared.records.Record.{Record}
use Rattle.saga_core.specs.declared.deciding.Move.{Move}
use Rattle.saga_core.specs.declared.deciding.Move.TheVariants as move
use Rattle.previews.specs.Previews.{begun_as, FitsNext, HasOption, IsJourneyOf, IsStepDown, IsStepUp, item_made, latest_option, next_of, preview_of, step_of, the_next, with_want}
use Rattle.previews.specs.declared.steps.NextStep.{NextStep}
use Rattle.previews.specs.declared.steps.Preview.{Preview}
use Rattle.previews.proofs.LatestLemmas.{latest-standing}

-- an option that a step has is a want of the plan
option_wanted : (plan : Planned) (i c : ℕ) → HasOption plan i c → (w : Wanted) × (want_at plan i c ≡ Some w)
option_wanted plan i c has = go (numbered plan.steps i) refl has.last
  where
    got : {X : Type 0} (xs : List X) (k : ℕ) → k < length xs → (x : X) × (slice_get xs k ≡ Some x)
    got [] k low = absurd (omega arith)
    got (x ∷ xs) zero low = (x, refl)
    got (x ∷ xs) (suc k) low = got xs k (omega arith)

    of_number : {X : Type 0} (xs : List X) (n : ℕ) → 1 ≤ n → n ≤ length xs
        → (x : X) × (numbered xs n ≡ Some x)
    of_number xs zero low high = absurd (omega arith)
    of_number xs (suc k) low high = got xs k (omega arith)

    go : (o : Option StepPlan) → numbered plan.steps i ≡ o
        → c ≤ unwrap_or (option_map (λ (s : StepPlan). length s.options) o) 0
        → (w : Wanted) × (option_and_then (λ (s : StepPlan). numbered s.options c) (numbered plan.steps i) ≡ Some w)
    go None e high = let low = has.first in absurd (omega arith)
    go (Some s) e high =
        let found = of_number s.options c has.first high in
        (found.0, ap (option_and_then (λ (x : StepPlan). numbered x.options c)) e ∙ found.1)

-- Journeys.

-- the record of a journey says what its history does
pub record IsRecord (l : List Event) (j : ℕ) (r : Record) : Type 0 where
  pub at : journey_at l j ≡ Some (begun_as r)
  pub cursor_is : r.cursor ≡ cursor_of r.plan (history l j)
  pub marks_are : r.marks ≡ marks_of (history l j)

-- a journey is its agent and its plan
one_journey : (a : Journey) (agent : List ℕ) (plan : Planned) → a.agent ≡ agent → a.plan ≡ plan
    → a ≡ record { agent = agent; plan = plan }
one_journey a agent plan e f = grind arith

-- it is the record of some journey with the number
record_of_some : (l : List Event) (j : ℕ) (r : Record) (o : Option Journey) → option_map (record_of_journey (history l j)) o ≡ Some r
    → (a : Journey) × (o ≡ Some a) × (r ≡ record_of_journey (history l j) a)
record_of_some l j r o e = grind arith

pub record_is : (l : List Event) (j : ℕ) (r : Record) → record_of l j ≡ Some r → IsRecord l j r
record_is l j r e = grind (arith, record_of_some, one_journey)

-- the same value, if there is one
some_same : {X : Type 0} (x y : X) → Some x ≡ Some y → x ≡ y
some_same x y e = cc

-- the preview of these parts
abbrev the_preview : ℕ → List ℕ → Cursor → Option NextStep → Option Item → Preview
the_preview j agent cursor next step =
    record { brief = record { id = j; agent = agent; cursor = cursor }; next = next; step = step }

-- The next step.

-- of a running journey: the next transaction
next-run : (plan : Planned) (h : List Item) → phase plan h ≡ Run
    → next_of plan h ≡ with_want plan (Transaction (position_of h + 1) (next_option plan h))
next-run plan h run = grind (arith, find-first, step-may_come)

-- of one that does not run, neither a transaction nor a refused turn
next-other : (plan : Planned) (h : List Item) (q : Phase) → phase plan h ≡ q → is_running q ≡ false
    → find (may_come plan h true) (step_choices plan h) ≡ find (may_come plan h true) (compensation h)
next-other plan h q is stays = grind (arith, is, find-next)

-- of one that goes back: the compensation of its last step
next-back : (plan : Planned) (h : List Item) (p i c : ℕ) → phase plan h ≡ Back p → last_of (net h) ≡ Some (i, c)
    → next_of plan h ≡ with_want plan (Compensation i c)
next-back plan h p i c back last = grind (arith, next-other, find-first, compensation-may_come)

-- What a step makes.

-- a step of the house, of a journey that is there
step-of : (l : List Event) (j : ℕ) (a : Journey) → journey_at l j ≡ Some a
    → step_of l j
    ≡ option_and_then (item_of j) (answer_move l j step_choices NoSavePoint (Some a)).event
step-of l j a at = grind (arith, seen)

-- the answer makes this item
step-made : (l : List Event) (j : ℕ) (a : Journey) (c : Cursor) (x : Item) → journey_at l j ≡ Some a
    → answer_move l j step_choices NoSavePoint (Some a) ≡ moves j a.plan c x → step_of l j ≡ Some x
step-made l j a c x at is = grind (arith, step-of, is, eq-eqb)

-- a finished journey makes none
step-finished : (l : List Event) (j : ℕ) (a : Journey) → journey_at l j ≡ Some a
    → is_finished (phase a.plan (history l j)) ≡ true → step_of l j ≡ None
step-finished l j a at finished = grind (arith, step-of, move-finished)

-- The next step of a record.

-- the phase of a record is that of its history
phase-is : (l : List Event) (j : ℕ) (r : Record) (q : Phase) → IsRecord l j r → r.cursor.phase ≡ q
    → phase r.plan (history l j) ≡ q
phase-is l j r q is at = sym (ap (λ (c : Cursor). c.phase) is.cursor_is) ∙ at

position-is : (l : List Event) (j : ℕ) (r : Record) → IsRecord l j r → position_of (history l j) ≡ r.cursor.pos
position-is l j r is = sym (ap (λ (c : Cursor). c.pos) is.cursor_is)

used-is : (l : List Event) (j : ℕ) (r : Record) → IsRecord l j r → refusals (history l j) ≡ r.cursor.used
used-is l j r is = sym (ap (λ (c : Cursor). c.used) is.cursor_is)

module _ (l : List Event) (j : ℕ) (r : Record) (of : IsJourneyOf l j r) where
  abbrev h : List Item
  h = history l j

  is : IsRecord l j r
  is = record_is l j r of.found

  rules_kept : Follows r.plan h
  rules_kept = follows l of.legal j (begun_as r) is.at

  -- a running journey has a next step in its plan
  pub runs_below : r.cursor.phase ≡ Run → r.cursor.pos < step_count r.plan
  runs_below run = grind (arith, position-is, is, running_below, rules_kept, phase-is)

  -- and this is it
  pub up_is_next : (n : NextStep) → r.cursor.phase ≡ Run → IsStepUp r.plan r.cursor.pos r.cursor.used n
      → Some n ≡ next_of r.plan h
  up_is_next n run up = grind (arith, position-is, is, used-is, next-run, phase-is)

  -- one that goes back compensates the step at its position, with the option that it took
  pub record GoesBack (c : ℕ) : Type 0 where
    pub has : HasOption r.plan r.cursor.pos c
    pub last : last_of (net h) ≡ Some (r.cursor.pos, c)
    pub latest : latest_option r.cursor.pos h ≡ Some c

  pub goes_back : (p : ℕ) → r.cursor.phase ≡ Back p → (c : ℕ) × GoesBack c
  goes_back p back =
      let place = position-is l j r is in
      let above = back_above r.plan h p rules_kept (phase-is l j r (Back p) is back) in
      let low = above.0 in
      let high = above.1 in
      let last = last_standing r.plan h rules_kept (omega (arith, low)) in
      let at : last_of (net h) ≡ Some (r.cursor.pos, last.0) = last.1 ∙ ap (λ n. Some (n, last.0)) place in
      let option = has_option (net h) (r.cursor.pos, last.0) at rules_kept.options in
      let both = and_parts (nat_le 1 last.0) (nat_le last.0 (option_count r.plan r.cursor.pos)) option in (
        last.0,
        record {
          has = grind (arith, leb-true);
          last = at;
          latest = latest-standing h r.cursor.pos last.0 at;
        },
      )
    where
      -- the last of a list passes if all do
      has_option : (ts : List (ℕ × ℕ)) (t : ℕ × ℕ) → last_of ts ≡ Some t → list_all (is_option_of r.plan) ts ≡ true
          → is_option_of r.plan t ≡ true
      has_option [] t e all = cc
      has_option (x ∷ []) t e all = grind (arith, is_option_of, and_parts)
      has_option (x ∷ y ∷ ts) t e all =
          has_option (y ∷ ts) t e (and_parts (is_option_of r.plan x) (list_all (is_option_of r.plan) (y ∷ ts)) all).1

  pub down_is_next : (n : NextStep) (p c : ℕ) → r.cursor.phase ≡ Back p → GoesBack c
      → IsStepDown r.plan r.cursor.pos c n → Some n ≡ next_of r.plan h
  down_is_next n p c back here down = grind (arith, next-back, phase-is, is)

  -- What a step makes of the next step.

  -- the next step of a running journey has the next want
  next-want : (n : NextStep) → r.cursor.phase ≡ Run → Some n ≡ next_of r.plan h
      → (next_want r.plan h ≡ Some n.want) × (n.item ≡ Transaction (position_of h + 1) (next_option r.plan h))
  next-want n run next = grind (arith, next-run, phase-is, is, some_same)

  -- its want fits: its item
  pub step_fits : (n : NextStep) → r.cursor.phase ≡ Run → Some n ≡ next_of r.plan h → fits l (Some n.want) ≡ true
      → Some n.item ≡ step_of l j
  step_fits n run next fitting = grind (arith, next-want, step-made, step-fits, phase-is, is)

  -- the next want does not fit: a refused turn
  pub step_turns : (p : ℕ) → r.cursor.phase ≡ Run → fits l (next_want r.plan h) ≡ false
      → p ≡ rules.refused_target r.plan (is_taken_in r.marks) r.cursor.pos r.cursor.used
      → Some (Turn p Refused) ≡ step_of l j
  step_turns p run unfitting target =
      let same : refused_target r.plan h ≡ p =
      refused_target_by-marks r.plan h rules_kept
      ∙ ap (λ m. rules.refused_target r.plan (is_taken_in m) (position_of h) (refusals h)) (sym is.marks_are)
      ∙ ap (λ n. rules.refused_target r.plan (is_taken_in r.marks) n (refusals h)) (position-is l j r is)
      ∙ ap (λ n. rules.refused_target r.plan (is_taken_in r.marks) r.cursor.pos n) (used-is l j r is)
      ∙ sym target in
      sym (step-made l j (begun_as r) (cursor_of r.plan h) (Turn (refused_target r.plan h) Refused) is.at
      (step-refused l j (begun_as r) of.legal is.at (phase-is l j r Run is run) unfitting)
      ∙ ap (λ n. Some (Turn n Refused)) same)

  -- whether the next want of a running journey fits
  pub fits_next : (next : Option NextStep) (fitting : Bool) → r.cursor.phase ≡ Run → next ≡ next_of r.plan h
      → FitsNext l next fitting → fitting ≡ fits l (next_want r.plan h)
  fits_next coming fitting run next is_fit = grind (arith, next-want, next-run, phase-is, is)

  -- a journey that goes back: the item of its next step
  pub step_backs : (n : NextStep) (p : ℕ) → r.cursor.phase ≡ Back p → Some n ≡ next_of r.plan h
      → Some n.item ≡ step_of l j
  step_backs n p back next = grind (arith, goes_back, step-made, step-back, phase-is, is, next-back)

  -- a journey that goes back has a next step
  pub none_goes_back : (p : ℕ) → r.cursor.phase ≡ Back p → None ≡ next_of r.plan h → None ≡ step_of l j
  none_goes_back p back next =
      let here = goes_back p back in
      let want = option_wanted r.plan r.cursor.pos here.0 here.1.has in
      let bad : None ≡ Some (the_next (Compensation r.cursor.pos here.0) want.0) =
      next ∙ next-back r.plan h p r.cursor.pos here.0 (phase-is l j r (Back p) is back) here.1.last
      ∙ ap (option_map (the_next (Compensation r.cursor.pos here.0))) want.1 in
      cc

  -- a finished journey: nothing
  pub step_ends : is_finished r.cursor.phase ≡ true → None ≡ step_of l j
  step_ends finished = grind (arith, step-finished, phase-is, is)

  -- What a step makes, by the move.

  -- the move is the one that the rules let the journey make
  pub record Decides (fitting : Bool) (m : Move) : Type 0 where
    pub takes : r.cursor.phase ≡ Run → fitting ≡ true
        → m ≡ move.Take (r.cursor.pos + 1) (rules.next_option r.plan r.cursor.pos r.cursor.used)
    pub turns : r.cursor.phase ≡ Run → fitting ≡ false
        → m ≡ move.Turn (rules.refused_target r.plan (is_taken_in r.marks) r.cursor.pos r.cursor.used)
    pub undoes : (p : ℕ) → r.cursor.phase ≡ Back p → m ≡ move.Undo r.cursor.pos
    pub ends : is_finished r.cursor.phase ≡ true → m ≡ move.Nothing

  -- the item of that move is what a step makes
  pub step_decided : (next : Option NextStep) (fitting : Bool) (m : Move) → Decides fitting m → next ≡ next_of r.plan h → FitsNext l next fitting
      → item_made next m ≡ step_of l j
  step_decided next fitting m decides is_next is_fit = go r.cursor.phase refl fitting refl
    where
      taken : (o : Option NextStep) → r.cursor.phase ≡ Run → o ≡ next_of r.plan h → FitsNext l o true
          → option_map (λ (n : NextStep). n.item) o ≡ step_of l j
      taken None run is_o fit = cc
      taken (Some n) run is_o fit = step_fits n run is_o (sym fit)

      undone : (o : Option NextStep) (p : ℕ) → r.cursor.phase ≡ Back p → o ≡ next_of r.plan h → option_map (λ (n : NextStep). n.item) o ≡ step_of l j
      undone o p back is_o = grind (arith, none_goes_back, step_backs)

      go : (q : Phase) → r.cursor.phase ≡ q → (b : Bool) → fitting ≡ b → item_made next m ≡ step_of l j
      go Run e true f = ap (item_made next) (decides.takes e f) ∙ taken next e is_next (subst (FitsNext l next) f is_fit)
      go Run e false f = ap (item_made next) (decides.turns e f) ∙ step_turns _ e (sym (fits_next next fitting e is_next is_fit) ∙ f) refl
      go (Back p) e b f = ap (item_made next) (decides.undoes p e) ∙ undone next p e is_next
      go Ended e b f = ap (item_made next) (decides.ends (ap is_finished e)) ∙ step_ends (ap is_finished e)
      go Undone e b f = ap (item_made next) (decides.ends (ap is_finished e)) ∙ step_ends (ap is_finished e)

  -- the preview of its record, its next step and what a step makes
  pub preview_is : (next : Option NextStep) (step : Option Item) → next ≡ next_of r.plan h → step ≡ step_of l j
      → the_preview j r.agent r.cursor next step ≡ preview_of l j (begun_as r)
  preview_is next step is_next is_step = grind (arith, the_preview)

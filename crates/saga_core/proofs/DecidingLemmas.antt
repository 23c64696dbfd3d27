-- The next step of a journey, by its cursor: each move names the item that may come next. For decide.
use Rattle.std.proofs.Common.{◌≡◌, ℕ, ◌+◌, List, refl, ap, sym, ◌∙◌, arith, eq-eqb, true, false, Bool}
use Rattle.std.proofs.lemmas.Bool.{and_from}
use Rattle.std.specs.FinSet as set
use Rattle.std.specs.Ordering.{nat_cmp}
use Rattle.plan.specs.PlanModel.{Planned}
use Rattle.plan.specs.Marks.{is_taken_in}
use Rattle.plan.specs.Rules as rules
use Rattle.commands.specs.declared.items.Cause.TheVariants.{Stop, Refused, Asked}
use Rattle.commands.specs.declared.items.Cursor.{Cursor}
use Rattle.commands.specs.declared.items.Item.{Item}
use Rattle.commands.specs.declared.items.Item.TheVariants.{Transaction, Compensation, Turn, Save}
use Rattle.commands.specs.declared.items.Phase.{Phase}
use Rattle.commands.specs.declared.items.Phase.TheVariants.{Run, Back}
use Rattle.ledger.specs.History.{position_of, next_option, refused_target, phase, is_running, is_going_back, may_come}
use Rattle.ledger.specs.Recovery.{is_forward}
use Rattle.ledger.proofs.Coming.{step-comes, step-may_come, compensation-comes, compensation-may_come, refused-comes, refused-may_come}
use Rattle.ledger.proofs.Modes.{told_apart}
use Rattle.ledger.proofs.Standing.{compensates}
use Rattle.ledger.proofs.Histories.{Follows, follows-of}
use Rattle.ledger.proofs.Positions.{back_above, last_standing}
use Rattle.ledger.proofs.Taken.{refused_target_by-marks}
use Rattle.saga_core.specs.Deciding.{names, IsHere, NamesOnlyStep, NamesStep}
use Rattle.saga_core.specs.declared.deciding.Move.TheVariants as move

-- One history.

-- the next transaction is named by its step and option
names-take : (plan : Planned) (h : List Item) (x : Item) → phase plan h ≡ Run → is_forward x ≡ true
    → may_come plan h true x ≡ true
    → names (move.Take (position_of h + 1) (next_option plan h)) x ≡ true
names-take plan h x run forward may = search (arith, step-comes, and_from, eq-eqb, told_apart, compensation-comes, refused-comes)

-- a refused turn is named by its target
names-turn : (plan : Planned) (h : List Item) (x : Item) → phase plan h ≡ Run → is_forward x ≡ true
    → may_come plan h false x ≡ true
    → names (move.Turn (refused_target plan h)) x ≡ true
names-turn plan h x run forward may = search (arith, step-comes, told_apart, compensation-comes, eq-eqb, refused-comes)

-- the compensation of the last transaction is named by its step, which is the position
names-undo : (plan : Planned) (h : List Item) (fits : Bool) (x : Item) (q : ℕ) → Follows plan h
    → phase plan h ≡ Back q → is_forward x ≡ true → may_come plan h fits x ≡ true
    → names (move.Undo (position_of h)) x ≡ true
names-undo plan h fits (Transaction i c) q f back forward may = grind (arith, told_apart, step-comes)
names-undo plan h fits (Compensation i c) q f back forward may =
    grind (arith, compensation-comes plan h fits i c, compensates h i c f.stands)
names-undo plan h fits (Turn p Stop) q f back forward may = cc
names-undo plan h fits (Turn p Refused) q f back forward may = grind (arith, told_apart, refused-comes)
names-undo plan h fits (Turn p Asked) q f back forward may = cc
names-undo plan h fits (Save p) q f back forward may = cc

-- All histories with this cursor.

-- each such journey is in this phase
here-phase : (plan : Planned) (marks : set.FinSet nat_cmp) (cursor : Cursor) (h : List Item)
    (q : Phase)
    → IsHere plan marks cursor h → cursor.phase ≡ q → phase plan h ≡ q
here-phase plan marks cursor h q here e = ap (λ (c : Cursor). c.phase) here.cursor_is ∙ e

-- the next option is the rule's, by the cursor
here-option : (plan : Planned) (marks : set.FinSet nat_cmp) (cursor : Cursor) (h : List Item)
    → IsHere plan marks cursor h
    → next_option plan h ≡ rules.next_option plan cursor.pos cursor.used
here-option plan marks cursor h here = cc

-- the next step is the one after the position
here-step : (plan : Planned) (marks : set.FinSet nat_cmp) (cursor : Cursor) (h : List Item)
    → IsHere plan marks cursor h → position_of h + 1 ≡ cursor.pos + 1
here-step plan marks cursor h here = ap (λ (c : Cursor). c.pos + 1) here.cursor_is

-- the target of a refused step is the rule's, by the cursor and the set
here-target : (plan : Planned) (marks : set.FinSet nat_cmp) (cursor : Cursor) (h : List Item)
    → IsHere plan marks cursor h
    → refused_target plan h ≡ rules.refused_target plan (is_taken_in marks) cursor.pos cursor.used
here-target plan marks cursor h here =
    grind (arith, refused_target_by-marks plan h (follows-of plan h here.has), follows-of plan h)

-- if the next want fits, only the next transaction may come
pub only-take : (plan : Planned) (marks : set.FinSet nat_cmp) (cursor : Cursor) (fits : Bool)
    (option : ℕ)
    → cursor.phase ≡ Run → fits ≡ true → option ≡ rules.next_option plan cursor.pos cursor.used
    → NamesOnlyStep plan marks cursor fits (move.Take (cursor.pos + 1) option)
only-take plan marks cursor fits option run fitting option_is h x here forward may =
    ap (λ n. names (move.Take n option) x) (sym (here-step plan marks cursor h here))
    ∙ ap (λ n. names (move.Take (position_of h + 1) n) x)
    (option_is ∙ sym (here-option plan marks cursor h here))
    ∙ names-take plan h x (here-phase plan marks cursor h Run here run) forward
    (ap (λ b. may_come plan h b x) (sym fitting) ∙ may)

-- if the next want fits, the next transaction may come
pub one-take : (plan : Planned) (marks : set.FinSet nat_cmp) (cursor : Cursor) (fits : Bool)
    (option : ℕ)
    → cursor.phase ≡ Run → fits ≡ true → option ≡ rules.next_option plan cursor.pos cursor.used
    → NamesStep plan marks cursor fits (move.Take (cursor.pos + 1) option)
one-take plan marks cursor fits option run fitting option_is h here unfinished = (
  Transaction (position_of h + 1) (next_option plan h),
  refl,
  step-may_come plan h fits (ap is_running (here-phase plan marks cursor h Run here run)) fitting,
  and_from _ _ (eq-eqb _ _ (sym (here-step plan marks cursor h here)))
      (eq-eqb _ _ (option_is ∙ sym (here-option plan marks cursor h here))),
)

-- if the next want does not fit, only the refused turn may come
pub only-turn : (plan : Planned) (marks : set.FinSet nat_cmp) (cursor : Cursor) (fits : Bool)
    (target : ℕ)
    → cursor.phase ≡ Run → fits ≡ false
    → target ≡ rules.refused_target plan (is_taken_in marks) cursor.pos cursor.used
    → NamesOnlyStep plan marks cursor fits (move.Turn target)
only-turn plan marks cursor fits target run unfitting target_is h x here forward may =
    ap (λ p. names (move.Turn p) x) (target_is ∙ sym (here-target plan marks cursor h here))
    ∙ names-turn plan h x (here-phase plan marks cursor h Run here run) forward
    (ap (λ b. may_come plan h b x) (sym unfitting) ∙ may)

-- if the next want does not fit, the refused turn may come
pub one-turn : (plan : Planned) (marks : set.FinSet nat_cmp) (cursor : Cursor) (fits : Bool)
    (target : ℕ)
    → cursor.phase ≡ Run → fits ≡ false
    → target ≡ rules.refused_target plan (is_taken_in marks) cursor.pos cursor.used
    → NamesStep plan marks cursor fits (move.Turn target)
one-turn plan marks cursor fits target run unfitting target_is h here unfinished = (
  Turn (refused_target plan h) Refused,
  refl,
  refused-may_come plan h fits (ap is_running (here-phase plan marks cursor h Run here run))
      unfitting,
  eq-eqb _ _ (target_is ∙ sym (here-target plan marks cursor h here)),
)

-- in a journey that goes back only the compensation of the last step may come
pub only-undo : (plan : Planned) (marks : set.FinSet nat_cmp) (cursor : Cursor) (fits : Bool)
    (q : ℕ)
    → cursor.phase ≡ Back q → NamesOnlyStep plan marks cursor fits (move.Undo cursor.pos)
only-undo plan marks cursor fits q back h x here forward may =
    ap (λ (c : Cursor). names (move.Undo c.pos) x) (sym here.cursor_is)
    ∙ names-undo plan h fits x q (follows-of plan h here.has)
    (here-phase plan marks cursor h (Back q) here back) forward may

-- in a journey that goes back the compensation of the last step may come
pub one-undo : (plan : Planned) (marks : set.FinSet nat_cmp) (cursor : Cursor) (fits : Bool) (q : ℕ)
    → cursor.phase ≡ Back q → NamesStep plan marks cursor fits (move.Undo cursor.pos)
one-undo plan marks cursor fits q back h here unfinished =
    let f = follows-of plan h here.has in
    let is_back = here-phase plan marks cursor h (Back q) here back in
    let last = last_standing plan h f (let k = (back_above plan h q f is_back).0 in omega arith) in (
      Compensation (position_of h) last.0,
      refl,
      compensation-may_come plan h fits (position_of h) last.0 (ap is_going_back is_back) last.1,
      eq-eqb _ _ (ap (λ (c : Cursor). c.pos) (sym here.cursor_is)),
    )

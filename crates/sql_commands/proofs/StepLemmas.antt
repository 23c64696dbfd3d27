-- What a record implies for its journey, and the decision on a step of it, which is the answer of the rules. For `moves` and
-- `step_outcome`.
use Rattle.std.proofs.Common.{◌≡◌, ℕ, true, false, List, Option, Some, None, refl, ap, sym, ◌∙◌, subst, option_map, Result, ◌==◌, Bool, IsTrue, ap₂, eqb-true, ◌↔◌, Ok, Err, IfOk, if◌then◌else◌, ◌&&◌, nat_cmp, nat_lt, not}
use Rattle.std.specs.FinSet as set
use Rattle.plan.specs.PlanModel.{Planned}
use Rattle.plan.specs.Marks.{is_taken_in}
use Rattle.plan.specs.Turns.{may_be_made, turn_target}
use Rattle.ledger.specs.JourneyChanges.{target_of}
use Rattle.plan.specs.declared.turns.Turn.{Turn as Reason}
use Rattle.plan.specs.declared.turns.Turn.TheVariants as turn
use Rattle.commands.specs.declared.items.Cause.{Cause}
use Rattle.commands.specs.declared.items.Cause.TheVariants as causes
use Rattle.commands.specs.declared.items.Cursor.{Cursor}
use Rattle.commands.specs.declared.items.Item.{Item}
use Rattle.commands.specs.declared.replies.Refusal.{Refusal}
use Rattle.commands.specs.declared.replies.Refusal.TheVariants.{NoSavePoint, NoSave, Finished}
use Rattle.ledger.specs.Answer.{State}
use Rattle.ledger.specs.Replies.{answer_move, sees, seen_journey, abort_choices, stop_choices, save_choices, step_choices}
use Rattle.ledger.specs.Ledger.{Event, Journey, journey_at, history, IsLegal, fits}
use Rattle.ledger.specs.Cursors.{cursor_of, marks_of}
use Rattle.ledger.proofs.Moves.{seen, unseen, seen-none, move-finished}
use Rattle.saga_core.specs.Views.{record_of, record_of_journey}
use Rattle.saga_core.proofs.RulingLemmas.{abort_ruled, save_ruled, stop_ruled}
use Rattle.saga_core.specs.Rulings.{turn_said, save_said, Fits}
use Rattle.saga_core.specs.declared.records.Record.{Record}
use Rattle.sql_commands.specs.Placing.{begun_as, IsSeen}
use Rattle.std.proofs.lemmas.Bool.{and_parts}
use Rattle.plan.specs.Rules as rules
use Rattle.commands.specs.declared.items.Cause.TheVariants.{Stop, Refused, Asked}
use Rattle.commands.specs.declared.items.Item.TheVariants.{Transaction, Compensation, Turn, Save}
use Rattle.commands.specs.declared.items.Phase.{Phase}
use Rattle.commands.specs.declared.items.Phase.TheVariants.{Run, Ended, Undone}
use Rattle.ledger.specs.History.{next_want, phase, is_running, is_finished, is_open, may_come}
use Rattle.ledger.specs.Recovery.{is_forward}
use Rattle.ledger.proofs.Coming.{compensation-comes, step-comes, refused-comes, compensation-may_come}
use Rattle.ledger.proofs.Answering.{step-answer}
use Rattle.saga_core.specs.Deciding.{names, NamesStep}
use Rattle.saga_core.specs.declared.deciding.Move.{Move}
use Rattle.saga_core.specs.declared.deciding.Move.TheVariants as move
use Rattle.sql_commands.specs.Moving.{FitsNext, IsLastOption, IsMove}

-- What a record implies for its journey, and the answers of the rules to its moves.

-- Records.

-- a record that a read returned is that of the journey with its number
record IsShown (l : List Event) (id : ℕ) (r : Record) : Type 0 where
  at : journey_at l id ≡ Some (begun_as r)
  cursor : r.cursor ≡ cursor_of r.plan (history l id)
  marks : r.marks ≡ marks_of (history l id)

-- it is the record of some journey with the number
shown_of : (l : List Event) (id : ℕ) (r : Record) (o : Option Journey) → Some r ≡ option_map (record_of_journey (history l id)) o
    → (a : Journey) × (o ≡ Some a) × (r ≡ record_of_journey (history l id) a)
shown_of l id r None e = cc
shown_of l id r (Some a) e = (a, refl, cc)

shown : (l : List Event) (id : ℕ) (r : Record) → Some r ≡ record_of l id → IsShown l id r
shown l id r e =
    let of = shown_of l id r (journey_at l id) e in
    let plan : r.plan ≡ of.0.plan = ap (λ (b : Record). b.plan) of.2 in
    let cursor : r.cursor ≡ cursor_of of.0.plan (history l id) = ap (λ (b : Record). b.cursor) of.2 in
    let marks : r.marks ≡ marks_of (history l id) = ap (λ (b : Record). b.marks) of.2 in
    record {
      at = of.1 ∙ ap (λ b. Some (begun_as b)) (sym of.2);
      cursor = cursor ∙ ap (λ p. cursor_of p (history l id)) (sym plan);
      marks = marks;
    }

-- a caller who sees the journeys of its agent sees the record
pub record_seen : (s : State) (who : Option (List ℕ)) (id : ℕ) (r : Record) → Some r ≡ record_of s.ledger id
    → sees who (begun_as r) ≡ true → IsSeen s who id r
record_seen s who id r e see =
    let is = shown s.ledger id r e in
    record {
      at = is.at;
      seen = seen s.ledger who id (begun_as r) is.at see;
      cursor = is.cursor;
      marks = is.marks;
    }

-- a caller who does not see them sees no record
pub record_unseen : (s : State) (who : Option (List ℕ)) (id : ℕ) (r : Record) → Some r ≡ record_of s.ledger id
    → sees who (begun_as r) ≡ false → seen_journey s.ledger who id ≡ None
record_unseen s who id r e see = unseen s.ledger who id (begun_as r) (shown s.ledger id r e).at see

-- if there is no record, there is no journey
pub none_seen : (s : State) (who : Option (List ℕ)) (id : ℕ) → None ≡ record_of s.ledger id
    → seen_journey s.ledger who id ≡ None
none_seen s who id e = seen-none s.ledger who id (go (journey_at s.ledger id) e)
  where
    go : (o : Option Journey) → None ≡ option_map (record_of_journey (history s.ledger id)) o → o ≡ None
    go None n = refl
    go (Some a) n = cc

-- Moves.

-- a record that the caller sees
module _ (s : State) (legal : IsLegal s.ledger) (who : Option (List ℕ)) (id : ℕ) (r : Record) (is : IsSeen s who id r) where
  -- the items of the record's journey
  abbrev items : List Item
  items = history s.ledger id

  -- the rules on the journey are the rules on the record
  pub from_history : (choices : Planned → List Item → List Item) (otherwise : Refusal) (next : Result Item Refusal)
      → Fits id r.plan (cursor_of r.plan items) (answer_move s.ledger id choices otherwise (Some (begun_as r))) next
      → Fits id r.plan r.cursor (answer_move s.ledger id choices otherwise (seen_journey s.ledger who id)) next
  from_history choices otherwise next fits =
      subst (λ (c : Cursor). Fits id r.plan c (answer_move s.ledger id choices otherwise (seen_journey s.ledger who id)) next)
      (sym is.cursor)
      (subst (λ o. Fits id r.plan (cursor_of r.plan items) (answer_move s.ledger id choices otherwise o) next) (sym is.seen) fits)

  -- the ruling on a turn is the same by the record and by the journey
  turn_same : (why : Reason) (cause : Cause) → turn_said r.plan (cursor_of r.plan items) (marks_of items) why cause
      ≡ turn_said r.plan r.cursor r.marks why cause
  turn_same why cause =
      ap (λ c. turn_said r.plan c (marks_of items) why cause) (sym is.cursor)
      ∙ ap (λ ms. turn_said r.plan r.cursor ms why cause) (sym is.marks)

  -- an abort
  pub abort_next : (q : ℕ) (next : Result Item Refusal) → next ≡ turn_said r.plan r.cursor r.marks (turn.Asked q) causes.Asked
      → Fits id r.plan r.cursor (answer_move s.ledger id (abort_choices q) NoSavePoint (seen_journey s.ledger who id)) next
  abort_next q next said =
      from_history (abort_choices q) NoSavePoint next
      (subst (Fits id r.plan (cursor_of r.plan items) (answer_move s.ledger id (abort_choices q) NoSavePoint (Some (begun_as r))))
      (turn_same (turn.Asked q) causes.Asked ∙ sym said)
      (abort_ruled s.ledger legal id (begun_as r) is.at q))

  -- a stop
  pub stop_next : (next : Result Item Refusal) → next ≡ turn_said r.plan r.cursor r.marks turn.Stop causes.Stop
      → Fits id r.plan r.cursor (answer_move s.ledger id stop_choices NoSavePoint (seen_journey s.ledger who id)) next
  stop_next next said =
      from_history stop_choices NoSavePoint next
      (subst (Fits id r.plan (cursor_of r.plan items) (answer_move s.ledger id stop_choices NoSavePoint (Some (begun_as r))))
      (turn_same turn.Stop causes.Stop ∙ sym said)
      (stop_ruled s.ledger legal id (begun_as r) is.at))

  -- taking a save-point
  pub save_next : (next : Result Item Refusal) → next ≡ save_said r.plan r.cursor r.marks
      → Fits id r.plan r.cursor (answer_move s.ledger id save_choices NoSave (seen_journey s.ledger who id)) next
  save_next next said =
      from_history save_choices NoSave next
      (subst (Fits id r.plan (cursor_of r.plan items) (answer_move s.ledger id save_choices NoSave (Some (begun_as r))))
      (ap (λ c. save_said r.plan c (marks_of items)) (sym is.cursor)
      ∙ ap (λ ms. save_said r.plan r.cursor ms) (sym is.marks) ∙ sym said)
      (save_ruled s.ledger legal id (begun_as r) is.at))

-- The decision on a step of a journey is the answer of the rules.

-- the item, or the refusal, of the decision
abbrev pub IsSaid : State → ℕ → Move → Result Item Refusal → Type 0
IsSaid s id (move.Take i c) next = next ≡ Ok (Transaction i c)
IsSaid s id (move.Undo i) next =
    (option : ℕ) × IsLastOption id i s option × (next ≡ Ok (Compensation i option))
IsSaid s id (move.Turn p) next = next ≡ Ok (Turn p Refused)
IsSaid s id move.Nothing next = next ≡ Err Finished

-- the phase that runs
running-is : (p : Phase) → is_running p ≡ true → p ≡ Run
running-is Run e = refl
running-is _ e = cc

-- a phase that is not finished is open
open-from : (p : Phase) → is_finished p ≡ false → is_open p ≡ true
open-from Ended e = cc
open-from Undone e = cc
open-from _ e = refl

-- whether the next want fits counts only if the journey runs
comes_so : (plan : Planned) (h : List Item) (fit real : Bool) (x : Item) → is_forward x ≡ true
    → (phase plan h ≡ Run → fit ≡ real) → may_come plan h fit x ≡ true → may_come plan h real x ≡ true
comes_so plan h fit real (Transaction i c) forward is comes =
    let k = step-comes plan h fit i c comes in
    subst (λ b. may_come plan h b (Transaction i c) ≡ true) (is (running-is _ k.running)) comes
comes_so plan h fit real (Compensation i c) forward is comes =
    let k = compensation-comes plan h fit i c comes in compensation-may_come plan h real i c k.back k.last
comes_so plan h fit real (Turn p Refused) forward is comes =
    let k = refused-comes plan h fit p comes in
    subst (λ b. may_come plan h b (Turn p Refused) ≡ true) (is (running-is _ k.running)) comes
comes_so plan h fit real _ forward is comes = cc

-- the item that the decision names is the item of the answer
said_item : (s : State) (id : ℕ) (a : Journey) (fit : Bool) (decided : Move) (next : Result Item Refusal) (x : Item)
    → journey_at s.ledger id ≡ Some a → IsSaid s id decided next → names decided x ≡ true
    → may_come a.plan (history s.ledger id) fit x ≡ true → next ≡ Ok x
said_item s id a fit (move.Take i c) next (Transaction k d) at said named comes =
    let both = and_parts (i == k) (c == d) named in
    said ∙ ap₂ (λ n m. Ok (Transaction n m)) (eqb-true i k both.0) (eqb-true c d both.1)
said_item s id a fit (move.Undo i) next (Compensation k d) at said named comes =
    let same = eqb-true i k named in
    let last = (compensation-comes a.plan (history s.ledger id) fit k d comes).last in
    let option : said.0 ≡ d = said.1 a d at (last ∙ ap (λ n. Some (n, d)) (sym same)) in
    said.2 ∙ ap₂ (λ n m. Ok (Compensation n m)) same option
said_item s id a fit (move.Turn p) next (Turn q Refused) at said named comes =
    said ∙ ap (λ n. Ok (Turn n Refused)) (eqb-true p q named)
said_item s id a fit _ next _ at said named comes = cc

-- the decision on a record that the caller sees is the answer of the rules
pub step_next : (s : State) (legal : IsLegal s.ledger) (who : Option (List ℕ)) (id : ℕ) (r : Record) (is : IsSeen s who id r)
    (fit : Bool) → FitsNext r s fit → (decided : Move) → NamesStep r.plan r.marks r.cursor fit decided
    → ((decided ≡ move.Nothing) ↔ IsTrue (is_finished r.cursor.phase)) → (next : Result Item Refusal) → IsSaid s id decided next
    → Fits id r.plan r.cursor (answer_move s.ledger id step_choices NoSavePoint (seen_journey s.ledger who id)) next
step_next s legal who id r is fit fitting decided one nothing next said =
    from_history s legal who id r is step_choices NoSavePoint next (go (is_finished r.cursor.phase) refl)
  where
    finished_said : (d : Move) → d ≡ move.Nothing → IsSaid s id d next → next ≡ Err Finished
    finished_said move.Nothing e t = t
    finished_said _ e t = cc

    go : (v : Bool) → is_finished r.cursor.phase ≡ v
        → Fits id r.plan (cursor_of r.plan (history s.ledger id))
        (answer_move s.ledger id step_choices NoSavePoint (Some (begun_as r))) next
    go true e =
        let answer = move-finished s.ledger id step_choices NoSavePoint (begun_as r)
        (ap (λ (c : Cursor). is_finished c.phase) (sym is.cursor) ∙ e) in
        subst (λ n. Fits id r.plan (cursor_of r.plan (history s.ledger id))
        (answer_move s.ledger id step_choices NoSavePoint (Some (begun_as r))) n)
        (sym (finished_said decided (nothing.1 e) said)) answer
    go false e =
        let found = one (history s.ledger id)
        (record {
          has = record {
            ledger = s.ledger;
            number = id;
            journey = begun_as r;
            legal = legal;
            at = is.at;
            planned = refl;
            past = refl;
          };
          cursor_is = sym is.cursor;
          marks_are = sym is.marks;
        })
        (open-from r.cursor.phase e) in
        let x = found.0 in
        let real = fits s.ledger (next_want r.plan (history s.ledger id)) in
        let comes = comes_so r.plan (history s.ledger id) fit real x found.1
        (λ run. fitting (ap (λ (c : Cursor). c.phase) is.cursor ∙ run)
        ∙ ap (λ (c : Cursor). fits s.ledger (rules.next_want r.plan c.pos c.used)) is.cursor) found.2 in
        let item = said_item s id (begun_as r) fit decided next x is.at said found.3 found.2 in
        subst (λ n. Fits id r.plan (cursor_of r.plan (history s.ledger id))
        (answer_move s.ledger id step_choices NoSavePoint (Some (begun_as r))) n) (sym item)
        (step-answer s.ledger id (begun_as r) x legal is.at found.1 comes)

-- What answers a move is a turn or a save-point.

pub turn_moves : (plan : Planned) (c : Cursor) (marks : set.FinSet nat_cmp) (why : Reason) (cause : Cause)
    → IfOk (turn_said plan c marks why cause) (IsMove c)
turn_moves plan c marks why cause = go (is_finished c.phase) (may_be_made plan (is_taken_in marks) c.pos (target_of c.phase) why)
  where
    go : (a b : Bool) → IfOk (if a then Err Finished else if b
        then Ok (Turn (turn_target plan (is_taken_in marks) c.pos c.used why) cause) else Err NoSavePoint) (IsMove c)
    go true b = tt
    go false true = tt
    go false false = tt

pub save_moves : (plan : Planned) (c : Cursor) (marks : set.FinSet nat_cmp) → IfOk (save_said plan c marks) (IsMove c)
save_moves plan c marks =
    go (is_finished c.phase) (is_running c.phase && nat_lt 0 c.pos && not (rules.is_save_point plan (is_taken_in marks) c.pos c.pos))
  where
    go : (a b : Bool) → IfOk (if a then Err Finished else if b then Ok (Save c.pos) else Err NoSave) (IsMove c)
    go true b = tt
    go false true = refl
    go false false = tt

-- What the rows of a step imply for the answer of the rules. For `step_outcome`.
use Rattle.std.proofs.Common.{◌≡◌, ℕ, ◌+◌, ◌<◌, ◌≤◌, List, Option, Some, None, true, false, Bool, refl, sym, ap, subst, ◌∙◌, arith, option_map, if◌then◌else◌, nat_lt, Result, Ok, nat_cmp}
use Rattle.std.specs.FinSet as set
use Rattle.plan.specs.PlanModel.{Planned, step_count, want_at}
use Rattle.plan.specs.Marks.{is_taken_in}
use Rattle.plan.specs.Rules as rules
use Rattle.std.proofs.lemmas.Bool.Decides.{nat_tests}
use Rattle.plan.specs.declared.turns.Turn.TheVariants as turn
use Rattle.commands.specs.declared.items.Cause.{Cause}
use Rattle.commands.specs.declared.items.Cause.TheVariants as causes
use Rattle.saga_core.specs.Rulings.{turn_said, Fits}
use Rattle.commands.specs.declared.items.Cursor.{Cursor}
use Rattle.commands.specs.declared.items.Item.{Item}
use Rattle.commands.specs.declared.items.Item.TheVariants as item
use Rattle.commands.specs.declared.items.Phase.TheVariants.{Run, Back}
use Rattle.ledger.specs.Answer.{State, asker, answer_within, kept_for}
use Rattle.commands.specs.Asks.{Asked}
use Rattle.commands.specs.Request as request
use Rattle.sql_commands.specs.declared.moves.Motion.{Motion}
use Rattle.sql_commands.specs.declared.moves.Motion.TheVariants as motion
use Rattle.commands.specs.declared.replies.Refusal.{Refusal}
use Rattle.commands.specs.declared.replies.Refusal.TheVariants.{NoSavePoint}
use Rattle.ledger.specs.History.{is_finished, position_of}
use Rattle.ledger.specs.Ledger.{fits, history}
use Rattle.ledger.specs.Replies.{Answer, sees, seen_journey, answer_move, abort_choices, step_choices}
use Rattle.ledger.proofs.Histories.{follows}
use Rattle.ledger.proofs.Positions.{last_standing}
use Rattle.ledger.specs.Cursors.{marks_of}
use Rattle.saga_core.specs.Views.{record_of, record_of_journey}
use Rattle.saga_core.specs.Deciding.{NamesStep}
use Rattle.saga_core.specs.declared.deciding.Move.{Move}
use Rattle.saga_core.specs.declared.deciding.Move.TheVariants as move
use Rattle.saga_core.specs.declared.records.Record.{Record}
use Rattle.saga_core.proofs.DecidingLemmas.{one-take, one-turn, one-undo}
use Rattle.sql_model.specs.Standing.{IsDesk}
use Rattle.sql_reads.specs.Reading.{stand_of, HasStand, IsRecordOf}
use Rattle.sql_reads.specs.declared.reads.Stand.{Stand}
use Rattle.sql_reads.specs.OptionChoice.{IsNextChoice, IsLastChoice}
use Rattle.sql_commands.specs.Moving.{LeadsToStart, FitsIn, FitsNext, IsDue, IsFound, IsLastOption, IsMade, IsNext, IsNextMade, IsRead, IsStuck, IsUnfit, asked_for, down_made, save_made, turn_made, up_made}
use Rattle.saga_core.specs.Cursors.{turned_to}
use Rattle.sql_commands.specs.Placing.{begun_as, IsSeen, StandsAt}
use Rattle.sql_commands.specs.declared.cursors.Found.{Found}
use Rattle.sql_commands.specs.declared.cursors.Made.{Made}
use Rattle.sql_reads.specs.declared.plan_rows.Choice.{Choice}
use Rattle.sql_commands.proofs.StepLemmas.{abort_next, record_seen, record_unseen, none_seen, IsSaid, step_next}

-- The cursor of a journey.

-- the agent, steps and cursor that were found are those of the record
stand_shown : (stand : Stand) (o : Option Record) → Some stand ≡ option_map stand_of o
    → (r : Record) × (o ≡ Some r) × (stand_of r ≡ stand)
stand_shown stand None e = cc
stand_shown stand (Some r) e = (r, refl, cc)

module _ (s : State) (who : Option (List ℕ)) (id : ℕ) where
  -- a caller who sees the journeys of its agent sees the journey
  pub stand_seen : (stand : Stand) → Some stand ≡ option_map stand_of (record_of s.ledger id)
      → ((plan : Planned) → true ≡ sees who (record { agent = stand.agent; plan = plan })) → (r : Record) × IsSeen s who id r × (stand_of r ≡ stand)
  stand_seen stand found seen =
      let it = stand_shown stand (record_of s.ledger id) found in
      let agent : it.0.agent ≡ stand.agent = ap (λ (x : Stand). x.agent) it.2 in (
        it.0,
        record_seen s who id it.0 (sym it.1)
            (ap (λ a. sees who (record { agent = a; plan = it.0.plan })) agent ∙ sym (seen it.0.plan)),
        it.2,
      )

  -- a caller who does not see them does not see the journey
  pub stand_unseen : (stand : Stand) → Some stand ≡ option_map stand_of (record_of s.ledger id)
      → ((plan : Planned) → false ≡ sees who (record { agent = stand.agent; plan = plan })) → seen_journey s.ledger who id ≡ None
  stand_unseen stand found seen =
      let it = stand_shown stand (record_of s.ledger id) found in
      let agent : it.0.agent ≡ stand.agent = ap (λ (x : Stand). x.agent) it.2 in
      record_unseen s who id it.0 (sym it.1)
      (ap (λ a. sees who (record { agent = a; plan = it.0.plan })) agent ∙ sym (seen it.0.plan))

  -- if nothing is found, there is no journey
  pub stand_none : None ≡ option_map stand_of (record_of s.ledger id) → seen_journey s.ledger who id ≡ None
  stand_none found = none_seen s who id (go (record_of s.ledger id) found)
    where
      go : (o : Option Record) → None ≡ option_map stand_of o → None ≡ o
      go None e = refl
      go (Some r) e = cc

-- The step of a journey.

module _ (s : State) (desk : IsDesk s) (who : Option (List ℕ)) (id : ℕ) (r : Record) (is : IsSeen s who id r) where
  -- the answer of the rules to a step of the journey
  abbrev answered : Answer
  answered = answer_move s.ledger id step_choices NoSavePoint (seen_journey s.ledger who id)

  -- the rules answer the item that is decided
  decided : (fit : Bool) → FitsNext r s fit → (d : Move) → NamesStep r.plan r.marks r.cursor fit d
      → is_finished r.cursor.phase ≡ false → (d ≡ move.Nothing → ⊥) → (x : Item) → IsSaid s id d (Ok x)
      → Fits id r.plan r.cursor answered (Ok x)
  decided fit fitting d one goes some x said =
      step_next s desk.legal who id r is fit fitting d one
      ((λ e. absurd (some e)), (λ e. absurd (let bad : true ≡ false = sym e ∙ goes in cc))) (Ok x) said

  up_at : (choice : Choice) → r.cursor.phase ≡ Run → r.cursor.pos < step_count r.plan
      → IsNextChoice id (r.cursor.pos + 1) r.cursor.used s choice → FitsIn choice.want s true
      → IsNextMade id r answered (up_made id (stand_of r) choice)
  up_at choice run below next fit =
      let i = r.cursor.pos + 1 in
      let chosen = next (begun_as r) is.at (omega arith) (omega arith) in
      let option : choice.option ≡ rules.next_option r.plan r.cursor.pos r.cursor.used = chosen.0 in
      let want : rules.next_want r.plan r.cursor.pos r.cursor.used ≡ Some choice.want =
      ap (want_at r.plan i) (sym option) ∙ chosen.1 in
      let fitting : FitsNext r s true = λ now. fit ∙ ap (fits s.ledger) (sym want) in
      record {
        next = decided true fitting (move.Take i choice.option) (one-take r.plan r.marks r.cursor true choice.option run refl option)
            (ap is_finished run) (λ e. cc) (item.Transaction i choice.option) refl;
        says = (choice.want, chosen.1, refl);
        cursor = refl;
      }

  down_at : (choice : Choice) (q : ℕ) → r.cursor.phase ≡ Back q → 1 ≤ r.cursor.pos → IsLastChoice id r.cursor.pos s choice
      → IsNextMade id r answered (down_made id (stand_of r) choice)
  down_at choice q back above last =
      let i = r.cursor.pos in
      let h = history s.ledger id in
      let here : i ≡ position_of h = ap (λ (c : Cursor). c.pos) is.cursor in
      let standing = last_standing r.plan h (follows s.ledger desk.legal id (begun_as r) is.at) (let e = here in omega (arith, e)) in
      let chosen = last (begun_as r) standing.0 is.at (standing.1 ∙ ap (λ n. Some (n, standing.0)) (sym here)) in
      let option : IsLastOption id i s choice.option = λ a c at stands. (last a c at stands).0 in
      let fitting : FitsNext r s false = λ now. absurd (let bad : Back q ≡ Run = sym back ∙ now in cc) in
      record {
        next = decided false fitting (move.Undo i) (one-undo r.plan r.marks r.cursor false q back) (ap is_finished back) (λ e. cc)
            (item.Compensation i choice.option) (choice.option, option, refl);
        says = (choice.want, ap (want_at r.plan i) chosen.0 ∙ chosen.1, refl);
        cursor = refl;
      }

  -- no try is left, so a refused step leads to the start
  refused_at : IsStuck r s → r.plan.tries ≤ r.cursor.used
      → Fits id r.plan r.cursor answered (Ok (item.Turn 0 causes.Refused))
  refused_at stuck none =
      let target : 0 ≡ rules.refused_target r.plan (is_taken_in r.marks) r.cursor.pos r.cursor.used =
      sym (ap (λ b. if b then rules.last_save r.plan (is_taken_in r.marks) r.cursor.pos else 0) (none_left none)) in
      decided false stuck.1 (move.Turn 0) (one-turn r.plan r.marks r.cursor false 0 stuck.0 refl target)
      (ap is_finished stuck.0) (λ e. cc) (item.Turn 0 causes.Refused) refl
    where
      none_left : r.plan.tries ≤ r.cursor.used → nat_lt r.cursor.used r.plan.tries ≡ false
      none_left more = grind (arith, nat_tests)

  -- a journey that runs may be turned to its start
  asked_at : r.cursor.phase ≡ Run
      → Fits id r.plan r.cursor (answer_move s.ledger id (abort_choices 0) NoSavePoint (seen_journey s.ledger who id)) (Ok (item.Turn 0 causes.Asked))
  asked_at run =
      abort_next s desk.legal who id r is 0 (Ok (item.Turn 0 causes.Asked))
      (ap (λ p. turn_said r.plan (record { pos = r.cursor.pos; phase = p; used = r.cursor.used }) r.marks (turn.Asked 0) causes.Asked) (sym run))

  -- what leads to the start is the answer of the rules
  pub start_at : (why : Motion) (cause : Cause) → LeadsToStart (stand_of r) why cause → IsUnfit id why s
      → Fits id r.plan r.cursor (answer_within s.ledger who (asked_for id why)) (Ok (item.Turn 0 cause))
  start_at motion.Refused cause leads unfit = rw leads.1 (refused_at (unfit who r is) leads.0)
  start_at (motion.Abort p) cause leads unfit =
      rw (leads.0, leads.2) (asked_at leads.1)
  start_at motion.Stop cause leads unfit = absurd leads
  start_at motion.Save cause leads unfit = absurd leads

  -- the next step, if its want fits
  pub up_comes : (stand : Stand) → stand_of r ≡ stand → (choice : Choice) → stand.cursor.phase ≡ Run
      → stand.cursor.pos < stand.steps → IsNextChoice id (stand.cursor.pos + 1) stand.cursor.used s choice
      → FitsIn choice.want s true → IsNextMade id r answered (up_made id stand choice)
  up_comes stand same choice =
      subst
      (λ (x : Stand). x.cursor.phase ≡ Run → x.cursor.pos < x.steps → IsNextChoice id (x.cursor.pos + 1) x.cursor.used s choice
      → FitsIn choice.want s true → IsNextMade id r answered (up_made id x choice)) same (up_at choice)

  -- the compensation of the last standing step
  pub down_comes : (stand : Stand) → stand_of r ≡ stand → (choice : Choice) (q : ℕ) → stand.cursor.phase ≡ Back q
      → 1 ≤ stand.cursor.pos → IsLastChoice id stand.cursor.pos s choice
      → IsNextMade id r answered (down_made id stand choice)
  down_comes stand same choice q =
      subst
      (λ (x : Stand). x.cursor.phase ≡ Back q → 1 ≤ x.cursor.pos → IsLastChoice id x.cursor.pos s choice
      → IsNextMade id r answered (down_made id x choice)) same (down_at choice q)

  -- a turn, if its want does not fit
  pub refused_comes : (stand : Stand) → stand_of r ≡ stand → (choice : Choice) → stand.cursor.phase ≡ Run
      → stand.cursor.pos < stand.steps → IsNextChoice id (stand.cursor.pos + 1) stand.cursor.used s choice
      → FitsIn choice.want s false → IsStuck r s
  refused_comes stand same choice =
      subst
      (λ (x : Stand). x.cursor.phase ≡ Run → x.cursor.pos < x.steps → IsNextChoice id (x.cursor.pos + 1) x.cursor.used s choice
      → FitsIn choice.want s false → IsStuck r s) same
      (λ run below next fit. (
        run,
        λ now. (
            let chosen = next (begun_as r) is.at (omega arith) (omega arith) in
            fit ∙ ap (fits s.ledger) (sym chosen.1) ∙ ap (λ n. fits s.ledger (want_at r.plan (r.cursor.pos + 1) n)) chosen.0),
      ))

-- The record of a journey that was found.

-- the record that the caller sees is the one in the ledger
record_there : (s : State) (who : Option (List ℕ)) (id : ℕ) (r : Record) → IsSeen s who id r → record_of s.ledger id ≡ Some r
record_there s who id r is =
    ap (option_map (record_of_journey (history s.ledger id))) is.at
    ∙ ap (λ c. Some (made c (marks_of (history s.ledger id)))) (sym is.cursor)
    ∙ ap (λ ms. Some (made r.cursor ms)) (sym is.marks)
  where
    made : Cursor → set.FinSet nat_cmp → Record
    made cursor marks = record { agent = r.agent; plan = r.plan; cursor = cursor; marks = marks }

-- it is the same for all callers who see the journey
pub unfit_seen : (s : State) (who : Option (List ℕ)) (id : ℕ) (r : Record) → IsSeen s who id r → IsStuck r s → IsUnfit id motion.Refused s
unfit_seen s who id r is stuck other b seen =
    let both : Some r ≡ Some b = sym (record_there s who id r is) ∙ record_there s other id b seen in
    let same : r ≡ b = cc in
    subst (λ x. IsStuck x s) same stuck

module _ (s : State) (ask : Option Asked) (found : Found) where
  -- the journey that a caller sees is there
  pub stand_there : IsFound (asker ask) s found → StandsAt found.id found.stand s
  stand_there here = record {
    journey = begun_as here.journey;
    at = here.seen.at;
    steps = sym (ap (λ (x : Stand). x.steps) here.stand);
    cursor = sym (ap (λ (x : Stand). x.cursor) here.stand) ∙ here.seen.cursor;
  }

  -- it has this agent, these steps and tries, and this cursor
  pub has_stand : IsFound (asker ask) s found → HasStand found.id found.stand s
  has_stand here = sym (ap (option_map stand_of) (record_there s (asker ask) found.id here.journey here.seen) ∙ ap Some here.stand)

  -- the record that is read of it is the one that the caller sees
  pub read_seen : (r : Record) → (here : IsFound (asker ask) s found) → IsRecordOf found.id found.stand s r → here.journey ≡ r
  read_seen r here is =
      let both : Some here.journey ≡ Some r =
      sym (record_there s (asker ask) found.id here.journey here.seen) ∙ sym (is (has_stand here)) in
      cc

  -- what the rules answer a move, of which all was read, is due
  pub due_read : (why : Motion) (r : Record) (next : Result Item Refusal) → IsRead s ask found why → IsRecordOf found.id found.stand s r
      → ((j : ℕ) (t : State) → IsDesk t → IsNext j r why t next) → IsDue s ask found why next
  due_read why r next read is answers = record {
    desk = read.desk;
    new = read.new;
    here = read.here;
    answered =
        subst (λ x. (j : ℕ) (t : State) → IsDesk t → IsNext j x why t next) (sym (read_seen r read.here is)) answers found.id s read.desk
        (asker ask) read.here.seen read.unfit;
  }

  -- the outcome of a step of a journey that the caller sees is made
  pub made_step : (m : Made) → IsDesk s → kept_for s ask ≡ None → (here : IsFound (asker ask) s found)
      → IsNextMade found.id here.journey (answer_within s.ledger (asker ask) (request.Step found.id)) m → IsMade s ask found motion.Refused m
  made_step m desk new here next = record {
    due = record { desk = desk; new = new; here = here; answered = next.next };
    says = next.says;
    cursor = next.cursor;
  }

  -- and so are a turn, and a save-point
  pub turn_is : (why : Motion) (p : ℕ) (cause : Cause) → IsDue s ask found why (Ok (item.Turn p cause))
      → IsMade s ask found why (turn_made found.id found.stand p cause)
  turn_is why p cause due = record {
    due = due;
    says = ap (λ (x : Stand). (turn_made found.id x p cause).event) (sym due.here.stand);
    cursor = ap (λ (x : Stand). turned_to p cause x.cursor) (sym due.here.stand);
  }

  pub save_is : (why : Motion) → IsDue s ask found why (Ok (item.Save found.stand.cursor.pos))
      → IsMade s ask found why (save_made found.id found.stand)
  save_is why due = record { due = due; says = refl; cursor = ap (λ (x : Stand). x.cursor) (sym due.here.stand) }

  -- the turn to the start is made
  pub start_made : (why : Motion) (cause : Cause) → IsRead s ask found why → LeadsToStart found.stand why cause
      → IsMade s ask found why (turn_made found.id found.stand 0 cause)
  start_made why cause read leads =
      let here = read.here in
      turn_is why 0 cause (record {
        desk = read.desk;
        new = read.new;
        here = here;
        answered = start_at s read.desk (asker ask) found.id here.journey here.seen why cause
            (subst (λ x. LeadsToStart x why cause) (sym here.stand) leads) read.unfit;
      })

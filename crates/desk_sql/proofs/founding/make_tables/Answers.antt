-- Each text builds on what those before it created; the index is made beside the empty tables, and the row of meta inserted into
-- them.
-- More than 60 lines: a loop, four ways out, two clauses and two lemmas of its own.
use Rattle.std.proofs.Common.{◌∙◌, [], ◌+◌, ℕ, List, IsTrue, drop, drop-cons, drop_of_length-le, add-one, Bor, refl, arith, rules}
use Rattle.std.proofs.Math.ListN.{get_or-map}
use Rattle.sqlite.specs.Held.{state}
use Rattle.sqlite.specs.State.{HasCleanDisk, State}
use Rattle.desk_sql.specs.Calls.{IsEmptyWith, Makes}
use Rattle.desk_sql.specs.Indexing.{MayIndex, MakesIndex, AreShortAgents}
use Rattle.desk_sql.specs.Schema.{desk_schema}
use Rattle.desk_sql.specs.Rows.{no_rows}
use Rattle.desk_sql.proofs.AgentIndex.{indexed_makes}
use Rattle.desk_sql.proofs.CreateReasons.{all_reached, fails_later, runs_next, runs_none, table_texts, text_fails}
use Rattle.desk_sql.proofs.Making.{sees_none}
use Rattle.desk_sql.proofs.Quieting.{survives_twice}
use Rattle.desk_sql.proofs.founding.make_tables.Goals as goal

-- tables without rows have no agents
no_agents : (s : State) → IsEmptyWith desk_schema s → AreShortAgents s
no_agents s it = record { journeys = []; shown = record { rows_are = it.empty.1.1.1.0; rise = tt }; short = tt }

-- with the index they show no rows
makes_none : (a b : State) → MayIndex a × (IsTrue a.is_open → IsEmptyWith desk_schema a) → (MayIndex a → MakesIndex a b) → Makes a b no_rows
makes_none a b all makes =
    let made = makes all.0 in
    indexed_makes a b no_rows made (sees_none a (all.1 made.was_open) (all.0.sound made.was_open))

pub loop-text-init : goal.loop-text-init
loop-text-init g c = runs_none g.S.Store c.args.tx.now.conn

pub loop-text-preserved : goal.loop-text-preserved
loop-text-preserved g c =
    let within = c.loop-text-test.true in
    runs_next g.S.Store c.args.tx.now.conn c.loop-text.tx.conn c.execute.new.self.conn _ c.execute.ensures.same_reference
    c.execute.ensures.survives _ _
    c.loop-text.invariant c.in_ok-execute.field-0 c.in_ok-execute.ensures.runs
    (rw (add-one, ← get_or-map (λ (t : Bor (List ℕ)). t.now)) (drop-cons table_texts c.loop-text.text-index _ within))

pub returns-clause-made : goal.returns-clause-made
returns-clause-made g c clean start =
    let e = state g.S.Store c.loop-text.tx.conn.now in
    let f = state g.S.Store c.add_index.new.tx.conn.now in
    let at_f : HasCleanDisk f = omega (arith, c.insert_meta.ensures.goes.survives.clean) in
    let at_e : HasCleanDisk e = omega (arith, at_f, c.add_index.ensures.goes.survives.clean) in
    let all = all_reached e (rw (drop_of_length-le table_texts c.loop-text-test.false) at c.loop-text.invariant.reached at_e start) in
    let mid = makes_none e f all (c.in_ok-add_index.ensures.made at_f) in
    let last = c.in_ok-insert_meta.ensures.made clean no_rows (record { inside = mid.inside; sees = λ _. mid.sees }) refl in
    let commit = c.loop-text.invariant.commit at_e start.inside in
    record {
      was_open = commit.was_open mid.was_open;
      is_open = last.is_open;
      inside = last.inside;
      sees = last.sees;
      committed = last.committed ∙ mid.committed ∙ commit.committed mid.was_open;
    }

-- each text fails for a reason, and so do the index and the row of meta
pub returns-in_err-execute-clause-reason : goal.returns-in_err-execute-clause-reason
returns-in_err-execute-clause-reason g c clean start up =
    let within = c.loop-text-test.true in
    let reason = text_fails g.S.Store c.args.tx.now.conn c.loop-text.tx.conn c.execute.new.self.conn _ c.execute.ensures.same_reference
    c.execute.ensures.survives _ (drop (c.loop-text.text-index + 1) table_texts) c.loop-text.invariant c.in_err-execute.field-0.0
    c.in_err-execute.ensures.runs
    (rw (add-one, ← get_or-map (λ (t : Bor (List ℕ)). t.now)) (drop-cons table_texts c.loop-text.text-index _ within)) clean start up in
    search rules

pub returns-in_err-add_index-clause-reason : goal.returns-in_err-add_index-clause-reason
returns-in_err-add_index-clause-reason g c clean start up =
    let a = state g.S.Store c.args.tx.now.conn.now in
    let e = state g.S.Store c.loop-text.tx.conn.now in
    let at_e : HasCleanDisk e = omega (arith, clean, c.add_index.ensures.goes.survives.clean) in
    let all = all_reached e (rw (drop_of_length-le table_texts c.loop-text-test.false) at c.loop-text.invariant.reached at_e start) in
    let reason = fails_later a e (state g.S.Store c.add_index.new.tx.conn.now) c.in_err-add_index.field-0.0 c.loop-text.invariant.survives at_e up
    c.add_index.ensures.goes.survives.counts
    (λ live. c.in_err-add_index.ensures.reason clean all.0 (no_agents e (all.1 live.is_open)) live) in
    search rules

pub returns-in_err-insert_meta-clause-reason : goal.returns-in_err-insert_meta-clause-reason
returns-in_err-insert_meta-clause-reason g c clean start up =
    let a = state g.S.Store c.args.tx.now.conn.now in
    let e = state g.S.Store c.loop-text.tx.conn.now in
    let f = state g.S.Store c.add_index.new.tx.conn.now in
    let h = state g.S.Store c.insert_meta.new.tx.conn.now in
    let index = c.add_index.ensures.goes.survives in
    let at_f : HasCleanDisk f = omega (arith, clean, c.insert_meta.ensures.goes.survives.clean) in
    let at_e : HasCleanDisk e = omega (arith, at_f, index.clean) in
    let all = all_reached e (rw (drop_of_length-le table_texts c.loop-text-test.false) at c.loop-text.invariant.reached at_e start) in
    let mid = makes_none e f all (c.in_ok-add_index.ensures.made at_f) in
    let reason = fails_later a f h c.in_err-insert_meta.field-0.0 (survives_twice a e f c.loop-text.invariant.survives index) at_f up
    c.insert_meta.ensures.goes.survives.counts
    (c.in_err-insert_meta.ensures.reason clean no_rows (record { inside = mid.inside; sees = λ _. mid.sees }) refl) in
    search rules

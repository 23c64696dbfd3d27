-- However the transaction ends, the connection keeps what it kept.
-- More than 60 lines: three ways out and two clauses.
use Rattle.std.proofs.Common.{◌≡◌, inl, true, refl, sym, ap, subst, ◌∙◌, arith, rules}
use Rattle.std.specs.Prelude.{⊤}
use Rattle.sqlite.specs.Effect.{Database}
use Rattle.sqlite.specs.Held.{Held, state}
use Rattle.sqlite.specs.State.{HasCleanDisk}
use Rattle.desk_sql.specs.Indexing.{HasExtra, indexed_schema}
use Rattle.tables.specs.Indexing.{Keeps, GivesIndex}
use Rattle.tables.proofs.IndexLemmas.{left_from, keeps_indexed, keeps_uncommitted, keeps_undone, made_index, wrote_index}
use Rattle.tables.proofs.Telling.{is_fault}
use Rattle.sql_writes.proofs.CommitLemmas.{Wrote}
use Rattle.tables.proofs.indexing.add_to.Goals as goal

pub returns-in-Ok-clause-keeps : goal.returns-in-Ok-clause-keeps
returns-in-Ok-clause-keeps g c =
    let old = c.args.conn.now in
    let late = c.add_index.new.tx.conn.now in
    let end = c.commit.new.self.0 in
    let same : end ≡ c.conn-2-1.given.0 = search rules in
    let wrote : Wrote g.S.Store (record old { in_transaction = true }) late (λ _. ⊤) 0 (λ t. t)
    = wrote_index g.S.Store old c.transaction-tx.result.conn.now late c.transaction-tx.ensures.begun c.requires.lacks
    c.add_index.ensures.goes.survives c.add_index.ensures.goes.commit c.in_default.ensures.goes.live c.in_default.ensures.goes.inside c.in_default.ensures.made in
    subst (λ (h : Held g.row.S.Denot). Keeps g.S.Store old h) same (λ s keeps clean.
    keeps_indexed g.S.Store old late end s keeps wrote (omega (arith, c.commit.ensures.survives.clean, clean)) g.met.S.Store.settled (c.in-Ok.ensures.ok clean).1)

pub returns-in-Ok-clause-ends : goal.returns-in-Ok-clause-ends
returns-in-Ok-clause-ends g c =
    let old = c.args.conn.now in
    let late = c.add_index.new.tx.conn.now in
    let end = c.commit.new.self.0 in
    let same : end ≡ c.conn-2-1.given.0 = search rules in
    subst (λ (h : Held g.row.S.Denot). GivesIndex g.S.Store old h) same (λ clean s keeps.
    let at_late : HasCleanDisk (state g.S.Store late) = omega (arith, c.commit.ensures.survives.clean, clean) in
    let made = made_index g.S.Store old c.transaction-tx.result.conn.now late c.transaction-tx.ensures.begun c.requires.lacks s keeps
    c.add_index.ensures.goes.survives c.in_default.ensures.goes.live c.in_default.ensures.made at_late in
    let is : end.schema ≡ indexed_schema = ap (λ (d : Database). d.schema) (c.in-Ok.ensures.ok clean).1.now_is ∙ made.schema in
    subst HasExtra (sym is) (omega arith))

-- nothing was made: what began is undone
pub returns-in-Err-clause-keeps : goal.returns-in-Err-clause-keeps
returns-in-Err-clause-keeps g c =
    let old = c.args.conn.now in
    let late = c.add_index.new.tx.conn.now in
    let end = c.rollback.new.self.0 in
    let same : end ≡ c.conn-1.given.0 = search rules in
    subst (λ (h : Held g.row.S.Denot). Keeps g.S.Store old h) same (λ s keeps clean.
    keeps_undone g.S.Store old late end s keeps
    (left_from g.S.Store old c.transaction-tx.result.conn.now late c.transaction-tx.ensures.begun c.add_index.ensures.goes.survives c.add_index.ensures.goes.commit)
    c.rollback.ensures.survives (λ clean. c.rollback.ensures.undone clean) clean)

pub returns-in-Err-clause-ends : goal.returns-in-Err-clause-ends
returns-in-Err-clause-ends g c = is_fault c.fault_of.result _ c.fault_of.ensures.memory c.fault_of.ensures.store

-- the commit failed: a crash leaves the index or not
pub returns-in-Err-commit-clause-keeps : goal.returns-in-Err-commit-clause-keeps
returns-in-Err-commit-clause-keeps g c =
    let old = c.args.conn.now in
    let late = c.add_index.new.tx.conn.now in
    let end = c.commit.new.self.0 in
    let same : end ≡ c.conn-2-1.given.0 = search rules in
    let wrote : Wrote g.S.Store (record old { in_transaction = true }) late (λ _. ⊤) 0 (λ t. t)
    = wrote_index g.S.Store old c.transaction-tx.result.conn.now late c.transaction-tx.ensures.begun c.requires.lacks
    c.add_index.ensures.goes.survives c.add_index.ensures.goes.commit c.in_default.ensures.goes.live c.in_default.ensures.goes.inside c.in_default.ensures.made in
    subst (λ (h : Held g.row.S.Denot). Keeps g.S.Store old h) same (λ s keeps clean.
    keeps_uncommitted g.S.Store old late end s keeps wrote c.commit.ensures.survives _ (λ clean. c.in-Err-commit.ensures.err clean) clean)

pub returns-in-Err-commit-clause-ends : goal.returns-in-Err-commit-clause-ends
returns-in-Err-commit-clause-ends g c = inl refl

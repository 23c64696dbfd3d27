-- The tables have the index, or had one; whatever the result, the connection represents what it represented.
use Rattle.std.proofs.Common.{ap}
use Rattle.desk_sql.specs.Rows.{MetaRow}
use Rattle.tables.proofs.IndexLemmas.{kept_on, stands_on}
use Rattle.tables.proofs.indexing.index.Goals as goal

-- the index was not made
pub returns-in_err-add_to-clause-stands : goal.returns-in_err-add_to-clause-stands
returns-in_err-add_to-clause-stands g c =
    let seen = c.in_ok-meta.ensures.tries in
    stands_on g.S.Store c.args.conn.now c.read_new.new.conn c.add_to.new.conn c.read_new.ensures.quiet seen.version seen.filled
    c.add_to.ensures.idle.sound c.add_to.ensures.keeps

-- it was made
pub returns-in_ok-add_to-clause-has : goal.returns-in_ok-add_to-clause-has
returns-in_ok-add_to-clause-has g c =
    let seen = c.in_ok-meta.ensures.tries in
    let sound = c.add_to.ensures.idle.sound in
    record {
      version = λ clean v t sees. seen.version (sound clean) v t sees;
      there = λ clean s stood. c.in_ok-add_to.ensures.ends clean s
          (kept_on g.S.Store c.args.conn.now c.read_new.new.conn c.read_new.ensures.quiet seen.version seen.filled s stood);
      counted = λ clean s stood. ap (λ (r : MetaRow). r.journeys) (seen.numbers (sound clean) s stood);
    }

pub returns-in_ok-add_to-clause-stands : goal.returns-in_ok-add_to-clause-stands
returns-in_ok-add_to-clause-stands g c =
    let seen = c.in_ok-meta.ensures.tries in
    stands_on g.S.Store c.args.conn.now c.read_new.new.conn c.add_to.new.conn c.read_new.ensures.quiet seen.version seen.filled
    c.add_to.ensures.idle.sound c.add_to.ensures.keeps

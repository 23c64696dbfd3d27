use Rattle.std.proofs.Common.{◌≡◌, eqb-true, ◌∙◌, length, sym, subst, rules, append-nil, arith}
use Rattle.sql_writes.specs.Runs.{IsRun}
use Rattle.std.proofs.lemmas.List.{nil_from_length}
use Rattle.sql_writes.proofs.Doing.{open_and, open_fail}
use Rattle.sql_writes.proofs.RunWrites.{run_fits, HasWrittenUpTo-none, HasWrittenUpTo-some, HasWrittenUpTo-all, front_run, rest_run, some_new, adds-then}
use Rattle.sql_writes.proofs.runs.add_run.Goals as goal

pub loop-rest-init : goal.loop-rest-init
loop-rest-init g c = search (rules, arith, HasWrittenUpTo-none, append-nil)

-- the next cells of a run are one
pub add_some-requires : goal.add_some-requires
add_some-requires g c = search (rules, arith, front_run)

-- some more rows are added
pub loop-rest-preserved : goal.loop-rest-preserved
loop-rest-preserved g c =
    let added = c.loop-rest.invariant.added in
    let some = c.split_at.result.0.now in
    let later = c.split_at.result.1.now in
    let cut = c.split_at.ensures.by_index.0 in
    record {
      run = rest_run some later (subst IsRun cut c.loop-rest.invariant.run);
      added = HasWrittenUpTo-some c.args.run.now c.loop-rest.rest.now some later added cut c.in_ok-add_some.ensures.did (λ t _. (tt, adds-then added.done some t));
    }

-- rows that are not added have a reason
pub returns-in_err-add_some : goal.returns-in_err-add_some
returns-in_err-add_some g c =
    let run = c.args.run.now in
    let rest = c.loop-rest.rest.now in
    let it = c.loop-rest.invariant.added in
    let some = c.split_at.result.0.now in
    let later = c.split_at.result.1.now in
    let cut = c.split_at.ensures.by_index.0 in
    record {
      did = open_fail (open_and it.did c.in_err-add_some.ensures.did)
          (λ t new. (tt, some_new run it.done rest some later t it.is cut new)) (run_fits run rest some later it.done it.is cut) (search rules);
    }

-- all rows are added
pub returns : goal.returns
returns g c =
    let rest = c.loop-rest.rest.now in
    let zero : length rest ≡ 0 = eqb-true (length rest) 0 (sym c.is_empty.ensures ∙ (search (rules, c.loop-rest-test.false))) in
    record { did = HasWrittenUpTo-all c.args.run.now rest c.loop-rest.invariant.added (nil_from_length rest zero) }

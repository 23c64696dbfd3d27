use Rattle.std.proofs.Common.{◌≡◌, true, eqb-true, ◌∙◌, length, sym, ap, refl, rules}
use Rattle.std.proofs.lemmas.List.{nil_from_length}
use Rattle.sql_writes.proofs.Doing.{open_and, open_fail}
use Rattle.sql_writes.proofs.RunLemmas.{apart-each, short_each, put_each-append}
use Rattle.sql_writes.proofs.RunWrites.{run_fits, short-append, HasWrittenUpTo-none, HasWrittenUpTo-some, HasWrittenUpTo-all}
use Rattle.sql_writes.proofs.runs.put_runs.Goals as goal

pub loop-rest-init : goal.loop-rest-init
loop-rest-init g c = record { put = HasWrittenUpTo-none c.args.cells.now (λ t. refl); short = tt }

-- one more run got its places
pub loop-rest-preserved : goal.loop-rest-preserved
loop-rest-preserved g c =
    let put = c.loop-rest.invariant.put in
    let run = c.split_at.result.0.now in
    record {
      put = HasWrittenUpTo-some c.args.cells.now c.loop-rest.rest.now run c.split_at.result.1.now put c.split_at.ensures.by_index.0 c.in_ok-put_run.ensures.did
          (λ t apart. (apart-each put.done t.stock apart, ap (λ rows. record t { stock = rows }) (sym (put_each-append put.done run t.stock))));
      short = short-append put.done run c.loop-rest.invariant.short c.put_run.ensures.short;
    }

-- a run that is not written has a reason
pub returns-in_err-put_run : goal.returns-in_err-put_run
returns-in_err-put_run g c =
    let cells = c.args.cells.now in
    let put = c.loop-rest.invariant.put in
    let cut = c.split_at.ensures.by_index.0 in
    record {
      did = open_fail (open_and put.did c.in_err-put_run.ensures.did)
          (λ t may. (
            may.apart,
            record {
              apart = apart-each put.done t.stock may.apart;
              cells = short_each put.done t c.loop-rest.invariant.short may.cells;
            },
          ))
          (run_fits cells c.loop-rest.rest.now c.split_at.result.0.now c.split_at.result.1.now put.done put.is cut) (search rules);
    }

-- all cells got their places
pub returns : goal.returns
returns g c =
    let rest = c.loop-rest.rest.now in
    let empty : c.is_empty.result ≡ true = search (rules, c.loop-rest-test.false) in
    let zero : length rest ≡ 0 = eqb-true (length rest) 0 (sym c.is_empty.ensures ∙ empty) in
    record { did = HasWrittenUpTo-all c.args.cells.now rest c.loop-rest.invariant.put (nil_from_length rest zero) }

-- After the UPDATE all cells have their places, or none of them has a row, or each is put.
-- More than 60 lines: four ways out.
use Rattle.std.proofs.Common.{◌≡◌, ◌-◌, ◌∙◌, Some, length, slice_get, sym, arith, rules}
use Rattle.sql_writes.proofs.Doing.{open_and, open_as, open_fail, open_like}
use Rattle.sql_writes.proofs.RunLemmas.{all_known, none_known, put_given, added_given, apart_given, short_given}
use Rattle.sql_writes.proofs.runs.put_run.Goals as goal

-- each cell had a row, and has its places now
pub returns-then-are_known-clause-did : goal.returns-then-are_known-clause-did
returns-then-are_known-clause-did g c =
    let run = c.args.run.now in
    let first = c.in-Some.first.now in
    let last = c.in-Some-last.last.now in
    let set = c.in_ok-known.ensures in
    open_as set.did.if_open
    (λ clean t may apart. (
      tt,
      all_known run first last (search rules) (search rules) c.requires.run c.night.result c.night.ensures t apart (sym (set.known clean t may) ∙ (search rules)),
    )) (omega arith)

-- none had one, and each is added
pub returns-then-are_new-clause-did : goal.returns-then-are_new-clause-did
returns-then-are_new-clause-did g c =
    let run = c.args.run.now in
    let first = c.in-Some.first.now in
    let last = c.in-Some-last.last.now in
    let none : c.in_ok-known.known ≡ 0 = search rules in
    let set = c.in_ok-known.ensures in
    open_like (open_and set.did.if_open c.add_run.ensures.did)
    (λ clean t may apart. (
      (tt, tt),
      added_given run first last (search rules) (search rules) c.requires.run c.night.result c.night.ensures t apart
          (sym (set.known (omega (arith, c.add_run.ensures.did.survives.clean, clean)) t may) ∙ none),
    ))
    (λ clean t may permits. (
      tt,
      none_known run first last (search rules) (search rules) c.requires.run c.night.result c.night.ensures t permits.apart
          (sym (set.known (omega (arith, c.add_run.ensures.did.survives.clean, clean)) t may) ∙ none),
    )) (omega arith)

-- some had one: each is put
pub returns-else-are_new-clause-did : goal.returns-else-are_new-clause-did
returns-else-are_new-clause-did g c =
    let run = c.args.run.now in
    let first = c.in-Some.first.now in
    let last = c.in-Some-last.last.now in
    let is_first : slice_get run 0 ≡ Some first = search rules in
    let is_last : slice_get run (length run - 1) ≡ Some last = search rules in
    let night = c.night.result in
    let at = c.night.ensures in
    open_like (open_and c.in_ok-known.ensures.did.if_open c.put_all.ensures.did)
    (λ _ t _ apart. (
      (tt, apart_given run first last is_first is_last c.requires.run night at t apart),
      put_given run first last is_first is_last c.requires.run night at t apart,
    ))
    (λ _ t _ permits. (
      tt,
      record {
        apart = apart_given run first last is_first is_last c.requires.run night at t permits.apart;
        cells = short_given run first last is_first is_last c.requires.run night at t permits.apart permits.cells;
      },
    )) (omega arith)

pub returns-in_err-known-clause-did : goal.returns-in_err-known-clause-did
returns-in_err-known-clause-did g c =
    open_fail c.in_err-known.ensures.did.if_open (λ t permits. permits.cells) (omega arith) (search rules)

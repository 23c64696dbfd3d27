-- One more journey is counted, or none is left.
use Rattle.std.proofs.Common.{◌≡◌, ◌∙◌, Some, None, sym, arith, rules}
use Rattle.saga_core.specs.Views.{first_unfinished}
use Rattle.sql_reads.proofs.ReadLemmas.{no_read, read_both, read_never, read_ok, then_err}
use Rattle.tables.proofs.WalkLemmas.{few_unfinished, none_left, one_counted}
use Rattle.tables.proofs.counting.count_unfinished.Goals as goal

-- none was counted
pub loop-count-init : goal.loop-count-init
loop-count-init g c = read_ok no_read (λ s desk _. omega arith)

-- none is left
pub returns-in_default : goal.returns-in_default
returns-in_default g c =
    read_ok (read_both c.loop-count.invariant c.in_ok-brief.ensures) (λ s desk both.
    let none : None ≡ first_unfinished s.ledger c.loop-count.last = sym c.in_default.is ∙ both.1 in
    let left = none_left s.ledger c.loop-count.last none in
    omega (arith, both.0, left))

-- one more is counted
pub loop-count-preserved : goal.loop-count-preserved
loop-count-preserved g c =
    read_ok (read_both c.loop-count.invariant c.in_ok-brief.ensures) (λ s desk both.
    let next : Some c.in-Some.brief ≡ first_unfinished s.ledger c.loop-count.last = sym c.in-Some.is ∙ both.1 in
    let one = one_counted s.ledger c.loop-count.last c.in-Some.brief next in
    omega (arith, both.0, one))

-- the read of one more failed
pub returns-in_err-brief : goal.returns-in_err-brief
returns-in_err-brief g c = then_err (search rules) c.loop-count.invariant c.in_err-brief.ensures (λ s desk fits so_far. tt)

-- no ledger has so many journeys
pub returns : goal.returns
returns g c =
    read_never c.loop-count.invariant (λ s desk spelled _ so_far.
    let few = few_unfinished s.ledger c.args.after in
    omega (arith, so_far, few, spelled.few))

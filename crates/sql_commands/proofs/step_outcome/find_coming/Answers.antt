-- The outcome that the rows of a step give is the answer of the rules, and the steps that are due have their rows.
use Rattle.std.proofs.Common.{◌≡◌, rules, arith}
use Rattle.sql_reads.proofs.ReadLemmas.{read_both, read_err, read_ok, then_err}
use Rattle.sql_commands.proofs.ComingLemmas.{up_comes, down_comes, refused_comes}
use Rattle.sql_commands.proofs.Reasons.{has_step, takes_last}
use Rattle.sql_commands.proofs.step_outcome.find_coming.Goals as goal

pub returns-then-fitting-clause-read : goal.returns-then-fitting-clause-read
returns-then-fitting-clause-read g c =
    let found = c.args.found.now in
    let run : found.stand.cursor.phase ≡ _ = c.in-Run.is in
    read_ok (read_both c.in_ok-choice-in-Run.ensures.read (rw c.if-fitting.true at c.in_ok-fitting-in-Run.ensures)) (λ s desk both who r is same.
    up_comes s desk who found.id r is found.stand same c.in_ok-choice-in-Run.choice run (found.placed.short (search rules)) both.0 both.1)

pub returns-else-fitting-clause-read : goal.returns-else-fitting-clause-read
returns-else-fitting-clause-read g c =
    let found = c.args.found.now in
    read_ok (read_both c.in_ok-choice-in-Run.ensures.read (rw c.if-fitting.false at c.in_ok-fitting-in-Run.ensures)) (λ s desk both who r is same.
    refused_comes s desk who found.id r is found.stand same c.in_ok-choice-in-Run.choice c.in-Run.is (found.placed.short (search rules)) both.0 both.1)

pub returns-in_ok-choice-in-Back-clause-read : goal.returns-in_ok-choice-in-Back-clause-read
returns-in_ok-choice-in-Back-clause-read g c =
    let found = c.args.found.now in
    let above = found.placed.above c.in-Back.field-0 c.in-Back.is in
    read_ok c.in_ok-choice-in-Back.ensures.read (λ s desk last who r is same.
    down_comes s desk who found.id r is found.stand same c.in_ok-choice-in-Back.choice c.in-Back.field-0 c.in-Back.is (omega arith) last)

-- the next step has its rows, and so has the last one that stands
pub returns-in_err-choice-in-Run-clause-read : goal.returns-in_err-choice-in-Run-clause-read
returns-in_err-choice-in-Run-clause-read g c =
    let found = c.args.found.now in
    read_err (search rules) c.in_err-choice-in-Run.ensures.read (λ s desk has. has_step s found.id found.stand has (found.placed.short (search rules)))

pub returns-in_err-fitting-in-Run-clause-read : goal.returns-in_err-fitting-in-Run-clause-read
returns-in_err-fitting-in-Run-clause-read g c =
    then_err (search rules) c.in_ok-choice-in-Run.ensures.read c.in_err-fitting-in-Run.ensures (λ s desk has next. tt)

pub returns-in_err-choice-in-Back-clause-read : goal.returns-in_err-choice-in-Back-clause-read
returns-in_err-choice-in-Back-clause-read g c =
    let found = c.args.found.now in
    let above = found.placed.above c.in-Back.field-0 c.in-Back.is in
    read_err (search rules) c.in_err-choice-in-Back.ensures.read (λ s desk has. takes_last s desk found.id found.stand has (omega arith))

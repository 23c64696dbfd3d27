-- What the rules answer is committed, unless the ledger is full.
use Rattle.std.proofs.Common.{refl, arith, rules}
use Rattle.sql_commands.proofs.EventCommits.{answered_full, answered_leads}
use Rattle.sql_commands.proofs.Executing.{answers_alone, commit_fails, commits}
use Rattle.sql_commands.proofs.answering.commit_answered.Goals as goal

pub returns-then-numbers-gt-MOST_EVENTS : goal.returns-then-numbers-gt-MOST_EVENTS
returns-then-numbers-gt-MOST_EVENTS g c asked =
    answers_alone c.requires.outside (λ s is. answered_full is (omega (arith, is.num, c.if-numbers-gt-MOST_EVENTS.true)))

pub returns : goal.returns
returns g c asked =
    commits (λ s is. answered_leads is (omega (arith, is.num, c.if-numbers-gt-MOST_EVENTS.false))) c.in_ok-commit_kept.ensures refl

pub returns-in_err-commit_kept : goal.returns-in_err-commit_kept
returns-in_err-commit_kept g c asked =
    commit_fails (λ s is. answered_leads is (omega (arith, is.num, c.if-numbers-gt-MOST_EVENTS.false))) (search rules) c.in_err-commit_kept.ensures

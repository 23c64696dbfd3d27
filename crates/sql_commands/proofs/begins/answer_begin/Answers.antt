-- The rows of a new journey lead to the outcome of its begin.
use Rattle.std.proofs.Common.{◌∙◌, IsTrue, refl, sym, subst, rules, option_copied}
use Rattle.commands.specs.Names.{is_agent}
use Rattle.commands.specs.Request.{Begin}
use Rattle.sql_commands.proofs.EventCommits.{begin_answered}
use Rattle.sql_commands.proofs.Executing.{reads_fail, reads_then}
use Rattle.sql_commands.proofs.begins.answer_begin.Goals as goal

pub returns-in_err-counts : goal.returns-in_err-counts
returns-in_err-counts g c = reads_fail (λ s due. due.desk) (search rules) c.requires.outside c.in_err-counts.ensures.read (λ s due. tt)

pub returns : goal.returns
returns g c =
    let agent = subst (λ name. IsTrue (is_agent name)) (sym c.as_str.ensures.text) c.as_str.ensures.form in
    reads_then (λ s due. due.desk) c.in_ok-counts.ensures.read (c.commit_answered.ensures (Begin c.args.plan.now))
    (λ s due counted. begin_answered s (option_copied c.args.ask) c.in_ok-counts.counts _ _ due counted refl refl c.steps-steps.ensures.limits
    (c.as_str.ensures.text ∙ c.beginner-agent.ensures.agent) agent)

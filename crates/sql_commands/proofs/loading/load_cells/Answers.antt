-- The batch is what the rules answer.
use Rattle.std.proofs.Common.{◌∙◌, ap, option_copied}
use Rattle.commands.specs.Request as request
use Rattle.sql_model.specs.ExpectedRows.{batch_text}
use Rattle.sql_commands.proofs.EventCommits.{load_answered}
use Rattle.sql_commands.proofs.Executing.{executes_where, fails_alone}
use Rattle.sql_commands.proofs.loading.load_cells.Goals as goal

-- out of memory for the text
pub returns-in_default : goal.returns-in_default
returns-in_default g c = fails_alone c.requires.outside (λ s due store. cc)

pub returns : goal.returns
returns g c =
    let b = c.args.batch.now in
    executes_where (c.commit_answered.ensures (request.Load b.name b.rows))
    (λ s due. load_answered s (option_copied c.args.ask) c.args.numbers _ b.name b.rows _ c.rows.ensures.limits
    (c.as_str.ensures.text ∙ c.name-name.ensures.name) (c.as_str-2.ensures.value ∙ c.in-Ok.ensures.text ∙ ap batch_text c.rows.ensures.rows)
    c.loaded.ensures.loaded due)

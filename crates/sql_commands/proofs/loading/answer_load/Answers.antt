-- The reply to a known name depends on its text, and the reply to a new name is that of the load.
use Rattle.std.proofs.Common.{◌≡◌, ◌∙◌, sym, subst, rules, None, option_copied}
use Rattle.commands.specs.Request.{Load}
use Rattle.sql_reads.proofs.ReadLemmas.{also_ok, read_both}
use Rattle.sql_commands.specs.Loading.{TellsName, IsTextOf, AnswersKnown}
use Rattle.sql_commands.proofs.Executing.{IsUnmoved, reads_fail, reads_then, reads_told, then_fails}
use Rattle.sql_commands.proofs.LoadComes.{known_comes}
use Rattle.sql_commands.proofs.loading.answer_load.Goals as goal

pub returns-in_err-numbers : goal.returns-in_err-numbers
returns-in_err-numbers g c = reads_fail (λ s due. due.desk) (search rules) c.requires.outside c.in_err-numbers.ensures (λ s due. tt)

pub returns-in-Err : goal.returns-in-Err
returns-in-Err g c =
    then_fails (λ s due. due.desk) (search rules) c.requires.outside c.in_ok-numbers.ensures c.in-Err.ensures (λ s due counted. tt)

-- a new name
pub returns-in-Ok-None : goal.returns-in-Ok-None
returns-in-Ok-None g c =
    let name = c.as_str.ensures.text ∙ c.name-name.ensures.name in
    reads_then (λ s due. due.desk) (read_both c.in_ok-numbers.ensures (rw c.in-Ok-None.field-0-is at c.in-Ok-None.ensures)) c.load_new.ensures
    (λ s due both. record { desk = due.desk; new = due.new; counted = both.0; unknown = subst (λ n. TellsName n s None) name both.1 })

-- a known name
pub returns-in-Ok-Some : goal.returns-in-Ok-Some
returns-in-Ok-Some g c =
    let ask = option_copied c.args.ask in
    let b = c.args.batch.now in
    let content = c.as_slice.result.now in
    let name = c.as_str.ensures.text ∙ c.name-name.ensures.name in
    let same : content ≡ c.in-Ok-Some.found.content.items = search rules in
    reads_told (λ s due. due.desk) c.requires.outside
    (read_both c.in_ok-numbers.ensures (rw c.in-Ok-Some.field-0-is at c.in-Ok-Some.ensures)) _ c.answer_known.ensures.memory
    (λ s due both.
    let told = both.1 in
    let is = subst (λ n. IsTextOf s n content told.0) name (subst (λ t. IsTextOf s c.as_str.result.now t told.0) (sym same) told.1) in
    also_ok c.answer_known.result (AnswersKnown b content) (IsUnmoved s ask (Load b.name b.rows))
    (λ r answers. known_comes s ask b.name b.rows content told.0 r due.new is answers) c.answer_known.ensures.known)

-- The samples of the buckets stand in the text.
use Rattle.std.proofs.lemmas.Result.{IfOk-weaker}
use Rattle.http_log.proofs.metrics.commands_text.Goals as goal

pub returns : goal.returns
returns c = record {
  text = IfOk-weaker c.format.result _ _ (λ text printed. rw c.in_ok-within.ensures.text at printed) c.format.ensures.ok;
}

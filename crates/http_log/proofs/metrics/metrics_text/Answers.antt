-- Each part is its text.
use Rattle.std.proofs.Common.{◌∙◌}
use Rattle.std.proofs.lemmas.Result.{IfOk-weaker}
use Rattle.http_log.proofs.MetricsLemmas.{joined_same}
use Rattle.http_log.proofs.metrics.metrics_text.Goals as goal

pub returns : goal.returns
returns c = record {
  text = IfOk-weaker c.format.result _ _
      (λ text printed. printed
      ∙ joined_same _ _ _ _ _ _ _ _ c.in_ok-ledger.ensures.text c.in_ok-connections.ensures.text c.in_ok-requests.ensures.text c.in_ok-commands.ensures.text)
      c.format.ensures.ok;
}

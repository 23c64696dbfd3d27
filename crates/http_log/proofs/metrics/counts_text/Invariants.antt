-- The text has the samples so far.
use Rattle.std.proofs.Common.{◌≡◌, take, string_bytes}
use Rattle.http_log.specs.MetricsText.{counts_text}
use Rattle.http_log.proofs.metrics.counts_text.Given as goal

abbrev pub invariant-loop-count : goal.invariant-loop-count
invariant-loop-count l = string_bytes l.text ≡ counts_text l.start (take l.count-index l.counts)

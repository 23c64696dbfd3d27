-- The text has the samples so far.
use Rattle.std.proofs.Common.{◌≡◌, take, string_bytes}
use Rattle.http_log.specs.MetricsText.{buckets_text}
use Rattle.http_log.proofs.metrics.buckets_text.Given as goal

abbrev pub invariant-loop-bucket : goal.invariant-loop-bucket
invariant-loop-bucket l = string_bytes l.text ≡ buckets_text l.start (take l.bucket-index l.buckets)

-- The time is that of the text in front.
use Rattle.std.proofs.Common.{rules, string_bytes}
use Rattle.http_log.proofs.times.timed_line.Goals as goal

pub returns-in_ok-format-in-Some-clause-line : goal.returns-in_ok-format-in-Some-clause-line
returns-in_ok-format-in-Some-clause-line c =
    (string_bytes c.in-Some.time, search rules, c.in_ok-format-in-Some.ensures.ok)

-- What was counted, once one thing more came. Nothing else changes.
use Rattle.std.specs.Prelude.{ℕ, ◌+◌, ◌-◌, min, map, List}
use Rattle.http_log.specs.Counting.{bucketed, counted, most_times, one_more}
use Rattle.http_log.specs.Lines.{why_word}
use Rattle.http_log.specs.declared.counting.Metrics.{Metrics}
use Rattle.http_log.specs.declared.endings.Why.{Why}

-- a connection that is open
abbrev pub with_connection : Metrics → Metrics
with_connection m = record m { connections = one_more m.connections }

-- a connection that ended so
abbrev pub with_end : Why → Metrics → Metrics
with_end why m = record m { connections = m.connections - 1; ended = map (counted (why_word why)) m.ended }

-- a request that was answered with this status
abbrev pub with_request : List ℕ → Metrics → Metrics
with_request status m = record m { requests = map (counted status) m.requests }

-- a command that took so many microseconds
abbrev pub with_command : ℕ → Metrics → Metrics
with_command micros m = record m {
  within = map (bucketed micros) m.within;
  commands = one_more m.commands;
  micros = min (m.micros + micros) most_times;
}

-- What is counted and written of a connection that ended.
use Rattle.std.specs.Prelude.{◌≡◌, ℕ, zero, suc, nat_lt, Bool, true, false, List, Option, Some, None, if◌then◌else◌, slice_get}
use Rattle.std.specs.Option.{option_map_or}
use Rattle.http_log.specs.Counted.{with_end}
use Rattle.http_log.specs.Lines.{ended_text}
use Rattle.http_log.specs.declared.counting.Metrics.{Metrics}
use Rattle.http_log.specs.declared.endings.Why.{Why}
use Rattle.http_log.specs.declared.endings.Why.TheVariants.{Left, CutOff, NotTaken, Closed, Memory, Stopped}
use Rattle.http_live.specs.declared.known.Known.{Known}

-- somebody is at this slot
abbrev pub is_taken : List Known → ℕ → Bool
is_taken slots at = option_map_or (λ (known : Known). known.is_here) (slice_get slots at) false

-- nobody is here
abbrev pub IsNobody : Known → Type 0
IsNobody known = known.is_here ≡ false

-- what was counted, once the connection of a slot ended, if one was there
abbrev pub counted_end : List Known → ℕ → Why → Metrics → Metrics
counted_end slots at why metrics = if is_taken slots at then with_end why metrics else metrics

-- the same, once each connection of so many slots ended since the desk did
abbrev pub counted_ends : ℕ → List Known → Metrics → Metrics
counted_ends zero slots metrics = metrics
counted_ends (suc at) slots metrics = counted_end slots at Stopped (counted_ends at slots metrics)

-- the line of a connection that ended, if one was here
abbrev pub end_line : Known → Why → Option (List ℕ)
end_line known why = if known.is_here then Some (ended_text known.peer known.requests why) else None

-- why a connection ended of which a page was not taken whole, or of which the last page closes, or that sent part of a
-- message: the first of these that is so
abbrev pub why_left : (is_unsent closes has_part : Bool) → Why
why_left true closes has_part = NotTaken
why_left false true has_part = Closed
why_left false false true = CutOff
why_left false false false = Left

-- why a connection ended in its turn, in which a page was lost, or was not
abbrev pub why_of : (is_lost : Bool) → Known → Why
why_of true known = Memory
why_of false known = why_left (nat_lt 0 known.unsent) known.closes known.has_part

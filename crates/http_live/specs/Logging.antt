-- In which form a journal writes its log, and what a line of it is.
use Rattle.std.specs.Prelude.{◌≡◌, ◌/◌, ℕ, min, List, IsSomeAnd, Option, Some, None, Result, Ok, Err}
use Rattle.std.specs.String.{string_bytes}
use Rattle.std.specs.Time.{system_time_nanos}
use Rattle.std.specs.declared.io.Error.{Error}
use Rattle.std.specs.declared.time.SystemTime.{SystemTime}
use Rattle.http_log.specs.Counting.{most_times}
use Rattle.http_log.specs.Times.{IsTimedLine}
use Rattle.http_log.specs.declared.forms.LogForm.{LogForm}
use Rattle.http_log.specs.declared.forms.LogForm.TheVariants as forms
use Rattle.http_live.specs.declared.journal.Journal.{Journal}
use Rattle.http_live.specs.declared.journal.Record.{Record}
use Rattle.http_live.specs.declared.journal.Record.TheVariants.{Plain, Timed}

-- the form of its lines, if the log is written
abbrev pub log_of : Journal → Option LogForm
log_of journal = journal.form

-- how many milliseconds after 1970 a time is, as far as a count has them
abbrev pub millis_at : SystemTime → ℕ
millis_at time = min (system_time_nanos time / 1_000_000) most_times

-- the same of the time that a clock showed, if it could be read
abbrev pub millis_read : Result SystemTime Error → Option ℕ
millis_read (Ok time) = Some (millis_at time)
millis_read (Err error) = None

-- a line in a form, where the clock was read so: the line itself; or, in the form with times, the line with the time that was read
abbrev pub IsRecordOf : LogForm → Result SystemTime Error → (line : List ℕ) → Record → Type 0
IsRecordOf form now line (Plain text) = string_bytes text ≡ line
IsRecordOf form now line (Timed text) =
    (form ≡ forms.Timed) × IsSomeAnd (millis_read now) (λ millis. IsTimedLine millis line (string_bytes text))

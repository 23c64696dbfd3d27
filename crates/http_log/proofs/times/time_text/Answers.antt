-- The text is that of the printer, which shows three digits.
use Rattle.std.proofs.Common.{rules, ◌≡◌, ◌∙◌, ap, ℕ, Bool, false, Option, Some, ◌++◌}
use Rattle.jiff_fmt.specs.Printer.{options}
use Rattle.jiff_fmt.specs.Text.{datetime_text, zulu_text}
use Rattle.http_log.specs.Times.{nanos_of}
use Rattle.http_log.proofs.times.time_text.Goals as goal

pub returns-clause-text : goal.returns-clause-text
returns-clause-text c =
    let shown = c.timestamp_text.ensures in
    let digits : options c.precision-printer.result ≡ (false, 84, Some 3) = search rules in
    let instant : c.in-Ok.time.nanosecond ≡ nanos_of c.args.millis = search rules in
    let text = ap (λ (o : Bool × ℕ × Option ℕ). datetime_text o.0 o.1 o.2 shown.0 ++ zulu_text o.0) digits in
    (shown.0, shown.1 ∙ instant, c.in_ok-text.ensures.ok ∙ c.as_str.ensures.value ∙ shown.2 ∙ text)

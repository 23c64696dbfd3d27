-- The line is that of the first cell, with the marks of all.
use Rattle.std.proofs.Common.{◌≡◌, ◌∙◌, ap, sym, Some}
use Rattle.std.specs.List.{slice_get}
use Rattle.std.specs.Option.{option_copied}
use Rattle.std.proofs.lemmas.Result.{IfOk-weaker}
use Rattle.month_reports.specs.Calendars.{calendar_line}
use Rattle.month_reports.proofs.CalendarLemmas.{row_by_first}
use Rattle.month_reports.proofs.calendars.calendar_row.Goals as goal

pub returns : goal.returns
returns c =
    let month = c.args.month.now in
    let row = c.in-Some.row.now in
    let first : Some row ≡ slice_get month 0 = sym (ap option_copied c.in-Some.is) ∙ c.first.ensures.value in
    record {
      row = IfOk-weaker c.calendar_line.result (λ bytes. bytes.items ≡ calendar_line row.0 c.marks_of-marks.result) _
          (λ bytes is. is ∙ ap (calendar_line row.0) c.marks_of-marks.ensures.marks ∙ sym (row_by_first month row first)) c.calendar_line.ensures.line;
    }

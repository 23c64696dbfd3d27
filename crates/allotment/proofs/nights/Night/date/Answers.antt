-- `jiff`'s date of the day is the night's.
use Rattle.std.proofs.Common.{arith}
use Rattle.std.proofs.lemmas.Int.{ints}
use Rattle.jiff_core.proofs.SignedLemmas.{signed_arith}
use Rattle.allotment.proofs.DateLemmas.{date_of_night}
use Rattle.allotment.proofs.nights.Night.date.Goals as goal

-- its year is from 2000 on
pub overflow_cast-result : goal.overflow_cast-result
overflow_cast-result c =
    let is = date_of_night c.args.self.now c.calendar_date-date.result c.calendar_date-date.ensures.night c.calendar_date-date.ensures.day in
    omega (arith, ints, signed_arith, is.year, is.within)

pub returns : goal.returns
returns c =
    let is = date_of_night c.args.self.now c.calendar_date-date.result c.calendar_date-date.ensures.night c.calendar_date-date.ensures.day in
    record {
      year = omega (arith, ints, signed_arith, is.year, is.within);
      month = is.month;
      day = is.day;
      century = omega (arith, ints, signed_arith, is.year, is.within);
      year_long = omega (arith, is.month, is.in_year);
      from_one = omega (arith, is.day, is.from_one);
      month_long = omega (arith, is.day, is.short);
    }

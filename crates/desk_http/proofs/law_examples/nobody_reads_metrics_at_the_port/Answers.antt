-- The port is not the administrator's socket.
use Rattle.std.proofs.Common.{◌≡◌, ap}
use Rattle.desk_http.specs.Laws.{is_for_house}
use Rattle.desk_http.specs.declared.doors.Door.TheVariants.{House, Port}
use Rattle.desk_http.proofs.law_examples.nobody_reads_metrics_at_the_port.Goals as goal

pub returns : goal.returns
returns c = record {
  nobody = λ parts body is.
      let port : Port ≡ House = (c.reports_are_for_the_house.ensures.law Port parts body (ap is_for_house is)).0 in cc;
}

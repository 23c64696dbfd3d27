-- The house stops the desk where it asks for that and its head is not refused.
use Rattle.desk_http.proofs.AnswerLemmas.{house_stops}
use Rattle.desk_http.proofs.answering.stops_at_house.Goals as goal

pub returns : goal.returns
returns c = record {
  stops = house_stops c.args.request.now c.asks_to_stop-asked.result c.is_some-refused.result c.is_stop.result
      c.asks_to_stop-asked.ensures.stop c.is_some-refused.ensures c.is_stop.ensures.stop;
}

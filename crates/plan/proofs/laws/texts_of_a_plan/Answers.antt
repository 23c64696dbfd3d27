-- Each law is used as it stands.
use Rattle.std.proofs.Common.{◌∙◌, sym, refl}
use Rattle.plan.specs.Examples.{flight_and_room, flight_and_room_text, flight_and_room_has_this_line}
use Rattle.plan.proofs.laws.texts_of_a_plan.Goals as goal

pub returns : goal.returns
returns c =
    let law = c.one_spelling.ensures.one_spelling in
    let its = flight_and_room_has_this_line in
    record {
      line = (law flight_and_room_text flight_and_room).1 its;
      alone = λ text reads. ((law text flight_and_room).0 reads).spelled ∙ sym its.spelled;
      json = c.json_is_read_back.ensures.json_is_read_back flight_and_room refl;
    }

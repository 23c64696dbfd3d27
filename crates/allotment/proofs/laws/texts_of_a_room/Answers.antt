-- Each law is used as it stands.
use Rattle.std.proofs.Common.{◌∙◌, refl, sym, codes}
use Rattle.allotment.specs.declared.codes.Kind.TheVariants.{Room}
use Rattle.allotment.specs.Examples
use Rattle.allotment.proofs.laws.texts_of_a_room.Goals as goal

pub returns : goal.returns
returns c =
    let law = c.values_have_one_text.ensures in
    record {
      number = (law.numbers 1 Room).1 (refl, refl);
      letter = (law.letters (codes "R") Room).1 (refl, refl);
      word = (law.words (codes "room") Room).1 (refl, refl);
      code = (law.codes (codes "INN") Examples.inn).1 (Examples.inn_is_a_code, refl);
      night = (law.nights (codes "2030-06-01") Examples.june).1 (Examples.june_is_a_night, sym Examples.june_has_this_text);
      cell = (law.cells (codes "R/INN/DBL/2030-06-01") Examples.room).1 (Examples.room_is_good, sym Examples.room_has_this_text);
      row = λ other good same.
          law.rows other Examples.four_rooms good Examples.four_rooms_keep_the_limits
          (same ∙ sym Examples.four_rooms_have_this_text);
      want = λ other good same.
          law.wants other Examples.three_nights good Examples.three_nights_keep_the_limits
          (same ∙ sym Examples.three_nights_have_this_text);
    }

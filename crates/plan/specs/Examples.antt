-- A worked example: a plan of two steps, and its line.
use Rattle.std.specs.Prelude.{ℕ, true, false, List, [], ◌∷◌, codes, refl}
use Rattle.std.specs.Fmt.{digits}
use Rattle.allotment.specs.Want.{wanted}
use Rattle.allotment.specs.declared.codes.Kind.TheVariants.{Flight, Room}
use Rattle.plan.specs.PlanLine.{IsPlanLine}
use Rattle.plan.specs.PlanModel.{Planned}

-- a flight, with a save-point after it, and a room of either of two hotels; a refused step is retried twice
abbrev pub flight_and_room : Planned
flight_and_room = record {
  steps = record { options = wanted Flight (codes "AL") (codes "A1") 22066 1 1 ∷ []; is_marked = true }
      ∷ record {
        options = wanted Room (codes "INN") (codes "DBL") 22066 3 2 ∷ wanted Room (codes "SEA") (codes "TWIN") 22066 3 2 ∷ [];
        is_marked = false;
      }
      ∷ [];
  tries = 2;
}

abbrev pub flight_and_room_text : List ℕ
flight_and_room_text = codes "F/AL/A1/2030-06-01/1/1*;R/INN/DBL/2030-06-01/3/2|R/SEA/TWIN/2030-06-01/3/2!2"

pub flight_and_room_has_this_line : IsPlanLine flight_and_room_text flight_and_room
unfolding digits
flight_and_room_has_this_line = record { keeps_limits = refl; spelled = refl }

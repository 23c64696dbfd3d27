-- Worked examples of who holds places of which cells, and of the report of it: each is computed by the definitions.
use Rattle.std.specs.Prelude.{◌≡◌, [], ◌∷◌, ◌++◌, codes, refl}
use Rattle.std.specs.Fmt.{digits}
use Rattle.serde_json.proofs.OnLiterals.{serde_json_on_literals}
use Rattle.csv.specs.Writing.{escaped, fields_text, is_blank}
use Rattle.allotment.specs.declared.cells.Cell.{Cell}
use Rattle.allotment.specs.declared.codes.Kind.TheVariants.{Flight, Room}
use Rattle.saga_core.specs.declared.journey_filters.JourneyState.TheVariants.{Run, Ended}
use Rattle.ledger.specs.Examples.{row, row_after}
use Rattle.saga_core.specs.declared.report.Format.TheVariants.{Text, Json, Csv}
use Rattle.reports.specs.HolderExamples.{two_stays}
use Rattle.reports.specs.HoldingLayouts.{holdings_shown}
use Rattle.reports.specs.Holdings.{by_night, holdings_in}
use Rattle.reports.specs.declared.holdings.Holding.{Holding}

-- a room on three nights, and a flight on the first of them
abbrev first : Cell
first = (row Room 1 10).cell

abbrev second : Cell
second = (row_after 1 Room 1 10).cell

abbrev fourth : Cell
fourth = (row_after 3 Room 1 10).cell

abbrev flight : Cell
flight = (row Flight 1 10).cell

-- night by night, and on one night in the order that they had
pub orders_by_night : by_night (second ∷ flight ∷ fourth ∷ first ∷ []) ≡ flight ∷ first ∷ second ∷ fourth ∷ []
orders_by_night = refl

-- both steps of the journey hold places of the first night, the first step of the second, none of the fourth; the journey
-- has ended
abbrev of_first : Holding
of_first = record { cell = first; journey = 1; agent = codes "desk"; state = Ended; places = 2 }

pub both_steps_are_shown :
    holdings_in two_stays.ledger (fourth ∷ second ∷ flight ∷ first ∷ [])
    ≡ of_first ∷ record of_first { places = 1 } ∷ record of_first { cell = second } ∷ []
both_steps_are_shown = refl

-- a seat and a room of a journey of ann that runs
abbrev seat : Holding
seat = record {
  cell = record { kind = Flight; supplier = codes "AL"; product = codes "A1"; night = 22066 };
  journey = 7;
  agent = codes "ann";
  state = Run;
  places = 3;
}

-- as a text
pub shows_a_seat :
    holdings_shown Text (seat ∷ [])
    ≡ codes "night      kind     supplier product       journey agent            state  places\n"
    ++ codes "2030-06-01 flight   AL       A1                  7 ann              run         3\n"
    ++ codes "holders 1\n"
unfolding digits
shows_a_seat = refl

-- as an object, and as a record
pub shows_a_seat_as_an_object :
    holdings_shown Json (seat ∷ [])
    ≡ codes "{\"agent\":\"ann\",\"journey\":7,\"kind\":\"flight\",\"night\":\"2030-06-01\",\"places\":3,"
    ++ codes "\"product\":\"A1\",\"state\":\"run\",\"supplier\":\"AL\"}\n"
unfolding digits serde_json_on_literals
shows_a_seat_as_an_object = refl

pub shows_a_seat_as_a_record :
    holdings_shown Csv (seat ∷ [])
    ≡ codes "night,kind,supplier,product,journey,agent,state,places\r\n" ++ codes "2030-06-01,flight,AL,A1,7,ann,run,3\r\n"
unfolding digits escaped fields_text is_blank
shows_a_seat_as_a_record = refl

-- no holder: a text has its heading and its last line, JSON is empty
pub shows_no_seat :
    holdings_shown Text []
    ≡ codes "night      kind     supplier product       journey agent            state  places\nholders 0\n"
unfolding digits
shows_no_seat = refl

pub shows_no_object : holdings_shown Json [] ≡ []
shows_no_object = refl

-- Worked examples of why a journey does not go on: each is computed by the definitions, from a ledger.
use Rattle.std.specs.Prelude.{◌≡◌, [], ◌∷◌, ◌++◌, codes, refl}
use Rattle.std.specs.Fmt.{digits}
use Rattle.serde_json.proofs.OnLiterals.{serde_json_on_literals}
use Rattle.csv.specs.Writing.{escaped, fields_text, is_blank}
use Rattle.allotment.specs.declared.codes.Kind.TheVariants.{Flight, Room}
use Rattle.plan.specs.PlanModel.{Planned}
use Rattle.commands.specs.Names.{house}
use Rattle.commands.specs.Request.{Begin, Step}
use Rattle.ledger.specs.Answer.{State, start}
use Rattle.ledger.specs.Examples.{after_all, flight, load, nights_of, row, step, untried}
use Rattle.ledger.specs.Ledger.{Journey}
use Rattle.saga_core.specs.declared.report.Format.TheVariants.{Text, Json, Csv}
use Rattle.previews.specs.Layouts.{why_of}

-- a flight, and then two nights in a room
abbrev pub flight_and_room : Planned
flight_and_room = untried (step (flight 1) ∷ step (nights_of 2 Room 1 1 ∷ []) ∷ [])

abbrev pub of_the_house : Journey
of_the_house = record { agent = house; plan = flight_and_room }

-- the flight has ten places; the room has none on the first night, and the second is not allotted
abbrev pub begun : State
begun = after_all start (load 97 (row Flight 1 10 ∷ row Room 1 0 ∷ []) ∷ Begin flight_and_room ∷ [])

-- the flight fits
pub goes_on :
    why_of Text begun.ledger 1 of_the_house
    ≡ codes "journey 1 agent desk\nstate run 0\nnext T1.1 F/A/1/2030-06-01/1/1\nnight 2030-06-01 free 10\nstep T1.1\n"
unfolding digits
goes_on = refl

-- the room does not
abbrev pub flown : State
flown = after_all begun (Step 1 ∷ [])

pub is_refused :
    why_of Text flown.ledger 1 of_the_house
    ≡ codes "journey 1 agent desk\nstate run 1\nnext T2.1 R/A/1/2030-06-01/2/1\nnight 2030-06-01 free 0\n"
    ++ codes "night 2030-06-02 unallotted\nstep B0r\n"
unfolding digits
is_refused = refl

pub is_refused_as_objects :
    why_of Json flown.ledger 1 of_the_house
    ≡ codes "{\"agent\":\"desk\",\"journey\":1,\"pos\":1,\"state\":\"run\"}\n"
    ++ codes "{\"journey\":1,\"next\":\"T2.1\",\"want\":\"R/A/1/2030-06-01/2/1\"}\n"
    ++ codes "{\"free\":0,\"journey\":1,\"night\":\"2030-06-01\"}\n" ++ codes "{\"journey\":1,\"night\":\"2030-06-02\"}\n"
    ++ codes "{\"journey\":1,\"step\":\"B0r\"}\n"
unfolding digits serde_json_on_literals
is_refused_as_objects = refl

pub is_refused_as_records :
    why_of Csv flown.ledger 1 of_the_house
    ≡ codes "journey,agent,state,pos,target,next,want,night,free,step\r\n"
    ++ codes "1,desk,run,1,,T2.1,R/A/1/2030-06-01/2/1,2030-06-01,0,B0r\r\n"
    ++ codes "1,desk,run,1,,T2.1,R/A/1/2030-06-01/2/1,2030-06-02,,B0r\r\n"
unfolding digits escaped fields_text is_blank
is_refused_as_records = refl

-- it goes back, and the flight is returned
abbrev pub turned : State
turned = after_all flown (Step 1 ∷ [])

pub goes_back :
    why_of Text turned.ledger 1 of_the_house
    ≡ codes "journey 1 agent desk\nstate back 1 to 0\nnext C1.1 F/A/1/2030-06-01/1/1\nnight 2030-06-01 free 9\nstep C1.1\n"
unfolding digits
goes_back = refl

-- it is undone
abbrev pub over : State
over = after_all turned (Step 1 ∷ [])

pub has_no_step :
    why_of Text over.ledger 1 of_the_house ≡ codes "journey 1 agent desk\nstate undone 0\nstep none\n"
unfolding digits
has_no_step = refl

pub has_no_step_as_records :
    why_of Csv over.ledger 1 of_the_house
    ≡ codes "journey,agent,state,pos,target,next,want,night,free,step\r\n" ++ codes "1,desk,undone,0,,,,,,none\r\n"
unfolding digits escaped fields_text is_blank
has_no_step_as_records = refl

-- Worked examples of the holders of a cell and of their report: each is computed by the definitions.
use Rattle.std.specs.Prelude.{◌≡◌, [], ◌∷◌, ◌++◌, codes, refl}
use Rattle.std.specs.Fmt.{digits}
use Rattle.serde_json.proofs.OnLiterals.{serde_json_on_literals}
use Rattle.csv.specs.Writing.{escaped, fields_text, is_blank}
use Rattle.allotment.specs.declared.codes.Kind.TheVariants.{Flight, Room}
use Rattle.commands.specs.Request.{Begin, Step}
use Rattle.ledger.specs.Answer.{State, start}
use Rattle.ledger.specs.Examples.{after_all, load, nights_of, row, row_after, step, untried, want}
use Rattle.ledger.specs.JourneyExamples.{one_aborted}
use Rattle.saga_core.specs.declared.report.Format.TheVariants.{Text, Json, Csv}
use Rattle.reports.specs.Holders.{holders_of}
use Rattle.reports.specs.HolderLayouts.{holders_in}
use Rattle.reports.specs.declared.holders.Holder.{Holder}

-- journey 2 took 3 places with its first step
abbrev pub second : Holder
second = record { journey = 2; step = 1; option = 1; places = 3 }

-- journey 1 took 2 places and gave them back, journey 2 took 3: only journey 2 holds places
pub compensated_step_holds_nothing : holders_of one_aborted.ledger (row Flight 1 10).cell ≡ second ∷ []
compensated_step_holds_nothing = refl

-- a room with 10 places on each of four nights, and one journey: its first step took 2 places for three nights, its
-- second step 1 place for the first night
abbrev pub two_stays : State
two_stays =
    after_all start
    (load 97 (row Room 1 10 ∷ row_after 1 Room 1 10 ∷ row_after 2 Room 1 10 ∷ row_after 3 Room 1 10 ∷ [])
    ∷ Begin (untried (step (nights_of 3 Room 1 2 ∷ []) ∷ step (want Room 1 1 ∷ []) ∷ []))
    ∷ Step 1 ∷ Step 1 ∷ [])

-- its two steps
abbrev pub for_three_nights : Holder
for_three_nights = record { journey = 1; step = 1; option = 1; places = 2 }

abbrev pub for_one_night : Holder
for_one_night = record { journey = 1; step = 2; option = 1; places = 1 }

-- both hold places of the first night
pub both_steps_hold_the_first_night : holders_of two_stays.ledger (row Room 1 10).cell ≡ for_three_nights ∷ for_one_night ∷ []
both_steps_hold_the_first_night = refl

-- the last night of a want is held, the night after it is not
pub last_night_is_held : holders_of two_stays.ledger (row_after 2 Room 1 10).cell ≡ for_three_nights ∷ []
last_night_is_held = refl

pub night_after_the_last_is_not_held : holders_of two_stays.ledger (row_after 3 Room 1 10).cell ≡ []
night_after_the_last_is_not_held = refl

-- the first night, in each format
pub shows_two_holders :
    holders_in Text (for_three_nights ∷ for_one_night ∷ [])
    ≡ codes "     journey   step option places\n" ++ codes "           1      1      1      2\n"
    ++ codes "           1      2      1      1\n" ++ codes "holders 2\n"
unfolding digits
shows_two_holders = refl

pub shows_a_holder_as_an_object :
    holders_in Json (for_one_night ∷ []) ≡ codes "{\"journey\":1,\"option\":1,\"places\":1,\"step\":2}\n"
unfolding digits serde_json_on_literals
shows_a_holder_as_an_object = refl

pub shows_a_holder_as_a_record :
    holders_in Csv (for_one_night ∷ []) ≡ codes "journey,step,option,places\r\n" ++ codes "1,2,1,1\r\n"
unfolding digits escaped fields_text is_blank
shows_a_holder_as_a_record = refl

-- no holder: a text has its heading and its last line
pub shows_no_holder : holders_in Text [] ≡ codes "     journey   step option places\nholders 0\n"
unfolding digits
shows_no_holder = refl

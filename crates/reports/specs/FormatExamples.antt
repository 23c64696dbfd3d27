-- Worked examples of reports as JSON lines and as CSV: each is computed by the definitions.
use Rattle.std.specs.Prelude.{◌≡◌, [], ◌∷◌, ◌++◌, codes, refl}
use Rattle.std.specs.Fmt.{digits}
use Rattle.serde_json.proofs.OnLiterals.{serde_json_on_literals}
use Rattle.csv.specs.Writing.{escaped, fields_text, is_blank}
use Rattle.commands.specs.declared.items.Cause.TheVariants as cause
use Rattle.commands.specs.declared.items.Item.TheVariants.{Transaction, Turn}
use Rattle.commands.specs.declared.items.Phase.TheVariants.{Back}
use Rattle.saga_core.specs.declared.records.Brief.{Brief}
use Rattle.reports.specs.Examples.{flight, ten_places, second, stopped}
use Rattle.reports.specs.Formats.{stock_in, unfinished_in, history_in}
use Rattle.saga_core.specs.declared.report.Format.TheVariants.{Json, Csv}

-- a cell with ten places, one of which is held
pub shows_a_cell_as_an_object :
    stock_in Json ((flight, ten_places) ∷ [])
    ≡ codes "{\"allot\":10,\"free\":9,\"held\":1,\"kind\":\"flight\",\"night\":\"2030-06-01\","
    ++ codes "\"product\":\"A1\",\"supplier\":\"AL\"}\n"
unfolding digits serde_json_on_literals
shows_a_cell_as_an_object = refl

pub shows_a_cell_as_a_record :
    stock_in Csv ((flight, ten_places) ∷ [])
    ≡ codes "kind,supplier,product,night,allot,held,free\r\n" ++ codes "flight,AL,A1,2030-06-01,10,1,9\r\n"
unfolding digits escaped fields_text is_blank
shows_a_cell_as_a_record = refl

-- no cell: JSON is empty, CSV is a heading
pub shows_no_object : stock_in Json [] ≡ []
shows_no_object = refl

pub shows_no_record :
    stock_in Csv [] ≡ codes "kind,supplier,product,night,allot,held,free\r\n"
unfolding escaped fields_text is_blank
shows_no_record = refl

-- a journey of ann that goes back from 1 to 0
abbrev pub going_back : Brief
going_back = record { id = 7; agent = codes "ann"; cursor = record { pos = 1; phase = Back 0; used = 1 } }

-- two unfinished journeys: only the one that goes back has a target
pub shows_journeys_as_objects :
    unfinished_in Json (second ∷ going_back ∷ [])
    ≡ codes "{\"agent\":\"desk\",\"journey\":2,\"pos\":1,\"state\":\"run\"}\n"
    ++ codes "{\"agent\":\"ann\",\"journey\":7,\"pos\":1,\"state\":\"back\",\"target\":0}\n"
unfolding digits serde_json_on_literals
shows_journeys_as_objects = refl

pub shows_journeys_as_records :
    unfinished_in Csv (second ∷ going_back ∷ [])
    ≡ codes "journey,agent,state,pos,target\r\n" ++ codes "2,desk,run,1,\r\n" ++ codes "7,ann,back,1,0\r\n"
unfolding digits escaped fields_text is_blank
shows_journeys_as_records = refl

-- the history of a journey that was stopped before its first step
pub shows_a_history_as_objects :
    history_in Json 1 stopped (Turn 0 cause.Stop ∷ [])
    ≡ codes "{\"agent\":\"desk\",\"journey\":1,\"plan\":\"F/AL/A1/2030-06-01/1/1!0\"}\n"
    ++ codes "{\"item\":\"B0s\",\"journey\":1}\n" ++ codes "{\"journey\":1,\"pos\":0,\"state\":\"undone\"}\n"
unfolding digits serde_json_on_literals
shows_a_history_as_objects = refl

pub shows_a_history_as_records :
    history_in Csv 1 stopped (Transaction 1 1 ∷ Turn 0 cause.Stop ∷ [])
    ≡ codes "journey,item\r\n" ++ codes "1,T1.1\r\n" ++ codes "1,B0s\r\n"
unfolding digits escaped fields_text is_blank
shows_a_history_as_records = refl

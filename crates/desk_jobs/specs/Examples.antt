-- Worked examples of openings, computed by the definitions: a new desk is opened and asked to step a journey that is not
-- there, and is then opened again; and a batch of one row is loaded into a new desk, and a crash cuts that off, or does not.
use Rattle.std.specs.Prelude.{◌≡◌, true, false, List, [], ◌∷◌, length, None, Err, refl}
use Rattle.allotment.specs.declared.codes.Kind.TheVariants.{Flight}
use Rattle.allotment_csv.specs.declared.faults.CsvFault.TheVariants.{BadBody}
use Rattle.commands.specs.BatchData.{Batched}
use Rattle.commands.specs.Request.{Step}
use Rattle.commands.specs.declared.replies.Refusal.TheVariants.{NoJourney}
use Rattle.commands.specs.Texts.{reply_line}
use Rattle.commands.specs.declared.replies.Reply.TheVariants.{Loaded, Refused}
use Rattle.ledger.specs.Answer.{start}
use Rattle.ledger.specs.Examples.{row}
use Rattle.ledger.specs.World.{Moment, Done, Reopened, after}
use Rattle.saga_core.specs.StreamScenes.{ended}
use Rattle.saga_core.specs.Chains.{reopened}
use Rattle.saga_core.specs.Runs.{Asks}
use Rattle.saga_core.specs.Worlds.{continued, cut_off}
use Rattle.desk_jobs.specs.Openings.{ask_of_batch, asks_of_file, load_reply, recovered}

-- what is asked, by the house
abbrev pub asked : Asks
asked = (Step 1, None) ∷ []

-- the desk was new, so that its recovery made no event
abbrev pub answered : List Moment
answered = continued (recovered [] []) asked []

pub it_was_opened_and_answered : answered ≡ Reopened ∷ Done (Step 1) None (Refused NoJourney) ∷ []
it_was_opened_and_answered = refl

-- a refusal changes nothing, nor does an opening
pub nothing_has_changed : after start (reopened answered) ≡ start
nothing_has_changed = refl

-- a batch of one row, under the name a
abbrev pub batch : Batched
batch = record { name = 97 ∷ []; rows = row Flight 1 10 ∷ [] }

-- a name or a file that is refused asks for nothing
pub it_asked_for_nothing : asks_of_file (Err BadBody) ≡ []
it_asked_for_nothing = refl

-- its reply, as bytes: `loaded a 1`
pub it_was_loaded : load_reply start batch ≡ ended (reply_line (Loaded (97 ∷ []) 1))
it_was_loaded = refl

-- a crash cut the load off, and its event was kept; or it was not, and the desk is new
pub it_was_kept : length (after start (continued (recovered [] []) [] (cut_off (ask_of_batch batch) true))).ledger ≡ 1
it_was_kept = refl

pub it_was_lost : after start (continued (recovered [] []) [] (cut_off (ask_of_batch batch) false)) ≡ start
it_was_lost = refl

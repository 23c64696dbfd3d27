-- The result of loading an allotment file: the reply, what was written, and the state after it.
use Rattle.std.specs.Prelude.{◌≡◌, ◌⊎◌, ℕ, List, Option, None, Result, Ok, Err}
use Rattle.std.specs.Io.KnownBytes.{Appends, Keeps}
use Rattle.commands.specs.BatchData.{Batched}
use Rattle.commands.specs.Request.{Request}
use Rattle.commands.specs.Request as request
use Rattle.commands.specs.Texts.{reply_line}
use Rattle.commands.specs.declared.replies.Refusal.{Refusal}
use Rattle.commands.specs.declared.replies.Refusal.TheVariants as refusal
use Rattle.commands.specs.declared.replies.Reply.{Reply}
use Rattle.commands.specs.declared.replies.Reply.TheVariants as reply
use Rattle.allotment_csv.specs.declared.faults.CsvFault.{CsvFault}
use Rattle.allotment_csv.specs.declared.faults.CsvFault.TheVariants as csv
use Rattle.ledger.specs.Answer.{State, outcome}
use Rattle.saga_core.specs.Written.{WroteFront}
use Rattle.saga_core.specs.StreamScenes.{ended}
use Rattle.saga_core.specs.declared.serve_faults.ServeFault.{ServeFault}
use Rattle.saga_core.specs.declared.serve_faults.ServeFault.TheVariants.{Memory, Store}
use Rattle.program_ends.specs.declared.ends.End.{End}
use Rattle.program_ends.specs.declared.ends.End.TheVariants as finish
use Rattle.desk_jobs.specs.Ends.{IsAccepted}

-- the refusal reports what is wrong with a name or a file
abbrev pub RefusesFor : CsvFault → Refusal → Type 0
RefusesFor csv.BadBody told = told ≡ refusal.BadBody
RefusesFor (csv.BadCsv row cause) told = told ≡ refusal.BadCsv row cause
RefusesFor csv.Memory told = ⊥

-- the line of a reply that is not a refusal was written, at a fault a prefix of it; a refusal is the end
abbrev pub TellsLoaded : Option (List ℕ) → Option (List ℕ) → Reply → End → Type 0
TellsLoaded held holds told finish.Done = IsAccepted told × Appends held holds (ended (reply_line told))
TellsLoaded held holds told (finish.Refused why) = (told ≡ reply.Refused why) × Keeps held holds
TellsLoaded held holds told (finish.Fault fault) =
    IsAccepted told × WroteFront held holds (ended (reply_line told))
TellsLoaded held holds told (finish.Usage text) = ⊥

module _ (stands : State → Type 0) (leaves : State → State → Type 0) (s : State) where
  -- the reply is the outcome's, and the book represents the state after it; or a fault came
  abbrev pub ComesTo : Request → Result Reply ServeFault → Type 0
  ComesTo asked (Ok told) = (told ≡ (outcome s None asked).reply) × stands (outcome s None asked).state
  ComesTo asked (Err Memory) = stands s
  ComesTo asked (Err Store) = leaves s (outcome s None asked).state
  ComesTo asked (Err _) = ⊥

  -- the fault of a name or a file is refused, and the book represents the same state; or out of memory
  abbrev pub IsRefusedFor : CsvFault → Result Reply ServeFault → Type 0
  IsRefusedFor wrong (Ok (reply.Refused told)) = RefusesFor wrong told × stands s
  IsRefusedFor wrong (Ok _) = ⊥
  IsRefusedFor wrong (Err Memory) = stands s
  IsRefusedFor wrong (Err _) = ⊥

  -- the batch of a file is loaded, or the fault of its name or of its bytes is refused
  abbrev pub LoadsFile : Result Batched CsvFault → Result Reply ServeFault → Type 0
  LoadsFile (Ok batch) result = ComesTo (request.Load batch.name batch.rows) result
  LoadsFile (Err wrong) result = IsRefusedFor wrong result

module _ (held holds : Option (List ℕ)) (represents : State → Type 0) (leaves : State → State → Type 0)
    (s : State) where
  -- a load came to this reply and this state: its line was written, or its refusal is the end; after a fault the state
  -- before it is represented, and nothing was written; or the one after it, and a prefix of its line was; or a crash leaves one
  -- of the two, and nothing was written
  abbrev pub EndsWith : Reply → State → End → Type 0
  EndsWith told after finish.Done =
      IsAccepted told × Appends held holds (ended (reply_line told)) × represents after
  EndsWith told after (finish.Refused why) =
      (told ≡ reply.Refused why) × Keeps held holds × represents after
  EndsWith told after (finish.Fault fault) =
      (Keeps held holds × represents s)
      ⊎ ((WroteFront held holds (ended (reply_line told)) × represents after) ⊎ (Keeps held holds × leaves s after))
  EndsWith told after (finish.Usage text) = ⊥

  -- the fault of a name or a file is the end, with nothing written and the same state; or out of memory
  abbrev pub EndsFaulty : CsvFault → End → Type 0
  EndsFaulty wrong (finish.Refused told) = RefusesFor wrong told × Keeps held holds × represents s
  EndsFaulty wrong (finish.Fault fault) = Keeps held holds × represents s
  EndsFaulty wrong _ = ⊥

  -- the batch of a file was loaded, or the fault of its name or of its bytes is refused
  abbrev pub EndsLoad : Result Batched CsvFault → End → Type 0
  EndsLoad (Ok batch) e =
      let made = outcome s None (request.Load batch.name batch.rows) in EndsWith made.reply made.state e
  EndsLoad (Err wrong) e = EndsFaulty wrong e

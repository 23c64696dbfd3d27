-- How a world goes on with an allotment file, or with nothing. For the jobs that load and recover.
use Rattle.std.proofs.Common.{◌≡◌, ℕ, List, [], ◌++◌, refl, sym, ap, subst, append-nil, arith, true, inl, inr, Ok, Option, None}
use Rattle.std.specs.Io.KnownBytes.{Appends}
use Rattle.commands.specs.BatchData.{Batched}
use Rattle.commands.specs.Request as request
use Rattle.allotment_csv.specs.Files.{batch_of}
use Rattle.allotment_csv.proofs.LimitLemmas.{batch_keeps_limits}
use Rattle.ledger.specs.Answer.{State, start, outcome}
use Rattle.ledger.specs.World.{Moment, after}
use Rattle.saga_core.specs.Worlds.{KeepLimits, StandsAtEnd, continued}
use Rattle.saga_core.proofs.ChainLemmas.{goes_on_all, stays_world}
use Rattle.saga_core.proofs.WorldLemmas.{after-continued, ends-cut}
use Rattle.sqlite.specs.State.{State as Connected, HasCleanDisk}
use Rattle.sql_model.specs.Keeping.{MayLeave}
use Rattle.desk_jobs.specs.Openings.{File, ask_of_batch, asks_of_file, load_reply}
use Rattle.desk_jobs.specs.Stages.{Answering, LeavesAnswering}
use Rattle.desk_jobs.proofs.StageLemmas.{answering, answering_left, goes_all}
use Rattle.desk_jobs.proofs.TellingLemmas.{tells_none}

-- the state after a batch
abbrev pub loaded : State → Batched → State
loaded s batch = (outcome s None (request.Load batch.name batch.rows)).state

module _ (held holds : Option (List ℕ)) (stands : State → Type 0) (w : List Moment) (name bytes : List ℕ)
    (here : StandsAtEnd stands w) where
  module _ (batch : Batched) (is : batch_of name bytes ≡ Ok batch) where
    limits : KeepLimits (ask_of_batch batch)
    limits = (batch_keeps_limits name bytes batch is, tt)

    -- its batch was carried out, and so much of the reply was written
    pub file_loaded : (IsThere : State → Type 0) (told unsent : List ℕ) → load_reply (after start w) batch ≡ told ++ unsent
        → Appends held holds told → IsThere (loaded (after start w) batch) → Answering held holds w (File name bytes) IsThere
    file_loaded IsThere told unsent sent wrote there =
        let asks = ask_of_batch batch in
        answering held holds w (continued w asks []) (File name bytes) asks IsThere (sym (ap asks_of_file is)) (goes_all w asks limits)
        (stays_world w asks (continued w asks []) here.world here.whole (goes_on_all w asks limits))
        (subst IsThere (sym (after-continued w asks [])) there)
        (record {
          told = told;
          wrote = wrote;
          is_told = record {
            answered = asks;
            others = [];
            done = sym (append-nil asks);
            answers = load_reply (after start w) batch;
            are = inr (batch, is, refl, refl);
            unsent = unsent;
            sent = sent;
          };
        })

    -- it was under way when the store failed
    pub file_cut : (c : Connected) → HasCleanDisk c → Appends held holds []
        → MayLeave c (after start w) (loaded (after start w) batch)
        → LeavesAnswering c.may_leave held holds w (File name bytes)
    file_cut c clean silent left =
        let asks = ask_of_batch batch in
        let among = ends-cut stands (MayLeave c) w asks [] asks [] here refl (omega arith) limits left in
        answering_left c (MayLeave c) clean (λ s t m. m) stands w held holds (File name bytes) asks true among (sym (ap asks_of_file is))
        (tells_none held holds (after start w) (File name bytes) among.progress.answered (inl (refl, refl)) silent)

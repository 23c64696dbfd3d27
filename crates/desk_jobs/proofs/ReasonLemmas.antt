-- A book over a connection from which a job may start may recover, and what is said of a book is said of its connection. For the jobs.
use Rattle.std.proofs.Common.{◌≡◌, ◌≢◌, ◌≤◌, ◌+◌, ◌⊎◌, ◌∙◌, inl, inr, ℕ, suc, [], ◌∷◌, ◌++◌, length, take, refl, ap, sym, subst, arith, append-nil, Option, Some, None, Result, Ok, Err, IfSome}
use Rattle.sqlite.specs.Store.{Ghosts}
use Rattle.sqlite.specs.Effect.{Database}
use Rattle.sqlite.specs.Held.{Held, state}
use Rattle.sqlite.specs.State.{HasCleanDisk}
use Rattle.commands.specs.Asks.{Asked}
use Rattle.commands.specs.BatchData.{Batched}
use Rattle.commands.specs.Request.{Request}
use Rattle.commands.specs.declared.replies.Fault.{Fault}
use Rattle.commands.specs.declared.replies.Fault.TheVariants.{Store}
use Rattle.allotment_csv.specs.declared.faults.CsvFault.{CsvFault}
use Rattle.desk_sql.specs.Causes.{HasFaulted}
use Rattle.desk_sql.specs.Schema.{no_schema}
use Rattle.desk_sql.specs.Writable.{HasRowids}
use Rattle.desk_sql.specs.declared.versions.Version.TheVariants.{Two}
use Rattle.desk_sql.proofs.Rowids.{rowids_fewer}
use Rattle.ledger.specs.Answer.{State}
use Rattle.program_ends.specs.Ends.{fault_of_run}
use Rattle.program_ends.specs.declared.ends.End.TheVariants as finish
use Rattle.program_ends.specs.declared.faults.ProgramFault.{ProgramFault}
use Rattle.program_ends.specs.declared.faults.ProgramFault.TheVariants as fault
use Rattle.saga_core.specs.StreamFaults.{served_fault}
use Rattle.saga_core.specs.declared.serve_faults.ServeFault.{ServeFault}
use Rattle.saga_core.specs.declared.serve_faults.ServeFault.TheVariants as serve
use Rattle.tables.specs.declared.faults.OpenFault.{OpenFault}
use Rattle.tables.specs.declared.faults.OpenFault.TheVariants as opening
use Rattle.desk_jobs.specs.Connections.{Represents}
use Rattle.desk_jobs.specs.OpeningEnds.{end_of_open}
use Rattle.recovery.specs.Growing.{Grew, room_of, with_events}
use Rattle.recovery.specs.Reasons.{AreMoves, IsStepOrStop, MayActThen, MayRecover, NoState}
use Rattle.recovery.specs.Recovers.{AreRecovery, RecoversSome}
use Rattle.saga_core.specs.Reasons as reasons
use Rattle.saga_core.specs.Runs.{Asks, state_after}
use Rattle.sql_commands.specs.Failing.{RanOutOf, asked_rowids}
use Rattle.sql_model.specs.Keeping.{WasClean}
use Rattle.sql_model.specs.Staying.{SeesAsBefore, StaysUp}
use Rattle.tables.specs.Acting.{AreShort, HasReasonSince, MayAct, MayActSince, NewDeskMayAct, rowids_for}
use Rattle.tables.specs.BookTerms.{StandsBook}
use Rattle.tables.specs.Making.{MakesBook}
use Rattle.tables.specs.Opening.{Opens}
use Rattle.tables.specs.declared.books.TableBook.{TableBook}
use Rattle.tables.specs.declared.opening.Opened.{Opened}
use Rattle.tables.proofs.OpenKept.{not_bare}
use Rattle.desk_jobs.specs.Jobs.{OpensBook}
use Rattle.desk_jobs.specs.Openings.{ask_of_batch}
use Rattle.desk_jobs.specs.Reasons.{FailsAmongFrom, FailsToLoad, FailsToLoadFor, FailsToRecover, FailsToRun, HasReasonFrom, MayActFrom, MayStart, rowids_of_job}
use Rattle.desk_jobs.proofs.JobLemmas.{grew_as}
use Rattle.desk_jobs.proofs.RecoveredLemmas.{recovery_of}

-- Ends.

-- a fault of a book, or of a run over it, was Store where the end is
pub run_store : (f : ServeFault) (told : ProgramFault) → told ≡ fault_of_run f → finish.Fault told ≡ finish.Fault fault.Store → f ≡ serve.Store
run_store f told gives is = grind arith

pub run_fails : {T : Type 0} (f : ServeFault) (told : ProgramFault) → told ≡ fault_of_run f → finish.Fault told ≡ finish.Fault fault.Store
    → ◌≡◌ {A = Result T ServeFault} (Err f) (Err serve.Store)
run_fails f told gives is = ap (λ (x : ServeFault). Err x) (run_store f told gives is)

pub book_store : (f : Fault) (served : ServeFault) → served ≡ served_fault f → served ≡ serve.Store → f ≡ Store
book_store f served gives is = grind arith

-- a fault of an opening was that of its store where the end is
pub open_store : (f : OpenFault) → end_of_open f ≡ finish.Fault fault.OpeningStore → f ≡ opening.Store
open_store f is = grind arith

-- so what is said of the fault is said of Store
pub opening_fails : (Fails : OpenFault → Type 0) (f : OpenFault) → end_of_open f ≡ finish.Fault fault.OpeningStore → Fails f → Fails opening.Store
opening_fails Fails f is fails = subst Fails (open_store f is) fails

-- Moves of the house.

-- a move takes one rowid
one_rowid : (ask : Option Asked) (asked : Request) → IsStepOrStop asked → ask ≡ None → asked_rowids ask asked ≡ 1
one_rowid ask asked is none = grind arith

rowids_moves : (moves later : Asks) → AreMoves moves → rowids_for (moves ++ later) ≡ length moves + rowids_for later
rowids_moves [] later are = omega arith
rowids_moves (c ∷ moves) later are =
    let one = one_rowid c.1 c.0 are.0.0 are.0.1 in
    let others = rowids_moves moves later are.1 in
    omega (arith, one, others)

-- and has no text
short_moves : (moves later : Asks) → AreMoves moves → AreShort later → AreShort (moves ++ later)
short_moves [] later are short = short
short_moves ((asked, None) ∷ moves) later are short = (tt, short_moves moves later are.1 short)
short_moves ((asked, Some ask) ∷ moves) later are short = absurd (let none = are.0.1 in cc)

-- Before recovery.

-- the opening of a connection from which a job may start leaves its rowids, or its tables are new and have them all
may_act_opened : {S : Type 0} (g : Ghosts S) (old : Held S) (b : TableBook S g) → HasCleanDisk (state g old) → HasCleanDisk (state g b.conn)
    → StaysUp g old b.conn → (old.schema ≢ no_schema → SeesAsBefore g old b.conn) → NewDeskMayAct g b
    → (later : Asks) (s : State) → MayStart g old later s → StandsBook g b s
    → MayAct g b s (rowids_of_job s later) ⊎ HasFaulted (state g old) (state g b.conn)
may_act_opened g old b was clean stays sees law later s may stands =
    let m = rowids_of_job s later in
    elim (stays.up clean may.up) [
      | inr faulted ↦ inr faulted
      | inl up ↦ inl (elim ((may.represents.stood was).sees may.up.is_open) [
        | inl desk ↦ (let filled : old.schema ≢ no_schema = λ bare. not_bare Two old.schema desk.schema bare in
            record {
              stands = stands;
              spelled = may.spelled;
              up = up;
              rowids = subst (λ (d : Database). HasRowids m d.trees) (sym ((sees filled).sees clean up.is_open desk.committed)) (may.rowids filled);
            })
        | inr fresh ↦ subst (λ t. MayAct g b t m) (sym fresh.new) (law clean (subst (StandsBook g b) fresh.new stands) up m may.few)
      ])
    ]

-- so a book over what was opened represents what the connection did, and may act for a job that may start
pub opens_book : {S : Type 0} (g : Ghosts S) (old : Held S) (o : Opened S) (b : TableBook S g) → Opens g old o.conn o.version
    → MakesBook g o b → NewDeskMayAct g b → OpensBook g old b
opens_book g old o b opens made law =
    let sound : WasClean g old b.conn = λ clean. opens.sound (subst (λ h. HasCleanDisk (state g h)) made.book clean) in
    let up = subst (StaysUp g old) (sym made.book) opens.up in
    let stands : (s : State) → Represents g old s → StandsBook g b s = λ s was. made.stands s was.desk (λ at. opens.finds at Two s was.stood) in
    record {
      stands = stands;
      newest = λ clean v s was. opens.only (subst (λ h. HasCleanDisk (state g h)) made.book clean) v s was ∙ made.newest;
      sound = sound;
      up = up;
      may_act = λ clean later s may. may_act_opened g old b (sound clean) clean up
          (λ filled. subst (SeesAsBefore g old) (sym made.book) (opens.sees filled)) law later s may (stands s may.represents);
    }

module _ {S : Type 0} (g : Ghosts S) (first b : TableBook S g) (stays : StaysUp g first.conn b.conn) (later : Asks) (s : State)
    (may : MayStart g first.conn later s)
    (acts : MayAct g b s (rowids_of_job s later) ⊎ HasFaulted (state g first.conn) (state g b.conn)) where
  -- the book may act for the moves of recovery, and then for the later asks
  may_for : (moves : Asks) → AreMoves moves → length moves ≤ suc (room_of s) → MayActSince g first b s (moves ++ later)
  may_for moves are most = record {
    counts = stays.counts;
    may = elim acts [
      | inr faulted ↦ inr faulted
      | inl can ↦ inl (
        record {
          stands = can.stands;
          spelled = can.spelled;
          up = can.up;
          rowids =
              let all = rowids_moves moves later are in
              rowids_fewer (rowids_for (moves ++ later)) (rowids_of_job s later) (state g b.conn).now.trees (omega (arith, all, most)) can.rowids;
        },
        short_moves moves later are may.short,
      )
    ];
  }

  -- so it may recover
  pub may_recover : StandsBook g b s → MayRecover (StandsBook g b) (MayActSince g first b) later s
  may_recover stands = record { stands_there = stands; moves = may_for }

-- what a recovered book may do since a first one, it may do since the connection of that one
pub acts_from : {S : Type 0} (g : Ghosts S) (first b : TableBook S g) (later : Asks) (s : State) (made : ℕ)
    → Grew (MayActThen (StandsBook g b) (MayActSince g first b) later) (AreRecovery s.ledger) s made
    → Grew (MayActThen (StandsBook g b) (MayActFrom g first.conn b) later) (AreRecovery s.ledger) s made
acts_from g first b later s made grew =
    grew_as (λ t may. record { stands_there = may.stands_there; may = record { first = first; same = refl; may = may.may } }) grew

-- At a fault.

-- the reason of a book is one of its connection
pub reason_from : {S : Type 0} (g : Ghosts S) (first b : TableBook S g) (new : Held S) → new ≡ record b.conn { step_limit = None }
    → (s next : State) → HasReasonSince g first b s next → HasReasonFrom g first.conn new s next
reason_from g first b new lifted s next (inl faulted) = inl (subst (λ h. HasFaulted (state g first.conn) (state g h)) (sym lifted) faulted)
reason_from g first b new lifted s next (inr ran) = inr (record {
  limit = b.conn.step_limit;
  ran_out = subst (λ h. RanOutOf g (record h { step_limit = b.conn.step_limit }) s next) (sym lifted) ran;
})

-- recovery failed for a reason
pub fails_as : {S : Type 0} (g : Ghosts S) (old new : Held S) {stood : State → Type 0} {reason : State → State → Type 0}
    → ((s : State) → MayStart g old [] s → stood s) → ((s next : State) → reason s next → HasReasonFrom g old new s next)
    → RecoversSome stood NoState reason Store → FailsToRecover g old new
fails_as g old new back on fails s was =
    let f = fails s (back s was) in
    record {
      events = f.events;
      next = f.next;
      are = f.are;
      are_with = f.are_with;
      at_most = f.at_most;
      within = f.within;
      left = on _ _ f.left;
    }

-- one of the asks of a run over the book failed for a reason of its connection
pub fails_among : {S : Type 0} (g : Ghosts S) (b now : TableBook S g) (new : Held S) → new ≡ record now.conn { step_limit = None }
    → (asks : Asks) → ((first : TableBook S g) → reasons.FailsAmong (MayActSince g first b) (HasReasonSince g first now) asks)
    → FailsAmongFrom g b new asks
fails_among g b now new lifted asks fails old s may =
    let f = fails may.first s [] (subst (MayActSince g may.first b s) (sym (append-nil asks)) may.may) in
    let here = state_after s (take f.count asks) in
    let next = state_after s (take (f.count + 1) asks) in
    record {
      count = f.count;
      within = f.within;
      reason_is = subst (λ h. HasReasonFrom g h new here next) may.same (reason_from g may.first now new lifted here next f.reason_is);
    }

-- the same of an input that may be known
pub fails_among_known : {S : Type 0} (g : Ghosts S) (b now : TableBook S g) (new : Held S) → new ≡ record now.conn { step_limit = None }
    → {X : Type 0} (known : Option X) (asks : X → Asks)
    → ((first : TableBook S g) → IfSome known (λ x. reasons.FailsAmong (MayActSince g first b) (HasReasonSince g first now) (asks x)))
    → IfSome known (λ x. FailsAmongFrom g b new (asks x))
fails_among_known g b now new lifted None asks fails = tt
fails_among_known g b now new lifted (Some x) asks fails = fails_among g b now new lifted (asks x) fails

-- After recovery.

module _ {S : Type 0} (g : Ghosts S) (old new : Held S) {X : Type 0} (asks : X → Asks) where
  -- one of the asks of a run failed
  pub fails_after : (b : TableBook S g) (made : ℕ) (known : Option X)
      → ((later : Asks) (s : State) → MayStart g old later s
      → Grew (MayActThen (StandsBook g b) (MayActFrom g old b) later) (AreRecovery s.ledger) s made)
      → IfSome known (λ x. FailsAmongFrom g b new (asks x)) → IfSome known (λ x. FailsToRun g old new (asks x))
  fails_after b made None recovers fails = tt
  fails_after b made (Some x) recovers fails = λ s may.
      let grew = recovers (asks x) s may in
      inr (record {
        events = grew.events;
        is = recovery_of s made grew;
        reason = fails old (with_events s grew.events) grew.stands_there.may;
      })

  -- a job that may start for asks may start for none
  may_start : (later : Asks) (s : State) → MayStart g old later s → MayStart g old [] s
  may_start later s may = record {
    represents = may.represents;
    spelled = may.spelled;
    up = may.up;
    short = tt;
    few = let few = may.few in omega (arith, few);
    rowids = λ filled. rowids_fewer (rowids_of_job s []) (rowids_of_job s later) (state g old).now.trees (omega arith) (may.rowids filled);
  }

  -- or recovery did
  pub fails_before : (known : Option X) → FailsToRecover g old new → IfSome known (λ x. FailsToRun g old new (asks x))
  fails_before known fails = grind (arith, may_start, fails)

-- Loads.

-- what is said of a book is said of its connection
pub fails_to_load : {S : Type 0} (g : Ghosts S) (b now : TableBook S g) (new : Held S) → new ≡ record now.conn { step_limit = None }
    → (read : Result Batched CsvFault)
    → ((first : TableBook S g) → FailsToLoad (MayActSince g first b) (HasReasonSince g first now) read) → FailsToLoadFor g b new read
fails_to_load g b now new lifted (Ok batch) fails = fails_among g b now new lifted (ask_of_batch batch) fails
fails_to_load g b now new lifted (Err wrong) fails = absurd (fails b)

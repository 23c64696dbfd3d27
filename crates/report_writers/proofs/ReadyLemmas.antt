-- Rows that are read on, or had a reason not to be. For the sources of rows.
use Rattle.std.proofs.Common.{◌≡◌, ap, arith, false, inl, inr, refl, sym, subst, Result, Ok, Err, IsErrOf, OnOk}
use Rattle.sqlite.specs.Store.{Ghosts}
use Rattle.sqlite.specs.Held.{Held, state}
use Rattle.sqlite.specs.State.{HasCleanDisk}
use Rattle.commands.specs.declared.replies.Fault.{Fault}
use Rattle.commands.specs.declared.replies.Fault.TheVariants.{Memory, Store}
use Rattle.saga_core.specs.RowSources.{FailsFor, StaysReady}
use Rattle.saga_core.specs.declared.row_sources.RowSource.{Ghosts as Source}
use Rattle.reports.specs.Writing.{LeavesReady, Takes}
use Rattle.reports.specs.declared.faults.ReportFault.{ReportFault}
use Rattle.reports.specs.declared.faults.ReportFault.TheVariants as report
use Rattle.desk_sql.specs.Calls.{Quiet}
use Rattle.desk_sql.specs.Causes.{HasFaulted, IsUp}
use Rattle.desk_sql.specs.declared.versions.Version.{Version}
use Rattle.ledger.specs.Answer.{State}
use Rattle.sql_model.proofs.Quieting.{quiet_clean, quiet_keeps, quiet_up}
use Rattle.sql_model.specs.Keeping.{KeepsIn}
use Rattle.sql_model.specs.Spelling.{IsSpelled}
use Rattle.sql_model.specs.Standing.{IsDesk}
use Rattle.sql_model.proofs.Staying.{faulted_earlier, faulted_later, stays_twice}
use Rattle.sql_reads.specs.Causes.{FailsForReasonIn}
use Rattle.sql_reads.specs.ItemSearch.{IsLow}
use Rattle.sql_reads.specs.declared.history_rows.ItemCursor.{ItemCursor}
use Rattle.report_writers.specs.ItemsLeft.{AreSought, IsAtStart}
use Rattle.report_writers.specs.Ready.{IsReady}

-- a report that fails with the store's fault has its reason
fails_store : {T : Type 0} (ready : Type 0) {reason : Type 0} (result : Result T ReportFault) → LeavesReady ready reason result
    → IsErrOf result report.Store → reason
fails_store ready result left store = grind arith

pub takes_fails : {R X T : Type 0} {source : Source R X} {old new : R} {result : Result T ReportFault} → Takes source old new result
    → source.is_sound new → source.is_ready old old → IsErrOf result report.Store → source.has_reason old new
takes_fails {old = old} {result = result} takes sound ready store = fails_store _ result (takes.reason old sound ready) store

-- a fault of the store has this reason
pub fails_by : {Reason : Type 0} (fault : Fault) → (fault ≡ Store → Reason) → FailsFor Reason fault
fails_by Memory why = tt
fails_by Store why = why refl

module _ {S : Type 0} (g : Ghosts S) where
  -- at first
  pub ready_alone : {AreGood : Type 0} (h : Held S) → AreGood → IsUp (state g h) → IsReady g h h AreGood
  ready_alone h good up = record {
    stays = record { counts = omega arith; up = λ clean still. inl still };
    reads = inr (good, up);
  }

  module _ {first old new : Held S} {Old : Type 0} (it : IsReady g first old Old) (quiet : Quiet g old new) where
    -- a row was returned, and such rows remain
    pub ready_on : {New : Type 0} → HasCleanDisk (state g new) → (Old → New) → IsReady g first new New
    ready_on {New} clean good = record {
      stays = stays_twice g first old new it.stays (quiet_up g old new quiet) (quiet_clean g old new quiet);
      reads = elim it.reads [
        | inl faulted ↦ inl (faulted_earlier (state g first) (state g old) (state g new) faulted (quiet_up g old new quiet).counts)
        | inr kept ↦ elim ((quiet_up g old new quiet).up clean kept.1) [
          | inl up ↦ inr (good kept.0, up)
          | inr faulted ↦ inl (faulted_later (state g first) (state g old) (state g new) it.stays.counts faulted)
        ]
      ];
    }

    -- the call failed for a reason
    pub ready_fails : (Old → IsUp (state g old) → HasFaulted (state g old) (state g new)) → HasFaulted (state g first) (state g new)
    ready_fails fails = elim it.reads [
      | inl faulted ↦ faulted_earlier (state g first) (state g old) (state g new) faulted (quiet_up g old new quiet).counts
      | inr kept ↦ faulted_later (state g first) (state g old) (state g new) it.stays.counts (fails kept.0 kept.1)
    ]

  -- a cursor that has returned no item may search a desk that is kept
  pub at_start : {v : Version} {h : Held S} {c : ItemCursor} → IsAtStart v c → (s : State) → IsDesk s → IsSpelled s.ledger
      → KeepsIn v (state g h) s → AreSought g h c
  at_start {h = h} start s desk spelled keeps = record {
    desk = s;
    is_desk = desk;
    spelled = spelled;
    keeps = subst (λ v. KeepsIn v (state g h) s) (sym start.version) keeps;
    low = start.low;
    going = start.going;
  }

  -- a cursor returned the next item, or failed for a reason
  pub items_stay : {first old new : Held S} {T : Type 0} (a b : ItemCursor) (result : Result T Fault) → IsReady g first old (AreSought g old a)
      → Quiet g old new → HasCleanDisk (state g new) → (IsLow a.sought → IsLow b.sought) → b.version ≡ a.version → OnOk result (b.failed ≡ false)
      → (IsLow a.sought → a.failed ≡ false → FailsForReasonIn g old new a.version result)
      → StaysReady (IsReady g first new (AreSought g new b)) (HasFaulted (state g first) (state g new)) result
  items_stay {first} {old} {new} a b (Ok found) ready quiet clean low version going store =
      ready_on ready quiet clean (λ it. record {
        desk = it.desk;
        is_desk = it.is_desk;
        spelled = it.spelled;
        keeps = subst (λ v. KeepsIn v (state g new) it.desk) (sym version) (quiet_keeps g old new quiet a.version it.desk it.keeps);
        low = low it.low;
        going = going;
      })
  items_stay {first} {old} {new} a b (Err fault) ready quiet clean low version going store =
      fails_by fault (λ is. ready_fails ready quiet (λ it up. store it.low it.going clean it.desk it.is_desk it.spelled it.keeps up (ap Err is)))

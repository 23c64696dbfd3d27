-- What calls show of a desk that they only read, one after another, and why they fail. For the writers of the reports.
use Rattle.std.proofs.Common.{◌≡◌, ◌↔◌, ap, refl, sym, subst, ℕ, Bool, List, Option, Result, Err, IfErr, IsErrOf, OnErr}
use Rattle.std.specs.Borrow.{MutBor}
use Rattle.sqlite.specs.Store.{Ghosts}
use Rattle.sqlite.specs.Held.{Held, state}
use Rattle.sqlite.specs.State.{HasCleanDisk}
use Rattle.sqlite.specs.declared.rows.stream.Rows.{Rows}
use Rattle.sqlite.specs.declared.error.Error.{Error}
use Rattle.sqlite.specs.declared.error.Error.TheVariants.{SqliteFailure}
use Rattle.sqlite.specs.declared.error.ErrorCode.TheVariants.{OutOfMemory}
use Rattle.commands.specs.declared.replies.Fault.{Fault}
use Rattle.commands.specs.declared.replies.Fault.TheVariants.{Memory, Store}
use Rattle.desk_sql.specs.Calls.{Quiet}
use Rattle.desk_sql.specs.Causes.{HasFaulted, IsUp}
use Rattle.desk_sql.specs.declared.versions.Version.{Version}
use Rattle.desk_sql.proofs.Quieting.{quiet_alone, quiet_twice}
use Rattle.ledger.specs.Answer.{State}
use Rattle.saga_core.specs.declared.report.Report.{Report}
use Rattle.report_kinds.specs.Texts.{OfReport}
use Rattle.reports.specs.Faults.{report_fault, reported}
use Rattle.reports.specs.declared.faults.ReportFault.{ReportFault}
use Rattle.reports.specs.declared.faults.ReportFault.TheVariants as report
use Rattle.sql_model.proofs.Quieting.{quiet_clean, quiet_keeps, quiet_up}
use Rattle.sql_model.proofs.Staying.{fails_twice, of_error}
use Rattle.sql_model.specs.Keeping.{KeepsIn}
use Rattle.sql_model.specs.Spelling.{IsSpelled}
use Rattle.sql_model.specs.Standing.{IsDesk}
use Rattle.sql_reads.specs.Lending.{IsNotStarted}
use Rattle.sql_reads.specs.Reads.{AnyDesk}
use Rattle.sql_reads.specs.RemainingRows.{BeginsKept}
use Rattle.report_writers.specs.ItemsLeft as items
use Rattle.report_writers.specs.Ready.{StartsList}
use Rattle.report_writers.specs.Writing.{ShowsDesk, ShowsIn, WritesIfThere}

module _ {S : Type 0} (g : Ghosts S) {v : Version} {Fails : Type 0} {Fits Told : State → Type 0} where
  -- what is known of each desk is shown without a call, which does not fail
  pub in_none : {h : Held S} → (Fails → ⊥) → ((s : State) → Told s) → ShowsIn g v h h Fails Fits Told
  in_none never told = record {
    told = λ clean s desk keeps fits. told s;
    reason = λ clean s desk spelled keeps fits up fails. absurd (never fails);
    quiet = quiet_alone g _;
  }

  -- what a read shows
  pub in_read : {old new : Held S} → Quiet g old new
      → (HasCleanDisk (state g new) → (s : State) → IsDesk s → KeepsIn v (state g old) s → Told s)
      → (HasCleanDisk (state g new) → (s : State) → IsDesk s → IsSpelled s.ledger → KeepsIn v (state g old) s → IsUp (state g old)
      → Fails → HasFaulted (state g old) (state g new)) → ShowsIn g v old new Fails Fits Told
  in_read quiet told reason = record {
    told = λ clean s desk keeps fits. told clean s desk keeps;
    reason = λ clean s desk spelled keeps fits. reason clean s desk spelled keeps;
    quiet = quiet;
  }

  -- what follows from what is shown
  pub in_as : {old new : Held S} {Failed : Type 0} {Fitted Shown : State → Type 0} → ShowsIn g v old new Failed Fitted Shown
      → ((s : State) → Fits s → Fitted s) → (Fails → Failed) → ((s : State) → IsDesk s → Fits s → Shown s → Told s) → ShowsIn g v old new Fails Fits Told
  in_as one fitted failed so = record {
    told = λ clean s desk keeps fits. so s desk fits (one.told clean s desk keeps (fitted s fits));
    reason = λ clean s desk spelled keeps fits up fails. one.reason clean s desk spelled keeps (fitted s fits) up (failed fails);
    quiet = one.quiet;
  }

  -- what follows from what two calls show, one after the other, the first without a fault
  pub in_then : {old mid new : Held S} {Failed Later : Type 0} {Fitted First Second : State → Type 0} → ShowsIn g v old mid Failed Fits First
      → ShowsIn g v mid new Later Fitted Second → ((s : State) → IsDesk s → Fits s → First s → Fitted s) → (Fails → Later)
      → ((s : State) → IsDesk s → Fits s → First s → Second s → Told s) → ShowsIn g v old new Fails Fits Told
  in_then {old} {mid} {new} one two fitted later so =
      let before = quiet_clean g mid new two.quiet in
      record {
        told = λ clean s desk keeps fits. (
            let first = one.told (before clean) s desk keeps fits in
            so s desk fits first (two.told clean s desk (quiet_keeps g old mid one.quiet v s keeps) (fitted s desk fits first)));
        reason = λ clean s desk spelled keeps fits up fails.
            fails_twice g old mid new (quiet_up g old mid one.quiet) (quiet_up g mid new two.quiet) before clean up
            (λ still. two.reason clean s desk spelled (quiet_keeps g old mid one.quiet v s keeps)
            (fitted s desk fits (one.told (before clean) s desk keeps fits)) still (later fails));
        quiet = quiet_twice g old mid new one.quiet two.quiet;
      }

  -- what cannot be, by what a call shows
  pub in_never : {old new : Held S} {Failed : Type 0} {Fitted Shown : State → Type 0} → ShowsIn g v old new Failed Fitted Shown
      → ((s : State) → Fits s → Fitted s) → ((s : State) → IsDesk s → Fits s → Shown s → ⊥) → ShowsIn g v old new Fails Fits Told
  in_never one fitted never = record {
    told = λ clean s desk keeps fits. absurd (never s desk fits (one.told clean s desk keeps (fitted s fits)));
    reason = λ clean s desk spelled keeps fits up fails. absurd (never s desk fits (one.told clean s desk keeps (fitted s fits)));
    quiet = one.quiet;
  }

-- what a read shows that came to its end
pub in_done : {S : Type 0} (g : Ghosts S) {v : Version} {Fits Told : State → Type 0} {old new : Held S} → Quiet g old new
    → (HasCleanDisk (state g new) → (s : State) → IsDesk s → KeepsIn v (state g old) s → Told s) → ShowsIn g v old new ⊥ Fits Told
in_done g quiet told = in_read g quiet told (λ clean s desk spelled keeps up. absurd)

-- Faults.

-- a fault that is never the store's
pub never_store : {T : Type 0} (r : Result T ReportFault) → IfErr r (λ f. f ≡ report.Store → ⊥) → IsErrOf r report.Store → ⊥
never_store r never is = (subst (λ x. IfErr x (λ f. f ≡ report.Store → ⊥)) is never) refl

-- a fault of the source is one of the report
pub reported_store : {T : Type 0} (r : Result T Fault) → IsErrOf r Store → IsErrOf (reported r) report.Store
reported_store r is = ap reported is

-- Rows that could not be started, for a reason.

-- the fault of a report is that of the store where the store's was
pub store_reported : {T : Type 0} (told : ReportFault) (fault : Fault) → told ≡ report_fault fault → IsErrOf {T = T} (Err told) report.Store
    → fault ≡ Store
store_reported told Memory is store = absurd (cc)
store_reported told Store is store = refl

-- rows of a statement
pub shows_none : {S V T : Type 0} {g : Ghosts S} {old new : Held S} {r : Result V Error} {e : Error} {fault : Fault} {told : ReportFault}
    {Told : State → Type 0} → r ≡ Err e → OnErr r (IsNotStarted g r old new) → (fault ≡ Memory ↔ e ≡ SqliteFailure OutOfMemory)
    → told ≡ report_fault fault → ((s : State) → Told s) → ShowsDesk g old new (IsErrOf {T = T} (Err told) report.Store) Told
shows_none {V = V} {g = g} {old = old} {new = new} {e = e} {fault = fault} {told = told} is failed memory said so v =
    let it : IsNotStarted g {V = V} (Err e) old new = subst (λ r. OnErr r (IsNotStarted g r old new)) is failed in
    in_read g it.quiet (λ clean s desk keeps. so s)
    (λ clean s desk spelled keeps up store.
    of_error (state g old) (state g new) e fault memory (it.reason clean v s keeps up) (store_reported told fault said store))

-- the items of a journey
pub in_no_items : {S V : Type 0} {g : Ghosts S} {v : Version} {old new : Held S} {r : Result V Fault} {fault : Fault} {Fails : Type 0}
    {Fits Told : State → Type 0} → r ≡ Err fault → OnErr r (items.IsNotStarted g v r old new) → (Fails → fault ≡ Store)
    → ((s : State) → Told s) → ShowsIn g v old new Fails Fits Told
in_no_items {V = V} {g = g} {v = v} {old = old} {new = new} {fault = fault} is failed store so =
    let it : items.IsNotStarted g v {V = V} (Err fault) old new = subst (λ r. OnErr r (items.IsNotStarted g v r old new)) is failed in
    in_read g it.quiet (λ clean s desk keeps. so s)
    (λ clean s desk spelled keeps up fails. it.store clean s desk spelled keeps up (ap Err (store fails)))

-- Rows that are read one after another.
module _ {S : Type 0} (g : Ghosts S) {Fails : Type 0} {IsShown : State → Type 0} {X : Type 0} {IsList : State → List X → Type 0} where
  -- of the items of a journey, in tables of one version
  pub shows_items : {Rests : List X → Type 0} {Good : Type 0} {v : Version} {old mid last new : Held S} → Quiet g old mid
      → BeginsKept g old mid v IsList Rests
      → (HasCleanDisk (state g mid) → (s : State) → IsDesk s → IsSpelled s.ledger → KeepsIn v (state g old) s → Good) → Quiet g mid last
      → new ≡ last → (HasCleanDisk (state g last) → (s : State) → ((rows : List X) → IsList s rows → Rests rows) → IsShown s)
      → (HasCleanDisk (state g last) → Good → IsUp (state g mid) → Fails → HasFaulted (state g mid) (state g last))
      → ShowsIn g v old new Fails AnyDesk IsShown
  shows_items {v = v} {old = old} {mid = mid} {last = last} start begins good later same told fails =
      let before = quiet_clean g mid last later in
      subst (λ h. ShowsIn g v old h Fails AnyDesk IsShown) (sym same)
      (in_read g (quiet_twice g old mid last start later)
      (λ clean s desk keeps. told clean s (begins (before clean) s desk keeps))
      (λ clean s desk spelled keeps up failed.
      fails_twice g old mid last (quiet_up g old mid start) (quiet_up g mid last later) before clean up
      (λ still. fails clean (good (before clean) s desk spelled keeps) still failed)))

  -- of the rows of a list, which a connection found
  pub shows_rows : {RestsOn : Held S → List X → Type 0} {AreGood : Held S → Type 0} {conn : MutBor (Held S)} {it : Rows S g} {last new : Held S}
      → StartsList g conn it IsList RestsOn AreGood → Quiet g it.conn.now last → new ≡ last
      → (HasCleanDisk (state g last) → (s : State) → ((rows : List X) → IsList s rows → RestsOn it.conn.now rows) → IsShown s)
      → (HasCleanDisk (state g last) → AreGood it.conn.now → IsUp (state g it.conn.now) → Fails → HasFaulted (state g it.conn.now) (state g last))
      → ShowsDesk g conn.now new Fails IsShown
  shows_rows starts later same told fails v =
      shows_items starts.under.quiet (starts.rows v) (λ clean s desk spelled keeps. starts.good clean v s desk spelled keeps) later same told fails

-- the report that was asked for is shown, whichever it is
pub in_report : {S : Type 0} (g : Ghosts S) {v : Version} {old new : Held S} {Failed Fails : Type 0} {Shown : State → Type 0} {asked kind : Report}
    (held holds : Option (List ℕ)) (result : Result Bool ReportFault) → asked ≡ kind → ShowsIn g v old new Failed AnyDesk Shown → (Fails → Failed)
    → ((s : State) → Shown s → OfReport kind s.ledger (λ text. WritesIfThere held holds text result))
    → ShowsIn g v old new Fails AnyDesk (λ s. OfReport asked s.ledger (λ text. WritesIfThere held holds text result))
in_report g held holds result is one failed so =
    in_as g one (λ s fits. fits) failed
    (λ s desk fits shown. subst (λ r. OfReport r s.ledger (λ text. WritesIfThere held holds text result)) (sym is) (so s shown))

-- How a report ends, and what was written where it could not be begun. For the job of a report.
use Rattle.std.proofs.Common.{◌≡◌, ◌∙◌, arith, false, inl, inr, refl, sym, subst, true, ℕ, Bool, List, Option, Result, Ok, Err}
use Rattle.sqlite.specs.Store.{Ghosts}
use Rattle.sqlite.specs.Held.{Held, state}
use Rattle.sqlite.specs.State.{HasCleanDisk}
use Rattle.commands.specs.declared.replies.Refusal.{Refusal}
use Rattle.desk_sql.specs.declared.versions.Version.{Version}
use Rattle.ledger.specs.Answer.{State}
use Rattle.reports.specs.declared.faults.ReportFault.{ReportFault}
use Rattle.reports.specs.declared.faults.ReportFault.TheVariants as report
use Rattle.report_kinds.specs.Texts.{IsOfJourney}
use Rattle.tables.specs.Keeping.{StoodFor}
use Rattle.tables.specs.Opening.{FailsOpening, FailsToFound, FailsToOpen, Tells}
use Rattle.tables.specs.declared.faults.OpenFault.{OpenFault}
use Rattle.tables.specs.declared.faults.OpenFault.TheVariants as opening
use Rattle.program_ends.specs.Ends.{IfRefused, end_of_both, fault_of_report}
use Rattle.program_ends.specs.declared.ends.End.{End}
use Rattle.program_ends.specs.declared.ends.End.TheVariants as finish
use Rattle.program_ends.specs.declared.faults.ProgramFault.{ProgramFault}
use Rattle.program_ends.specs.declared.faults.ProgramFault.TheVariants as program
use Rattle.desk_jobs.specs.OpeningEnds.{end_of_open}
use Rattle.desk_jobs.proofs.ReasonLemmas.{opening_fails}
use Rattle.program_jobs.specs.Jobs.{EndsReport, FailsReport, RefusesAbsent, RefusesToShow}
use Rattle.program_jobs.specs.Reporting.{IsFaultOfReport, Reports, end_of_report}
use Rattle.saga_core.specs.declared.report.Report.{Report}
use Rattle.program_jobs.proofs.ReportLemmas.{failed_report}

-- a fault of a report that was begun is one of a report
begun_fault : (f : ReportFault) → IsFaultOfReport (fault_of_report f)
begun_fault f = grind arith

-- a report that was written so, or was not
pub written_ends : (asked : Report) (r : Result Bool ReportFault) → (r ≡ Ok false → IsOfJourney asked)
    → EndsReport (RefusesAbsent asked) (end_of_report r)
written_ends asked (Ok true) absent = record { refused = tt; fault = tt; job = tt }
written_ends asked (Ok false) absent = record { refused = (absent refl, refl); fault = tt; job = tt }
written_ends asked (Err f) absent = record { refused = tt; fault = begun_fault f; job = tt }

pub written_fails : (r : Result Bool ReportFault) → end_of_report r ≡ finish.Fault program.Store → r ≡ Err report.Store
written_fails r is = grind arith

pub not_opening : (r : Result Bool ReportFault) → end_of_report r ≡ finish.Fault program.OpeningStore → ⊥
not_opening r is = grind arith

-- what may be refused for a reason, may be for a weaker one
refused_weaker : (So Also : Refusal → Type 0) → ((why : Refusal) → So why → Also why) → (e : End) → IfRefused e So → IfRefused e Also
refused_weaker So Also weaker e refused = grind (arith, weaker)

ends_weaker : (So Also : Refusal → Type 0) → ((why : Refusal) → So why → Also why) → (e : End) → EndsReport So e → EndsReport Also e
ends_weaker So Also weaker e ends =
    record { refused = refused_weaker So Also weaker e ends.refused; fault = ends.fault; job = ends.job }

-- the end of what is never refused may be that of any report
pub ends_any : (So : Refusal → Type 0) (e : End) → EndsReport (λ _. ⊥) e → EndsReport So e
ends_any So e ends = ends_weaker (λ _. ⊥) So (λ why none. absurd none) e ends

module _ {S : Type 0} (g : Ghosts S) (old new : Held S) where
  -- a report of what was opened is refused no more than its job
  pub ends_begun : (asked : Report) (e : End) → EndsReport (RefusesAbsent asked) e → EndsReport (RefusesToShow g old new asked) e
  ends_begun asked e ends =
      ends_weaker (RefusesAbsent asked) (RefusesToShow g old new asked) (λ why absent. inl absent) e ends

  -- an opening that failed is refused where the version is unknown
  refused_opening : (asked : Report) (fault : OpenFault) → Tells g old new fault
      → EndsReport (RefusesToShow g old new asked) (end_of_open fault)
  refused_opening asked (opening.UnknownSchema n) tells = record { refused = inr tells; fault = tt; job = tt }
  refused_opening asked opening.Store tells = record { refused = tt; fault = tt; job = tt }
  refused_opening asked opening.Memory tells = record { refused = tt; fault = tt; job = tt }

  pub ends_unopened : (asked : Report) (fault : OpenFault) (e : End) → e ≡ end_of_open fault → Tells g old new fault
      → EndsReport (RefusesToShow g old new asked) e
  ends_unopened asked fault e is tells =
      subst (EndsReport (RefusesToShow g old new asked)) (sym is) (refused_opening asked fault tells)

-- Why a report failed.

-- the fault of an opening is its own
opening_own : (fault : OpenFault) → end_of_open fault ≡ finish.Fault program.Store → ⊥
opening_own fault is = grind arith

-- of two ends with such a fault it is the first, where the second is that of a write
both_store : (e : End) (fault : ProgramFault) → end_of_both e (finish.Fault program.Write) ≡ finish.Fault fault → (fault ≡ program.Write → ⊥)
    → e ≡ finish.Fault fault
both_store e fault is other = grind arith

module _ {S : Type 0} (g : Ghosts S) (old new : Held S) where
  -- it did not, with another end
  pub fails_not : (e : End) → (e ≡ finish.Fault program.Store → ⊥) → (e ≡ finish.Fault program.OpeningStore → ⊥) → FailsReport g old new e
  fails_not e own opened = record {
    reason = λ clean v s was spelled up is. absurd (own is);
    opening = λ is. absurd (opened is);
    founding = λ is. absurd (opened is);
  }

  -- the opening failed
  pub fails_unopened : (fault : OpenFault) (e : End) → e ≡ end_of_open fault → FailsOpening g old new fault → FailsReport g old new e
  fails_unopened fault e same fails = record {
    reason = λ clean v s was spelled up is. absurd (opening_own fault (sym same ∙ is));
    opening = λ is. opening_fails (FailsToOpen g old new) fault (sym same ∙ is) fails.store;
    founding = λ is. opening_fails (FailsToFound g old new) fault (sym same ∙ is) fails.founds;
  }

  -- a write failed after it
  pub fails_late : (e : End) → FailsReport g old new e → FailsReport g old new (end_of_both e (finish.Fault program.Write))
  fails_late e fails = record {
    reason = λ clean v s was spelled up is. fails.reason clean v s was spelled up (both_store e program.Store is (λ w. cc));
    opening = λ is. fails.opening (both_store e program.OpeningStore is (λ w. cc));
    founding = λ is. fails.founding (both_store e program.OpeningStore is (λ w. cc));
  }

-- the opening failed, of a connection that stood for a state
pub unopened_report : {S : Type 0} (g : Ghosts S) (old new : Held S) (held : Option (List ℕ)) (asked : Report) (fault : OpenFault)
    (v : Version) (s : State)
    → Tells g old new fault
    → HasCleanDisk (state g new) → StoodFor v (state g old) s
    → Reports held held asked (end_of_open fault) s
unopened_report g old new held asked (opening.UnknownSchema n) v s tells clean stood = absurd (tells.2 clean v s stood)
unopened_report g old new held asked opening.Store v s tells clean stood = failed_report held asked _ s
unopened_report g old new held asked opening.Memory v s tells clean stood = failed_report held asked _ s

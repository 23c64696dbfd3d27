-- What was opened, where its connection was lent to be read. For the job of a report.
use Rattle.std.proofs.Common.{◌≡◌, sym, subst}
use Rattle.sqlite.specs.Store.{Ghosts}
use Rattle.sqlite.specs.Held.{Held, state}
use Rattle.sqlite.specs.State.{HasCleanDisk}
use Rattle.desk_sql.specs.Calls.{Quiet}
use Rattle.desk_sql.specs.Causes.{HasFaulted, IsUp}
use Rattle.desk_sql.specs.declared.versions.Version.{Version}
use Rattle.ledger.specs.Answer.{State}
use Rattle.sql_model.proofs.Quieting.{quiet_keeps}
use Rattle.tables.specs.Keeping.{KeepsIn}
use Rattle.tables.specs.Lending.{IsOnlyRead}
use Rattle.tables.specs.Opening.{Opens}
use Rattle.tables.specs.declared.opening.Opened.{Opened}
use Rattle.desk_jobs.specs.Connections.{RepresentsIn}
use Rattle.report_writers.specs.Writing.{AnyDesk, ShowsIn}
use Rattle.program_jobs.specs.Reporting.{IsDeskIn, ShowsOpened}

-- what was opened keeps the state that the connection represented
pub found_in : {S : Type 0} (g : Ghosts S) (old : Held S) (o : Opened S) (v : Version) (s : State) → Opens g old o.conn o.version → RepresentsIn g old v s
    → IsDeskIn g o s
found_in g old o v s opens was = record { desk = was.desk; keeps = λ at. opens.finds at v s was.stood }

-- what was only read still keeps the state
pub still_in : {S : Type 0} (g : Ghosts S) (old new : Opened S) (s : State) → IsOnlyRead g old new → IsDeskIn g old s → IsDeskIn g new s
still_in g old new s read is = record {
  desk = is.desk;
  keeps = subst (λ v. KeepsIn v (state g new.conn) s) (sym read.version)
      (quiet_keeps g old.conn new.conn read.quiet old.version s is.keeps);
}

-- what a call shows of the connection, which was lent
pub shows_lent : {S : Type 0} (g : Ghosts S) {Told : State → Type 0} {Failed Fails : Type 0} {old new : Opened S} {h last : Held S}
    {Shown : State → Type 0} → h ≡ old.conn → ShowsIn g old.version h last Failed AnyDesk Shown
    → new.version ≡ old.version → new.conn ≡ last → (Fails → Failed) → ((s : State) → Shown s → Told s) → ShowsOpened g old new Fails Told
shows_lent g {old = old} {h = h} {last} same shows version conn failed told = record {
  told = λ clean s is. told s (shows.told (subst (λ h. HasCleanDisk (state g h)) conn clean) s is.desk
      (subst (λ h. KeepsIn old.version (state g h) s) (sym same) is.keeps) tt);
  reason = λ clean s is spelled up fails.
      subst (λ k. HasFaulted (state g old.conn) (state g k)) (sym conn)
      (subst (λ k. HasFaulted (state g k) (state g last)) same
      (shows.reason (subst (λ k. HasCleanDisk (state g k)) conn clean) s is.desk spelled
      (subst (λ k. KeepsIn old.version (state g k) s) (sym same) is.keeps) tt
      (subst (λ k. IsUp (state g k)) (sym same) up) (failed fails)));
  kept = record { version = version; quiet = subst (Quiet g old.conn) (sym conn) (subst (λ h. Quiet g h last) same shows.quiet) };
}

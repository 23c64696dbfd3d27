-- The read of a list by rows that are started, and then taken. For `brief_lists` and `stock_lists`.
use Rattle.std.proofs.Common.{◌≡◌, ◌↔◌, Result, Err, sym, subst, IfOk, IsErrOf, OnErr}
use Rattle.sqlite.specs.Store.{Ghosts}
use Rattle.sqlite.specs.Held.{Held, state}
use Rattle.sqlite.specs.State.{HasCleanDisk}
use Rattle.commands.specs.declared.replies.Fault.{Fault}
use Rattle.commands.specs.declared.replies.Fault.TheVariants.{Memory, Store}
use Rattle.sqlite.specs.declared.error.Error.{Error}
use Rattle.sqlite.specs.declared.error.Error.TheVariants.{SqliteFailure}
use Rattle.sqlite.specs.declared.error.ErrorCode.TheVariants.{OutOfMemory}
use Rattle.desk_sql.specs.Calls.{Quiet}
use Rattle.desk_sql.specs.Causes.{HasFaulted, IsUp}
use Rattle.desk_sql.specs.Lending.{IsNotBegun}
use Rattle.desk_sql.specs.declared.versions.Version.{Version}
use Rattle.desk_sql.proofs.Quieting.{quiet_twice}
use Rattle.ledger.specs.Answer.{State}
use Rattle.sql_model.specs.Keeping.{KeepsIn}
use Rattle.sql_model.specs.Spelling.{IsSpelled}
use Rattle.sql_model.specs.Standing.{IsDesk}
use Rattle.sql_model.proofs.Quieting.{quiet_clean, quiet_up}
use Rattle.sql_model.proofs.Staying.{fails_twice, of_error}
use Rattle.sql_reads.specs.Reads.{AnyDesk, ReadIn}
use Rattle.sql_reads.proofs.Starting.{not_started}

-- rows that were started were taken, and the connection is the one that they give back
pub list_read : {S V : Type 0} {g : Ghosts S} {old mid new end : Held S} {v : Version} {result : Result V Fault} {IsShown : State → V → Type 0}
    → end ≡ new → Quiet g old mid → Quiet g mid new
    → (HasCleanDisk (state g new) → HasCleanDisk (state g mid) → (s : State) → IsDesk s → KeepsIn v (state g old) s → IfOk result (IsShown s))
    → (HasCleanDisk (state g new) → HasCleanDisk (state g mid) → (s : State) → IsDesk s → IsSpelled s.ledger → KeepsIn v (state g old) s
    → IsUp (state g mid) → IsErrOf result Store → HasFaulted (state g mid) (state g new))
    → ReadIn g old end v result AnyDesk IsShown
list_read {g = g} {old = old} {mid = mid} {new = new} {v = v} {result = result} {IsShown = IsShown} same started taken shown fails =
    let less = quiet_clean g mid new taken in
    subst (λ h. ReadIn g old h v result AnyDesk IsShown) (sym same) (record {
      shows = λ clean s desk keeps. shown clean (less clean) s desk keeps;
      store = λ clean s desk spelled keeps _ up store.
          fails_twice g old mid new (quiet_up g old mid started) (quiet_up g mid new taken) less clean up
          (λ still. fails clean (less clean) s desk spelled keeps still store);
      quiet = quiet_twice g old mid new started taken;
    })

-- rows that could not be started were not read
pub not_begun_read : {S V W : Type 0} {g : Ghosts S} {old new : Held S} {v : Version} {r : Result V Error} {e : Error} {f : Fault}
    {IsShown : State → W → Type 0} → r ≡ Err e → OnErr r (IsNotBegun g r old new) → (f ≡ Memory ↔ e ≡ SqliteFailure OutOfMemory)
    → ReadIn g old new v {V = W} (Err f) AnyDesk IsShown
not_begun_read {V = V} {W = W} {g = g} {old = old} {new = new} {v = v} {e = e} {f = f} is failed memory =
    let it = not_started g old new {V = V} (Err e) (subst (λ r. OnErr r (IsNotBegun g r old new)) is failed) in
    record {
      shows = λ clean s desk keeps. tt;
      store = λ clean s desk spelled keeps fits up store. (
          let same : ◌≡◌ {A = Result W Fault} (Err f) (Err Store) = store in
          let fault : f ≡ Store = cc in
          of_error (state g old) (state g new) e f memory (it.reason clean v s keeps up) fault);
      quiet = it.quiet;
    }

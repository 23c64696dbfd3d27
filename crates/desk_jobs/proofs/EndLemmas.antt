-- Which refusals and faults a job ends with. For the jobs that act.
use Rattle.std.proofs.Common.{◌≡◌, ◌∙◌, ℕ, false, ap, sym, subst, arith}
use Rattle.sqlite.specs.Store.{Ghosts}
use Rattle.sqlite.specs.Held.{Held}
use Rattle.commands.specs.declared.replies.Fault.{Fault}
use Rattle.commands.specs.declared.replies.Refusal.TheVariants as refusal
use Rattle.desk_sql.specs.Versions.{AreOfVersion, number_of}
use Rattle.desk_sql.specs.declared.versions.Version.{Version}
use Rattle.desk_sql.specs.declared.versions.Version.TheVariants.{One, Two}
use Rattle.program_ends.specs.Ends.{EndsBadly, EndsJob, IfDone, IfFault, IfRefused, fault_of_run}
use Rattle.program_ends.specs.declared.ends.End.{End}
use Rattle.program_ends.specs.declared.ends.End.TheVariants as finish
use Rattle.program_ends.specs.declared.faults.ProgramFault.{ProgramFault}
use Rattle.program_ends.specs.declared.faults.ProgramFault.TheVariants as fault
use Rattle.saga_core.specs.StreamFaults.{served_fault}
use Rattle.saga_core.specs.declared.serve_faults.ServeFault.{ServeFault}
use Rattle.tables.specs.Making.{GivesBack, MakesNoBook}
use Rattle.tables.specs.Opening.{FailsOpening, FailsToFound, FailsToOpen, Opens, Tells}
use Rattle.tables.specs.declared.faults.OpenFault.{OpenFault}
use Rattle.tables.specs.declared.faults.OpenFault.TheVariants as opening
use Rattle.tables.specs.declared.opening.Opened.{Opened}
use Rattle.desk_jobs.specs.Executions.{EachMayReopen}
use Rattle.desk_jobs.proofs.ExecutionLemmas.{not_opened}
use Rattle.desk_jobs.specs.Connections.{RefusesOtherTables}
use Rattle.desk_jobs.specs.OpeningEnds.{end_of_open}
use Rattle.desk_jobs.specs.Ends.{EndsWriting, IsFaultOfLoad, IsFaultOfRecovery, IsFaultOfRun, IsOfBook, IsOfWriting}
use Rattle.desk_jobs.specs.Jobs.{EndsOpening, NotReady}
use Rattle.desk_jobs.proofs.ReasonLemmas.{opening_fails}

-- Faults.

-- a fault of an opening, and one of a book, is a fault of recovery
pub opening_fault : (f : OpenFault) (e : End) → e ≡ end_of_open f → IfFault e IsFaultOfRecovery
opening_fault f e is = grind arith

pub book_fault : (f : Fault) (served : ServeFault) (told : ProgramFault) → served ≡ served_fault f → told ≡ fault_of_run served
    → IsFaultOfRecovery told
book_fault f served told from into = grind arith

-- a fault of the lines is one of a run, and so is a fault of recovery
pub lines_fault : (f : ServeFault) → IsFaultOfRun (fault_of_run f)
lines_fault f = grind arith

of_run : (f : ProgramFault) → IsFaultOfRecovery f → IsFaultOfRun f
of_run f is = grind arith

pub recovery_fault : (e : End) → IfFault e IsFaultOfRecovery → IfFault e IsFaultOfRun
recovery_fault e is = grind (arith, of_run)

-- a fault of a book, and one of writing, is a fault of a load
pub load_fault : (f : ServeFault) (told : ProgramFault) → told ≡ fault_of_run f → IsOfBook f → IsFaultOfLoad told
load_fault f told into is = grind arith

pub reply_fault : (f : ServeFault) (told : ProgramFault) → told ≡ fault_of_run f → IsOfWriting f → IsFaultOfLoad told
reply_fault f told into is = grind arith

-- Refusals.

-- an end of a job in which not all was done
pub bad_job : (e : End) → EndsBadly e → EndsJob e
bad_job e bad = grind arith

pub not_done : (P : Type 0) (e : End) → EndsBadly e → IfDone e P
not_done P e bad = grind arith

module _ (law : EachMayReopen) {S : Type 0} (g : Ghosts S) (old new : Held S) where
  -- an opening that failed refuses tables of an unknown version, which is not the newest
  unopened_refuses : (f : OpenFault) → Tells g old new f → IfRefused (end_of_open f) (RefusesOtherTables g old new)
  unopened_refuses (opening.UnknownSchema n) tells = (tells.0 Two, tells.1, λ clean s stood. tells.2 clean Two s stood)
  unopened_refuses opening.Store tells = tt
  unopened_refuses opening.Memory tells = tt

  -- and its fault is not that of a recovery
  not_recovering : (f : OpenFault) → end_of_open f ≡ finish.Fault fault.Store → ⊥
  not_recovering f is = grind arith

  pub unopened : (f : OpenFault) (e : End) → e ≡ end_of_open f → EndsBadly e → FailsOpening g old new f → NotReady g old new e
  unopened f e is bad fails = record {
    opening = record {
      refused = subst (λ x. IfRefused x (RefusesOtherTables g old new)) (sym is) (unopened_refuses f fails.told);
      opening = λ why. opening_fails (FailsToOpen g old new) f (sym is ∙ why) fails.store;
      founding = λ why. opening_fails (FailsToFound g old new) f (sym is ∙ why) fails.founds;
    };
    reason = λ clean why. absurd (not_recovering f (sym is ∙ why));
    fault = opening_fault f e is;
    bad = bad;
    left = λ clean. not_opened law g old new clean (λ s stood. (stood.0, fails.stands stood.0 s stood.1));
    leaves = record { idle = fails.idle; sound = fails.sound };
  }

-- of what was opened no book is made but of tables of the newest version
one_of : (v : Version) → (v ≡ Two → ⊥) → v ≡ One
one_of v never = grind (arith, never)

pub unmade : EachMayReopen → {S : Type 0} (g : Ghosts S) (old : Held S) (o left : Opened S) (new : Held S) (f : OpenFault) (e : End) → e ≡ end_of_open f
    → EndsBadly e → Opens g old o.conn o.version → (o.conn.in_transaction ≡ false → o.version ≡ Two → ⊥) → MakesNoBook o left f
    → GivesBack g left new → NotReady g old new e
unmade law g old o left new f e is bad opens never made back =
    let given : GivesBack g o new = subst (λ x. GivesBack g x new) made.refused back in
    let first : o.version ≡ One = one_of o.version (never opens.idle.outside) in
    let named : e ≡ finish.Refused (refusal.UnknownSchema 1) = is ∙ ap end_of_open (made.unknown_schema.1 first) in
    let no_fault : (p : ProgramFault) → e ≡ finish.Fault p → ⊥ = λ p why.
    let both : finish.Refused (refusal.UnknownSchema 1) ≡ finish.Fault p = sym named ∙ why in cc in
    record {
      opening = record {
        refused = subst (λ x. IfRefused x (RefusesOtherTables g old new)) (sym named) (
          (λ (same : ◌≡◌ {A = ℕ} 1 2). omega (arith, same)),
          (λ clean v t sees. subst (λ n. AreOfVersion n t) (ap number_of first) (opens.version (given.sound clean) v t sees)),
          (λ clean s stood. (let both : Two ≡ One = opens.only (given.sound clean) Two s stood ∙ first in cc)),
        );
        opening = λ why. absurd (no_fault fault.OpeningStore why);
        founding = λ why. absurd (no_fault fault.OpeningStore why);
      };
      reason = λ clean why. absurd (no_fault fault.Store why);
      fault = opening_fault f e is;
      bad = bad;
      left = λ clean. not_opened law g old new clean (λ s stood. (
        o.version,
        given.found s (λ at. opens.finds at stood.0 s stood.1),
      ));
      leaves = record {
        idle = record { outside = given.outside opens.idle.outside; unlimited = given.unlimited };
        sound = λ clean. opens.sound (given.sound clean);
      };
    }

-- a fault of recovery is not that of an opening
pub not_opening : (f : Fault) (served : ServeFault) (told : ProgramFault) → served ≡ served_fault f → told ≡ fault_of_run served
    → finish.Fault told ≡ finish.Fault fault.OpeningStore → ⊥
not_opening f served told from into is = grind arith

-- nor is one of the lines
pub not_of_opening : (f : ServeFault) (told : ProgramFault) → told ≡ fault_of_run f → finish.Fault told ≡ finish.Fault fault.OpeningStore → ⊥
not_of_opening f told into is = grind arith

-- one of writing is not that of the store, but ends what was written
pub not_of_store : (f : ServeFault) (told : ProgramFault) → told ≡ fault_of_run f → IsOfWriting f → finish.Fault told ≡ finish.Fault fault.Store → ⊥
not_of_store f told into of is = grind arith

pub ends_writing : (f : ServeFault) (told : ProgramFault) → told ≡ fault_of_run f → IsOfWriting f → EndsWriting (finish.Fault told)
ends_writing f told into of = grind arith

-- an end that is not that of an opening
pub no_opening : {S : Type 0} (g : Ghosts S) (old new : Held S) (e : End) → IfRefused e (RefusesOtherTables g old new)
    → (e ≡ finish.Fault fault.OpeningStore → ⊥) → EndsOpening g old new e
no_opening g old new e refused never =
    record { refused = refused; opening = λ why. absurd (never why); founding = λ why. absurd (never why) }

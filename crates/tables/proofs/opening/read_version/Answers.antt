-- The version that is read is that of the tables, and a desk's tables have the number of their version.
-- More than 60 lines: three ways out.
use Rattle.std.proofs.Common.{◌≡◌, refl, sym, subst, ◌∙◌, Some, None, Option, ◌↔◌}
use Rattle.sqlite.specs.Held.{state}
use Rattle.commands.specs.declared.replies.Fault.TheVariants as fault
use Rattle.desk_sql.specs.declared.versions.Version.{Version}
use Rattle.desk_sql.specs.declared.versions.Version.TheVariants.{Two}
use Rattle.desk_sql.specs.Versions.{number_of, SawVersion}
use Rattle.sql_model.proofs.KeepLemmas.{seen_by}
use Rattle.sql_model.proofs.Quieting.{quiet_clean, quiet_leaves, quiet_sees, quiet_up}
use Rattle.sql_model.proofs.Staying.{of_error}
use Rattle.sql_reads.proofs.ReadReasons.{meta_there}
use Rattle.tables.specs.declared.faults.OpenFault.TheVariants.{UnknownSchema, Store}
use Rattle.tables.proofs.OpenKept.{fails_quietly, has_number, is_named, keeps_named, quiet_idle, tells_fault}
use Rattle.tables.proofs.Telling.{saw_read}
use Rattle.tables.proofs.opening.read_version.Goals as goal

pub returns-in-Some : goal.returns-in-Some
returns-in-Some g c =
    let store = g.S.Store in
    let old = c.args.conn.now in
    let new = c.read_meta.new.conn in
    let quiet = (c.read_meta.ensures.queries Two).quiet in
    let m = c.in-Ok.meta in
    let now = c.in-Some.version in
    let named : (w : Version) → Some now ≡ Some w ↔ m.version ≡ number_of w
    = subst (λ (o : Option Version). (w : Version) → o ≡ Some w ↔ m.version ≡ number_of w) c.in-Some.is c.from_number.ensures in
    record {
      finds = λ clean v s stood. keeps_named (state store old) (state store new) m (λ w t sees. (c.in-Ok.ensures.queries w).found clean t sees) v s
          (stood (quiet_clean store old new quiet clean)) c.requires.filled now named (quiet_leaves store old new quiet clean);
      only = λ clean v s stood. is_named (state store old) (state store new) m (λ w t sees. (c.in-Ok.ensures.queries w).found clean t sees) v s
          (stood (quiet_clean store old new quiet clean)) c.requires.filled now named;
      version = subst (SawVersion store old new) ((named now).0 refl) (saw_read store old new m (λ v. (c.in-Ok.ensures.queries v).found));
      idle = quiet_idle store old new quiet c.requires.idle;
      sound = quiet_clean store old new quiet;
      up = quiet_up store old new quiet;
      sees = λ filled. quiet_sees store old new quiet;
    }

-- no version has this number
pub returns-in-None : goal.returns-in-None
returns-in-None g c =
    let store = g.S.Store in
    let old = c.args.conn.now in
    let new = c.read_meta.new.conn in
    let quiet = (c.read_meta.ensures.queries Two).quiet in
    let m = c.in-Ok.meta in
    let other : (v : Version) → m.version ≡ number_of v → ⊥ = λ v is.
    let some : c.from_number.result ≡ Some v = (c.from_number.ensures v).1 is in
    let none : c.from_number.result ≡ None = c.in-None.is in
    absurd (let never : None ≡ Some v = sym none ∙ some in cc) in
    fails_quietly store old new quiet c.requires.idle c.requires.filled (UnknownSchema m.version) (
      other,
      saw_read store old new m (λ v. (c.in-Ok.ensures.queries v).found),
      λ clean v s stood. other v (has_number (state store old) (state store new) m (λ w t sees. (c.in-Ok.ensures.queries w).found clean t sees) v s
          (stood (quiet_clean store old new quiet clean)) c.requires.filled),
    )
    (λ clean v s keeps up is. absurd (let never : UnknownSchema m.version ≡ Store = is in cc))

-- an error of the store has a reason
pub returns-in-Err : goal.returns-in-Err
returns-in-Err g c =
    let store = g.S.Store in
    let old = c.args.conn.now in
    let new = c.read_meta.new.conn in
    let quiet = (c.read_meta.ensures.queries Two).quiet in
    fails_quietly store old new quiet c.requires.idle c.requires.filled c.opening_fault.result
    (tells_fault store old new c.fault_of.result c.opening_fault.result c.opening_fault.ensures.memory c.opening_fault.ensures.store quiet.survives)
    (λ clean v s keeps up is. (
    let seen = seen_by (state store old) s (keeps (quiet_clean store old new quiet clean)) in
    let reason = (c.in-Err.ensures.queries v).reason clean seen.tables seen.may (meta_there seen.tables s (seen.stands up.is_open)) up in
    let was : c.fault_of.result ≡ fault.Store = c.opening_fault.ensures.store.0 is in
    of_error (state store old) (state store new) c.in-Err.error c.fault_of.result c.fault_of.ensures.memory reason was))

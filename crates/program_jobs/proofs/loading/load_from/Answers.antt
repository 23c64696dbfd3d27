-- The desk that loads was recovered; or it was not, and nothing was read.
use Rattle.std.proofs.Common.{inl, inr, refl, subst, sym, Some}
use Rattle.allotment_csv.specs.Files.{batch_of}
use Rattle.desk_jobs.specs.Openings.{File, Nothing}
use Rattle.desk_jobs.proofs.FollowLemmas.{follows_unasked, follows_up}
use Rattle.desk_jobs.proofs.RecoveredLemmas.{recovery_noted, recovery_of}
use Rattle.program_jobs.specs.Sources.{AreReadFrom}
use Rattle.program_jobs.proofs.LoadLemmas.{fails_after_load, loads_not_ready}
use Rattle.program_jobs.proofs.loading.load_from.Goals as goal

-- the bytes that were read are loaded
pub returns-in-Ok-read_source-clause-loads : goal.returns-in-Ok-read_source-clause-loads
returns-in-Ok-read_source-clause-loads g c =
    let store = g.S.Store in
    let ready = c.in-Ok.ensures.ready in
    let did = c.load_over-conn.ensures in
    let end = c.load_over-conn.result.1 in
    let bytes = c.as_slice-bytes.result.now in
    record {
      read = c.read_source.ensures.unread;
      either = inr (record {
        bytes = bytes;
        read = subst (AreReadFrom (g.E.Environment.bytes_of c.args.environment.now) (g.R.Read.remaining c.args.reader.now) c.args.source.now)
            (sym c.as_slice-bytes.ensures.value) c.in-Ok-read_source.ensures.bytes;
        loaded = λ clean s was. (
            let grew = ready.recovered (did.leaves.sound clean) s was in
            record { events = grew.events; is = recovery_of s _ grew; loaded = did.loads.loaded clean _ grew.stands_there });
        told = did.told;
        follows = follows_up store c.in-Ok.desk _ (Some (File c.args.batch.now bytes)) _ _ c.reopenings.ensures.reopens c.args.conn
            (λ clean. ready.world (did.leaves.sound clean)) end did.follows;
        reason = λ clean why. fails_after_load store c.args.conn _ c.in-Ok.desk c.in-Ok.made (batch_of c.args.batch.now bytes)
            (ready.may_act (did.leaves.sound clean)) (did.loads.reason clean why);
        ends = did.ends;
        between = g.N.Write.contents c.note_recovered.new.notes;
        recovered = recovery_noted store c.args.conn _ c.in-Ok.desk c.in-Ok.made ready did.leaves.sound _ _ c.note_recovered.ensures;
        field = c.note_wrong_field.ensures.note;
      });
    }

-- where none were, the desk is let go as it is
pub returns-in-Err-read_source-clause-loads : goal.returns-in-Err-read_source-clause-loads
returns-in-Err-read_source-clause-loads g c =
    let store = g.S.Store in
    let ready = c.in-Ok.ensures.ready in
    let gone = c.let_go.ensures.gone in
    record {
      read = c.read_source.ensures.unread;
      either = inl (record {
        why = inr (record { why = c.in-Err-read_source.fault; ends = refl; fault = c.in-Err-read_source.ensures.fault; unwritten = refl });
        follows = follows_up store c.in-Ok.desk c.let_go.result (Some Nothing) _ _ c.reopenings.ensures.reopens c.args.conn
            (λ clean. ready.world (gone.sound clean)) _
            (follows_unasked store c.in-Ok.desk c.let_go.result (g.O.Write.contents c.args.out.now) _ gone.found);
        bad = tt;
        notes = recovery_noted store c.args.conn _ c.in-Ok.desk c.in-Ok.made ready gone.sound _ _ c.note_recovered.ensures;
      });
    }

pub returns-in-Err-clause-loads : goal.returns-in-Err-clause-loads
returns-in-Err-clause-loads g c =
    loads_not_ready c.reopenings.ensures.reopens g.S.Store c.args.conn c.in-Err.conn _ _ _ _ _ _ c.in-Err.end c.in-Err.ensures.failed

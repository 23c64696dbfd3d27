-- The line that is kept is that of the reply.
use Rattle.std.proofs.Common.{ℕ, List, Option, subst, sym}
use Rattle.sql_writes.specs.Did.{Did}
use Rattle.sql_writes.specs.Kinds.{Fits, KeepsLine, asks, event_rows}
use Rattle.sql_writes.specs.Permits.{PermitsEvent, event_rowids}
use Rattle.sql_writes.specs.declared.events.Keeping.{Keeping}
use Rattle.sql_writes.proofs.committing.write_event.Goals as goal

pub returns-in-Some : goal.returns-in-Some
returns-in-Some g c =
    let n = c.args.numbers in
    let event = c.args.event.now in
    record {
      did = subst
          (λ (k : Option Keeping). (line : List ℕ) → KeepsLine k line
          → Did g.S.Store c.args.tx.now.conn c.write_kept.new.tx.conn c.write_kept.result (Fits n event) (PermitsEvent n event (asks k) line)
          (event_rowids n event (asks k)) (event_rows n event (asks k) line)) (sym c.in-Some.is) c.write_kept.ensures.did;
    }

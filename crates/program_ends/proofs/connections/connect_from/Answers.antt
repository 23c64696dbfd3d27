-- The opening finds what the files held, by the library's clauses; and whatever may be left of an open store is its last commit.
use Rattle.std.proofs.Common.{ℕ, List, ap, ap₂, sym, subst, ◌∙◌}
use Rattle.sqlite_wal.specs.Recovery.{Image}
use Rattle.sqlite.specs.Effect.{Database}
use Rattle.sqlite.specs.Files.{IsEmpty}
use Rattle.program_ends.proofs.ImageLemmas.{finds_new, fresh_db, fresh_log, left_as_found, seen_db, seen_log, some_then, unopened_left}
use Rattle.program_ends.proofs.connections.connect_from.Goals as goal

pub returns-in-Ok-clause-opened : goal.returns-in-Ok-clause-opened
returns-in-Ok-clause-opened g c clean =
    let opens = c.in-Ok.ensures.opened clean in
    let finds = c.in-Ok.ensures.found clean in
    let same = ap (λ (d : Database). d.trees) opens.0.clean in
    record {
      opens = opens.0;
      live = opens.1;
      holds = λ db held. same ∙ finds.holds db held;
      new = λ none. subst IsEmpty (sym same) (finds_new _ _ none finds.reads);
      only = λ db may. c.leaves_last_commit.ensures.only opens.0.is_open db may ∙ sym same;
    }

pub returns-in-Err-clause-left : goal.returns-in-Err-clause-left
returns-in-Err-clause-left g c =
    let s = g.S.Start in
    left_as_found _ c.in-Err.left
    (some_then c.in-Err.left
    (λ rest it clean tell image may.
    let log = it.0.log in
    let db = it.0.db in
    unopened_left it.0 _
    (λ x. fresh_log s.is_mixing log.is_log s.log s.db log.calls.log.events log.key x it.1.1 it.1.0)
    (λ x. fresh_db s.is_mixing db.is_log s.log s.db db.calls.log.events db.key x it.2.1 it.2.0)
    (ap₂ (λ (a b : List ℕ). let i : Image = record { log = a; db = b } in i)
    (seen_log log.is_log s.log s.db log.calls.log.events log.key it.1.1 it.1.0)
    (seen_db db.is_log s.log s.db db.calls.log.events db.key it.2.1 it.2.0))
    rest (it.3 clean).1 tell image may)
    c.in-Err.ensures.cause)

pub returns-then-is_no_database-clause-left : goal.returns-then-is_no_database-clause-left
returns-then-is_no_database-clause-left g c sound tell image may = absurd may

-- Rows of a list of the desk, started by a statement of its tables. For the functions that start them.
use Rattle.std.proofs.Common.{List, Result, Ok, Err, IfOk}
use Rattle.std.specs.Borrow.{MutBor}
use Rattle.std.specs.List.{AllByRecursion}
use Rattle.sqlite.specs.Store.{Ghosts}
use Rattle.sqlite.specs.Held.{Held}
use Rattle.sqlite.specs.declared.error.Error.{Error}
use Rattle.sqlite.specs.declared.rows.stream.Rows.{Rows}
use Rattle.desk_sql.specs.Rows.{Tables}
use Rattle.desk_sql.specs.declared.versions.Version.{Version}
use Rattle.desk_sql.proofs.Quieting.{quiet_start}
use Rattle.ledger.specs.Answer.{State}
use Rattle.sql_lists.specs.Listing.{StartsOver}
use Rattle.sql_model.specs.Spelling.{IsSpelled}
use Rattle.sql_model.specs.Standing.{IsDesk}
use Rattle.sql_reads.proofs.HandedTold.{IsThere, there_at}
use Rattle.report_writers.specs.Ready.{StartsList}

module _ {S X Y : Type 0} {g : Ghosts S} (conn : MutBor (Held S)) (IsRows : Tables → List Y → Type 0) {RowsOn : Held S → List Y → Type 0}
    {IsList : State → List X → Type 0} {RestsOn : Held S → List X → Type 0} where
  -- from what is read of the tables of a desk that is kept, where these rows of theirs remain
  pub started : {AreGood : Held S → Type 0} (r : Result (Rows S g) Error) → IfOk r (λ it. StartsOver g conn it IsRows RowsOn)
      → ((v : Version) (s : State) → IsDesk s → (t : IsThere v g conn.now s) (h : Held S)
      → ((later : List Y) → IsRows t.tables later → RowsOn h later) → (rows : List X) → IsList s rows → RestsOn h rows)
      → ((v : Version) (s : State) → IsDesk s → (t : IsThere v g conn.now s) (h : Held S)
      → ((later : List Y) → IsRows t.tables later → RowsOn h later) → IsSpelled s.ledger → AreGood h)
      → IfOk r (λ it. StartsList g conn it IsList RestsOn AreGood)
  started (Err e) told lists good = tt
  started (Ok it) told lists good =
      let old = conn.now in
      let new = it.conn.now in
      record {
        under = record { same_reference = told.same_reference; quiet = quiet_start g old new _ _ told.starts };
        rows = λ v clean s desk keeps. (
            let t = there_at g old new s keeps told.starts.same told.starts.survives clean in
            lists v s desk t new (told.starts.begun clean v t.tables t.may));
        good = λ clean v s desk spelled keeps. (
            let t = there_at g old new s keeps told.starts.same told.starts.survives clean in
            good v s desk t new (told.starts.begun clean v t.tables t.may) spelled);
      }

  -- where each row of the list is good
  pub started_good : {Good : X → Type 0} (r : Result (Rows S g) Error) → IfOk r (λ it. StartsOver g conn it IsRows RowsOn)
      → ((v : Version) (s : State) → IsDesk s → (t : IsThere v g conn.now s) (h : Held S)
      → ((later : List Y) → IsRows t.tables later → RowsOn h later) → (rows : List X) → IsList s rows → RestsOn h rows)
      → ((v : Version) (s : State) → IsDesk s → IsSpelled s.ledger → IsThere v g conn.now s
      → (rows : List X) × IsList s rows × AllByRecursion Good rows)
      → IfOk r (λ it. StartsList g conn it IsList RestsOn (λ h. (rows : List X) × RestsOn h rows × AllByRecursion Good rows))
  started_good {Good} r told lists good =
      started {AreGood = λ h. (rows : List X) × RestsOn h rows × AllByRecursion Good rows} r told lists (λ v s desk t h begun spelled. (
      let it = good v s desk spelled t in (it.0, lists v s desk t h begun it.0 it.1, it.2)))

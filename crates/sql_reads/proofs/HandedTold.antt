-- The rows that are read are those of the desk's own values. For the sources of rows.
use Rattle.std.proofs.Common.{◌≡◌, List, map, Bool, false, Some, None, arith, rules}
use Rattle.sqlite.specs.Store.{Ghosts}
use Rattle.sqlite.specs.Held.{Held, state}
use Rattle.sqlite.specs.State.{HasCleanDisk}
use Rattle.desk_sql.specs.Calls.{MaySeeIn, LeavesNoMore}
use Rattle.desk_sql.specs.declared.versions.Version.{Version}
use Rattle.desk_sql.specs.Rows.{Tables, ShowsIn}
use Rattle.ledger.specs.Answer.{State}
use Rattle.sql_model.specs.Standing.{StandsIn}
use Rattle.sql_model.specs.Keeping.{KeepsIn}
use Rattle.desk_sql.specs.RemainingRows.{Hands as HandsRows, StaysAsItIs}
use Rattle.saga_core.specs.RowSources.{HandsFirst}
use Rattle.sql_model.proofs.KeepLemmas.{seen_by}

-- the tables of a connection that keeps a state, seen from what the connection has become
pub record IsThere (v : Version) {S : Type 0} (g : Ghosts S) (h : Held S) (s : State) : Type 0 where
  pub tables : Tables
  pub may : MaySeeIn v (state g h) tables
  pub rows : ShowsIn v (state g h).now.trees tables
  pub stands : StandsIn v tables s

pub there_at : {v : Version} {S : Type 0} (g : Ghosts S) (old new : Held S) (s : State) → KeepsIn v (state g old) s → StaysAsItIs g old new
    → LeavesNoMore g old new → HasCleanDisk (state g new) → IsThere v g old s
there_at g old new s keeps same survives clean =
    let seen = seen_by (state g old) s (keeps (omega (arith, survives.clean, clean))) in
    let live = (same clean).0.was_open in
    record { tables = seen.tables; may = seen.may; rows = (seen.may live).rows; stands = seen.stands live }

-- the values of the remaining rows, where a row and its value have a common form
abbrev pub Told : {X Y K : Type 0} → (Y → K) → (X → K) → (List Y → Type 0) → List X → Type 0
Told {X} {Y} seen written Rests xs = (ys : List Y) × Rests ys × (map seen ys ≡ map written xs)

module _ {X Y K : Type 0} (seen : Y → K) (written : X → K) (Before After : List Y → Type 0) where
  -- the first row is that of the first remaining value
  pub told_first : (y : Y) (x : X) → HandsRows Before After (Some y) → ((z : X) → seen y ≡ written z → x ≡ z)
      → (failed : Bool) → (xs : List X) → (failed ≡ false) × Told seen written Before xs
      → HandsFirst (λ zs. (false ≡ false) × Told seen written After zs) (Some x) xs
  told_first y x hands same failed xs rests = search (rules, arith)

  -- if there is no row, no value remains
  pub told_none : HandsRows Before After None → (failed : Bool) → (xs : List X) → (failed ≡ false) × Told seen written Before xs
      → HandsFirst (λ zs. (false ≡ false) × Told seen written After zs) None xs
  told_none hands failed xs rests = search (rules, arith)

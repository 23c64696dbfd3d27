-- The statement that returns the options that hold places of a cell: which rows it returns, its text, and what this means.
use Rattle.std.specs.Prelude.{◌≡◌, ◌⊎◌, ◌<◌, ◌+◌, ℕ, pos, ◌==◌, ◌&&◌, Bool, List, [], ◌∷◌, bytes_eq, codes, filter, map, nat_le, nat_lt, ⊤}
use Rattle.allotment.specs.Cells.{kind_number}
use Rattle.allotment.specs.declared.cells.Cell.{Cell}
use Rattle.sqlite.specs.Order.{Row}
use Rattle.sqlite.specs.Store.{Ghosts}
use Rattle.sqlite.specs.Held.{Held}
use Rattle.sqlite.specs.Query.{Query}
use Rattle.sqlite.specs.Term.{Term, col, lit, op2}
use Rattle.sqlite.specs.declared.types.Value.TheVariants.{Int, Text}
use Rattle.sqlite_sql.specs.declared.ops.BinaryOp.TheVariants.{Arith, Compare}
use Rattle.sqlite_sql.specs.declared.ops.ArithOp.TheVariants.{Sub}
use Rattle.sqlite_sql.specs.declared.ops.CompareOp.TheVariants.{Gt, Le}
use Rattle.sqlite_value.specs.declared.keys.Collation.TheVariants.{Binary}
use Rattle.desk_sql.specs.FoundRows.{IsByPlace}
use Rattle.desk_sql.specs.Meanings.{is_equal, rising, sorted_rows}
use Rattle.desk_sql.specs.RemainingRows.{IsOnlyOrder}
use Rattle.desk_sql.specs.Rows.{whole, StepRow, Tables}
use Rattle.sql_lists.specs.Listing.{Listing, RestsOf}
use Rattle.sql_lists.specs.declared.holders.HolderFound.{HolderFound}

-- the night is one of so many nights from a first one on
abbrev pub is_night_of : ℕ → ℕ → ℕ → Bool
is_night_of first nights night = nat_le first night && nat_lt night (first + nights)

-- the option was taken, and its want has the cell
abbrev pub is_row_held : Cell → StepRow → Bool
is_row_held x s =
    (s.taken == 1)
    && ((s.kind == kind_number x.kind)
    && (bytes_eq s.supplier x.supplier
    && (bytes_eq s.product x.product && is_night_of s.night s.nights x.night)))

-- an earlier journey, or the same one and no later step and option
abbrev pub IsByStep : StepRow → StepRow → Type 0
IsByStep a b = (a.journey < b.journey) ⊎ ((a.journey ≡ b.journey) × IsByPlace a b)

-- what is shown of a row
abbrev pub holder_of : StepRow → HolderFound
holder_of s = record { journey = s.journey; place = s.place; opt = s.opt; places = s.places }

-- those options, in their only order
abbrev pub ListsHolders : Cell → Tables → List HolderFound → Type 0
ListsHolders x t listed =
    (rows : List StepRow) × IsOnlyOrder IsByStep (filter (is_row_held x) t.step) rows × (listed ≡ map holder_of rows)

-- the text
abbrev pub holders_text : List ℕ
holders_text = codes "SELECT journey, place, opt, places FROM step WHERE taken = 1 AND kind = ?1 AND supplier = ?2 AND product = ?3 AND night <= ?4 AND nights > ?4 - night ORDER BY journey, place, opt"

-- its tests
abbrev pub holder_tests : List Term
holder_tests =
    is_equal (col 1 5) (lit (Int (pos 1))) ∷ is_equal (col 1 6) (col 0 0) ∷ is_equal (col 1 7) (col 0 1)
    ∷ is_equal (col 1 8) (col 0 2) ∷ op2 (Compare Le Binary) (col 1 9) (col 0 3)
    ∷ op2 (Compare Gt Binary) (col 1 10) (op2 (Arith Sub) (col 0 3) (col 1 9)) ∷ []

-- what it means
abbrev pub holders_query : Query
holders_query =
    sorted_rows 8 holder_tests (col 1 1 ∷ col 1 2 ∷ col 1 3 ∷ col 1 11 ∷ [])
    ((col 1 1, rising) ∷ (col 1 2, rising) ∷ (col 1 3, rising) ∷ [])

abbrev pub holders_names : List (List ℕ)
holders_names = codes "journey" ∷ codes "place" ∷ codes "opt" ∷ codes "places" ∷ []

-- its parameters
abbrev pub holders_params : Cell → Row
holders_params x = whole (kind_number x.kind) ∷ Text x.supplier ∷ Text x.product ∷ whole x.night ∷ []

-- the query shows an option in this order
abbrev pub holder_shown : HolderFound → Row
holder_shown h = whole h.journey ∷ whole h.place ∷ whole h.opt ∷ whole h.places ∷ []

-- it has one statement
abbrev pub holder_list : Listing ⊤ HolderFound
holder_list = record { text = λ _. holders_text; query = λ _. holders_query; shows = holder_shown }

-- these options remain of the statement
abbrev pub HoldersRest : {S : Type 0} → Ghosts S → Held S → List HolderFound → Type 0
HoldersRest g h later = RestsOf holder_list g h later

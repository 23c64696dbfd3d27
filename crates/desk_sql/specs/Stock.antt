-- Cells, the nights of a range, and what statements find of them.
use Rattle.std.specs.Prelude.{◌≡◌, ◌<◌, ◌≤◌, ◌^◌, ◌==◌, ◌&&◌, Bool, true, false, ◌+◌, ◌-◌, ℕ, List, [], ◌∷◌, ◌++◌, if◌then◌else◌, map, filter, bytes_eq, nat_le, string_bytes}
use Rattle.std.specs.List.{AllByRecursion, list_any}
use Rattle.sqlite_trees.specs.Tree.{IsAscending}
use Rattle.std.specs.declared.cmp.Ordering.{Ordering}
use Rattle.std.specs.Ordering.{is_lt, nat_cmp, ordering_then}
use Rattle.std.specs.Cmp.Lexicographic.{slice_cmp}
use Rattle.sqlite.specs.declared.types.Value.TheVariants.{Text}
use Rattle.sqlite.specs.Order.{Row}
use Rattle.desk_sql.specs.Lists.{IsListed, changed}
use Rattle.desk_sql.specs.Rows.{whole, Tables, StockRow}
use Rattle.desk_sql.specs.declared.stock.CellPlaces.{CellPlaces}
use Rattle.desk_sql.specs.declared.stock.NightRange.{NightRange}
use Rattle.desk_sql.specs.declared.stock.NightFound.{NightFound}
use Rattle.desk_sql.specs.declared.stock.CellFound.{CellFound}

-- the numbers of the range fit the store's integers
abbrev pub IsSmallRange : NightRange → Type 0
IsSmallRange r = AllByRecursion (λ n. n < 2 ^ 63) (r.kind ∷ r.first ∷ r.last ∷ [])

-- the cell is a night of the range
abbrev pub is_within : NightRange → StockRow → Bool
is_within r s =
    (s.kind == r.kind) && (bytes_eq s.supplier r.supplier.now && (bytes_eq s.product r.product.now
    && (nat_le r.first s.night && nat_le s.night r.last)))

-- the row of a night that was found
abbrev pub night_of : NightRange → NightFound → StockRow
night_of r n = record {
  kind = r.kind;
  supplier = r.supplier.now;
  product = r.product.now;
  night = n.night;
  allot = n.allot;
  free = n.free;
}

-- an earlier night, or the same
abbrev pub IsByNight : StockRow → StockRow → Type 0
IsByNight a b = a.night ≤ b.night

-- the nights of the range that have a row, in order
abbrev pub FindsNights : NightRange → Tables → List NightFound → Type 0
FindsNights r t found = IsListed IsByNight (filter (is_within r) t.stock) (map (night_of r) found)

-- a query shows a night in this order
abbrev pub shows_night : NightFound → Row
shows_night n = whole n.night ∷ whole n.allot ∷ whole n.free ∷ []

-- the row of a cell that was found
abbrev pub stock_of : CellFound → StockRow
stock_of c = record {
  kind = c.kind;
  supplier = string_bytes c.supplier;
  product = string_bytes c.product;
  night = c.night;
  allot = c.allot;
  free = c.free;
}

-- cells in order of kind, supplier, product and night, texts in order of their bytes
abbrev pub cell_cmp : StockRow → StockRow → Ordering
cell_cmp a b =
    ordering_then (nat_cmp a.kind b.kind) (ordering_then (slice_cmp nat_cmp a.supplier b.supplier)
    (ordering_then (slice_cmp nat_cmp a.product b.product) (nat_cmp a.night b.night)))

-- the second cell is not before the first
abbrev pub IsByCell : StockRow → StockRow → Type 0
IsByCell a b = is_lt (cell_cmp b a) ≡ false

-- a query shows a cell in this order
abbrev pub shows_cell : CellFound → Row
shows_cell c =
    whole c.kind ∷ Text (string_bytes c.supplier) ∷ Text (string_bytes c.product) ∷ whole c.night
    ∷ whole c.allot ∷ whole c.free ∷ []

-- a cell of the range, with so many fewer free places, or more
abbrev pub with_fewer : ℕ → StockRow → StockRow
with_fewer count s = record s { free = s.free - count }

abbrev pub with_more : ℕ → StockRow → StockRow
with_more count s = record s { free = s.free + count }

-- each night of the range has so many free places, and no number exceeds the store's integers
abbrev pub HaveFree : NightRange → ℕ → Tables → Type 0
HaveFree r count t =
    AllByRecursion
    (λ (s : StockRow). is_within r s ≡ true → (count ≤ s.free) × (s.free < 2 ^ 63)) t.stock

-- each night of the range has room for so many more free places
abbrev pub HaveRoom : NightRange → ℕ → Tables → Type 0
HaveRoom r count t =
    AllByRecursion (λ (s : StockRow). is_within r s ≡ true → s.free + count < 2 ^ 63) t.stock

-- so many places of each night of the range are taken, or given back
abbrev pub takes_nights : NightRange → ℕ → Tables → Tables
takes_nights r count t = record t { stock = changed (is_within r) (with_fewer count) t.stock }

abbrev pub gives_nights : NightRange → ℕ → Tables → Tables
gives_nights r count t = record t { stock = changed (is_within r) (with_more count) t.stock }

-- the numbers of the cell fit the store's integers
abbrev pub IsSmallCell : CellPlaces → Type 0
IsSmallCell c = AllByRecursion (λ n. n < 2 ^ 63) (c.kind ∷ c.night ∷ c.allot ∷ c.free ∷ [])

-- the row of a cell with these places
abbrev pub placed : CellPlaces → StockRow
placed c = record {
  kind = c.kind;
  supplier = c.supplier.now;
  product = c.product.now;
  night = c.night;
  allot = c.allot;
  free = c.free;
}

-- the rows are of one cell
abbrev pub is_cell : StockRow → StockRow → Bool
is_cell a b =
    (b.kind == a.kind)
    && (bytes_eq b.supplier a.supplier && (bytes_eq b.product a.product && (b.night == a.night)))

-- each cell has at most one row
abbrev pub AreApart : Tables → Type 0
AreApart t = IsAscending (λ (a b : StockRow). is_cell a b ≡ false) t.stock

-- a row, with the places of another
abbrev pub with_places : StockRow → StockRow → StockRow
with_places s x = record x { allot = s.allot; free = s.free }

-- the cell gets these places: in its own row, or in a new one, which is appended
abbrev pub put : StockRow → List StockRow → List StockRow
put s cells =
    if list_any (is_cell s) cells then changed (is_cell s) (with_places s) cells
    else cells ++ s ∷ []

-- the same, in the tables
abbrev pub puts_cell : StockRow → Tables → Tables
puts_cell s t = record t { stock = put s t.stock }

-- What an event asks of the rows is what each of its writes asks of the rows before that write. For the functions that write.
use Rattle.std.proofs.Common.{◌≡◌, ◌<◌, ◌≤◌, ◌+◌, ◌^◌, ℕ, List, [], ◌∷◌, length, Bool, true, if◌then◌else◌, inl, leb-true, IsTrue, refl, ◌∙◌, arith, rules}
use Rattle.std.specs.List.{AllByRecursion}
use Rattle.sqlite_rules.proofs.ListLemmas.{has_right}
use Rattle.sqlite_rules.proofs.ProbeLemmas.{mapped_has}
use Rattle.allotment.specs.Cells.{kind_number}
use Rattle.allotment.specs.Limits.{is_code}
use Rattle.allotment.specs.declared.cells.Cell.{Cell}
use Rattle.allotment.specs.declared.codes.Kind.{Kind}
use Rattle.allotment.specs.declared.places.Held.{Held}
use Rattle.allotment.specs.Want.{Wanted}
use Rattle.allotment.proofs.TestLemmas.{and_both}
use Rattle.commands.specs.declared.items.Item.{Item}
use Rattle.commands.specs.declared.items.Phase.{Phase}
use Rattle.commands.specs.declared.items.Cursor.{Cursor}
use Rattle.desk_sql.specs.Rows.{Tables, JourneyRow, StockRow}
use Rattle.desk_sql.specs.FoundRows.{is_numbered}
use Rattle.desk_sql.specs.Stock.{is_within, put, with_places}
use Rattle.desk_sql.specs.Changes.{adds_journey, moves_journey, with_cursor}
use Rattle.desk_sql.specs.Writable.{HasJourney, IsShort, MayAddItem, MayMove, MayMarkStep, MayPut, MayTakeNights, MayGiveNights}
use Rattle.desk_sql.specs.declared.journeys.Cursor.{Cursor as CursorRow}
use Rattle.desk_sql.specs.declared.stock.NightRange.{NightRange}
use Rattle.sql_model.specs.ExpectedRows.{phase_number}
use Rattle.sql_writes.specs.CellLoads.{LacksCell, MayAddCell}
use Rattle.sql_writes.specs.Weeks.{MayAddWeek}
use Rattle.sql_model.specs.Reading.{IsRangeOf, stock_row_of}
use Rattle.sql_model.specs.Moving.{cursor_written, item_written}
use Rattle.sql_writes.specs.declared.events.Numbers.{Numbers}
use Rattle.sql_writes.specs.Writing.{HaveRoomFor}
use Rattle.sql_writes.specs.Runs.{HasShortTexts, LacksWeek}
use Rattle.sql_writes.specs.Permits.{HaveHeldFor, HaveShortCells, HaveShortOptions, MayAdd, MayMoveOn, MayTakeWant, MayGiveWant}
use Rattle.sqlite_trees.proofs.ListLemmas.{all-append, all-map, all_weaker}

-- what each element is, each of some elements is
all_some : {X : Type 0} (P : X → Type 0) (p : X → Bool) (xs : List X) → AllByRecursion P xs → AllByRecursion (λ x. p x ≡ true → P x) xs
all_some P p = all_weaker P (λ x. p x ≡ true → P x) (λ x it _. it)

-- Items.

kind_low : (num : ℕ) (item : Item) → (item_written num item).item ≤ 3
kind_low num item = search (rules, arith)

pub kind_num : (num : ℕ) (item : Item) → (item_written num item).num ≡ num
kind_num num item = search (rules, arith)

pub may_add : (n : Numbers) (journey : ℕ) (item : Item) (t : Tables) → MayAdd n journey t → MayAddItem journey (item_written n.num item) t
may_add n journey item t it = search (rules, arith, kind_num, kind_low)

-- Cursors.

phase_low : (p : Phase) → phase_number p ≤ 3
phase_low p = search (rules, arith)

pub may_move : (n : Numbers) (journey : ℕ) (c : Cursor) (t : Tables) → MayMoveOn n journey t → MayMove journey (cursor_written c) t
may_move n journey c t it = record {
  phase = phase_low c.phase;
  short = all_some (λ (j : JourneyRow). IsShort (length j.agent)) (is_numbered journey) t.journey it.short;
}

kept_id : (b : Bool) (c : CursorRow) (j : JourneyRow) → (if b then with_cursor c j else j).id ≡ j.id
kept_id b c j = search (rules, arith)

-- the journey is there after it has moved
pub still_there : (id journey : ℕ) (c : CursorRow) (t : Tables) → HasJourney id t → HasJourney id (moves_journey journey c t)
still_there id journey c t (j, has, is) =
    let move : JourneyRow → JourneyRow = λ x. if is_numbered journey x then with_cursor c x else x in
    (move j, mapped_has move t.journey j has, kept_id (is_numbered journey j) c j ∙ is)

pub moved_on : (n : Numbers) (journey : ℕ) (c : CursorRow) (t : Tables) → MayMoveOn n journey t → MayAdd n journey (moves_journey journey c t)
moved_on n journey c t it = search (rules, arith, still_there)

-- and it is there once it was added
pub added_there : (j : JourneyRow) (t : Tables) → HasJourney j.id (adds_journey j t)
added_there j t = (j, has_right t.journey (j ∷ []) j (inl refl), refl)

-- Options.

pub may_mark : (journey place opt taken : ℕ) (t : Tables) → taken ≤ 1 → HaveShortOptions t → MayMarkStep journey place opt taken t
may_mark journey place opt taken t low short = search (rules, arith, all_some)

-- Nights.

pub may_take : (w : Wanted) (r : NightRange) (t : Tables) → IsRangeOf r w → MayTakeWant w t → MayTakeNights r w.count t
may_take w r t is it = record {
  free = it.free r is;
  short = all_some (λ (s : StockRow). IsShort (length s.supplier + length s.product)) (is_within r) t.stock it.cells;
}

pub may_give : (w : Wanted) (r : NightRange) (t : Tables) → IsRangeOf r w → MayGiveWant w t → MayGiveNights r w.count t
may_give w r t is it = record {
  held = it.held r is;
  short = all_some (λ (s : StockRow). IsShort (length s.supplier + length s.product)) (is_within r) t.stock it.cells;
}

-- what is held may be returned
room : (r : NightRange) (count : ℕ) (rows : List StockRow)
    → AllByRecursion (λ (s : StockRow). is_within r s ≡ true → (s.free + count ≤ s.allot) × (s.allot < 2 ^ 63)) rows
    → AllByRecursion (λ (s : StockRow). is_within r s ≡ true → s.free + count < 2 ^ 63) rows
room r count = search (rules, arith, all_weaker)

pub have_room : (w : Wanted) (t : Tables) → HaveHeldFor w t → HaveRoomFor w t
have_room w t held r is = room r w.count t.stock (held r is)

-- Cells.

placed_text : (b : Bool) (s x : StockRow) → IsShort (length x.supplier + length x.product)
    → IsShort (length (if b then with_places s x else x).supplier + length (if b then with_places s x else x).product)
placed_text b s x short = search (rules, arith)

-- the texts of the cells fit after a cell with such texts got its places
pub short_put : (s : StockRow) (rows : List StockRow) → IsShort (length s.supplier + length s.product)
    → AllByRecursion (λ (x : StockRow). IsShort (length x.supplier + length x.product)) rows
    → AllByRecursion (λ (x : StockRow). IsShort (length x.supplier + length x.product)) (put s rows)
short_put s rows own short = search (rules, arith, all-map, all_weaker, placed_text, all-append)

-- the places of a cell may be written, and its row or those of its week may be added
cell_kind_low : (kind : Kind) → kind_number kind ≤ 3
cell_kind_low kind = search (rules, arith)

pub may_put : (c : Cell × Held) (t : Tables) → HasShortTexts c → HaveShortCells t → MayPut (stock_row_of c) t
may_put c t short others = record { kind = cell_kind_low c.0.kind; free = c.1.within; short = short; others = others }

pub may_add_cell : (c : Cell × Held) (t : Tables) → HasShortTexts c → LacksCell (stock_row_of c) t → MayAddCell (stock_row_of c) t
may_add_cell c t short lacks = record { lacks = lacks; kind = cell_kind_low c.0.kind; free = c.1.within; short = short }

pub may_add_week : (c : Cell × Held) (t : Tables) → HasShortTexts c → LacksWeek (stock_row_of c) t → MayAddWeek (stock_row_of c) t
may_add_week c t short lacks = record { lacks = lacks; kind = cell_kind_low c.0.kind; free = c.1.within; short = short }

-- Names.

-- the names of a supplier and a product are short
pub codes_short : (supplier product : List ℕ) → IsTrue (is_code supplier) → IsTrue (is_code product) → IsShort (length supplier + length product)
codes_short supplier product one two = search (rules, arith, and_both, leb-true)

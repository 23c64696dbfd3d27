-- Rows that are returned one at a time of cells and journeys which keep their limits tell something, and can be read. For `cell_rows` and
-- `brief_rows`.
use Rattle.std.proofs.Common.{◌≡◌, inl, inr, List, [], ◌∷◌, map, Some, IsTrue, refl, sym, ap, subst, ◌∙◌, ◌&&◌, IsSome}
use Rattle.std.specs.List.{AllByRecursion}
use Rattle.std.proofs.lemmas.Bool.{and_parts}
use Rattle.allotment.specs.Limits.{is_code, is_good_cell, is_night}
use Rattle.allotment.specs.declared.cells.Cell.{Cell}
use Rattle.allotment.specs.declared.places.Held.{Held}
use Rattle.commands.specs.Names.{is_agent}
use Rattle.desk_sql.specs.Readable.{AreCellTexts, Each, IsAgentText}
use Rattle.desk_sql.specs.RemainingRows.{HandsFirst, Hands}
use Rattle.desk_sql.specs.Rows.{JourneyRow, StockRow}
use Rattle.saga_core.specs.declared.records.Brief.{Brief}
use Rattle.sql_model.specs.Reading.{cursor_in, stock_row_of}
use Rattle.sql_model.specs.Briefs.{Short, short_of, short_told, TellBriefs}
use Rattle.sql_model.proofs.Cursors.{cursor_back}
use Rattle.sql_reads.specs.GoodRows.{IsGoodStock}
use Rattle.sql_reads.proofs.GoodStock.{code_text}
use Rattle.sql_reads.proofs.ReadReasons.{agent_text}

-- Cells.

abbrev AreGoodCells : List (Cell × Held) → Type 0
AreGoodCells cells = AllByRecursion (λ (c : Cell × Held). IsTrue (is_good_cell c.0)) cells

row_good : (c : Cell × Held) → IsTrue (is_good_cell c.0) → IsGoodStock (stock_row_of c)
row_good c good =
    let limits = and_parts (is_code c.0.supplier && is_code c.0.product) (is_night c.0.night) good in
    let codes = and_parts (is_code c.0.supplier) (is_code c.0.product) limits.0 in
    record {
      kind = c.0.kind;
      kind_is = refl;
      supplier = codes.0;
      product = codes.1;
      night = limits.1;
      places = record { few = c.1.bounded; free = c.1.within };
    }

pub cell_good : (Before After : List StockRow → Type 0) (r : StockRow) → Hands Before After (Some r) → (cells : List (Cell × Held))
    → Before (map stock_row_of cells) → AreGoodCells cells → IsGoodStock r
cell_good Before After r hands cells rests good = go cells (hands (map stock_row_of cells) rests) good
  where
    go : (cells : List (Cell × Held)) → HandsFirst After (Some r) (map stock_row_of cells) → AreGoodCells cells → IsGoodStock r
    go [] h all = absurd (let none = h.0 in cc)
    go (c ∷ cells) h all =
        subst IsGoodStock (sym cc) (row_good c all.0)

pub cells_text : (cells : List (Cell × Held)) → AreGoodCells cells → Each AreCellTexts (map stock_row_of cells)
cells_text [] all r h = absurd h
cells_text (c ∷ cells) all r (inr h) = cells_text cells all.1 r h
cells_text (c ∷ cells) all r (inl is) =
    let good = row_good c all.0 in
    subst AreCellTexts (sym is) (code_text c.0.supplier good.supplier, code_text c.0.product good.product)

-- Journeys.

abbrev AreGoodBriefs : List Brief → Type 0
AreGoodBriefs briefs = AllByRecursion (λ (b : Brief). IsTrue (is_agent b.agent)) briefs

-- the row has an agent's name, and tells where its journey is
abbrev pub TellsAll : JourneyRow → Type 0
TellsAll r = IsTrue (is_agent r.agent) × IsSome (cursor_in r.cursor)

row_tells : (r : JourneyRow) (b : Brief) → short_of r ≡ short_told b → IsTrue (is_agent b.agent) → TellsAll r
row_tells r b is good =
    let back : cursor_in r.cursor ≡ Some b.cursor = ap cursor_in (ap (λ (x : Short). x.cursor) is) ∙ cursor_back b.cursor in
    (subst (λ x. IsTrue (is_agent x)) (sym (ap (λ (x : Short). x.agent) is)) good, subst (λ o. IsSome o) (sym back) refl)

all_tell : (rows : List JourneyRow) (briefs : List Brief) → TellBriefs rows briefs → AreGoodBriefs briefs → Each TellsAll rows
all_tell [] briefs told good r h = absurd h
all_tell (x ∷ rows) [] told good r h = absurd (cc)
all_tell (x ∷ rows) (b ∷ briefs) told good r h =
    let both : short_of x ∷ map short_of rows ≡ short_told b ∷ map short_told briefs = told in
    let head : short_of x ≡ short_told b = cc in
    let tail : map short_of rows ≡ map short_told briefs = cc in
    elim h [
      | inl is ↦ subst TellsAll (sym is) (row_tells x b head good.0)
      | inr later ↦ all_tell rows briefs tail good.1 r later
    ]

pub brief_good : (Before After : List JourneyRow → Type 0) (r : JourneyRow) → Hands Before After (Some r) → (rows : List JourneyRow)
    (briefs : List Brief) → Before rows → TellBriefs rows briefs → AreGoodBriefs briefs → TellsAll r
brief_good Before After r hands rows briefs rests told good = go rows (hands rows rests) (all_tell rows briefs told good)
  where
    go : (rows : List JourneyRow) → HandsFirst After (Some r) rows → Each TellsAll rows → TellsAll r
    go [] h all = absurd (let none = h.0 in cc)
    go (x ∷ rows) h all =
        let first : Some r ≡ Some x = h.0 in
        let is : r ≡ x = cc in all r (inl is)

pub briefs_text : (rows : List JourneyRow) (briefs : List Brief) → TellBriefs rows briefs → AreGoodBriefs briefs → Each IsAgentText rows
briefs_text rows briefs told good r h = agent_text r.agent (all_tell rows briefs told good r h).0

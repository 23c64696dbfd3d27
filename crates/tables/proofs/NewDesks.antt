-- The tables of a new desk have no row but that of meta, so all rowids are left. For the law.
use Rattle.std.proofs.Common.{◌≡◌, ◌<◌, ◌^◌, ℕ, suc, ℤ, List, [], ◌∷◌, true, length, map, refl, sym, subst, ◌∙◌, eq-eqb, arith, ◌==◌, bytes_eq}
use Rattle.std.specs.List.Sorted.{IsPermutation}
use Rattle.std.proofs.lemmas.Bool.{and_from}
use Rattle.std.proofs.lemmas.List.Sorted.{length_permutation}
use Rattle.std.proofs.lemmas.Slice.Eq.{bytes_eq-Decides}
use Rattle.sqlite.specs.Order.{Row}
use Rattle.sqlite.specs.Store.{Ghosts}
use Rattle.sqlite.specs.Held.{state}
use Rattle.sqlite.specs.State.{State as Connected}
use Rattle.desk_sql.specs.FoundRows.{is_for}
use Rattle.desk_sql.specs.Lists.{IsTableOf, numbered_row}
use Rattle.desk_sql.specs.Rows.{AnswerRow, MarkRow, StockRow, answer_columns, batch_columns, mark_columns, step_columns, stock_columns}
use Rattle.desk_sql.specs.Writable.{AreLow, HasRowids}
use Rattle.ledger.specs.Answer.{nothing_kept, start}
use Rattle.sql_model.specs.Keeping.{SeesDesk}
use Rattle.sql_model.specs.Standing.{AnswersStand, MarksStand, StockStands, is_mark_at}
use Rattle.tables.specs.Acting.{NewDeskMayAct}
use Rattle.tables.specs.declared.books.TableBook.{TableBook}
use Rattle.tables.proofs.SpelledLemmas.{start_spelled}

-- Lists of rows.

no_stock : (rows : List StockRow) → StockStands [] rows → rows ≡ []
no_stock [] st = refl
no_stock (r ∷ rows) st = let each = st.each st.known.0.0 in grind (arith, each)

same_bytes : (xs : List ℕ) → bytes_eq xs xs ≡ true
same_bytes xs = (bytes_eq-Decides xs xs).1 refl

no_answer : (rows : List AnswerRow) → AnswersStand nothing_kept rows → rows ≡ []
no_answer [] st = refl
no_answer (r ∷ rows) st =
    let own : is_for r.agent r.mark r ≡ true = and_from _ _ (same_bytes r.agent) (same_bytes r.mark) in
    let each = st.each r.agent r.mark in
    grind (arith, own, each)

no_mark : (rows : List MarkRow) → MarksStand [] rows → rows ≡ []
no_mark [] st = refl
no_mark (r ∷ rows) st =
    let own : is_mark_at r.journey r.pos r ≡ true =
    and_from (r.journey == r.journey) (r.pos == r.pos) (eq-eqb r.journey r.journey refl) (eq-eqb r.pos r.pos refl) in
    let each = st.each r.journey r.pos in
    grind (arith, own, each)

-- a permutation of no row is no row
no_more : {X : Type 0} (rows : List X) → IsPermutation [] rows → rows ≡ []
no_more {X} rows same = go rows (length_permutation [] rows same)
  where
    go : (xs : List X) → length xs ≡ 0 → xs ≡ []
    go [] is = refl
    go (x ∷ xs) is = let never : suc (length xs) ≡ 0 = is in absurd (omega (arith, never))

-- a table of no values has no row, so all rowids are left
all_low : {X : Type 0} (columns : X → Row) (rows : List Row) (values : List X) (n : ℕ) → IsTableOf columns rows values → values ≡ []
    → AreLow n rows
all_low {X} columns rows values n table none = go table.numbered (sym table.values_are ∙ none) table.rows_are
  where
    go : (ps : List (ℤ × X)) → map (λ (p : ℤ × X). p.1) ps ≡ [] → rows ≡ map (numbered_row columns) ps → AreLow n rows
    go [] empty is = subst (AreLow n) (sym is) tt
    go (p ∷ ps) empty is = cc

-- Desks.

new_desk_rowids : (c : Connected) → SeesDesk c start → (m : ℕ) → m < 2 ^ 63 → HasRowids m c.now.trees
new_desk_rowids c sees m few = record {
  few = few;
  stock = all_low stock_columns _ sees.tables.stock m sees.shown.stock (no_stock sees.tables.stock sees.stands.stock);
  batch = all_low batch_columns _ sees.tables.batch m sees.shown.batch (no_more sees.tables.batch sees.stands.batch);
  step = all_low step_columns _ sees.tables.step m sees.shown.step (no_more sees.tables.step sees.stands.step);
  answer = all_low answer_columns _ sees.tables.answer m sees.shown.answer (no_answer sees.tables.answer sees.stands.answer);
  mark = all_low mark_columns _ sees.tables.mark m sees.shown.mark (no_mark sees.tables.mark sees.stands.mark);
}

pub new_desk_may_act : {S : Type 0} (g : Ghosts S) (b : TableBook S g) → NewDeskMayAct g b
new_desk_may_act g b clean stands up m few = record {
  stands = stands;
  spelled = start_spelled;
  up = up;
  rowids = new_desk_rowids (state g b.conn) ((stands.keeps clean).sees up.is_open) m few;
}

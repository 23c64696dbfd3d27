-- The upsert of a cell. For `put_cell`.
use Rattle.std.proofs.Common.{◌≡◌, ◌<◌, ◌^◌, inl, inr, ℕ, ℤ, suc, eq-eqb, eqb-true, List, [], ◌∷◌, ◌++◌, map, Bool, true, false, if◌then◌else◌, Some, is_eq, refl, sym, ap, ap₂, subst, ◌∙◌, arith, ◌⊎◌, int_cmp, rules}
use Rattle.std.specs.List.{list_any, AllByRecursion}
use Rattle.std.proofs.lemmas.Int.{ints}
use Rattle.std.proofs.lemmas.Bool.{cases_Bool, and_parts, and_from, false_from_ne_true}
use Rattle.std.proofs.lemmas.Slice.Eq.{bytes_eq-Decides}
use Rattle.sqlite.specs.declared.types.Value.TheVariants.{Null, Int, Text}
use Rattle.sqlite.specs.Ops.{binary, is_true}
use Rattle.sqlite_sql.specs.declared.ops.BinaryOp.TheVariants.{Compare}
use Rattle.sqlite_sql.specs.declared.ops.CompareOp.TheVariants.{Eq}
use Rattle.sqlite_value.specs.declared.keys.Collation.TheVariants.{Binary}
use Rattle.sqlite_value.proofs.OrderLemmas.{value_cmp-Int}
use Rattle.sqlite_value.proofs.KeyLemmas.{first_key-plain}
use Rattle.sqlite.specs.Order.{Row}
use Rattle.sqlite.specs.Tree.{Trees, IsAscending, rowid}
use Rattle.sqlite.specs.Program.{overlay}
use Rattle.sqlite.specs.Query.{IsAnswer}
use Rattle.sqlite.specs.Cast.{cast_row}
use Rattle.sqlite.specs.Edit.{Edit, edit_of, edited, next_rowid, with_rowid, are_fresh, left_by}
use Rattle.sqlite.specs.Rowids.TheVariants.{Chosen, Given}
use Rattle.sqlite.specs.Rows.{shown}
use Rattle.sqlite_rules.specs.Lists.{Has}
use Rattle.sqlite_rules.specs.Keys.{conflicts, AreConflicts}
use Rattle.sqlite_rules.specs.Calls.{ids_of}
use Rattle.sqlite_rules.proofs.ListLemmas.{all_has, some_from, all_from}
use Rattle.sqlite_rules.proofs.ProbeLemmas.{has_mapped}
use Rattle.sqlite_trees.proofs.ListLemmas.{ascending_from_map}
use Rattle.desk_sql.specs.Schema.{desk_schema, stock_at}
use Rattle.desk_sql.specs.Lists.{numbered_row, IsTableOf, changed}
use Rattle.desk_sql.specs.Rows.{whole, StockRow, stock_columns}
use Rattle.desk_sql.specs.Stock.{is_cell, with_places, put}
use Rattle.desk_sql.specs.Writable.{AreLow}
use Rattle.desk_sql.specs.Meanings.{put_cell_query}
use Rattle.desk_sql.proofs.Writing.{cast_null, target, IsPut}
use Rattle.desk_sql.proofs.Inserting.{cast_int}
use Rattle.desk_sql.proofs.Testing.{truth_is, eq_whole, eq_text, and_true, or_false}
use Rattle.desk_sql.proofs.Rowids.{low_fewer, low_put, low_changed}
use Rattle.desk_sql.proofs.Keyed.{id_of, value_of, value_there, appended, replaced_values}
use Rattle.desk_sql.proofs.Updating.{updated, Changes}
use Rattle.desk_sql.proofs.NewRow.{put_edit}

-- Keys of cells.

-- two rows of one cell have the same key
pub record SameKey (a b : StockRow) : Type 0 where
  pub kind : b.kind ≡ a.kind
  pub supplier : b.supplier ≡ a.supplier
  pub product : b.product ≡ a.product
  pub night : b.night ≡ a.night

pub key_of : (a b : StockRow) → is_cell a b ≡ true → SameKey a b
key_of a b e = search (rules, arith, and_parts, eqb-true, bytes_eq-Decides)

pub cell_of : (a b : StockRow) → SameKey a b → is_cell a b ≡ true
cell_of a b k = search (rules, arith, and_from, eq-eqb, bytes_eq-Decides)

-- two rows of the cell of a third row are of one cell
pub both_cells : (s a b : StockRow) → is_cell s a ≡ true → is_cell s b ≡ true → is_cell a b ≡ true
both_cells s a b e f = search (rules, arith, key_of, cell_of)

-- Rows that are apart.

-- two elements of a list that are apart in neither order are equal
one_element : {X : Type 0} (R : X → X → Type 0) (xs : List X) (x y : X) → IsAscending R xs → Has xs x → Has xs y → ¬ R x y → ¬ R y x → x ≡ y
one_element R [] x y up h g not_xy not_yx = absurd h
one_element R (z ∷ xs) x y up (inl e) (inl f) not_xy not_yx = e ∙ sym f
one_element R (z ∷ xs) x y up (inl e) (inr g) not_xy not_yx = absurd (not_xy (subst (λ w. R w y) (sym e) (all_has _ xs y up.0 g)))
one_element R (z ∷ xs) x y up (inr h) (inl f) not_xy not_yx = absurd (not_yx (subst (λ w. R w x) (sym f) (all_has _ xs x up.0 h)))
one_element R (z ∷ xs) x y up (inr h) (inr g) not_xy not_yx = one_element R xs x y up.1 h g not_xy not_yx

same_changed : {X : Type 0} (p q : X → Bool) (g : X → X) (xs : List X) → ((x : X) → Has xs x → p x ≡ q x) → changed p g xs ≡ changed q g xs
same_changed p q g [] same = refl
same_changed p q g (x ∷ xs) same =
    ap₂ ◌∷◌ (ap (λ b. if b then g x else x) (same x (inl refl))) (same_changed p q g xs (λ y h. same y (inr h)))

has_none : (s : StockRow) (cells : List StockRow) → AllByRecursion (λ c. is_cell s c ≡ false) cells → list_any (is_cell s) cells ≡ false
has_none s [] none = refl
has_none s (c ∷ cells) none = rw none.0 (has_none s cells none.1)

-- Conflicts.

abbrev pub put_params : StockRow → Row
put_params s = whole s.kind ∷ Text s.supplier ∷ Text s.product ∷ whole s.night ∷ whole s.allot ∷ whole s.free ∷ []

-- a row conflicts if it is the cell's
pub conflict_is : (id : ℤ) (s : StockRow) (p : ℤ × StockRow)
    → conflicts (Some target) desk_schema.indexes (stock_at 1) (numbered_row stock_columns (id, s)) (numbered_row stock_columns p) ≡ is_cell s p.1
conflict_is id s p = rw first_key-plain (simp (eq_whole, eq_text) (simp (and_true, or_false)))

pub equal_id : (a b : ℤ) → is_true (binary (Compare Eq Binary) (Int a) (Int b)) ≡ is_eq (int_cmp a b)
unfolding binary
equal_id a b = truth_is _ ∙ ap is_eq (value_cmp-Int a b)

pub id_eq : (a b : ℤ) → is_eq (int_cmp a b) ≡ true → a ≡ b
id_eq a b e = grind (arith, ints, e)

eq_id : (a b : ℤ) → a ≡ b → is_eq (int_cmp a b) ≡ true
eq_id a b e = grind (arith, ints, e)

pub source_is : (rows : List Row) (s : StockRow)
    → with_rowid Chosen rows (cast_row (stock_at 1) (Null ∷ put_params s)) ≡ numbered_row stock_columns (next_rowid rows, s)
source_is rows s = simp (cast_int, cast_null)

module _ (db : Trees) (cells : List StockRow) (it : IsTableOf stock_columns (db 1) cells) (s : StockRow) where
  abbrev pub new_row : Row
  new_row = numbered_row stock_columns (next_rowid (db 1), s)

  -- the edit inserts the row where no row is of the cell, and replaces the row of the cell where there is one
  abbrev pub Sets : Edit → Type 0
  Sets edit =
      (AllByRecursion (λ c. is_cell s c ≡ false) cells × (edit ≡ put_edit (stock_at 1) new_row))
      ⊎ ((q : ℤ × StockRow) × Has it.numbered q × (is_cell s q.1 ≡ true) × (rows : List Row)
      × IsAnswer put_cell_query (overlay db []) (put_params s ++ Int q.0 ∷ shown (stock_at 1) new_row) rows
      × (edit ≡ edit_of db (stock_at 1) (ids_of rows) Given 1 rows))

  -- a row that conflicts is that of a cell, under its rowid
  pub conflict_at : (found : List Row) (x : Row) → AreConflicts (Some target) desk_schema.indexes (stock_at 1) (db 1) new_row found → Has found x
      → (q : ℤ × StockRow) × Has it.numbered q × (is_cell s q.1 ≡ true) × (rowid x ≡ Int q.0)
  conflict_at found x they there =
      let row = they.sound x there in
      let q = has_mapped (numbered_row stock_columns) it.numbered row.0 (subst (λ rs. Has rs row.0) it.rows_are row.1) in (
        q.0,
        q.1,
        sym (conflict_is (next_rowid (db 1)) s q.0) ∙ ap (conflicts (Some target) desk_schema.indexes (stock_at 1) new_row) (sym q.2) ∙ row.2,
        ap rowid row.3 ∙ ap rowid q.2,
      )

  put_is : edit_of db (stock_at 1) [] Given 0 (new_row ∷ []) ≡ put_edit (stock_at 1) new_row
  put_is = simp cast_int

  pub sets : (edit : Edit) → IsPut db (put_params s) put_cell_query new_row edit → Sets edit
  sets edit (found, they, inl (none, is)) = inl (
    all_from (λ c. is_cell s c ≡ false) cells (λ x h. false_from_ne_true (is_cell s x) (λ e.
        let p = has_mapped value_of it.numbered x (subst (λ ys. Has ys x) it.values_are h) in
        let on : is_cell s p.0.1 ≡ true = ap (is_cell s) (sym p.2) ∙ e in
        let bad = they.complete (numbered_row stock_columns p.0) (value_there stock_columns (db 1) cells it p.0 p.1).1
        (conflict_is (next_rowid (db 1)) s p.0 ∙ on) in
        subst (λ rs. Has rs (Int p.0.0 ∷ [])) none bad)),
    is ∙ put_is,
  )
  sets edit (found, they, inr (first, more, several, rows, answer, is)) =
      let q = conflict_at found first they (subst (λ rs. Has rs first) (sym several) (inl refl)) in
      inr (q.0, q.1, q.2, rows, subst (λ v. IsAnswer put_cell_query (overlay db []) (put_params s ++ v ∷ shown (stock_at 1) new_row) rows) q.3 answer, is)

  -- the row under this rowid is given the places
  pub sets_at : (q : ℤ × StockRow) → Changes (numbered_row stock_columns) id_of db (stock_at 1) it.numbered put_cell_query.filter put_cell_query.project
      (put_params s ++ Int q.0 ∷ shown (stock_at 1) new_row) (λ p. is_eq (int_cmp p.0 q.0)) (λ p. (p.0, with_places s p.1))
  sets_at q = search (rules, arith, and_true, equal_id, cast_int)

  -- it is the row of the cell
  one_row : (apart : IsAscending (λ (a b : StockRow). is_cell a b ≡ false) cells) (q : ℤ × StockRow) → Has it.numbered q → is_cell s q.1 ≡ true
      → (p : ℤ × StockRow) → Has it.numbered p → is_eq (int_cmp p.0 q.0) ≡ is_cell s p.1
  one_row apart q there here p h = search
      (rules, arith, cases_Bool, ascending_from_map, one_element, both_cells, eq_id, false_from_ne_true, id_eq, ints)

  -- the cells after the upsert
  pub puts_table : (edit : Edit) → IsAscending (λ (a b : StockRow). is_cell a b ≡ false) cells → Sets edit → are_fresh (left_by db edit) edit.news ≡ true
      → IsTableOf stock_columns (edited db edit) (put s cells)
  puts_table edit apart (inl (none, is)) fresh =
      let no = has_none s cells none in
      rw no (subst (λ (e : Edit). IsTableOf stock_columns (edited db e) (cells ++ s ∷ [])) (sym is) (appended stock_columns (db 1) cells s it))
  puts_table edit apart (inr (q, there, here, rows, asked, is)) fresh =
      let some : list_any (is_cell s) cells ≡ true = some_from (is_cell s) cells q.1 (value_there stock_columns (db 1) cells it q there).0 here in
      let all = updated (sets_at q) rows asked (subst (λ (e : Edit). are_fresh (left_by db e) e.news ≡ true) is fresh) in
      rw some (subst (λ (e : Edit). IsTableOf stock_columns (edited db e) (changed (is_cell s) (with_places s) cells)) (sym is)
      (replaced_values stock_columns (db 1) _ cells (is_cell s) (with_places s) it
      (all ∙ ap (map (numbered_row stock_columns)) (same_changed (λ (p : ℤ × StockRow). is_eq (int_cmp p.0 q.0)) (λ p. is_cell s p.1) (λ p. (p.0, with_places s p.1)) it.numbered
      (one_row apart q there here)))))

  -- they have at most one rowid more
  pub puts_low : (edit : Edit) (n : ℕ) → Sets edit → are_fresh (left_by db edit) edit.news ≡ true → suc n < 2 ^ 63 → AreLow (suc n) (db 1)
      → AreLow n (edited db edit)
  puts_low edit n (inl (none, is)) fresh few low = subst (λ (e : Edit). AreLow n (edited db e)) (sym is) (low_put n (db 1) new_row refl few low)
  puts_low edit n (inr (q, there, here, rows, asked, is)) fresh few low =
      let all = updated (sets_at q) rows asked (subst (λ (e : Edit). are_fresh (left_by db e) e.news ≡ true) is fresh) in
      subst (λ (e : Edit). AreLow n (edited db e)) (sym is) (subst (AreLow n) (sym all)
      (low_changed (numbered_row stock_columns) n (λ (p : ℤ × StockRow). is_eq (int_cmp p.0 q.0)) (λ p. (p.0, with_places s p.1)) (λ _. refl) it.numbered
      (subst (AreLow n) it.rows_are (low_fewer n (suc n) (db 1) (omega arith) low))))

-- The options that hold places of a cell, in their only order, are the answer of their query. For `holders`.
use Rattle.std.proofs.Common.{◌≡◌, inl, inr, ℕ, ℤ, ◌+◌, ◌-◌, ◌<◌, ◌≤◌, ◌^◌, ◌==◌, ◌&&◌, List, [], ◌∷◌, map, Bool, true, false, Some, is_lt, Equal, refl, sym, ap, ◌∙◌, arith, bytes_eq, nat_le, nat_lt}
use Rattle.std.specs.Ordering.{ordering_then}
use Rattle.std.proofs.lemmas.Bool.Decides.{nat_tests}
use Rattle.sqlite.specs.declared.types.Value.TheVariants.{Text}
use Rattle.sqlite.specs.Order.{Row, value_cmp}
use Rattle.sqlite.specs.Query.{Output}
use Rattle.sqlite.specs.State.{State}
use Rattle.sqlite.specs.Listing.{understood}
use Rattle.sqlite.specs.Ops.{binary, is_true}
use Rattle.sqlite_sql.specs.declared.ops.BinaryOp.TheVariants.{Arith, Compare}
use Rattle.sqlite_sql.specs.declared.ops.ArithOp.TheVariants.{Sub}
use Rattle.sqlite_sql.specs.declared.ops.CompareOp.TheVariants.{Gt, Le}
use Rattle.sqlite_value.specs.declared.keys.Collation.TheVariants.{Binary}
use Rattle.sqlite_tied.specs.Compute.{everything}
use Rattle.sqlite_trees.proofs.ListLemmas.{ascending_weaker}
use Rattle.allotment.specs.Cells.{kind_number}
use Rattle.allotment.specs.declared.cells.Cell.{Cell}
use Rattle.desk_sql.specs.declared.versions.Version.{Version}
use Rattle.desk_sql.specs.declared.versions.Version.TheVariants.{One, Two}
use Rattle.desk_sql.specs.FoundRows.{IsByPlace, four_of}
use Rattle.desk_sql.specs.Lists.{numbered_row}
use Rattle.desk_sql.specs.Rows.{whole, StepRow, step_columns}
use Rattle.desk_sql.proofs.Answering.{table_answers}
use Rattle.desk_sql.proofs.Causing.{Takes, one_table}
use Rattle.desk_sql.proofs.Changing.{sub_fewer}
use Rattle.sql_lists.proofs.HandedRows.{IsMeant, IsOnlyAnswer}
use Rattle.sql_lists.proofs.JoinedRows.{map_map}
use Rattle.desk_sql.proofs.Meaning.{MeansEach}
use Rattle.desk_sql.proofs.Ordered.{whole_last, whole_then}
use Rattle.desk_sql.proofs.Reading.{passes}
use Rattle.desk_sql.proofs.Testing.{and_true, eq_text, eq_whole, gt_whole, le_whole}
use Rattle.sql_lists.specs.HolderLists.{IsByStep, ListsHolders, holder_list, holder_of, holder_shown, holder_tests, holders_names, holders_params, holders_query, holders_text, is_night_of, is_row_held}
use Rattle.sql_lists.specs.declared.holders.HolderFound.{HolderFound}

-- The text means the query, and takes its parameters.

holders_means : MeansEach holders_text holders_query holders_names
unfolding understood everything
holders_means One extra = record { is = refl; plain = (refl, refl); unlisted = refl; selects = refl }
holders_means Two extra = record { is = refl; plain = (refl, refl); unlisted = refl; selects = refl }

pub holders_meant : IsMeant holder_list
holders_meant = record {
  names = holders_names;
  means = λ s. holders_means;
  sure = λ s. one_table 8 holder_tests holders_query.project holders_query.order;
}

pub holders_take : (kind night : ℕ) (supplier product : List ℕ) (v : Version)
    → Takes v holders_text holders_query (whole kind ∷ Text supplier ∷ Text product ∷ whole night ∷ [])
unfolding understood everything
holders_take kind night supplier product One extra = record { whole = refl; typed = refl }
holders_take kind night supplier product Two extra = record { whole = refl; typed = refl }

-- The tests.

-- the row's nights have the night: it is not before the first, and fewer nights lie between than the row has
nights_test : (first nights night : ℕ) → night < 2 ^ 63
    → (is_true (binary (Compare Le Binary) (whole first) (whole night))
    && (is_true (binary (Compare Gt Binary) (whole nights) (binary (Arith Sub) (whole night) (whole first))) && true))
    ≡ is_night_of first nights night
nights_test first nights night small =
    ap (λ b. b && (behind && true)) (le_whole first night) ∙ go (nat_le first night) refl
  where
    behind : Bool
    behind = is_true (binary (Compare Gt Binary) (whole nights) (binary (Arith Sub) (whole night) (whole first)))

    low : (a b : ℕ) → nat_le a b ≡ true → a ≤ b
    low a b t = grind (arith, nat_tests)

    same : (a b n : ℕ) → a ≤ b → nat_lt (b - a) n ≡ nat_lt b (a + n)
    same a b n le = grind (arith, nat_tests)

    go : (v : Bool) → nat_le first night ≡ v → (v && (behind && true)) ≡ (v && nat_lt night (first + nights))
    go false e = refl
    go true e =
        and_true behind
        ∙ ap (λ v. is_true (binary (Compare Gt Binary) (whole nights) v)) (sub_fewer night first (low first night e) small)
        ∙ gt_whole nights (night - first) ∙ same first night nights (low first night e)

module _ (x : Cell) (small : x.night < 2 ^ 63) where
  test_is : (p : ℤ × StepRow) → passes holder_tests (holders_params x) (numbered_row step_columns p) ≡ is_row_held x p.1
  test_is p =
      let s = p.1 in
      simp (eq_whole, eq_text)
      (ap (λ b. (s.taken == 1) && ((s.kind == kind_number x.kind) && (bytes_eq s.supplier x.supplier && (bytes_eq s.product x.product && b))))
      (nights_test s.night s.nights x.night small))

  -- The order.

  -- the output of the query for a row
  abbrev row_out : StepRow → Output
  row_out s = (whole s.journey ∷ whole s.place ∷ whole s.opt ∷ [], holder_shown (holder_of s))

  by_place : (a b : StepRow)
      → is_lt (ordering_then (value_cmp (whole b.place) (whole a.place)) (ordering_then (value_cmp (whole b.opt) (whole a.opt)) Equal)) ≡ false
      → IsByPlace a b
  by_place a b e = elim (whole_then a.place b.place (ordering_then (value_cmp (whole b.opt) (whole a.opt)) Equal) e) [
    | inl low ↦ inl low
    | inr tied ↦ inr (tied.0, whole_last a.opt b.opt tied.1)
  ]

  by_step : (a b : StepRow)
      → is_lt (ordering_then (value_cmp (whole b.journey) (whole a.journey))
      (ordering_then (value_cmp (whole b.place) (whole a.place)) (ordering_then (value_cmp (whole b.opt) (whole a.opt)) Equal))) ≡ false
      → IsByStep a b
  by_step a b e = elim
      (whole_then a.journey b.journey
      (ordering_then (value_cmp (whole b.place) (whole a.place)) (ordering_then (value_cmp (whole b.opt) (whole a.opt)) Equal)) e) [
        | inl low ↦ inl low
        | inr tied ↦ inr (tied.0, by_place a b tied.1)
      ]

  -- the options, in their only order, are the answer
  pub holders_only : (seen : State) → IsOnlyAnswer holder_list tt (holders_params x) (ListsHolders x) seen
  holders_only seen v t sees later (listed, one, are) rows a =
      let it = table_answers 8 holder_tests holders_query.project holders_query.order seen.now.trees
      (holders_params x) rows a refl step_columns t.step sees.rows.step row_out
      (λ _. refl) (is_row_held x) test_is in
      let values : it.values ≡ listed = one it.values (record {
        same = it.same;
        rising = ascending_weaker _ _ (λ a b up. by_step a b up) it.values it.rising;
      }) in
      let shown : rows ≡ map (λ (s : StepRow). holder_shown (holder_of s)) it.values = it.rows_are in
      shown ∙ ap (map (λ (s : StepRow). holder_shown (holder_of s))) values ∙ sym (map_map holder_of holder_shown _ (λ r. refl) listed) ∙ ap (map holder_shown) (sym are)

-- the option that was read of a row is the one that the row shows
pub holder_back : (row : Row) (f h : HolderFound) → holder_shown f ≡ four_of row → row ≡ holder_shown h → Some f ≡ Some h
holder_back row f h read is = let e : holder_shown f ≡ holder_shown h = read ∙ ap four_of is in grind arith

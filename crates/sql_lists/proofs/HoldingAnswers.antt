-- The holders of the cells that a filter lets through, night by night, are the answer of their query. For `holdings`.
use Rattle.std.proofs.Common.{◌≡◌, ℕ, ℤ, pos, ◌+◌, ◌+ℤ◌, ◌<◌, ◌^◌, ◌==◌, ◌&&◌, List, [], ◌∷◌, map, Bool, true, false, is_lt, Ordering, Option, None, Some, refl, sym, ap, ap₂, subst, ◌∙◌, arith, bytes_eq, nat_le, nat_lt, eq-eqb}
use Rattle.std.specs.List.{list_all}
use Rattle.std.specs.Ordering.{int_cmp, nat_cmp, ordering_then}
use Rattle.std.specs.Cmp.Lexicographic.{slice_cmp}
use Rattle.std.proofs.lemmas.Int.{ints}
use Rattle.std.proofs.lemmas.Bool.{and_parts, and_right, eqb-true}
use Rattle.std.proofs.lemmas.Bool.Decides.{nat_tests}
use Rattle.std.proofs.lemmas.Slice.Eq.{bytes_eq-Decides}
use Rattle.sqlite.specs.declared.types.Value.TheVariants.{Text}
use Rattle.sqlite.specs.Order.{Row}
use Rattle.sqlite.specs.Term.{holds}
use Rattle.sqlite.specs.Query.{Output, output_cmp}
use Rattle.sqlite.specs.State.{State}
use Rattle.sqlite.specs.Listing.{understood}
use Rattle.sqlite.specs.Ops.{binary, fits_i64, is_true, unary}
use Rattle.sqlite_sql.specs.declared.ops.UnaryOp.TheVariants.{ToNumeric}
use Rattle.sqlite_sql.specs.declared.ops.BinaryOp.TheVariants.{Arith, Coalesce, Compare}
use Rattle.sqlite_sql.specs.declared.ops.ArithOp.TheVariants.{Add}
use Rattle.sqlite_sql.specs.declared.ops.CompareOp.TheVariants.{Eq, Ge, Le, Lt}
use Rattle.sqlite_value.specs.declared.keys.Collation.TheVariants.{Binary}
use Rattle.sqlite_value.proofs.OrderLemmas.{value_cmp-Int, value_cmp-Text, then-Equal}
use Rattle.sqlite_tied.specs.Compute.{everything}
use Rattle.sqlite_trees.proofs.ListLemmas.{ascending_weaker}
use Rattle.allotment.specs.Cells.{kind_number}
use Rattle.allotment.specs.declared.codes.Kind.{Kind}
use Rattle.saga_core.specs.CellFilters.{is_from, is_kind_asked, is_name_asked, is_night_asked, is_to}
use Rattle.saga_core.specs.declared.cell_filters.CellFilter.{CellFilter}
use Rattle.desk_sql.specs.declared.versions.Version.{Version}
use Rattle.desk_sql.specs.declared.versions.Version.TheVariants.{One, Two}
use Rattle.desk_sql.specs.FoundRows.{ten_of}
use Rattle.desk_sql.specs.Lists.{numbered_row}
use Rattle.desk_sql.specs.Rows.{whole, JourneyRow, StepRow, StockRow, journey_row, step_columns, stock_columns}
use Rattle.desk_sql.proofs.Causing.{Takes}
use Rattle.desk_sql.proofs.Meaning.{MeansEach}
use Rattle.desk_sql.proofs.Testing.{and_true, eq_text, eq_whole, ge_whole, le_whole, truth_is}
use Rattle.sql_lists.specs.HolderLists.{is_night_of}
use Rattle.sql_lists.specs.HoldingLists.{HoldingRow, Joined, ListsHoldings, holding_found, holding_list, holding_of, holding_shown, holding_tests, holdings_names, holdings_params, holdings_query, holdings_text, is_held_in, is_joined, is_stock_asked, joined_cmp, kind_param, step_cmp, name_param, night_param, shows_holding}
use Rattle.sql_lists.specs.declared.holdings.HoldingFound.{HoldingFound}
use Rattle.sql_lists.proofs.HandedCells.{number_cmp}
use Rattle.sql_lists.proofs.HandedRows.{IsMeant, IsOnlyAnswer}
use Rattle.sql_lists.proofs.HoldingTypes.{holdings_typed}
use Rattle.sql_lists.proofs.JoinedRows.{holdings_sure, joined_answers, map_map}

-- The text means the query, and takes its parameters.

holdings_means : MeansEach holdings_text holdings_query holdings_names
unfolding understood everything
holdings_means One extra = record { is = refl; plain = (refl, refl); unlisted = refl; selects = refl }
holdings_means Two extra = record { is = refl; plain = (refl, refl); unlisted = refl; selects = refl }

pub holdings_meant : IsMeant holding_list
holdings_meant = record { names = holdings_names; means = λ s. holdings_means; sure = λ s. holdings_sure }

pub holdings_take : (kind : Option Kind) (supplier product : Option (List ℕ)) (first last : Option ℕ) (v : Version)
    → Takes v holdings_text holdings_query
    (kind_param kind ∷ name_param supplier ∷ name_param product ∷ night_param first ∷ night_param last ∷ [])
unfolding understood everything
holdings_take kind supplier product first last One extra = record { whole = refl; typed = holdings_typed One kind supplier product first last extra }
holdings_take kind supplier product first last Two extra = record { whole = refl; typed = holdings_typed Two kind supplier product first last extra }

-- The tests.

kind_test : (asked : Option Kind) (n : ℕ)
    → is_true (binary (Compare Eq Binary) (whole n) (unary ToNumeric (binary Coalesce (kind_param asked) (whole n)))) ≡ is_kind_asked asked n
unfolding binary unary
kind_test None n = eq_whole n n ∙ eq-eqb n n refl
kind_test (Some kind) n = eq_whole n (kind_number kind)

name_test : (asked : Option (List ℕ)) (name : List ℕ)
    → is_true (binary (Compare Eq Binary) (Text name) (binary Coalesce (name_param asked) (Text name))) ≡ is_name_asked asked name
unfolding binary
name_test None name = eq_text name name ∙ (bytes_eq-Decides name name).1 refl
name_test (Some asked) name = eq_text name asked

same_low : (n : ℕ) → nat_le n n ≡ true
same_low n = grind (arith, nat_tests)

from_test : (first : Option ℕ) (n : ℕ)
    → is_true (binary (Compare Ge Binary) (whole n) (unary ToNumeric (binary Coalesce (night_param first) (whole n)))) ≡ is_from first n
unfolding binary unary
from_test None n = ge_whole n n ∙ same_low n
from_test (Some first) n = ge_whole n first

to_test : (last : Option ℕ) (n : ℕ)
    → is_true (binary (Compare Le Binary) (whole n) (unary ToNumeric (binary Coalesce (night_param last) (whole n)))) ≡ is_to last n
unfolding binary unary
to_test None n = le_whole n n ∙ same_low n
to_test (Some last) n = le_whole n last

-- that the option was taken is tested first, and stands after the tests of what the filter names
taken_later : (taken asked rest : Bool) → (taken && (asked && rest)) ≡ (asked && (taken && rest))
taken_later taken asked rest = grind arith

-- two tests in the place of one another, since they agree where the next one is passed
where_passed : (a b next rest : Bool) → (next ≡ true → a ≡ b) → (a && (next && rest)) ≡ (b && (next && rest))
where_passed a b true rest alike = ap (λ it. it && rest) (alike refl)
where_passed a b false rest alike = and_right a false refl ∙ sym (and_right b false refl)

-- tests in a row are those of what the filter names, and the others
five_apart : (a b c d e rest : Bool) → (a && (b && (c && (d && (e && rest))))) ≡ ((a && (b && (c && (d && e)))) && rest)
five_apart a b c d e rest = grind arith

-- and of these, those of the option, and the others
six_apart : (a b c d e f rest : Bool)
    → (a && (b && (c && (d && (e && (f && rest)))))) ≡ ((a && (b && (c && (d && (e && (f && true)))))) && rest)
six_apart a b c d e f rest = grind arith

-- The order.

-- the output of the query for rows that pass together
abbrev joined_out : Joined → Output
joined_out r = (
  whole r.cell.night ∷ whole r.cell.kind ∷ Text r.cell.supplier ∷ Text r.cell.product ∷ whole r.step.journey
      ∷ whole r.step.place ∷ whole r.step.opt ∷ [],
  holding_shown (holding_of r),
)

-- four comparisons before the rest
four_first : (a b c d rest : Ordering)
    → ordering_then a (ordering_then b (ordering_then c (ordering_then d rest)))
    ≡ ordering_then (ordering_then a (ordering_then b (ordering_then c d))) rest
four_first a b c d rest = grind arith

-- the order of the query is that of the rows
order_is : (a b : Joined) → output_cmp holdings_query (joined_out a) (joined_out b) ≡ joined_cmp a b
order_is a b =
    simp (number_cmp, value_cmp-Text, then-Equal)
    (four_first (nat_cmp a.cell.night b.cell.night) (nat_cmp a.cell.kind b.cell.kind) (slice_cmp nat_cmp a.cell.supplier b.cell.supplier)
    (slice_cmp nat_cmp a.cell.product b.cell.product) (step_cmp a.step b.step))

-- the nights of an option, as the store counts them
abbrev IsSmall : StepRow → Type 0
IsSmall s = s.night + s.nights < 2 ^ 63

fits : (n : ℕ) → n < 2 ^ 63 → fits_i64 (pos n) ≡ true
fits n low = grind (arith, ints, nat_tests)

int_plus : (a b : ℕ) → pos a +ℤ pos b ≡ pos (a + b)
int_plus a b = omega (arith, ints)

sum_is : (a b : ℕ) → a + b < 2 ^ 63 → binary (Arith Add) (whole a) (whole b) ≡ whole (a + b)
unfolding binary
sum_is a b low = rw (int_plus a b, fits (a + b) low) refl

int_lt : (a b : ℕ) → is_lt (int_cmp (pos a) (pos b)) ≡ nat_lt a b
int_lt a b = grind (arith, ints, nat_tests)

lt_whole : (a b : ℕ) → is_true (binary (Compare Lt Binary) (whole a) (whole b)) ≡ nat_lt a b
unfolding binary
lt_whole a b = truth_is _ ∙ ap is_lt (value_cmp-Int (pos a) (pos b)) ∙ int_lt a b

night_test : (first nights night : ℕ) → first + nights < 2 ^ 63
    → is_true (binary (Compare Lt Binary) (whole night) (binary (Arith Add) (whole first) (whole nights))) ≡ nat_lt night (first + nights)
night_test first nights night low =
    ap (λ v. is_true (binary (Compare Lt Binary) (whole night) v)) (sum_is first nights low) ∙ lt_whole night (first + nights)

module _ (f : CellFilter) where
  -- the kind, supplier and product of an option, and the night of a cell, are those that the filter names
  abbrev is_option_asked : StockRow → StepRow → Bool
  is_option_asked c s =
      is_kind_asked f.kind s.kind
      && (is_name_asked f.supplier s.supplier
      && (is_name_asked f.product s.product && is_night_asked f.from f.to c.night))

  -- where the option's want has the cell, its kind, supplier and product are those of the cell
  asked_alike : (c : StockRow) (s : StepRow) → is_held_in c s ≡ true → is_option_asked c s ≡ is_stock_asked f c
  asked_alike c s held =
      let nights = is_night_of s.night s.nights c.night in
      let product = bytes_eq s.product c.product && nights in
      let supplier = bytes_eq s.supplier c.supplier && product in
      let at_kind = and_parts (s.kind == c.kind) supplier (and_parts (s.taken == 1) ((s.kind == c.kind) && supplier) held).1 in
      let at_supplier = and_parts (bytes_eq s.supplier c.supplier) product at_kind.1 in
      let at_product = and_parts (bytes_eq s.product c.product) nights at_supplier.1 in
      rw (
        eqb-true s.kind c.kind at_kind.0,
        (bytes_eq-Decides s.supplier c.supplier).0 at_supplier.0,
        (bytes_eq-Decides s.product c.product).0 at_product.0,
      ) refl

  test_is : (p : ℤ × StockRow) (r : ℤ × StepRow) → IsSmall r.1 → (j : JourneyRow)
      → list_all (holds (holdings_params f ∷ numbered_row stock_columns p ∷ numbered_row step_columns r ∷ journey_row j ∷ [])) holding_tests
      ≡ is_joined f p.1 r.1 j
  test_is p r small j =
      let c = p.1 in
      let s = r.1 in
      let own = j.id == s.journey in
      simp (kind_test, name_test, from_test, to_test, eq_whole, eq_text, le_whole, night_test s.night s.nights c.night small)
      (ap (λ b. (s.taken == 1) && b)
      (five_apart (is_kind_asked f.kind s.kind) (is_name_asked f.supplier s.supplier) (is_name_asked f.product s.product)
      (is_from f.from c.night) (is_to f.to c.night) _)
      ∙ taken_later (s.taken == 1) (is_option_asked c s) _
      ∙ ap (λ b. is_option_asked c s && b)
      (six_apart (s.taken == 1) (s.kind == c.kind) (bytes_eq s.supplier c.supplier) (bytes_eq s.product c.product)
      (nat_le s.night c.night) (nat_lt c.night (s.night + s.nights)) (own && true)
      ∙ ap₂ (λ a b. a && b)
      (ap (λ n. (s.taken == 1) && ((s.kind == c.kind) && (bytes_eq s.supplier c.supplier && (bytes_eq s.product c.product && (nat_le s.night c.night && n)))))
      (and_true (nat_lt c.night (s.night + s.nights))))
      (and_true own))
      ∙ where_passed (is_option_asked c s) (is_stock_asked f c) (is_held_in c s) own (asked_alike c s))

  -- the rows, in their only order, are the answer
  pub holdings_only : (seen : State) → IsOnlyAnswer holding_list tt (holdings_params f) (ListsHoldings f) seen
  holdings_only seen v t sees later (listed, one, are, small) rows a =
      let it = joined_answers (holdings_params f) (is_joined f) joined_out IsSmall test_is (λ p r j. refl) seen.now.trees t.stock t.step t.journey
      sees.rows.stock sees.rows.step sees.rows.journey small rows a in
      let values : it.values ≡ listed = one it.values (record {
        same = it.same;
        rising = ascending_weaker _ _ (λ a b up. subst (λ o. is_lt o ≡ false) (order_is b a) up) it.values it.rising;
      }) in
      let shown : rows ≡ map (λ (r : Joined). holding_shown (holding_of r)) it.values = it.rows_are in
      shown ∙ ap (map (λ (r : Joined). holding_shown (holding_of r))) values ∙ sym (map_map holding_of holding_shown _ (λ r. refl) listed) ∙ ap (map holding_shown) (sym are)

-- the row that was read is the one that is shown
pub holding_back : (row : Row) (h : HoldingFound) (x : HoldingRow) → shows_holding h ≡ ten_of row → row ≡ holding_shown x
    → Some (holding_found h) ≡ Some x
holding_back row h x read is = let e : shows_holding h ≡ holding_shown x = read ∙ ap ten_of is in grind arith

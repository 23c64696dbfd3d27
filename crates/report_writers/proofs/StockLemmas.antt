-- The cells that are asked for, kind after kind, are those that are asked for; and their report in its parts. For `write_stock`
-- and `write_kinds`.
use Rattle.std.proofs.Common.{◌≡◌, ℕ, suc, ◌+◌, ◌<◌, ◌≤◌, ◌==◌, ◌&&◌, List, [], ◌∷◌, ◌++◌, filter, cond, length, Bool, true, false, Option, Ordering, is_lt, nat_cmp, refl, sym, ap, ap₂, ◌∙◌, arith, eqb-true, codes, nat_le, IsErr, IsErrOf, Result, Ok, rules, subst, Err}
use Rattle.std.specs.List.{AllByRecursion, flat_map}
use Rattle.std.specs.Ordering.{ordering_then}
use Rattle.std.specs.Io.KnownBytes.{Appends}
use Rattle.std.proofs.lemmas.Bool.{and_parts}
use Rattle.std.proofs.lemmas.Bool.Decides.{nat_tests}
use Rattle.std.proofs.lemmas.Grind.{flat_map-append}
use Rattle.std.proofs.lemmas.List.{append-nil, length-append}
use Rattle.sqlite_rules.proofs.ListLemmas.{all_from, test_has}
use Rattle.sqlite_keyed.proofs.ListLemmas.{filter_same}
use Rattle.sqlite_trees.specs.Tree.{IsAscending}
use Rattle.allotment.specs.Cells.{kind_number}
use Rattle.allotment.specs.declared.cells.Cell.{Cell}
use Rattle.allotment.specs.declared.codes.Kind.{Kind}
use Rattle.allotment.specs.declared.codes.Kind.TheVariants.{Flight, Room, Transfer, Cover}
use Rattle.allotment.specs.declared.places.Held.{Held as Places}
use Rattle.saga_core.specs.CellFilters.{is_cell_asked, is_cell_of, is_kind_asked, is_name_asked, is_night_asked}
use Rattle.saga_core.specs.declared.cell_filters.CellFilter.{CellFilter}
use Rattle.reports.specs.Formats.{last_line, stock_head, stock_in, stock_row}
use Rattle.saga_core.specs.declared.report.Format.{Format}
use Rattle.reports.proofs.FrontLemmas.{front_after, front_before, front_whole}
use Rattle.saga_core.specs.Views.{are_in_order}
use Rattle.saga_core.specs.Written.{WroteFront}
use Rattle.saga_core.proofs.ByteLemmas.{appends_more}
use Rattle.reports.specs.Writing.{Wrote}
use Rattle.reports.specs.declared.faults.ReportFault.{ReportFault}
use Rattle.reports.specs.declared.faults.ReportFault.TheVariants.{Store}
use Rattle.sqlite.specs.Store.{Ghosts}
use Rattle.sqlite.specs.Held.{Held}
use Rattle.report_kinds.specs.Texts.{asked_cells}
use Rattle.report_writers.specs.Writing.{cells_of_kind, ShowsCells, WritesCells}
use Rattle.report_writers.proofs.ShowLemmas.{in_as, in_then}

-- Kinds.

-- the cells of the list are in order of their kinds
by_kind : (a b : ℕ) (rest : Ordering) → is_lt (ordering_then (nat_cmp a b) rest) ≡ true → a ≤ b
by_kind a b rest e = search (rules, arith, nat_tests)

abbrev key : Cell × Places → ℕ
key r = kind_number r.0.kind

kinds_rise : (rows : List (Cell × Places)) → are_in_order rows ≡ true → IsAscending (λ (a b : Cell × Places). key a ≤ key b) rows
kinds_rise [] e = tt
kinds_rise (r ∷ later) e = grind (arith, and_parts, all_from, test_has, by_kind, kinds_rise later)

and_false : (b : Bool) → (b && false) ≡ false
and_false b = search (rules, arith)

and_true : (b : Bool) → (b && true) ≡ b
and_true b = search (rules, arith)

module _ (p : Cell × Places → Bool) where
  -- those of a kind's number, and those from it on
  abbrev of_kind : ℕ → Cell × Places → Bool
  of_kind n r = p r && (key r == n)

  abbrev from : ℕ → Cell × Places → Bool
  from n r = p r && nat_le n (key r)

  none_of : (n : ℕ) (rows : List (Cell × Places)) → AllByRecursion (λ (r : Cell × Places). n < key r) rows → filter (of_kind n) rows ≡ []
  none_of n [] all = refl
  none_of n (r ∷ rows) all = grind (arith, nat_tests, none_of n rows all.1)

  all_above : (n : ℕ) (r : Cell × Places) (rows : List (Cell × Places)) → n < key r
      → AllByRecursion (λ (s : Cell × Places). key r ≤ key s) rows → AllByRecursion (λ (s : Cell × Places). n < key s) rows
  all_above n r [] low all = tt
  all_above n r (s ∷ rows) low all = grind (arith, all_above n r rows low all.1)

  split : (n : ℕ) (rows : List (Cell × Places)) → IsAscending (λ (a b : Cell × Places). key a ≤ key b) rows
      → filter (from n) rows ≡ filter (of_kind n) rows ++ filter (from (suc n)) rows
  split n [] up = refl
  split n (r ∷ rows) up =
      let none = λ (high : n < key r). none_of n rows (all_above n r rows high up.0) in grind (arith, nat_tests, none, split n rows up.1)

  all_from_none : (r : Cell × Places) → p r ≡ from 0 r
  all_from_none r = sym (ap (λ b. p r && b) (let e : nat_le 0 (key r) ≡ true = grind (arith, nat_tests) in e) ∙ and_true (p r))

  none_from_four : (rows : List (Cell × Places)) → filter (from 4) rows ≡ []
  none_from_four [] = refl
  none_from_four (r ∷ rows) = grind (arith, nat_tests, none_from_four rows)

-- the cells that are asked for are those of the four kinds, one after another
pub by_kinds : (f : CellFilter) (rows : List (Cell × Places)) → are_in_order rows ≡ true → asked_cells f rows
    ≡ cells_of_kind Flight f rows ++ (cells_of_kind Room f rows ++ (cells_of_kind Transfer f rows ++ cells_of_kind Cover f rows))
by_kinds f rows order =
    let p : Cell × Places → Bool = λ r. is_cell_asked f r.0 in
    let up = kinds_rise rows order in
    filter_same p (from p 0) (all_from_none p) rows
    ∙ split p 0 rows up
    ∙ ap (λ more. filter (of_kind p 0) rows ++ more) (split p 1 rows up
    ∙ ap (λ more. filter (of_kind p 1) rows ++ more) (split p 2 rows up
    ∙ ap (λ more. filter (of_kind p 2) rows ++ more) (split p 3 rows up
    ∙ ap (λ more. filter (of_kind p 3) rows ++ more) (none_from_four p rows) ∙ append-nil _)))

-- The report in its parts: the head, the lines of its cells, the ending.

module _ (format : Format) (cells : List (Cell × Places)) where
  abbrev lines : List ℕ
  lines = flat_map (stock_row format) cells

  abbrev ending : List ℕ
  ending = last_line format (codes "cells") (length cells)

  pub head_front : (held now : Option (List ℕ)) → WroteFront held now (stock_head format) → WroteFront held now (stock_in format cells)
  head_front held now front =
      front_before held now (stock_head format ++ lines) ending (front_before held now (stock_head format) lines front)

  module _ (held mid : Option (List ℕ)) (sent : Appends held mid (stock_head format)) where
    pub lines_front : (now : Option (List ℕ)) → WroteFront mid now lines → WroteFront held now (stock_in format cells)
    lines_front now front =
        front_before held now (stock_head format ++ lines) ending (front_after held mid now (stock_head format) lines sent front)

    pub ending_front : (late now : Option (List ℕ)) → Appends mid late lines → WroteFront late now ending → WroteFront held now (stock_in format cells)
    ending_front late now wrote front =
        front_after held late now (stock_head format ++ lines) ending (appends_more held mid late (stock_head format) lines sent wrote) front

    pub all_written : (late now : Option (List ℕ)) → Appends mid late lines → Appends late now ending → Appends held now (stock_in format cells)
    all_written late now wrote ended =
        appends_more held late now (stock_head format ++ lines) ending (appends_more held mid late (stock_head format) lines sent wrote) ended

-- Lines that are written one list of cells after another.

-- cells that were written are counted after those before
pub counted_after : {held holds : Option (List ℕ)} {format : Format} {cells : List (Cell × Places)} {count all : ℕ} (before : ℕ)
    → Wrote held holds (flat_map (stock_row format) cells) (length cells) (Ok count) → all ≡ before + count
    → WritesCells held holds format cells before (Ok all)
counted_after {cells = cells} {count} {all} before wrote sum = record {
  whole = wrote.written;
  front = wrote.front;
  counted = (let many : count ≡ length cells = wrote.number in let e : all ≡ length cells + before = omega (arith, sum, many) in e);
}

module _ (held half holds : Option (List ℕ)) (format : Format) (xs ys : List (Cell × Places)) (before between : ℕ) where
  writes_both : (result : Result ℕ ReportFault) → WritesCells held half format xs before (Ok between)
      → WritesCells half holds format ys between result → WritesCells held holds format (xs ++ ys) before result
  writes_both (Err fault) one two = record {
    whole = tt;
    front = subst (WroteFront held holds) (sym (flat_map-append (stock_row format) xs ys))
        (front_after held half holds (flat_map (stock_row format) xs) (flat_map (stock_row format) ys) one.whole two.front);
    counted = tt;
  }
  writes_both (Ok after) one two =
      let all : Appends held holds (flat_map (stock_row format) (xs ++ ys)) =
      subst (Appends held holds) (sym (flat_map-append (stock_row format) xs ys))
      (appends_more held half holds (flat_map (stock_row format) xs) (flat_map (stock_row format) ys) one.whole two.whole) in
      record {
        whole = all;
        front = front_whole held holds _ all;
        counted = (let first : between ≡ length xs + before = one.counted in
            let second : after ≡ length ys + between = two.counted in
            let e : after ≡ length (xs ++ ys) + before = omega (arith, first, second, length-append xs ys) in e);
      }

-- a fault came: a prefix of the lines was written
pub writes_less : (held holds : Option (List ℕ)) (format : Format) (cells : List (Cell × Places)) (before : ℕ) (result : Result ℕ ReportFault)
    → IsErr result → WroteFront held holds (flat_map (stock_row format) cells) → WritesCells held holds format cells before result
writes_less held holds format cells before result failed front = search (rules, arith)

module _ {S : Type 0} (g : Ghosts S) (format : Format) where
  -- one more list of cells was shown
  pub shows_both : {old mid new : Held S} {held half holds : Option (List ℕ)} {one two : List (Cell × Places) → List (Cell × Places)}
      {before between : ℕ} {result : Result ℕ ReportFault}
      → ShowsCells g old mid held half format one before (Ok between) → ShowsCells g mid new half holds format two between result
      → ShowsCells g old new held holds format (λ all. one all ++ two all) before result
  shows_both {held = held} {half} {holds} {one} {two} {before} {between} {result} first second v =
      in_then g (first v) (second v) (λ s desk fits told. tt) (λ fails. fails) (λ s desk fits wrote more all stock.
      writes_both held half holds format (one all) (two all) before between result (wrote all stock) (more all stock))

  -- a fault came before the next one
  pub shows_less : {old new : Held S} {held holds : Option (List ℕ)} {one : List (Cell × Places) → List (Cell × Places)}
      {before : ℕ} {result : Result ℕ ReportFault} (two : List (Cell × Places) → List (Cell × Places))
      (after : Result ℕ ReportFault) → IsErr after → (IsErrOf after Store → IsErrOf result Store)
      → ShowsCells g old new held holds format one before result
      → ShowsCells g old new held holds format (λ all. one all ++ two all) before after
  shows_less {held = held} {holds} {one} {before} {result} two after failed same first v =
      in_as g (first v) (λ s fits. tt) same (λ s desk fits wrote all stock.
      writes_less held holds format (one all ++ two all) before after failed
      (subst (WroteFront held holds) (sym (flat_map-append (stock_row format) (one all) (two all)))
      (front_before held holds (flat_map (stock_row format) (one all)) (flat_map (stock_row format) (two all)) (wrote all stock).front)))

  -- those of the four kinds are those that are asked for
  pub shows_asked : {old new : Held S} {held holds : Option (List ℕ)} {before : ℕ} {result : Result ℕ ReportFault}
      (f : CellFilter) → ShowsCells g old new held holds format
      (λ all. cells_of_kind Flight f all ++ (cells_of_kind Room f all ++ (cells_of_kind Transfer f all ++ cells_of_kind Cover f all))) before result
      → ShowsCells g old new held holds format (asked_cells f) before result
  shows_asked {held = held} {holds} {before} {result} f shows v =
      in_as g (shows v) (λ s fits. tt) (λ fails. fails) (λ s desk fits wrote all stock.
      subst (λ cells. WritesCells held holds format cells before result) (sym (by_kinds f all stock.in_order)) (wrote all stock))

-- The cells of one kind.

-- a cell is of the kind and asked for where it is of the kind, the kind is asked for, and its other values are
kind_same : (kind : Kind) (f : CellFilter) (x : Cell) (b : Bool) → (kind_number x.kind == kind_number kind) ≡ b
    → (is_cell_asked f x && b) ≡ (is_kind_asked f.kind (kind_number kind)
    && (b && (is_name_asked f.supplier x.supplier && (is_name_asked f.product x.product && is_night_asked f.from f.to x.night))))
kind_same kind f x b e = search (rules, arith, eqb-true, and_true, and_false)

each_same : (kind : Kind) (f : CellFilter) (r : Cell × Places)
    → (is_cell_asked f r.0 && (kind_number r.0.kind == kind_number kind)) ≡ (is_kind_asked f.kind (kind_number kind) && is_cell_of kind f r.0)
each_same kind f r = kind_same kind f r.0 (kind_number r.0.kind == kind_number kind) refl

-- the kind is asked for
pub kind_asked : (kind : Kind) (f : CellFilter) (rows : List (Cell × Places)) → is_kind_asked f.kind (kind_number kind) ≡ true
    → cells_of_kind kind f rows ≡ filter (λ (r : Cell × Places). is_cell_of kind f r.0) rows
kind_asked kind f rows e =
    filter_same _ (λ (r : Cell × Places). is_cell_of kind f r.0)
    (λ r. each_same kind f r ∙ ap (λ b. b && is_cell_of kind f r.0) e) rows

-- it is not: there is no such cell
pub kind_passed : (kind : Kind) (f : CellFilter) (rows : List (Cell × Places)) → is_kind_asked f.kind (kind_number kind) ≡ false
    → cells_of_kind kind f rows ≡ []
kind_passed kind f [] e = refl
kind_passed kind f (r ∷ rows) e = grind (arith, each_same kind f r, kind_passed kind f rows e)

-- each cell is asked for
pub asked_all : (f : CellFilter) (rows : List (Cell × Places)) → ((cell : Cell) → is_cell_asked f cell ≡ true) → asked_cells f rows ≡ rows
asked_all f [] each = refl
asked_all f (r ∷ rows) each = ap₂ (λ b more. cond b (r ∷ more) more) (each r.0) (asked_all f rows each)

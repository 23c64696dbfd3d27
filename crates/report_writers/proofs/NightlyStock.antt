-- The cells of a stock, night by night, and their order then. For the rows of the holders of cells.
use Rattle.std.proofs.Common.{◌≡◌, inl, inr, ◌<◌, ◌≤◌, List, [], ◌∷◌, map, if◌then◌else◌, true, Ordering, Equal, is_lt, refl, sym, ap, subst, ◌∙◌, arith, eqb-true, nat_le, nat_cmp}
use Rattle.std.specs.List.{AllByRecursion}
use Rattle.std.specs.Ordering.{ordering_then}
use Rattle.std.specs.Cmp.Lexicographic.{slice_cmp}
use Rattle.std.proofs.lemmas.Bool.{cases_Bool, leb-true}
use Rattle.std.proofs.lemmas.Bool.Decides.{nat_tests}
use Rattle.sqlite_trees.specs.Tree.{IsAscending}
use Rattle.sqlite_rules.specs.Lists.{Has}
use Rattle.sqlite_rules.proofs.ListLemmas.{all_from, all_has}
use Rattle.allotment.specs.Cells.{kind_number}
use Rattle.allotment.specs.declared.cells.Cell.{Cell}
use Rattle.allotment.specs.declared.places.Held.{Held}
use Rattle.desk_sql.specs.Stock.{cell_cmp as stock_cmp}
use Rattle.sql_model.specs.Reading.{stock_row_of}
use Rattle.reports.specs.Holdings.{by_night, put_by_night}
use Rattle.report_writers.proofs.NightOrder.{IsNightBefore, number_less, number_same}

-- a cell with its places
abbrev pub Listed : Type 0
Listed = Cell × Held

-- the cell put before the first of no earlier night
abbrev pub put : Listed → List Listed → List Listed
put x [] = x ∷ []
put x (y ∷ later) = if nat_le x.0.night y.0.night then x ∷ y ∷ later else y ∷ put x later

-- the cells by their nights, those of a night in the order that they had
abbrev pub nightly : List Listed → List Listed
nightly [] = []
nightly (x ∷ later) = put x (nightly later)

-- the cells alone are put so too
put_same : (x : Listed) (ys : List Listed) → map (λ (r : Listed). r.0) (put x ys) ≡ put_by_night x.0 (map (λ (r : Listed). r.0) ys)
put_same x [] = refl
put_same x (y ∷ later) = grind (arith, put_same x later)

-- the cells alone are those that the report names, in its order
pub nightly_same : (xs : List Listed) → map (λ (r : Listed). r.0) (nightly xs) ≡ by_night (map (λ (r : Listed). r.0) xs)
nightly_same [] = refl
nightly_same (x ∷ later) = put_same x (nightly later) ∙ ap (put_by_night x.0) (nightly_same later)

-- what is there after a cell was put is that cell, or was there
has_put : (x : Listed) (ys : List Listed) (z : Listed) → Has (put x ys) z → Has (x ∷ ys) z
has_put x [] z h = h
has_put x (y ∷ later) z h = grind (arith, has_put x later z)

-- and the other way round
put_has : (x : Listed) (ys : List Listed) (z : Listed) → Has (x ∷ ys) z → Has (put x ys) z
put_has x [] z h = h
put_has x (y ∷ later) z h = grind (arith, put_has x later z)

-- sorting by nights adds no cell
pub has_nightly : (xs : List Listed) (z : Listed) → Has (nightly xs) z → Has xs z
has_nightly [] z h = h
has_nightly (x ∷ later) z h = grind (arith, has_put x (nightly later) z, has_nightly later z)

-- and loses none
pub nightly_has : (xs : List Listed) (z : Listed) → Has xs z → Has (nightly xs) z
nightly_has [] z h = h
nightly_has (x ∷ later) z h = grind (arith, put_has x (nightly later) z, nightly_has later z)

-- Their order.

-- the order of the stock: by kind, supplier, product and night
abbrev pub IsCellBefore : Listed → Listed → Type 0
IsCellBefore x y = is_lt (stock_cmp (stock_row_of x) (stock_row_of y)) ≡ true

-- the order of the report: by night, then by kind, supplier and product
abbrev pub IsNightly : Listed → Listed → Type 0
IsNightly x y = IsNightBefore (stock_row_of x) (stock_row_of y)

-- the comparison without the nights
abbrev others_cmp : Listed → Listed → Ordering
others_cmp x y =
    ordering_then (nat_cmp (kind_number x.0.kind) (kind_number y.0.kind))
    (ordering_then (slice_cmp nat_cmp x.0.supplier y.0.supplier) (slice_cmp nat_cmp x.0.product y.0.product))

-- an earlier night is before a later one
night_first : (x y : Listed) → x.0.night < y.0.night → IsNightly x y
night_first x y low = ap (λ o. is_lt (ordering_then o (others_cmp x y))) (number_less x.0.night y.0.night low)

-- what is before another, if their nights are the same, is so without them
without_night : (a b c : Ordering) → is_lt (ordering_then a (ordering_then b (ordering_then c Equal))) ≡ true
    → is_lt (ordering_then a (ordering_then b c)) ≡ true
without_night a b c e = grind arith

-- a cell before another, and of no later night, is before it night by night
nightly_before : (x y : Listed) → x.0.night ≤ y.0.night → IsCellBefore x y → IsNightly x y
nightly_before x y low before = grind (arith, cases_Bool, eqb-true, number_same, without_night, night_first, nat_tests)

-- the night of what comes later is no earlier
night_low : (x y : Listed) → IsNightly x y → x.0.night ≤ y.0.night
night_low x y before = grind (arith, cases_Bool, leb-true, nat_tests)

-- a cell that comes before all of them in the stock's order is put into the report's order
put_rises : (x : Listed) (ys : List Listed) → AllByRecursion (IsCellBefore x) ys → IsAscending IsNightly ys → IsAscending IsNightly (put x ys)
put_rises x [] before up = (tt, tt)
put_rises x (y ∷ later) before up = elim (cases_Bool (nat_le x.0.night y.0.night)) [
  | inl low ↦ subst (λ v. IsAscending IsNightly (if v then x ∷ y ∷ later else y ∷ put x later)) (sym low) (
    all_from (IsNightly x) (y ∷ later) (λ z h.
        nightly_before x z
        (elim h [
          | inl e ↦ (let same = ap (λ (r : Listed). r.0.night) e in let first = leb-true _ _ low in omega (arith, same, first))
          | inr there ↦ (let first = leb-true _ _ low in let more = night_low y z (all_has (IsNightly y) later z up.0 there) in omega (arith, first, more))
        ])
        (all_has (IsCellBefore x) (y ∷ later) z before h)),
    up,
  )
  | inr high ↦ subst (λ v. IsAscending IsNightly (if v then x ∷ y ∷ later else y ∷ put x later)) (sym high) (
    all_from (IsNightly y) (put x later) (λ z h. elim (has_put x later z h) [
      | inl e ↦ subst (IsNightly y) (sym e) (night_first y x (grind (arith, nat_tests, high)))
      | inr there ↦ all_has (IsNightly y) later z up.0 there
    ]),
    put_rises x later before.1 up.1,
  )
]

-- cells in the stock's order, sorted by their nights, are in the report's order
pub nightly_rises : (xs : List Listed) → IsAscending IsCellBefore xs → IsAscending IsNightly (nightly xs)
nightly_rises [] up = tt
nightly_rises (x ∷ later) up =
    put_rises x (nightly later) (all_from (IsCellBefore x) (nightly later) (λ z h. all_has (IsCellBefore x) later z up.0 (has_nightly later z h)))
    (nightly_rises later up.1)

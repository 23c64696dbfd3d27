-- What stands between two cells of one product and one month. For the law of months.
use Rattle.std.proofs.Common.{◌≡◌, ◌∙◌, ap, sym, subst, refl, ℕ, ◌+◌, ◌-◌, ◌<◌, ◌≤◌, Bool, true, false, List, [], ◌∷◌, arith, ◌==◌, ◌&&◌, nat_lt, bytes_eq, if◌then◌else◌}
use Rattle.std.specs.Ordering.{is_eq, is_lt, nat_cmp, on, ordering_then, then_cmp}
use Rattle.std.specs.declared.cmp.Ordering.{Ordering}
use Rattle.std.specs.declared.cmp.Ordering.TheVariants.{Less, Equal}
use Rattle.std.specs.Cmp.{IsTotalOrder, tied_then, unsigned_ties}
use Rattle.std.specs.Cmp.Lexicographic.{slice_cmp, texts_ties}
use Rattle.std.proofs.lemmas.Bool.{and_from, and_parts, both_ways, eq-eqb, eqb-true, false≢true, lt-ltb, ltb-false, ltb-true}
use Rattle.std.proofs.lemmas.Cmp.{alike_right, nat_cmp_total, nat_list_cmp_total, on_total, then_total}
use Rattle.allotment.specs.Cells.{kind_number}
use Rattle.allotment.specs.Limits.{first_night, is_night}
use Rattle.allotment.specs.Nights.{date_of, days_before, month_and_day, months, year_of}
use Rattle.allotment.specs.declared.cells.Cell.{Cell}
use Rattle.allotment.proofs.NightLemmas.{is_civil, night_range}
use Rattle.saga_core.specs.Views.{cell_cmp}
use Rattle.month_reports.specs.Laws.{is_same_month}
use Rattle.month_reports.specs.Months.{goes_on, is_later_day, is_product}

-- Products.

-- the order of cells by their products
abbrev product_cmp : Cell → Cell → Ordering
product_cmp =
    then_cmp (on (λ (x : Cell). kind_number x.kind) nat_cmp)
    (then_cmp (on (λ (x : Cell). x.supplier) (slice_cmp nat_cmp)) (on (λ (x : Cell). x.product) (slice_cmp nat_cmp)))

product_total : IsTotalOrder product_cmp
product_total =
    then_total (on_total (λ (x : Cell). kind_number x.kind) nat_cmp_total)
    (then_total (on_total (λ (x : Cell). x.supplier) nat_list_cmp_total) (on_total (λ (x : Cell). x.product) nat_list_cmp_total))

-- cells are in the order of their products, and then of their nights
cell_cmp-product : (x y : Cell) → cell_cmp x y ≡ ordering_then (product_cmp x y) (nat_cmp x.night y.night)
cell_cmp-product x y =
    joined (nat_cmp (kind_number x.kind) (kind_number y.kind)) (slice_cmp nat_cmp x.supplier y.supplier)
    (slice_cmp nat_cmp x.product y.product) (nat_cmp x.night y.night)
  where
    joined : (a b p n : Ordering)
        → ordering_then a (ordering_then b (ordering_then p n)) ≡ ordering_then (ordering_then a (ordering_then b p)) n
    joined a b p n = grind arith

-- products that compare as equal are one
is_product-equal : (x y : Cell) → is_product x y ≡ is_eq (product_cmp x y)
is_product-equal x y =
    let kinds = nat_cmp (kind_number x.kind) (kind_number y.kind) in
    let suppliers = slice_cmp nat_cmp x.supplier y.supplier in
    let products = slice_cmp nat_cmp x.product y.product in
    ap (λ t. t && (bytes_eq x.supplier y.supplier && bytes_eq x.product y.product))
    (unsigned_ties (kind_number x.kind) (kind_number y.kind))
    ∙ ap (λ t. is_eq kinds && (t && bytes_eq x.product y.product)) (texts_ties x.supplier y.supplier)
    ∙ ap (λ t. is_eq kinds && (is_eq suppliers && t)) (texts_ties x.product y.product)
    ∙ ap (λ t. is_eq kinds && t) (tied_then suppliers products)
    ∙ tied_then kinds (ordering_then suppliers products)

-- a night that compares as less is earlier
earlier : (m n : ℕ) → is_lt (nat_cmp m n) ≡ true → m < n
earlier m n less = grind (arith, ltb-true, false≢true)

-- a cell of the same product that comes later is of a later night
later_night : (x y : Cell) → is_lt (cell_cmp x y) ≡ true → is_product x y ≡ true → x.night < y.night
later_night x y less same = grind (arith, cell_cmp-product, both_ways, is_product-equal, earlier, false≢true)

-- a cell between two cells of one product is of it too, and its night is between theirs
pub record IsBetween (x y z : Cell) : Type 0 where
  pub product : is_product x y ≡ true
  pub after : x.night < y.night
  pub before : y.night < z.night

between : (x y z : Cell) → is_lt (cell_cmp x y) ≡ true → is_lt (cell_cmp y z) ≡ true → is_product x z ≡ true → IsBetween x y z
between x y z first second same =
    by (product_cmp x y) (product_cmp y z) refl refl (ap is_lt (sym (cell_cmp-product x y)) ∙ first)
    (ap is_lt (sym (cell_cmp-product y z)) ∙ second)
  where
    apart : product_cmp x z ≡ Less → ⊥
    apart less = both_ways (is_product x z) (is_product-equal x z ∙ ap is_eq less) same

    by : (o p : Ordering) → product_cmp x y ≡ o → product_cmp y z ≡ p
        → is_lt (ordering_then o (nat_cmp x.night y.night)) ≡ true
        → is_lt (ordering_then p (nat_cmp y.night z.night)) ≡ true → IsBetween x y z
    by o p a b e f = grind (arith, apart, alike_right, product_total, is_product-equal, earlier, false≢true)

-- Dates.

-- the months are counted from the first one on
month_from : (first : ℕ) (ms : List ℕ) (over : ℕ) → first ≤ (month_and_day first ms over).0
month_from first [] over = omega arith
month_from first (days ∷ later) over = grind (arith, month_from (first + 1) later (over - days))

-- a day between two days of a month is a later day of this month than the first one
days_between : (first : ℕ) (ms : List ℕ) (a b c : ℕ) → a < b → b ≤ c
    → (month_and_day first ms a).0 ≡ (month_and_day first ms c).0
    → ((month_and_day first ms a).0 ≡ (month_and_day first ms b).0)
    × ((month_and_day first ms a).1 < (month_and_day first ms b).1)
days_between first [] a b c less most same = (refl, omega (arith, less))
days_between first (days ∷ later) a b c less most same =
    by (nat_lt a days) (nat_lt b days) (nat_lt c days) refl refl refl
    (λ past. days_between (first + 1) later (a - days) (b - days) (c - days) (omega (arith, past, less)) (omega (arith, most))) same
  where
    by : (s t u : Bool) → nat_lt a days ≡ s → nat_lt b days ≡ t → nat_lt c days ≡ u
        → (days ≤ a
        → (month_and_day (first + 1) later (a - days)).0 ≡ (month_and_day (first + 1) later (c - days)).0
        → ((month_and_day (first + 1) later (a - days)).0 ≡ (month_and_day (first + 1) later (b - days)).0)
        × ((month_and_day (first + 1) later (a - days)).1 < (month_and_day (first + 1) later (b - days)).1))
        → (if s then (first, a + 1) else month_and_day (first + 1) later (a - days)).0
        ≡ (if u then (first, c + 1) else month_and_day (first + 1) later (c - days)).0
        → ((if s then (first, a + 1) else month_and_day (first + 1) later (a - days)).0
        ≡ (if t then (first, b + 1) else month_and_day (first + 1) later (b - days)).0)
        × ((if s then (first, a + 1) else month_and_day (first + 1) later (a - days)).1
        < (if t then (first, b + 1) else month_and_day (first + 1) later (b - days)).1)
    by s t u x y z next same = grind (arith, ltb-true, ltb-false, month_from)

-- the month and the day of a day, where its year is known
abbrev in_year : ℕ → ℕ → ℕ × ℕ
in_year year day = month_and_day 1 (months year) (day - days_before year)

-- a night between two nights of a month is of a later day of this month than the first one
later_in_month : (a b c : ℕ) → is_night a ≡ true → a < b → b ≤ c → (date_of a).0 ≡ (date_of c).0
    → (date_of a).1.0 ≡ (date_of c).1.0 → is_later_day (date_of a) (date_of b) ≡ true
later_in_month a b c night less most same_year same_month =
    let range = night_range a night in
    let p : ℕ = a - first_night in
    let q : ℕ = b - first_night in
    let r : ℕ = c - first_night in
    let civil = is_civil p (omega (arith, range.0, range.1)) in
    let pq : p < q = omega (arith, range.0, less) in
    let qr : q ≤ r = omega (arith, most) in
    let year : year_of p ≡ year_of q = omega (arith, pq, qr, same_year) in
    let over : p - days_before (year_of p) < q - days_before (year_of p) = omega (arith, civil.starts, pq) in
    let up : q - days_before (year_of p) ≤ r - days_before (year_of p) = omega (arith, qr) in
    let found = days_between 1 (months (year_of p)) (p - days_before (year_of p)) (q - days_before (year_of p))
    (r - days_before (year_of p)) over up (same_month ∙ ap (λ y. (in_year y r).0) (sym same_year)) in
    and_from (year_of p == year_of q) _ (eq-eqb (year_of p) (year_of q) year)
    (and_from _ _ (eq-eqb (in_year (year_of p) p).0 (in_year (year_of q) q).0 (found.0 ∙ ap (λ y. (in_year y q).0) year))
    (lt-ltb (in_year (year_of p) p).1 (in_year (year_of q) q).1
    (subst (λ y. (in_year (year_of p) p).1 < (in_year y q).1) year found.1)))

-- Months.

-- cells of one month: their product, year and month
pub record AreOfMonth (x y : Cell) : Type 0 where
  pub product : is_product x y ≡ true
  pub year : (date_of x.night).0 ≡ (date_of y.night).0
  pub month : (date_of x.night).1.0 ≡ (date_of y.night).1.0

of_month : (x y : Cell) → is_same_month x y ≡ true → AreOfMonth x y
of_month x y same = grind (arith, and_parts, eqb-true)

-- a cell that goes on with the month of another one is of it
pub goes_on-month : (x y : Cell) → goes_on x y ≡ true → is_same_month x y ≡ true
goes_on-month x y follows = grind (arith, and_parts, and_from)

-- what is of the month of one of two cells of a month is of the other one's
pub same_as : (x y z : Cell) → is_same_month x y ≡ true → is_same_month x z ≡ is_same_month y z
same_as x y z same =
    let alike = of_month x y same in
    let tied = equal (product_cmp x y) (sym (is_product-equal x y) ∙ alike.product) in
    ap (λ t. t && (((date_of x.night).0 == (date_of z.night).0) && ((date_of x.night).1.0 == (date_of z.night).1.0)))
    (is_product-equal x z ∙ ap is_eq (product_total.congr x y z tied) ∙ sym (is_product-equal y z))
    ∙ ap (λ t. is_product y z && ((t == (date_of z.night).0) && ((date_of x.night).1.0 == (date_of z.night).1.0))) alike.year
    ∙ ap (λ t. is_product y z && (((date_of y.night).0 == (date_of z.night).0) && (t == (date_of z.night).1.0))) alike.month
  where
    equal : (o : Ordering) → is_eq o ≡ true → o ≡ Equal
    equal o e = grind (arith, false≢true)

-- the next cell does not go on with the month: it is of another one
pub apart_next : (x y : Cell) → is_night x.night ≡ true → is_lt (cell_cmp x y) ≡ true → goes_on x y ≡ false
    → is_same_month x y ≡ false
apart_next x y night less ends = by (is_same_month x y) refl
  where
    by : (b : Bool) → is_same_month x y ≡ b → b ≡ false
    by b same = grind (arith, of_month, later_night, both_ways, and_from, later_in_month)

-- and each cell after the next one is of another month too
pub apart_later : (x y z : Cell) → is_night x.night ≡ true → is_lt (cell_cmp x y) ≡ true → is_lt (cell_cmp y z) ≡ true
    → goes_on x y ≡ false → is_same_month x z ≡ false
apart_later x y z night first second ends = by (is_same_month x z) refl
  where
    by : (b : Bool) → is_same_month x z ≡ b → b ≡ false
    by false same = refl
    by true same =
        let alike = of_month x z same in
        let found = between x y z first second alike.product in
        absurd (both_ways (goes_on x y) ends (and_from (is_product x y) _ found.product
        (later_in_month x.night y.night z.night night found.after (omega (arith, found.before)) alike.year alike.month)))

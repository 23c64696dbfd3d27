-- The months of a list have its cells, and in the order of the stock no two of them are alike. For the law of months.
use Rattle.std.proofs.Common.{◌≡◌, ◌∙◌, ap, sym, refl, Bool, true, false, cond, List, [], ◌∷◌, filter, if◌then◌else◌, arith}
use Rattle.std.specs.List.{list_all}
use Rattle.std.specs.Ordering.{is_lt}
use Rattle.std.proofs.lemmas.Bool.{and_from, and_parts}
use Rattle.allotment.specs.Limits.{is_night}
use Rattle.saga_core.specs.Views.{are_in_order, cell_cmp}
use Rattle.month_reports.specs.Laws.{are_apart, cells_in, have_nights, is_apart, is_same_month}
use Rattle.month_reports.specs.Months.{before_first, goes_on, is_followed, months_of, Places}
use Rattle.month_reports.proofs.OrderLemmas.{apart_later, apart_next, goes_on-month, same_as}

-- Lists.

-- what holds of each element, by what else does
list_all_by : {X : Type 0} (p q : X → Bool) (xs : List X) → list_all p xs ≡ true → ((x : X) → p x ≡ true → q x ≡ true)
    → list_all q xs ≡ true
list_all_by p q [] all keeps = refl
list_all_by p q (x ∷ xs) all keeps = grind (arith, and_parts, and_from, keeps, list_all_by p q xs)

-- what holds of each element holds of those that are kept
pub list_all-filter : {X : Type 0} (p keep : X → Bool) (xs : List X) → list_all p xs ≡ true → list_all p (filter keep xs) ≡ true
list_all-filter p keep [] all = refl
list_all-filter p keep (x ∷ xs) all =
    let both = and_parts (p x) (list_all p xs) all in
    by (keep x) both.0 (list_all-filter p keep xs both.1)
  where
    by : (b : Bool) → p x ≡ true → list_all p (filter keep xs) ≡ true
        → list_all p (cond b (x ∷ filter keep xs) (filter keep xs)) ≡ true
    by b first rest = grind (arith, and_from)

-- cells that are kept stay in order
pub are_in_order-filter : (keep : Places → Bool) (rows : List Places) → are_in_order rows ≡ true
    → are_in_order (filter keep rows) ≡ true
are_in_order-filter keep [] ordered = refl
are_in_order-filter keep (row ∷ later) ordered =
    let is_after = λ (other : Places). is_lt (cell_cmp row.0 other.0) in
    let both = and_parts (list_all is_after later) (are_in_order later) ordered in
    by (keep row) (list_all-filter is_after keep later both.0) (are_in_order-filter keep later both.1)
  where
    by : (b : Bool) → list_all (λ (other : Places). is_lt (cell_cmp row.0 other.0)) (filter keep later) ≡ true
        → are_in_order (filter keep later) ≡ true
        → are_in_order (cond b (row ∷ filter keep later) (filter keep later)) ≡ true
    by b first rest = grind (arith, and_from)

-- Months.

-- a cell before the first month is before its cells
cells_in-before_first : (row : Places) (months : List (List Places)) → cells_in (before_first row months) ≡ row ∷ cells_in months
cells_in-before_first row months = grind arith

-- the months have all cells, in their order
pub cells_in-months_of : (rows : List Places) → cells_in (months_of rows) ≡ rows
cells_in-months_of [] = refl
cells_in-months_of (row ∷ later) = grind (arith, cells_in-before_first, cells_in-months_of later)

-- the first month begins with the first cell
begins_with : (row : Places) (later : List Places)
    → (month : List Places) × (others : List (List Places)) × (months_of (row ∷ later) ≡ (row ∷ month) ∷ others)
begins_with row later = by (is_followed row.0 later) (months_of later)
  where
    by : (b : Bool) (months : List (List Places))
        → (month : List Places) × (others : List (List Places))
        × ((if b then before_first row months else (row ∷ []) ∷ months) ≡ (row ∷ month) ∷ others)
    by true [] = ([], [], refl)
    by true (month ∷ others) = (month, others, refl)
    by false months = ([], months, refl)

-- a cell of the first month is apart from the others too
joined : (row next : Places) (month : List Places) (others : List (List Places)) → is_same_month row.0 next.0 ≡ true
    → are_apart ((next ∷ month) ∷ others) ≡ true → are_apart ((row ∷ next ∷ month) ∷ others) ≡ true
joined row next month others same apart =
    let cells = cells_in others in
    let parts = and_parts (list_all (is_apart cells) (next ∷ month)) (are_apart others) apart in
    let first = and_parts (is_apart cells next) (list_all (is_apart cells) month) parts.0 in
    let row_apart : is_apart cells row ≡ true = grind (arith, list_all_by, same_as) in
    and_from (list_all (is_apart cells) (row ∷ next ∷ month)) (are_apart others)
    (and_from (is_apart cells row) (list_all (is_apart cells) (next ∷ month)) row_apart parts.0) parts.1

-- where the next cell does not go on with the month, no later one is of it
parted : (row next : Places) (later : List Places) → is_night row.0.night ≡ true
    → list_all (λ (other : Places). is_lt (cell_cmp row.0 other.0)) (next ∷ later) ≡ true
    → are_in_order (next ∷ later) ≡ true → goes_on row.0 next.0 ≡ false → is_apart (next ∷ later) row ≡ true
parted row next later night after ordered ends = grind (arith, and_parts, and_from, apart_next, list_all_by, apart_later)

-- in the order of the stock no two months are of one product and one month of the calendar
pub months_apart : (rows : List Places) → have_nights rows ≡ true → are_in_order rows ≡ true → are_apart (months_of rows) ≡ true
months_apart [] nights ordered = refl
months_apart (row ∷ []) nights ordered = refl
months_apart (row ∷ next ∷ later) nights ordered =
    let dated = and_parts (is_night row.0.night) (have_nights (next ∷ later)) nights in
    let order = and_parts (list_all (λ (other : Places). is_lt (cell_cmp row.0 other.0)) (next ∷ later)) (are_in_order (next ∷ later)) ordered in
    by (goes_on row.0 next.0) refl dated.0 order.0 order.1 (months_apart (next ∷ later) dated.1 order.1)
  where
    by : (b : Bool) → goes_on row.0 next.0 ≡ b → is_night row.0.night ≡ true
        → list_all (λ (other : Places). is_lt (cell_cmp row.0 other.0)) (next ∷ later) ≡ true
        → are_in_order (next ∷ later) ≡ true → are_apart (months_of (next ∷ later)) ≡ true
        → are_apart (if b then before_first row (months_of (next ∷ later)) else (row ∷ []) ∷ months_of (next ∷ later)) ≡ true
    by true follows night after ordered apart =
        let begins = begins_with next later in
        ap (λ months. are_apart (before_first row months)) begins.2
        ∙ joined row next begins.0 begins.1 (goes_on-month row.0 next.0 follows) (ap are_apart (sym begins.2) ∙ apart)
    by false ends night after ordered apart =
        and_from (list_all (is_apart (cells_in (months_of (next ∷ later)))) (row ∷ [])) _
        (and_from (is_apart (cells_in (months_of (next ∷ later))) row) true
        (ap (λ cells. is_apart cells row) (cells_in-months_of (next ∷ later)) ∙ parted row next later night after ordered ends) refl) apart

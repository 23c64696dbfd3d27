-- Months that are read one cell after another. For reading a month.
use Rattle.std.proofs.Common.{◌≡◌, refl, ℕ, ◌+◌, ◌≤◌, true, false, List, [], ◌∷◌, ◌++◌, append_assoc, arith, Option, Some, None}
use Rattle.std.proofs.lemmas.Bool.{and_parts, ltb-true}
use Rattle.allotment.specs.Nights.{date_of}
use Rattle.allotment.specs.declared.cells.Cell.{Cell}
use Rattle.saga_core.specs.RowSources.{Hands, HandsFirst}
use Rattle.saga_core.specs.CellFilters.{is_cell_asked}
use Rattle.saga_core.specs.declared.cell_filters.CellFilter.{CellFilter}
use Rattle.month_reports.specs.Months.{asked_of, AskedRest, before_first, goes_on, is_followed, months_of, MonthsRest, Places}

-- these cells are in the first of these months, before its other cells
abbrev pub before : List Places → List (List Places) → List (List Places)
before cells [] = cells ∷ []
before cells (month ∷ others) = (cells ++ month) ∷ others

-- one cell more before the first month
before-before_first : (cells : List Places) (row : Places) (months : List (List Places))
    → before cells (before_first row months) ≡ before (cells ++ row ∷ []) months
before-before_first cells row months = grind (arith, append_assoc)

-- the cell alone before the first month
before-one : (row : Places) (months : List (List Places)) → before_first row months ≡ before (row ∷ []) months
before-one row months = grind arith

-- these cells, of which this is the last, are the beginning of a month: whatever follows is in it or after it
pub record Begins (cells : List Places) (last : Cell) : Type 0 where
  pub joins : (next : List Places) → is_followed last next ≡ true → months_of (cells ++ next) ≡ before cells (months_of next)
  pub ends : (next : List Places) → is_followed last next ≡ false → months_of (cells ++ next) ≡ cells ∷ months_of next

-- the first cell begins a month
pub begins_one : (row : Places) → Begins (row ∷ []) row.0
begins_one row = grind (arith, before-one)

-- a cell that goes on with the month is in it
pub begins_more : (cells : List Places) (last : Cell) (row : Places)
    → Begins cells last → goes_on last row.0 ≡ true → Begins (cells ++ row ∷ []) row.0
begins_more cells last row begun follows = grind (arith, append_assoc, before-before_first, begun.joins)

-- the cells that were read are the beginning of a month, and the others remain
pub record Reading (rested rests : List Places → Type 0) (first : Places) (cells : List Places) : Type 0 where
  pub rest : (later : List Places) → rested later → (others : List Places) × rests others × (first ∷ later ≡ cells ++ others)

-- at first one cell was read
pub reads_one : (rests : List Places → Type 0) (first : Places) → Reading rests rests first (first ∷ [])
reads_one rests first = record { rest = λ later is. (later, is, refl) }

-- one more cell was read
pub reads_more : (rested between rests : List Places → Type 0) (first : Places) (cells : List Places) (row : Places)
    → Reading rested between first cells → Hands between rests (Some row)
    → Reading rested rests first (cells ++ row ∷ [])
reads_more rested between rests first cells row reading hands = grind (arith, append_assoc, reading.rest)

-- the source has no more cells: the month is the last
pub hands_last : (rested between rests : List Places → Type 0) (first : Places) (cells : List Places) (last : Cell)
    → Reading rested between first cells → Begins cells last → Hands between rests None
    → Hands (MonthsRest rested (Some first)) (MonthsRest rests None) (Some cells)
hands_last rested between rests first cells last reading begun hands = λ months rest.
    let now = reading.rest rest.0 rest.1 in
    by rest.0 months rest.2 now.0 now.1 now.2
  where
    by : (later : List Places) (months : List (List Places)) → months ≡ months_of (first ∷ later)
        → (others : List Places) → between others → first ∷ later ≡ cells ++ others
        → HandsFirst (MonthsRest rests None) (Some cells) months
    by later months is others rest cut = grind (arith, hands, begun.ends)

-- the next cell does not go on with the month: it begins the next one
pub hands_month : (rested between rests : List Places → Type 0) (first : Places) (cells : List Places) (last : Cell) (row : Places)
    → Reading rested between first cells → Begins cells last → Hands between rests (Some row) → goes_on last row.0 ≡ false
    → Hands (MonthsRest rested (Some first)) (MonthsRest rests (Some row)) (Some cells)
hands_month rested between rests first cells last row reading begun hands apart = λ months rest.
    let now = reading.rest rest.0 rest.1 in
    by rest.0 months rest.2 now.0 now.1 now.2
  where
    by : (later : List Places) (months : List (List Places)) → months ≡ months_of (first ∷ later)
        → (others : List Places) → between others → first ∷ later ≡ cells ++ others
        → HandsFirst (MonthsRest rests (Some row)) (Some cells) months
    by later months is others rest cut = grind (arith, hands, begun.ends)

-- the first cell of all was read: the months of all remain
pub first_read : (rested rests : List Places → Type 0) (found : Option Places) (all : List Places)
    → rested all → Hands rested rests found → MonthsRest rests found (months_of all)
first_read rested rests found all rest hands = grind (arith, hands)

-- the day of a cell that goes on with a month is later
pub later_day : (last next : Cell) (n : ℕ) → goes_on last next ≡ true → n ≤ (date_of last.night).1.1
    → n + 1 ≤ (date_of next.night).1.1
later_day last next n follows small = grind (arith, and_parts, ltb-true)

-- a number is at most what a greater one is at most
pub at_most : (n m most : ℕ) → n ≤ m → m ≤ most → n ≤ most
at_most n m most below short = omega (arith, below, short)

-- Cells that are asked for.

-- no cell that was passed over is asked for
pub record Passing (f : CellFilter) (rested rests : List Places → Type 0) : Type 0 where
  pub rest : (all : List Places) → rested all → (later : List Places) × rests later × (asked_of f all ≡ asked_of f later)

-- at first none was passed over
pub passes_none : (f : CellFilter) (rests : List Places → Type 0) → Passing f rests rests
passes_none f rests = record { rest = λ all rest. (all, rest, refl) }

-- the source has no more cells: none that is asked for remains
pub asked_none : (f : CellFilter) (rested between rests : List Places → Type 0)
    → Passing f rested between → Hands between rests None
    → Hands (AskedRest f rested) (AskedRest f rests) None
asked_none f rested between rests passing hands = grind (arith, passing.rest)

-- a cell was returned
module _ (f : CellFilter) (rested between rests : List Places → Type 0) (row : Places)
    (passing : Passing f rested between) (hands : Hands between rests (Some row)) where
  -- it is the first of those that remained
  pub first_of : (all : List Places) → rested all → (left : List Places) × rests left × (asked_of f all ≡ asked_of f (row ∷ left))
  first_of all rest =
      let now = passing.rest all rest in
      by now.0 now.1 now.2
    where
      by : (later : List Places) → between later → asked_of f all ≡ asked_of f later
          → (left : List Places) × rests left × (asked_of f all ≡ asked_of f (row ∷ left))
      by [] rest is = let none : Some row ≡ None = (hands [] rest).0 in absurd (cc)
      by (next ∷ left) rest is = grind (arith, hands (next ∷ left) rest)

  -- it is not asked for: it is passed over
  pub passes_more : is_cell_asked f row.0 ≡ false → Passing f rested rests
  passes_more refused = grind (arith, first_of)

  -- it is asked for: it is the first of those
  pub asked_some : is_cell_asked f row.0 ≡ true → Hands (AskedRest f rested) (AskedRest f rests) (Some row)
  asked_some passed = grind (arith, first_of)

-- Rows of the store that are returned as the desk's own, and rows that are returned while none has failed. For `found_rows`
-- and the rows that it finds.
use Rattle.std.proofs.Common.{◌≡◌, [], ◌∷◌, List, map, false, Option, Some, None, subst, arith}
use Rattle.std.specs.List.{AllByRecursion}
use Rattle.desk_sql.specs.RemainingRows.{Hands as HandsRows}
use Rattle.saga_core.specs.RowSources.{Hands, HandsFirst}
use Rattle.sql_reads.proofs.HandedTold.{Told, told_first, told_none}

-- the later ones of rows that are good are good too
pub good_after : {T : Type 0} {Rested Rests : List T → Type 0} {Good : T → Type 0} (found : Option T) → Hands Rested Rests found
    → (rows : List T) → Rested rows → AllByRecursion Good rows → (later : List T) × Rests later × AllByRecursion Good later
good_after found hands [] rest good = ([], (hands [] rest).1, tt)
good_after found hands (row ∷ later) rest good = (later, (hands (row ∷ later) rest).1, good.1)

-- some remain after some
pub some_after : {T : Type 0} {Rested Rests : List T → Type 0} (found : Option T) → Hands Rested Rests found
    → (rows : List T) → Rested rows → (later : List T) × Rests later
some_after found hands [] rest = ([], (hands [] rest).1)
some_after found hands (row ∷ later) rest = (later, (hands (row ∷ later) rest).1)

module _ {T : Type 0} (Rests : List T → Type 0) (found : Option T) where
  -- the first of the rows that remained was returned, and no row has failed
  pub going : (rows : List T) → HandsFirst Rests found rows → HandsFirst (λ later. (false ≡ false) × Rests later) found rows
  going rows first = grind arith

  returned : (rows : List T) → HandsFirst (λ later. (false ≡ false) × Rests later) found rows → HandsFirst Rests found rows
  returned rows first = grind arith

-- Rows of the store are found, and read as the desk's rows.
module _ {Y : Type 0} (found : Option Y) {Before : List Y → Type 0} (After : List Y → Type 0) (hands : HandsRows Before After found) where
  pub good_rows_after : {Good : Y → Type 0} → (rows : List Y) → Before rows → AllByRecursion Good rows
      → (later : List Y) × After later × AllByRecursion Good later
  good_rows_after [] rest good = ([], (hands [] rest).1, tt)
  good_rows_after (row ∷ later) rest good = (later, (hands (row ∷ later) rest).1, good.1)

  -- the row that was found, or that none was
  pub found_so : {o : Option Y} → found ≡ o → HandsRows Before After o
  found_so is = subst (HandsRows Before After) is hands

  -- each of the desk's rows has one row of the store
  module _ {X : Type 0} (row_of : X → Y) where
    pub first_of_row : ((x z : X) → row_of x ≡ row_of z → x ≡ z) → {y : Y} → found ≡ Some y → (x : X) → row_of x ≡ y
        → Hands (λ xs. Before (map row_of xs)) (λ xs. After (map row_of xs)) (Some x)
    first_of_row same is x e xs rests = let first = found_so is in grind (arith, first, same)

    pub none_of_row : found ≡ None → Hands (λ xs. Before (map row_of xs)) (λ xs. After (map row_of xs)) None
    none_of_row none xs rests = let over = found_so none in grind (arith, over)

  -- a row and the desk's row have a common form
  module _ {X K : Type 0} (seen : Y → K) (written : X → K) where
    pub first_in_form : {y : Y} → found ≡ Some y → (x : X) → ((z : X) → seen y ≡ written z → x ≡ z)
        → Hands (Told seen written Before) (Told seen written After) (Some x)
    first_in_form is x same xs rests = let first = found_so is in grind (arith, returned, told_first)

    pub none_in_form : found ≡ None → Hands (Told seen written Before) (Told seen written After) None
    none_in_form none xs rests = let over = found_so none in grind (arith, returned, told_none)

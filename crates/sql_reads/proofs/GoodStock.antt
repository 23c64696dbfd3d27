-- A legal ledger calls for rows of cells that keep their limits alone. For the reads of places.
use Rattle.std.proofs.Common.{◌≡◌, inl, inr, ℕ, ◌≤◌, List, [], ◌∷◌, map, filter, Option, Some, None, IsTrue, true, refl, sym, ap, subst, ◌∙◌, arith, ◌-◌, length, nat_le, flat_map, filter_map, option_map, IsUtf8, rules, eqb-true, ◌&&◌}
use Rattle.std.specs.List.{AllByRecursion}
use Rattle.std.proofs.lemmas.Bool.{and_parts, leb-true}
use Rattle.std.proofs.lemmas.Slice.Eq.{bytes_eq-Decides}
use Rattle.sqlite_trees.proofs.ListLemmas.{all-flat_map}
use Rattle.sqlite_rules.specs.Lists.{Has}
use Rattle.sqlite_rules.proofs.ListLemmas.{all_from, all_has, has_filtered, test_has}
use Rattle.allotment.specs.Cells.{cells_of, is_cell}
use Rattle.allotment.specs.Limits.{is_code, is_good_cell, most_places, longest_code, is_night}
use Rattle.allotment.specs.Want.{Wanted}
use Rattle.allotment.specs.declared.cells.Cell.{Cell}
use Rattle.allotment.specs.declared.cells.Row.{Row}
use Rattle.allotment.proofs.CodeLemmas.{is_short-code}
use Rattle.allotment.proofs.ShortLemmas.{is_utf8}
use Rattle.ledger.specs.History.{last_of}
use Rattle.ledger.specs.Ledger.{Event, rows_of, held, is_allowed, is_good_row, AreAllowedAfter, IsLegal}
use Rattle.ledger.proofs.Cells.{is_cell-same}
use Rattle.saga_core.specs.Views.{Places, places_of, places_shown, at_night}
use Rattle.desk_sql.specs.Rows.{StockRow}
use Rattle.desk_sql.specs.declared.stock.NightFound.{NightFound}
use Rattle.sql_model.specs.Reading.{night_seen}
use Rattle.sql_model.specs.Standing.{StockStands, places_told}
use Rattle.sql_model.proofs.StockRows.{stock_at-row}
use Rattle.sql_reads.specs.GoodRows.{ArePlaces, IsGoodNight, IsGoodStock}

-- the row of a batch keeps its limits
abbrev IsGood : Row → Type 0
IsGood r = is_good_row r ≡ true

rows_good : (before : List Event) (e : Event) → IsTrue (is_allowed before e) → AllByRecursion IsGood (rows_of e)
rows_good before e may = search (rules, arith, and_parts, all_from, test_has)

events_good : (before later : List Event) → AreAllowedAfter before later → AllByRecursion (λ e. AllByRecursion IsGood (rows_of e)) later
events_good before [] all = tt
events_good before (e ∷ later) all = (rows_good before e all.0, events_good _ later all.1)

last_has : {X : Type 0} (xs : List X) (x : X) → last_of xs ≡ Some x → Has xs x
last_has [] x e = absurd (cc)
last_has (y ∷ []) x e = let same : Some y ≡ Some x = e in inl (let is : x ≡ y = cc in is)
last_has (y ∷ z ∷ xs) x e = inr (last_has (z ∷ xs) x e)

-- a cell that has an allotment keeps its limits, and so do its places
pub record IsGoodAt (x : Cell) (p : Places) : Type 0 where
  pub cell : is_good_cell x ≡ true
  pub places : ArePlaces p

pub good_at : (l : List Event) → IsLegal l → (x : Cell) (p : Places) → places_of l x ≡ Some p → IsGoodAt x p
good_at l legal x p e = go (last_of mine) refl
  where
    mine : List Row
    mine = filter (λ (r : Row). is_cell x r.cell) (flat_map rows_of l)

    places : Option Row → Option Places
    places o = option_map (λ (n : ℕ). record { allot = n; free = n - held l x }) (option_map (λ (r : Row). r.places) o)

    go : (o : Option Row) → last_of mine ≡ o → IsGoodAt x p
    go None f = absurd (let none : None ≡ Some p = sym (ap places f) ∙ e in cc)
    go (Some r) f =
        let there = has_filtered (λ (y : Row). is_cell x y.cell) (flat_map rows_of l) r (last_has mine r f) in
        let good = all_has IsGood (flat_map rows_of l) r (all-flat_map IsGood rows_of l (events_good [] l legal)) there.0 in
        let parts = and_parts (is_good_cell r.cell) (nat_le r.places most_places) good in
        let few : r.places ≤ most_places = leb-true r.places most_places parts.1 in
        let are : Some (record { allot = r.places; free = r.places - held l x }) ≡ Some p = sym (ap places f) ∙ e in
        let is : record { allot = r.places; free = r.places - held l x } ≡ p = cc in
        record {
          cell = subst (λ y. is_good_cell y ≡ true) (sym (is_cell-same x r.cell there.1)) parts.0;
          places = subst ArePlaces is (record { few = few; free = omega arith });
        }

-- Nights of a want.

all_unmap : {X Y : Type 0} (f : X → Y) (P : Y → Type 0) (xs : List X) → AllByRecursion P (map f xs) → AllByRecursion (λ x. P (f x)) xs
all_unmap f P [] all = tt
all_unmap f P (x ∷ xs) all = (all.0, all_unmap f P xs all.1)

shown_good : (l : List Event) → IsLegal l → (xs : List Cell)
    → AllByRecursion IsGoodNight (filter_map (λ x. option_map (at_night x) (places_of l x)) xs)
shown_good l legal [] = tt
shown_good l legal (x ∷ xs) = go (places_of l x) refl (shown_good l legal xs)
  where
    go : (o : Option Places) → places_of l x ≡ o
        → AllByRecursion IsGoodNight (filter_map (λ y. option_map (at_night y) (places_of l y)) xs)
        → AllByRecursion IsGoodNight (filter_map (λ y. option_map (at_night y) (places_of l y)) (x ∷ xs))
    go None e rest = rw e rest
    go (Some p) e rest =
        let good = good_at l legal x p e in
        let night = (and_parts (is_code x.supplier && is_code x.product) (is_night x.night) good.cell).1 in
        rw e (record { night = night; places = good.places }, rest)

pub good_nights : (l : List Event) → IsLegal l → (w : Wanted) (found : List NightFound) → map night_seen found ≡ places_shown l w
    → AllByRecursion (λ (n : NightFound). IsGoodNight (night_seen n)) found
good_nights l legal w found told =
    all_unmap night_seen IsGoodNight found (subst (AllByRecursion IsGoodNight) (sym told) (shown_good l legal (cells_of w)))

-- Rows of stock.

pub code_text : (bytes : List ℕ) → is_code bytes ≡ true → IsUtf8 bytes
code_text bytes good = is_utf8 bytes (and_parts (nat_le (length bytes) longest_code) _ (is_short-code bytes good)).1

module _ (l : List Event) (legal : IsLegal l) (rows : List StockRow) (stand : StockStands l rows) where
  pub good_row : (r : StockRow) → Has rows r → IsGoodStock r
  good_row r h =
      let known = all_has _ rows r stand.known h in
      let x : Cell = known.0 in
      let at : places_of l x ≡ Some (places_told r) = sym (stand.each x) ∙ stock_at-row rows x r stand.once h known.1 in
      let good = good_at l legal x (places_told r) at in
      let three = and_parts _ _ known.1 in
      let two = and_parts _ _ three.0 in
      let one = and_parts _ _ two.0 in
      let limits = and_parts (is_code x.supplier && is_code x.product) (is_night x.night) good.cell in
      let codes = and_parts (is_code x.supplier) (is_code x.product) limits.0 in
      record {
        kind = x.kind;
        kind_is = eqb-true _ _ one.0;
        supplier = subst (λ b. IsTrue (is_code b)) ((bytes_eq-Decides x.supplier r.supplier).0 one.1) codes.0;
        product = subst (λ b. IsTrue (is_code b)) ((bytes_eq-Decides x.product r.product).0 two.1) codes.1;
        night = subst (λ n. IsTrue (is_night n)) (eqb-true _ _ three.1) limits.1;
        places = good.places;
      }

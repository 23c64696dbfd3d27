-- The rows of journeys that pass a test are those of their briefs. For lists of journeys, and for Readings.
use Rattle.std.proofs.Common.{◌≡◌, ℕ, suc, ◌+◌, List, [], ◌∷◌, map, filter, find, cond, length, Bool, Option, Some, refl, sym, ap, ◌∙◌, arith, slice_get, filter_map, option_map, nat_le, nat_lt, ◌&&◌, not, rules}
use Rattle.std.specs.List.{cons_option}
use Rattle.std.specs.List.Sorted.{IsPermutation}
use Rattle.std.proofs.lemmas.List.Sorted.{IsPermutation-refl}
use Rattle.sqlite_trees.proofs.ListLemmas.{ascending-filter, ascending_weaker}
use Rattle.allotment.specs.Cells.{numbers_from}
use Rattle.commands.specs.declared.items.Phase.{Phase}
use Rattle.ledger.specs.History.{is_finished}
use Rattle.ledger.specs.Ledger.{Event, journey_at, numbers, history}
use Rattle.saga_core.specs.Views.{brief_of_journey, brief_of, first_unfinished, is_unfinished_above}
use Rattle.saga_core.specs.declared.records.Brief.{Brief}
use Rattle.desk_sql.specs.FoundRows.{is_unfinished_after}
use Rattle.desk_sql.specs.Lists.{IsListed, IsLeastOf}
use Rattle.desk_sql.specs.RemainingRows.{IsByNumber}
use Rattle.desk_sql.specs.Rows.{JourneyRow}
use Rattle.sql_model.specs.Briefs.{short_of, short_told, TellBriefs}
use Rattle.sql_model.specs.ExpectedRows.{counted_from, Begun, begun, phase_number, journeys_called}
use Rattle.sql_model.proofs.EventRows.{length-begun}
use Rattle.sql_model.proofs.JourneyRows.{row_in, begun_there, called_rises}
use Rattle.sql_model.proofs.Orders.{Rises, one_order, least_is_first}
use Rattle.sql_model.specs.Reading.{Tells, IsBriefOf}

-- the brief of a journey with its number
abbrev pub brief_in : List Event → ℕ × Begun → Brief
brief_in l b = brief_of_journey b.0 (history l b.0) b.1.journey

briefs_from : (l : List Event) (n : ℕ) (bs : List Begun)
    → ((i : ℕ) (b : Begun) → slice_get bs i ≡ Some b → journey_at l (n + i) ≡ Some b.journey)
    → filter_map (brief_of l) (numbers_from n (length bs)) ≡ map (brief_in l) (counted_from n bs)
briefs_from l n [] at = refl
briefs_from l n (b ∷ bs) at =
    let here : journey_at l n ≡ Some b.journey = ap (journey_at l) (let e : n ≡ n + 0 = omega arith in e) ∙ at 0 b refl in
    ap (λ o. cons_option (option_map (brief_of_journey n (history l n)) o) (filter_map (brief_of l) (numbers_from (suc n) (length bs)))) here
    ∙ ap (λ more. brief_in l (n, b) ∷ more)
    (briefs_from l (suc n) bs (λ i x e. ap (journey_at l) (let k : suc n + i ≡ n + suc i = omega arith in k) ∙ at (suc i) x e))

-- the briefs are those of the journeys that were begun
pub briefs : (l : List Event) → filter_map (brief_of l) (numbers l) ≡ map (brief_in l) (counted_from 1 (begun l))
briefs l = search (rules, arith, length-begun, briefs_from, begun_there)

pub unfinished_phase : (p : Phase) → nat_le (phase_number p) 1 ≡ not (is_finished p)
unfinished_phase p = search (rules, arith)

kept_alike : (v w : Bool) (r : JourneyRow) (b : Brief) (rs : List JourneyRow) (bs : List Brief) → v ≡ w → short_of r ≡ short_told b
    → map short_of rs ≡ map short_told bs → map short_of (cond v (r ∷ rs) rs) ≡ map short_told (cond w (b ∷ bs) bs)
kept_alike v w r b rs bs e one more = search (rules, arith)

-- a test of rows, and one of briefs
module _ (test : JourneyRow → Bool) (passes : Brief → Bool) where
  -- they agree on each journey of a ledger
  abbrev pub Agree : List Event → Type 0
  Agree l = (n : ℕ) (b : Begun) → test (row_in l (suc n, b)) ≡ passes (brief_in l (suc n, b))

  told_from : (l : List Event) (n : ℕ) (bs : List Begun) → Agree l
      → map short_of (filter test (map (row_in l) (counted_from (suc n) bs)))
      ≡ map short_told (filter passes (map (brief_in l) (counted_from (suc n) bs)))
  told_from l n [] agree = refl
  told_from l n (b ∷ bs) agree = search (rules, arith, kept_alike, told_from l (suc n) bs agree)

  -- so the rows that pass are those of the briefs that pass
  pub rows_told : (l : List Event) (rows : List JourneyRow) (shown : List Brief) → Agree l
      → IsPermutation (journeys_called l) rows → Rises (λ (j : JourneyRow). j.id) rows
      → shown ≡ filter passes (filter_map (brief_of l) (numbers l)) → TellBriefs (filter test rows) shown
  rows_told l rows shown agree same rise is =
      ap (λ js. map short_of (filter test js)) (one_order (λ (j : JourneyRow). j.id) (journeys_called l) rows same (called_rises l) rise)
      ∙ told_from l 0 (begun l) agree ∙ ap (λ bs. map short_told (filter passes bs)) (sym (briefs l)) ∙ ap (map short_told) (sym is)

-- rows of a table by number, of those that pass a test
pub listed_so : (test : JourneyRow → Bool) (rows : List JourneyRow) → Rises (λ (j : JourneyRow). j.id) rows
    → IsListed IsByNumber (filter test rows) (filter test rows)
listed_so test rows rise = search (rules, arith, IsPermutation-refl, ascending_weaker, ascending-filter)

-- The first unfinished journey.

found_alike : {X R B : Type 0} (IsOf : R → B → Type 0) (f : X → R) (g : X → B) (p : R → Bool) (q : B → Bool)
    → ((x : X) → p (f x) ≡ q (g x)) → ((x : X) → IsOf (f x) (g x))
    → (xs : List X) → Tells IsOf (find p (map f xs)) (find q (map g xs))
found_alike IsOf f g p q same each [] = tt
found_alike IsOf f g p q same each (x ∷ xs) = search (rules, arith, same x, each x, found_alike IsOf f g p q same each xs)

-- the row with the least number, of those that are unfinished and above a number, is that of the first such journey
pub unfinished_found : (l : List Event) (rows : List JourneyRow) (after : ℕ) (found : Option JourneyRow)
    → IsPermutation (journeys_called l) rows
    → IsLeastOf (λ (r : JourneyRow). r.id) (filter (is_unfinished_after after) rows) found
    → Tells IsBriefOf found (first_unfinished l after)
unfinished_found l rows after found same least =
    let test = is_unfinished_after after in
    let passes = is_unfinished_above after in
    rw (← least_is_first (λ (r : JourneyRow). r.id) test (journeys_called l) rows found (called_rises l) same least, briefs l)
    (found_alike IsBriefOf (row_in l) (brief_in l) test passes
    (λ b. ap (λ v. nat_lt after b.0 && v) (unfinished_phase (brief_in l b).cursor.phase))
    (λ b. record { id = refl; agent = refl; cursor = refl }) (counted_from 1 (begun l)))

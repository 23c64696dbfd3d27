-- The rows of one cell's options, each with the row of its journey, are shown as the holders of the cell. For the rows of
-- the holders of cells.
use Rattle.std.proofs.Common.{◌≡◌, ℕ, zero, suc, ◌+◌, ◌==◌, List, [], ◌∷◌, map, filter, cond, Bool, Option, Some, None, refl, sym, ap, ap₂, ◌∙◌, arith, eq-eqb, filter_map, flat_map, option_map, slice_get}
use Rattle.std.specs.List.{cons_option}
use Rattle.std.proofs.lemmas.Bool.{ne_eqb}
use Rattle.std.proofs.lemmas.List.{map-append}
use Rattle.commands.specs.declared.items.Phase.{Phase}
use Rattle.saga_core.specs.JourneyFilters.{state_of}
use Rattle.ledger.specs.Ledger.{Event, Journey, journey_at}
use Rattle.saga_core.specs.Views.{brief_of}
use Rattle.desk_sql.specs.Rows.{JourneyRow, StepRow}
use Rattle.sql_model.specs.ExpectedRows.{Begun, begun, counted_from, journeys_called, phase_number}
use Rattle.sql_model.specs.Reading.{stock_row_of}
use Rattle.sql_model.proofs.JourneyRows.{begun_there, row_in, there_begun}
use Rattle.sql_lists.specs.HolderLists.{holder_of}
use Rattle.sql_lists.specs.HoldingLists.{Joined, holding_of as row_shown}
use Rattle.sql_lists.specs.JourneyLists.{state_number}
use Rattle.sql_lists.specs.declared.holders.HolderFound.{HolderFound}
use Rattle.reports.specs.Holdings.{holding_by, holding_of}
use Rattle.reports.specs.declared.holders.Holder.{Holder}
use Rattle.report_writers.specs.HoldersLeft.{found_of}
use Rattle.report_writers.specs.HoldingsLeft.{HoldingShort, holding_short, holding_told}
use Rattle.report_writers.proofs.NightOrder.{with_own}
use Rattle.report_writers.proofs.NightlyStock.{Listed}

module _ (l : List Event) (k : ℕ) where
  abbrev is_own : JourneyRow → Bool
  is_own j = j.id == k

  -- no row of a journey with another number
  none_own : (n : ℕ) (bs : List Begun) → ((i : ℕ) (b : Begun) → slice_get bs i ≡ Some b → n + i ≡ k → ⊥)
      → filter is_own (map (row_in l) (counted_from n bs)) ≡ []
  none_own n [] off = refl
  none_own n (b ∷ bs) off = grind (arith, ne_eqb, off 0 b refl, none_own (suc n) bs (λ i c e same. off (suc i) c e (omega arith)))

  -- just the row of the journey with this number
  one_own : (n i : ℕ) (bs : List Begun) (b : Begun) → slice_get bs i ≡ Some b → n + i ≡ k
      → filter is_own (map (row_in l) (counted_from n bs)) ≡ row_in l (k, b) ∷ []
  one_own n i [] b e same = cc
  one_own n zero (c ∷ bs) b e same =
      let here : n ≡ k = omega arith in
      let is : c ≡ b = cc in
      ap (λ v. cond v (row_in l (n, c) ∷ filter is_own (map (row_in l) (counted_from (suc n) bs))) (filter is_own (map (row_in l) (counted_from (suc n) bs)))) (eq-eqb n k here)
      ∙ ap₂ ◌∷◌ (ap (λ m. row_in l (m, c)) here ∙ ap (λ d. row_in l (k, d)) is) (none_own (suc n) bs (λ i d f more. omega arith))
  one_own n (suc i) (c ∷ bs) b e same = grind (arith, ne_eqb, row_in, one_own (suc n) i bs b e (omega arith))

state_same : (p : Phase) → phase_number p ≡ state_number (state_of p)
state_same p = grind arith

module _ (l : List Event) (c : Listed) where
  abbrev pub shorts : List Joined → List HoldingShort
  shorts rows = map holding_short (map row_shown rows)

  abbrev pub rows_with : StepRow → List Joined
  rows_with s = with_own (journeys_called l) (stock_row_of c) s

  -- an option with its journey's row is shown as its holder
  own_told : (h : Holder) (s : StepRow) → found_of h ≡ holder_of s
      → shorts (rows_with s) ≡ map holding_told (cons_option (holding_of l c.0 h) [])
  own_told h s same =
      let journey : s.journey ≡ h.journey = sym (ap (λ (f : HolderFound). f.journey) same) in
      let places : s.places ≡ h.places = sym (ap (λ (f : HolderFound). f.places) same) in
      by_number h.journey journey (journey_at l h.journey) refl places
    where
      by_number : (k : ℕ) → s.journey ≡ k → (o : Option Journey) → journey_at l k ≡ o → s.places ≡ h.places
          → shorts (rows_with s) ≡ map holding_told (cons_option (option_map (holding_by c.0 (record h { journey = k })) (brief_of l k)) [])
      by_number k journey None none places =
          let off = none_own l k 1 (begun l) (λ i b e same.
          let number : k ≡ suc i = omega arith in
          let bad : None ≡ Some b.journey = sym none ∙ ap (journey_at l) number ∙ begun_there l i b e in cc) in
          grind (arith, off)
      by_number zero journey (Some a) there places = absurd (cc)
      by_number (suc i) journey (Some a) there places =
          let b = there_begun l i a there in
          let one = one_own l (suc i) 1 i (begun l) b.0 b.1 (omega arith) in
          grind (arith, one, b.2, state_same)

  -- the options of a cell, with the rows of their journeys, are shown as its holders
  pub all_told : (hs : List Holder) (ss : List StepRow) → map found_of hs ≡ map holder_of ss
      → shorts (flat_map rows_with ss) ≡ map holding_told (filter_map (holding_of l c.0) hs)
  all_told [] [] same = refl
  all_told [] (s ∷ ss) same = absurd (cc)
  all_told (h ∷ hs) [] same = absurd (cc)
  all_told (h ∷ hs) (s ∷ ss) same =
      let both : found_of h ∷ map found_of hs ≡ holder_of s ∷ map holder_of ss = same in
      let first : found_of h ≡ holder_of s = cc in
      let others : map found_of hs ≡ map holder_of ss = cc in
      grind (arith, map-append, own_told h s first, all_told hs ss others)

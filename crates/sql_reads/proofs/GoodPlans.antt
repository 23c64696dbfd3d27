-- The rows of a plan that keeps its limits give that plan. For the functions of `plan_rows`.
use Rattle.std.proofs.Common.{◌≡◌, ℕ, zero, suc, ◌+◌, ◌<◌, List, [], ◌∷◌, ◌++◌, map, drop, length, get_or, Bool, true, false, IsTrue, Option, Some, None, Ok, refl, sym, ap, ◌∙◌, arith, add-one, ◌&&◌, flat_map, slice_get, option_map, option_and_then, string_bytes, unwrap_or, rules}
use Rattle.std.proofs.Math.Seq.{drop-cons, drop-append_seam}
use Rattle.std.proofs.Math.ListN.{drop_of_length-le}
use Rattle.std.proofs.lemmas.Bool.{and_parts}
use Rattle.std.proofs.lemmas.List.{drop-map, drop-drop, length-map}
use Rattle.allotment.specs.Cells.{kind_number}
use Rattle.allotment.specs.Texts.{keep_if, kind_of_number}
use Rattle.allotment.specs.Limits.{is_code, is_night, are_nights, is_count, is_want}
use Rattle.allotment.specs.Making.{want_made}
use Rattle.allotment.specs.Nights.{night_in, night_text}
use Rattle.allotment.specs.Want.{Wanted}
use Rattle.allotment.specs.declared.codes.Kind.{Kind}
use Rattle.allotment.proofs.LawLemmas.{number_again}
use Rattle.allotment.proofs.MakingLemmas.{made_whole}
use Rattle.allotment.proofs.NightLemmas.{night_in-night_text}
use Rattle.plan.specs.PlanModel.{Planned, StepPlan, numbered, option_count, step_count}
use Rattle.desk_sql.specs.Rows.{StepRow}
use Rattle.desk_sql.specs.FoundRows.{step_of}
use Rattle.desk_sql.specs.declared.steps.StepFound.{StepFound}
use Rattle.sql_model.specs.Beginning.{rows_of_option, rows_of_step}
use Rattle.sql_model.specs.ExpectedRows.{counted_from, none_taken, option_row, option_rows}
use Rattle.sql_model.specs.Reading.{not_taken}
use Rattle.sql_reads.specs.PlanRows.{first_rows, steps_after, TellsWant}

pub not_both : (b : Bool) → b ≡ true → b ≡ false → ⊥
not_both b is_true is_false = absurd (let both : true ≡ false = sym is_true ∙ is_false in cc)

-- Wants.

kind_one : (k m : Kind) → kind_number k ≡ kind_number m → k ≡ m
kind_one k m e = let same : Some k ≡ Some m = sym (number_again k) ∙ ap kind_of_number e ∙ number_again m in cc

-- a row tells one want
pub tells_one : (row : StepFound) (w v : Wanted) → TellsWant row w → TellsWant row v → w ≡ v
tells_one row w v a b = search (rules, arith, kind_one)

-- the want of a row that tells one is made
pub want_good : (row : StepFound) (want : Wanted) (kind : Kind) (night : ℕ) (text : List ℕ) → IsTrue (is_want want) → TellsWant row want
    → row.kind ≡ kind_number kind → row.night ≡ night → text ≡ night_text night
    → want_made kind (string_bytes row.supplier) (string_bytes row.product) text row.nights row.places ≡ Ok want
want_good row want kind night text good tells kind_is night_is text_is =
    let four = and_parts (is_code want.supplier && is_code want.product && is_night want.first && are_nights want.kind want.first want.nights) (is_count want.count) good in
    let three = and_parts (is_code want.supplier && is_code want.product && is_night want.first) (are_nights want.kind want.first want.nights) four.0 in
    let two = and_parts (is_code want.supplier && is_code want.product) (is_night want.first) three.0 in
    let k : kind ≡ want.kind = kind_one kind want.kind (sym kind_is ∙ tells.kind) in
    let n : night ≡ want.first = sym night_is ∙ tells.first in
    let read : night_in text ≡ Some want.first = ap night_in (text_is ∙ ap night_text n) ∙ night_in-night_text want.first two.1 in
    ap (λ x. want_made x (string_bytes row.supplier) (string_bytes row.product) text row.nights row.places) k
    ∙ ap (λ x. want_made want.kind x (string_bytes row.product) text row.nights row.places) tells.supplier
    ∙ ap (λ x. want_made want.kind want.supplier x text row.nights row.places) tells.product
    ∙ ap (λ x. want_made want.kind want.supplier want.product text x row.places) tells.nights
    ∙ ap (λ x. want_made want.kind want.supplier want.product text want.nights x) tells.places
    ∙ made_whole want.kind want.supplier want.product text want.nights want.count two.0 want.first read three.1 four.1

-- what passes is the value itself
pub kept_is : {X : Type 0} (p : X → Bool) (x y : X) → keep_if p x ≡ Some y → x ≡ y
kept_is {X} p x y e = search (rules, arith)

-- Rows from a place on.

counted_at : {X : Type 0} (k n : ℕ) (xs : List X) (x : X) → slice_get xs n ≡ Some x
    → drop n (counted_from k xs) ≡ (k + n, x) ∷ drop (suc n) (counted_from k xs)
counted_at k n [] x e = absurd (cc)
counted_at {X} k zero (y ∷ xs) x e = search (rules, arith)
counted_at {X} k (suc n) (y ∷ xs) x e = search (rules, arith, counted_at (suc k) n xs x e)

-- a row is the next one of the rows that are left
pub next_left : (id : ℕ) (rows : List StepFound) (at : ℕ) (d : StepFound) → at < length rows
    → first_rows id (drop at rows) ≡ not_taken (step_of id (get_or rows at d)) ∷ first_rows id (drop (at + 1) rows)
next_left id rows at d inside = search (rules, arith, drop-cons, add-one)

-- where rows are left, there is a next one
pub more_left : (id : ℕ) (rows : List StepFound) (at : ℕ) (x : StepRow) (later : List StepRow)
    → first_rows id (drop at rows) ≡ x ∷ later → at < length rows
more_left id rows at x later e = search (rules, arith, drop_of_length-le)

-- the heads and the tails of two lists that are the same
pub heads : {X : Type 0} (x y : X) (xs ys : List X) → x ∷ xs ≡ y ∷ ys → x ≡ y
heads x y xs ys e = cc

pub tails : {X : Type 0} (x y : X) (xs ys : List X) → x ∷ xs ≡ y ∷ ys → xs ≡ ys
tails x y xs ys e = cc

-- The rows of a step, option by option.

-- within a list there is an element
pub some_within : {X : Type 0} (xs : List X) (n : ℕ) → n < length xs → (x : X) × (slice_get xs n ≡ Some x)
some_within [] n low = absurd (omega arith)
some_within (x ∷ xs) zero low = (x, refl)
some_within (x ∷ xs) (suc n) low = some_within xs n (omega arith)

option_left : (id i n : ℕ) (o : Option StepPlan) → n < unwrap_or (option_map (λ (s : StepPlan). length s.options) o) 0
    → (x : StepRow) × (unwrap_or (option_map (λ (w : Wanted). option_row id i (unwrap_or (option_map (λ (s : StepPlan). s.is_marked) o) false) (suc n) false w ∷ []) (option_and_then (λ (s : StepPlan). numbered s.options (suc n)) o)) [] ≡ x ∷ [])
    × (drop n (unwrap_or (option_map (λ (s : StepPlan). option_rows none_taken id i s) o) []) ≡ x ∷ drop (suc n) (unwrap_or (option_map (λ (s : StepPlan). option_rows none_taken id i s) o) []))
option_left id i n None low = absurd (omega arith)
option_left id i n (Some s) low =
    let has = some_within s.options n low in
    let row = λ (w : ℕ × Wanted). option_row id i s.is_marked w.0 false w.1 in
    let here : 1 + n ≡ suc n = omega arith in (
      option_row id i s.is_marked (suc n) false has.0,
      ap (λ f. unwrap_or (option_map (λ (w : Wanted). option_row id i s.is_marked (suc n) false w ∷ []) f) []) has.1,
      drop-map row n (counted_from 1 s.options) ∙ ap (map row) (counted_at 1 n s.options has.0 has.1)
          ∙ ap (λ (m : ℕ). option_row id i s.is_marked m false has.0 ∷ map row (drop (suc n) (counted_from 1 s.options))) here
          ∙ ap (λ ys. option_row id i s.is_marked (suc n) false has.0 ∷ ys) (sym (drop-map row (suc n) (counted_from 1 s.options))),
    )

-- after some options of a step comes the next one
pub step_left : (id : ℕ) (rows : List StepFound) (at : ℕ) (plan : Planned) (i n : ℕ) (later : List StepRow) → n < option_count plan i
    → first_rows id (drop at rows) ≡ drop n (rows_of_step id plan i) ++ later
    → (x : StepRow) × (rows_of_option id plan i (n + 1) ≡ x ∷ []) × (first_rows id (drop at rows) ≡ x ∷ (drop (n + 1) (rows_of_step id plan i) ++ later))
step_left id rows at plan i n later low left =
    let next = option_left id i n (numbered plan.steps i) low in (
      next.0,
      ap (rows_of_option id plan i) (add-one n) ∙ next.1,
      left ∙ ap (λ ys. ys ++ later) next.2 ∙ ap (λ k. next.0 ∷ (drop k (rows_of_step id plan i) ++ later)) (sym (add-one n)),
    )

length-counted : {X : Type 0} (k : ℕ) (xs : List X) → length (counted_from k xs) ≡ length xs
length-counted k [] = refl
length-counted k (x ∷ xs) = ap suc (length-counted (suc k) xs)

rows_count : (id i : ℕ) (o : Option StepPlan)
    → length (unwrap_or (option_map (λ (s : StepPlan). option_rows none_taken id i s) o) []) ≡ unwrap_or (option_map (λ (s : StepPlan). length s.options) o) 0
rows_count id i o = search (rules, arith, length-map, length-counted)

-- The steps of a plan.

-- after some steps come the rows of the next one
pub steps_left : (id : ℕ) (plan : Planned) (n : ℕ) → n < step_count plan
    → steps_after id plan n ≡ rows_of_step id plan (n + 1) ++ steps_after id plan (n + 1)
steps_left id plan n low =
    let has = some_within plan.steps n low in
    ap (λ ss. flat_map (λ (s : ℕ × StepPlan). option_rows none_taken id s.0 s.1) ss) (counted_at 1 n plan.steps has.0 has.1)
    ∙ ap (λ (m : ℕ). option_rows none_taken id m has.0 ++ steps_after id plan (suc n)) (omega arith)
    ∙ ap (λ o. unwrap_or (option_map (λ (s : StepPlan). option_rows none_taken id (suc n) s) o) [] ++ steps_after id plan (suc n)) (sym has.1)
    ∙ ap (λ k. rows_of_step id plan k ++ steps_after id plan k) (sym (add-one n))

-- after the rows of a step come those of the later ones
pub steps_next : (id : ℕ) (rows : List StepFound) (from to : ℕ) (plan : Planned) (n : ℕ) → n < step_count plan
    → to ≡ from + option_count plan (n + 1) → first_rows id (drop from rows) ≡ steps_after id plan n
    → first_rows id (drop to rows) ≡ steps_after id plan (n + 1)
steps_next id rows from to plan n low to_is left =
    let whole : first_rows id (drop from rows) ≡ rows_of_step id plan (n + 1) ++ steps_after id plan (n + 1) = left ∙ steps_left id plan n low in
    let count : option_count plan (n + 1) ≡ length (rows_of_step id plan (n + 1)) = sym (rows_count id (n + 1) (numbered plan.steps (n + 1))) in
    ap (λ k. first_rows id (drop k rows)) to_is ∙ ap (first_rows id) (sym (drop-drop (option_count plan (n + 1)) from rows))
    ∙ sym (dropped (option_count plan (n + 1)) (drop from rows)) ∙ ap (drop (option_count plan (n + 1))) whole
    ∙ ap (λ k. drop k (rows_of_step id plan (n + 1) ++ steps_after id plan (n + 1))) count
    ∙ drop-append_seam (rows_of_step id plan (n + 1)) (steps_after id plan (n + 1))
  where
    dropped : (k : ℕ) (xs : List StepFound) → drop k (first_rows id xs) ≡ first_rows id (drop k xs)
    dropped k xs = drop-map not_taken k (map (step_of id) xs) ∙ ap (map not_taken) (drop-map (step_of id) k xs)

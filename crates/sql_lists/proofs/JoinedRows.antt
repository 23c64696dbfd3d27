-- The answer of the query of holders of cells, as rows of the three tables that it joins. For `holdings`.
use Rattle.std.proofs.Common.{◌≡◌, inl, inr, ℤ, List, [], ◌∷◌, ◌++◌, map, filter, cond, if◌then◌else◌, Bool, true, false, refl, sym, ap, ap₂, subst, ◌∙◌}
use Rattle.std.specs.Bool.{⊤}
use Rattle.std.specs.List.{AllByRecursion, flat_map, list_all}
use Rattle.std.specs.List.Sorted.{IsPermutation}
use Rattle.std.proofs.lemmas.List.{map-append}
use Rattle.sqlite.specs.Order.{Row}
use Rattle.sqlite.specs.Term.{Env, holds}
use Rattle.sqlite.specs.Tree.{Trees}
use Rattle.sqlite.specs.Query.{IsAnswer, Output, output, output_cmp}
use Rattle.sqlite.specs.Program.{overlay}
use Rattle.sqlite_trees.specs.Tree.{IsAscending}
use Rattle.sqlite_trees.proofs.ListLemmas.{ascending_from_map}
use Rattle.desk_sql.specs.Lists.{IsNumbered, IsTableOf, numbered_row}
use Rattle.desk_sql.specs.Rows.{JourneyRow, StepRow, StockRow, journey_row, step_columns, stock_columns}
use Rattle.desk_sql.proofs.Answering.{Answers}
use Rattle.desk_sql.proofs.Ascending.{IsUpTo, ascends, output_total}
use Rattle.desk_sql.proofs.Permuting.{permuted}
use Rattle.sql_lists.specs.HoldingLists.{Joined, holding_tests, holdings_query, join, joined}
use Rattle.desk_sql.proofs.Causing.{IsSure}

-- no sum of the query overflows, since it has none
pub holdings_sure : IsSure holdings_query
holdings_sure db params (inl none) = none
holdings_sure db params (inr any) = any.4.4.4

-- lists that are made of lists, element by element
module _ {P R V E J O : Type 0} (F : R → List E) (G : V → List J) (f : P → R) (v : P → V) (o : E → O) (out : J → O) (Good : P → Type 0)
    (same : (p : P) → Good p → map o (F (f p)) ≡ map out (G (v p))) where
  flat_alike : (ps : List P) → AllByRecursion Good ps → map o (flat_map F (map f ps)) ≡ map out (flat_map G (map v ps))
  flat_alike [] good = refl
  flat_alike (p ∷ ps) good =
      map-append o (F (f p)) (flat_map F (map f ps)) ∙ ap₂ ◌++◌ (same p good.0) (flat_alike ps good.1)
      ∙ sym (map-append out (G (v p)) (flat_map G (map v ps)))

all_given : {P : Type 0} (ps : List P) → AllByRecursion (λ (_ : P). ⊤) ps
all_given [] = tt
all_given (p ∷ ps) = (tt, all_given ps)

pub map_map : {A B C : Type 0} (f : A → B) (g : B → C) (h : A → C) → ((x : A) → g (f x) ≡ h x) → (xs : List A) → map g (map f xs) ≡ map h xs
map_map f g h same [] = refl
map_map f g h same (x ∷ xs) = rw (same x, map_map f g h same xs) refl

-- what holds of the values of numbered rows
unmapped : (Good : StepRow → Type 0) (ps : List (ℤ × StepRow)) → AllByRecursion Good (map (λ (p : ℤ × StepRow). p.1) ps)
    → AllByRecursion (λ (p : ℤ × StepRow). Good p.1) ps
unmapped Good [] all = tt
unmapped Good (p ∷ ps) all = (all.0, unmapped Good ps all.1)

module _ (params : Row) (test : StockRow → StepRow → JourneyRow → Bool) (out : Joined → Output) (Good : StepRow → Type 0)
    (test_is : (p : ℤ × StockRow) (r : ℤ × StepRow) → Good r.1 → (j : JourneyRow)
    → list_all (holds (params ∷ numbered_row stock_columns p ∷ numbered_row step_columns r ∷ journey_row j ∷ [])) holding_tests
    ≡ test p.1 r.1 j)
    (out_is : (p : ℤ × StockRow) (r : ℤ × StepRow) (j : JourneyRow)
    → output holdings_query (params ∷ numbered_row stock_columns p ∷ numbered_row step_columns r ∷ journey_row j ∷ [])
    ≡ out (join p.1 r.1 j)) where
  -- the way to fill the slots with these rows, if it passes
  abbrev matched : Row → Row → Row → List Env
  matched a b c =
      if list_all (holds (params ∷ a ∷ b ∷ c ∷ [])) holding_tests then (params ∷ a ∷ b ∷ c ∷ []) ∷ [] else []

  last : (p : ℤ × StockRow) (r : ℤ × StepRow) → Good r.1 → (js : List JourneyRow)
      → map (output holdings_query) (flat_map (matched (numbered_row stock_columns p) (numbered_row step_columns r)) (map journey_row js))
      ≡ map out (map (join p.1 r.1) (filter (test p.1 r.1) js))
  last p r good [] = refl
  last p r good (j ∷ js) = rw (test_is p r good j) (go (last p r good js) (test p.1 r.1 j))
    where
      env : Env
      env = params ∷ numbered_row stock_columns p ∷ numbered_row step_columns r ∷ journey_row j ∷ []

      go : map (output holdings_query) (flat_map (matched (numbered_row stock_columns p) (numbered_row step_columns r)) (map journey_row js))
          ≡ map out (map (join p.1 r.1) (filter (test p.1 r.1) js)) → (b : Bool)
          → map (output holdings_query) (cond b (env ∷ []) [] ++ flat_map (matched (numbered_row stock_columns p) (numbered_row step_columns r)) (map journey_row js))
          ≡ map out (map (join p.1 r.1) (cond b (j ∷ filter (test p.1 r.1) js) (filter (test p.1 r.1) js)))
      go more true = ap₂ ◌∷◌ (out_is p r j) more
      go more false = more

  -- the ways to fill the slots
  abbrev ways : List Row → List Row → List Row → List Env
  ways xs ys zs = flat_map (λ a. flat_map (λ b. flat_map (matched a b) zs) ys) xs

  module _ (ps : List (ℤ × StockRow)) (rs : List (ℤ × StepRow)) (js : List JourneyRow) (good : AllByRecursion (λ (r : ℤ × StepRow). Good r.1) rs) where
    outputs_are : map (output holdings_query) (ways (map (numbered_row stock_columns) ps) (map (numbered_row step_columns) rs) (map journey_row js))
        ≡ map out (joined test (map (λ (p : ℤ × StockRow). p.1) ps) (map (λ (r : ℤ × StepRow). r.1) rs) js)
    outputs_are =
        flat_alike (λ a. flat_map (λ b. flat_map (matched a b) (map journey_row js)) (map (numbered_row step_columns) rs))
        (λ c. flat_map (λ s. map (join c s) (filter (test c s) js)) (map (λ (r : ℤ × StepRow). r.1) rs))
        (numbered_row stock_columns) (λ (p : ℤ × StockRow). p.1) (output holdings_query) out (λ (_ : ℤ × StockRow). ⊤)
        (λ p _.
        flat_alike (λ b. flat_map (matched (numbered_row stock_columns p) b) (map journey_row js))
        (λ s. map (join p.1 s) (filter (test p.1 s) js)) (numbered_row step_columns) (λ (r : ℤ × StepRow). r.1)
        (output holdings_query) out (λ (r : ℤ × StepRow). Good r.1) (λ r fine. last p r fine js) rs good)
        ps (all_given ps)

  module _ (db : Trees) (stock : List StockRow) (steps : List StepRow) (journeys : List JourneyRow)
      (cells : IsTableOf stock_columns (db 1) stock) (options : IsTableOf step_columns (db 8) steps)
      (begun : IsNumbered (λ (j : JourneyRow). j.id) journey_row (db 6) journeys) (good : AllByRecursion Good steps)
      (rows : List Row) (answer : IsAnswer holdings_query (overlay db []) params rows) where
    -- the matches of the tables have the outputs of the rows that pass together
    matches_are : map (output holdings_query) (ways (db 1) (db 8) (db 6)) ≡ map out (joined test stock steps journeys)
    matches_are =
        ap (λ xs. map (output holdings_query) (ways xs (db 8) (db 6))) cells.rows_are
        ∙ ap (λ bs. map (output holdings_query) (ways (map (numbered_row stock_columns) cells.numbered) bs (db 6))) options.rows_are
        ∙ ap (λ cs. map (output holdings_query) (ways (map (numbered_row stock_columns) cells.numbered) (map (numbered_row step_columns) options.numbered) cs)) begun.rows_are
        ∙ outputs_are cells.numbered options.numbered journeys
        (unmapped Good options.numbered (subst (AllByRecursion Good) options.values_are good))
        ∙ sym (ap (λ cs. map out (joined test cs steps journeys)) cells.values_are
        ∙ ap (λ ss. map out (joined test (map (λ (p : ℤ × StockRow). p.1) cells.numbered) ss journeys)) options.values_are)

    kept_are : answer.kept ≡ map out (joined test stock steps journeys)
    kept_are = answer.distinct ∙ ap (map (output holdings_query)) answer.grouped ∙ matches_are

    pub joined_answers : Answers holdings_query out (joined test stock steps journeys) rows
    joined_answers =
        let found : IsPermutation (map out (joined test stock steps journeys)) answer.ordered
        = subst (λ os. IsPermutation os answer.ordered) kept_are answer.same in
        let it = permuted out (joined test stock steps journeys) answer.ordered found in
        let up = ascends (output_cmp holdings_query) (output_total holdings_query) answer.ordered answer.sorted in
        record {
          values = it.0;
          same = it.2;
          rising = ascending_from_map (IsUpTo (output_cmp holdings_query) (output_total holdings_query)) out it.0
              (subst (λ os. IsAscending (IsUpTo (output_cmp holdings_query) (output_total holdings_query)) os) it.1 up);
          rows_are = answer.shown ∙ ap (map (λ (o : Output). o.1)) it.1 ∙ map_map out (λ (o : Output). o.1) (λ x. (out x).1) (λ _. refl) it.0;
        }

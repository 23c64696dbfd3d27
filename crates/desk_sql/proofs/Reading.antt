-- The answer of a query over one table. For Answering and Updating.
use Rattle.std.proofs.Common.{◌≡◌, ℕ, List, [], ◌∷◌, ◌++◌, map, Bool, cond, refl, sym, ap, subst, ◌∙◌, flat_map, filter, IsPermutation, IsSorted, arith, rules}
use Rattle.std.specs.List.{list_all}
use Rattle.std.proofs.lemmas.List.Sorted.{IsPermutation-map}
use Rattle.sqlite.specs.declared.types.Value.TheVariants.{Null}
use Rattle.sqlite.specs.Order.{Row}
use Rattle.sqlite.specs.Term.{Term, Env, eval_all, holds}
use Rattle.sqlite.specs.Query.{Query, IsAnswer, end, matches_as, output, Output, output_cmp}
use Rattle.sqlite.specs.Tree.{Trees}
use Rattle.sqlite_value.specs.declared.keys.Key.{Key}
use Rattle.sqlite.specs.Program.{overlay}
use Rattle.sqlite_trees.proofs.ListLemmas.{map-map}
use Rattle.desk_sql.specs.Meanings.{sorted_rows, every_row}

-- the row passes each test of WHERE
abbrev pub passes : List Term → Row → Row → Bool
passes tests params r = list_all (holds (params ∷ r ∷ [])) tests

abbrev pub shown_of : List Term → Row → Row → Row
shown_of project params r = eval_all project (params ∷ r ∷ [])

abbrev pub env_of : Row → Row → Env
env_of params r = params ∷ r ∷ []

some_match : (b : Bool) (x : Env) (r : Row) (ys : List Env) (rs : List Row) (f : Row → Env) → f r ≡ x → ys ≡ map f rs → cond b (x ∷ []) [] ++ ys ≡ map f (cond b (r ∷ rs) rs)
some_match b x r ys rs f one more = search (rules, arith)

matching : (tests : List Term) (params : Row) (db : Trees) (rows : List Row)
    → flat_map (λ r. matches_as Null db tests end (params ∷ r ∷ [])) rows ≡ map (env_of params) (filter (passes tests params) rows)
matching tests params db [] = refl
matching tests params db (r ∷ rows) = some_match (passes tests params r) (params ∷ r ∷ []) r _ (filter (passes tests params) rows) (env_of params) refl (matching tests params db rows)

abbrev pub outputs_of : Query → Row → List Row → List Output
outputs_of q params rows = map (output q) (map (env_of params) rows)

map_shown : (q : Query) (params : Row) (rows : List Row) → map (λ (o : Output). o.1) (outputs_of q params rows) ≡ map (shown_of q.project params) rows
map_shown q params rows =
    ap (map (λ (o : Output). o.1)) (map-map (output q) (env_of params) rows) ∙ map-map (λ (o : Output). o.1) (λ (r : Row). output q (env_of params r)) rows

-- the rows that the query shows of those that pass, in an order that ORDER BY allows
pub record Lists (q : Query) (params : Row) (found : List Row) (rows : List Row) : Type 0 where
  pub ordered : List Output
  pub same : IsPermutation (outputs_of q params found) ordered
  pub sorted : IsSorted (output_cmp q) ordered
  pub shown : rows ≡ map (λ (o : Output). o.1) ordered

pub lists : (tree : ℕ) (tests project : List Term) (order : List (Term × Key)) (db : Trees) (params : Row) (rows : List Row) → IsAnswer (sorted_rows tree tests project order) db params rows
    → Lists (sorted_rows tree tests project order) params (filter (passes tests params) (db tree)) rows
lists tree tests project order db params rows a =
    let q = sorted_rows tree tests project order in
    let kept : a.kept ≡ outputs_of q params (filter (passes tests params) (db tree)) = a.distinct ∙ ap (map (output q)) (a.grouped ∙ matching tests params db (db tree)) in
    record { ordered = a.ordered; same = subst (λ k. IsPermutation k a.ordered) kept a.same; sorted = a.sorted; shown = a.shown }

pub lists_any : (q : Query) (params : Row) (found rows : List Row) → Lists q params found rows → IsPermutation (map (shown_of q.project params) found) rows
lists_any q params found rows l =
    subst (λ xs. IsPermutation xs rows) (map_shown q params found) (subst (IsPermutation (map (λ (o : Output). o.1) (outputs_of q params found))) (sym l.shown) (IsPermutation-map (λ (o : Output). o.1) (outputs_of q params found) l.ordered l.same))

-- the rows that a query shows, in any order
pub shows_any : (tree : ℕ) (tests project : List Term) (db : Trees) (params : Row) (rows answer : List Row)
    → IsAnswer (every_row tree tests project) (overlay db []) params answer → overlay db [] tree ≡ rows
    → IsPermutation (map (shown_of project params) (filter (passes tests params) rows)) answer
shows_any tree tests project db params rows answer a is =
    subst (λ rs. IsPermutation (map (shown_of project params) (filter (passes tests params) rs)) answer) is
    (lists_any (every_row tree tests project) params _ answer (lists tree tests project [] (overlay db []) params answer a))

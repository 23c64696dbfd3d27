-- The row found with a batch's name is that of the only batch that was loaded under it. For loads.
use Rattle.std.proofs.Common.{◌≡◌, ℕ, suc, ◌≤◌, List, [], ◌∷◌, ◌++◌, length, map, filter, Bool, true, if◌then◌else◌, Option, Some, None, IsTrue, inl, inr, refl, sym, ap, subst, arith, eqb-true, append-nil, length-append, filter_map, option_map, bytes_eq, IsPermutation, rules}
use Rattle.std.specs.List.{list_all}
use Rattle.std.proofs.lemmas.Bool.{and_parts}
use Rattle.std.proofs.lemmas.List.{length-map}
use Rattle.std.proofs.lemmas.List.Sorted.{length_permutation}
use Rattle.std.proofs.lemmas.Slice.Eq.{bytes_eq-Decides}
use Rattle.sqlite_trees.proofs.ListLemmas.{IsPermutation-filter}
use Rattle.sqlite_rules.specs.Lists.{Has}
use Rattle.sqlite_rules.proofs.ListLemmas.{all_has}
use Rattle.sqlite_rules.proofs.ProbeLemmas.{has_mapped, mapped_has}
use Rattle.allotment.specs.declared.cells.Row.{Row}
use Rattle.ledger.specs.Answer.{State}
use Rattle.ledger.specs.Ledger.{Event, Loaded, Began, Did, batches_named, rows_if_named, rows_of, is_allowed, is_good_row, IsLegal}
use Rattle.ledger.proofs.Growing.{induct}
use Rattle.ledger.proofs.Events.{batches_named-loaded, batches_named-began, batches_named-did}
use Rattle.desk_sql.specs.Lists.{IsOneOf}
use Rattle.desk_sql.specs.Rows.{Tables, BatchRow}
use Rattle.desk_sql.specs.FoundRows.{is_named, batch_of, FindsBatch}
use Rattle.desk_sql.specs.declared.batches.BatchFound.{BatchFound}
use Rattle.desk_sql.proofs.Members.{permutation_from}
use Rattle.sql_model.specs.ExpectedRows.{counted_from, batch_text, batch_row_of, batches_called}
use Rattle.sql_model.specs.Standing.{StandsFor, IsDesk}
use Rattle.sql_model.proofs.Conditions.{rows_good}
use Rattle.sql_model.proofs.Numbering.{has_chosen}
use Rattle.sql_model.proofs.Wants.{same_test}

-- equality of bytes is symmetric
bytes_back : (a b : List ℕ) → bytes_eq a b ≡ bytes_eq b a
bytes_back a b = search (rules, arith, same_test, bytes_eq-Decides)

-- the rows with a name have the texts of the batches with it
named_from : (name : List ℕ) (n : ℕ) (l : List Event)
    → map (λ (b : BatchRow). b.content)
    (filter (is_named name) (filter_map (λ (e : ℕ × Event). batch_row_of e.0 e.1) (counted_from n l)))
    ≡ map batch_text (batches_named l name)
named_from name n [] = refl
named_from name n (e ∷ l) = search (rules, arith, bytes_back, named_from name (suc n) l)

-- each name has at most one batch
abbrev NamedOnce : List Event → Type 0
NamedOnce l = (name : List ℕ) → length (batches_named l name) ≤ 1

-- a load has a new name, and no other event has one
named_more : (l : List Event) (e : Event) → IsLegal l → IsTrue (is_allowed l e) → NamedOnce l
    → NamedOnce (l ++ e ∷ [])
named_more l (Began agent plan) legal may once = search (rules, arith, batches_named-began)
named_more l (Did j item) legal may once = search (rules, arith, batches_named-did)
named_more l (Loaded other rows) legal may once =
    λ name. rw (batches_named-loaded l other rows name) (go name (bytes_eq name other) refl)
  where
    go : (name : List ℕ) (v : Bool) → bytes_eq name other ≡ v
        → length (batches_named l name ++ (if v then rows ∷ [] else [])) ≤ 1
    go name v e = search (rules, arith, bytes_eq-Decides, and_parts, eqb-true, length-append, append-nil, once name)

-- in a legal ledger each name has at most one batch
pub named_once : (l : List Event) → IsLegal l → (name : List ℕ) → length (batches_named l name) ≤ 1
named_once l legal = induct NamedOnce (λ name. omega arith) named_more l legal

-- in a legal ledger the rows of each batch keep the limits
pub named_good : (l : List Event) → IsLegal l → (name : List ℕ) (rows : List Row)
    → Has (batches_named l name) rows → list_all is_good_row rows ≡ true
named_good l legal name rows h =
    let e = has_chosen (rows_if_named name) l rows h in
    go e.0 e.2 (all_has _ l e.0 (rows_good l legal) e.1)
  where
    go : (e : Event) → rows_if_named name e ≡ Some rows → list_all is_good_row (rows_of e) ≡ true → list_all is_good_row rows ≡ true
    go e is good = search (rules, arith)

-- the found row is that of the batch with the name; no row means no such batch
abbrev pub TellsBatch : List Event → List ℕ → Option BatchRow → Type 0
TellsBatch l name None = batches_named l name ≡ []
TellsBatch l name (Some b) =
    (known : List Row) × (batches_named l name ≡ known ∷ []) × (b.content ≡ batch_text known)

-- a list of length 0 is empty
none_in : {X : Type 0} (xs : List X) → length xs ≡ 0 → xs ≡ []
none_in [] e = refl
none_in (x ∷ xs) e = absurd (omega arith)

-- an element of a list of at most one element is the only one
only_in : {X : Type 0} (xs : List X) (x : X) → length xs ≤ 1 → Has xs x → xs ≡ x ∷ []
only_in [] x few h = absurd h
only_in (y ∷ []) x few (inl e) = ap (λ z. z ∷ []) (sym e)
only_in (y ∷ []) x few (inr h) = absurd h
only_in (y ∷ z ∷ xs) x few h = absurd (omega arith)

-- the row found with a name among the rows of all batches is that of the batch with that name
pub batch_found : (l : List Event) (rows : List BatchRow) (name : List ℕ) (found : Option BatchRow) → IsLegal l
    → IsPermutation (batches_called l) rows → IsOneOf (filter (is_named name) rows) found
    → TellsBatch l name found
batch_found l rows name None legal same one =
    let called = filter (is_named name) (batches_called l) in
    let as_many =
    length_permutation called (filter (is_named name) rows)
    (IsPermutation-filter (is_named name) (batches_called l) rows same) in
    let none : length (filter (is_named name) rows) ≡ 0 = ap length one in
    let texts = ap length (named_from name 1 l) in
    let left = length-map called (λ (b : BatchRow). b.content) in
    let right = length-map (batches_named l name) batch_text in
    none_in (batches_named l name) (omega arith)
batch_found l rows name (Some b) legal same one =
    let there =
    permutation_from (filter (is_named name) (batches_called l)) (filter (is_named name) rows) b
    (IsPermutation-filter (is_named name) (batches_called l) rows same) one in
    let text =
    subst (λ texts. Has texts b.content) (named_from name 1 l)
    (mapped_has (λ (x : BatchRow). x.content) (filter (is_named name) (batches_called l)) b there) in
    let known = has_mapped batch_text (batches_named l name) b.content text in
    (known.0, only_in (batches_named l name) known.0 (named_once l legal name) known.1, known.2)

-- the tables that represent a state give the batch with that name
pub batch_read : (t : Tables) (s : State) (name : List ℕ) (found : Option BatchFound) → StandsFor t s → IsDesk s
    → FindsBatch name t found → TellsBatch s.ledger name (option_map (batch_of name) found)
batch_read t s name found st desk finds = search (rules, arith, batch_found)

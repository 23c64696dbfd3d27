-- How many rowids a write leaves. For the functions that write.
use Rattle.std.proofs.Common.{◌≡◌, ◌≢◌, ◌==◌, ◌<◌, ◌≤◌, ◌^◌, ◌+ℤ◌, ◌<ℤ◌, false, ℕ, ℤ, suc, pos, inl, inr, List, [], ◌∷◌, map, Bool, eqb-true, ap, arith, rules}
use Rattle.std.proofs.lemmas.Int.{ints}
use Rattle.std.proofs.lemmas.Bool.{cases_Bool, eqb-false}
use Rattle.sqlite.specs.declared.types.Value.TheVariants.{Int}
use Rattle.std.specs.List.{AllByRecursion}
use Rattle.sqlite.specs.Table.{Table}
use Rattle.sqlite.specs.Order.{Row}
use Rattle.sqlite.specs.Edit.{Edit, edited, next_rowid, id_in, without_all}
use Rattle.sqlite.specs.State.{State}
use Rattle.sqlite_trees.specs.Tree.{Trees, rowid, put_row}
use Rattle.sqlite_rules.proofs.ListLemmas.{all_has, all_from}
use Rattle.sqlite_rules.proofs.TableLemmas.{put_has, without_all_has}
use Rattle.sqlite_trees.proofs.ListLemmas.{all_weaker}
use Rattle.desk_sql.specs.Lists.{changed}
use Rattle.desk_sql.specs.Writable.{AreLow, HasRowids}
use Rattle.desk_sql.proofs.Writing.{Edits}
use Rattle.desk_sql.proofs.Storing.{next_low}

abbrev IsLow : ℕ → Row → Type 0
IsLow n r = (pos 0 <ℤ id_in (rowid r)) × ((id_in (rowid r) +ℤ pos n) <ℤ pos (2 ^ 63))

-- no rowid of this table is chosen by the store
abbrev pub IsOwn : Table → Type 0
IsOwn table = AllByRecursion (λ (k : ℕ). (k == table.tree) ≡ false) (1 ∷ 3 ∷ 8 ∷ 11 ∷ 14 ∷ [])

-- fewer rowids are left where more are
pub low_fewer : (n m : ℕ) (rows : List Row) → n ≤ m → AreLow m rows → AreLow n rows
low_fewer n m rows less = all_weaker (IsLow m) (IsLow n) (λ r low. (low.0, omega (arith, ints, low.1, less))) rows

pub rowids_fewer : (n m : ℕ) (db : Trees) → n ≤ m → HasRowids m db → HasRowids n db
rowids_fewer n m db less it = search (rules, arith, low_fewer)

-- one row more, under the next rowid
pub low_put : (n : ℕ) (rows : List Row) (new : Row) → rowid new ≡ Int (next_rowid rows) → suc n < 2 ^ 63 → AreLow (suc n) rows
    → AreLow n (put_row new rows)
low_put n rows new is few low =
    let next = next_low (suc n) (pos 1) rows low (omega (arith, ints)) (omega (arith, ints, few)) in
    let own : id_in (rowid new) ≡ next_rowid rows = ap id_in is in
    all_from (IsLow n) (put_row new rows) (λ x there. elim (put_has new rows x there) [
      | inl same ↦ rw same (omega (arith, ints, own, next.0), omega (arith, ints, own, next.1))
      | inr old ↦ all_has (IsLow n) rows x (low_fewer n (suc n) rows (omega arith) low) old
    ])

-- rows that are changed under their rowids
pub low_changed : {X : Type 0} (f : X → Row) (n : ℕ) (test : X → Bool) (change : X → X) → ((x : X) → rowid (f (change x)) ≡ rowid (f x))
    → (xs : List X) → AreLow n (map f xs) → AreLow n (map f (changed test change xs))
low_changed f n test change kept [] low = tt
low_changed f n test change kept (x ∷ xs) low = search (rules, arith, low_changed f n test change kept xs)

-- rows that are removed
pub low_without : (n : ℕ) (rows : List Row) (ids : List ℤ) → AreLow n rows → AreLow n (without_all rows ids)
low_without n rows ids low = all_from (IsLow n) (without_all rows ids) (λ x there. all_has (IsLow n) rows x low (without_all_has ids rows x there))

module _ (old new : State) (edit : Edit) (it : Edits old new edit) (n : ℕ) (has : HasRowids n old.now.trees) where
  -- a write of a table whose rowids are its own numbers
  pub rowids_same : IsOwn edit.table → HasRowids n new.now.trees
  rowids_same its_own = search (rules, arith, eqb-false)

  -- a write of a table whose rowids the store chooses
  at_tree : (tree : ℕ) → (tree ≢ edit.table.tree → new.now.trees tree ≡ old.now.trees tree) → AreLow n (edited old.now.trees edit)
      → AreLow n (old.now.trees tree) → AreLow n (new.now.trees tree)
  at_tree tree others low was = search (rules, arith, cases_Bool, eqb-true, eqb-false)

  pub rowids_kept : AreLow n (edited old.now.trees edit) → HasRowids n new.now.trees
  rowids_kept low = search (rules, arith, at_tree)

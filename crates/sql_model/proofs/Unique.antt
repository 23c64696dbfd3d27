-- Each row of the list of objects is that of one table or index, so the list is that of one schema. For `schemas`.
use Rattle.std.proofs.Common.{rules, ◌≡◌, ℕ, ◌+◌, ◌<◌, false, List, [], ◌∷◌, ◌++◌, refl, sym, ap, ◌∙◌, arith, Some, codes, filter, slice_get, pos}
use Rattle.std.specs.List.{AllZip}
use Rattle.std.specs.Fmt.{decimal}
use Rattle.std.specs.Str.Parse.{digits_value}
use Rattle.std.proofs.lemmas.Fmt.{decimal_is_IsNumeral}
use Rattle.std.proofs.lemmas.List.{append_cancel_left}
use Rattle.sqlite_value.specs.declared.value.Value.{Value}
use Rattle.sqlite_value.specs.declared.value.Value.TheVariants.{Null, Int, Text}
use Rattle.sqlite_value.specs.Order.{Row}
use Rattle.sqlite_trees.specs.Tree.{IsAscending}
use Rattle.sqlite_trees.specs.Objects.{catalog_tree}
use Rattle.sqlite_schema.specs.declared.schema.Table.{Table}
use Rattle.sqlite_schema.specs.declared.schema.Index.{Index}
use Rattle.sqlite_schema.specs.Names.{same_name}
use Rattle.sqlite_rules.specs.Lists.{Has}
use Rattle.sqlite_catalog.specs.Listing.{IsTableRow, IsIndexRow, IsViewRow, IsDefined, automatic, is_table_row, is_index_row, is_view_row}
use Rattle.sqlite_catalog.proofs.StepLemmas.{same_itself}
use Rattle.sql_model.specs.Schemas.{OneSchema}
use Rattle.sql_model.proofs.Orders.{one_alike}

-- if each element determines its partner, a list determines the other list
zip_unique : {A B : Type 0} (R S : A → B → Type 0) → ((x : A) (y z : B) → R x y → S x z → z ≡ y)
    → (xs : List A) (ys zs : List B) → AllZip R xs ys → AllZip S xs zs → zs ≡ ys
zip_unique R S one [] [] [] first second = refl
zip_unique R S one (x ∷ xs) (y ∷ ys) (z ∷ zs) first second =
    search (rules, arith, zip_unique R S one xs ys zs first.1 second.1)
zip_unique R S one _ _ _ first second = search

-- an empty list of rows has an empty list of objects
zip_none : {A B : Type 0} (R S : A → B → Type 0) (xs : List A) (zs : List B) → AllZip R xs [] → AllZip S xs zs → zs ≡ []
zip_none R S [] [] first second = refl
zip_none R S _ _ first second = search

-- the rowid determines the tree
same_tree : (v : Value) (m n : ℕ) → v ≡ Int (pos (m + 1)) → v ≡ Int (pos (n + 1)) → n ≡ m
same_tree v m n first second = search (rules, arith)

same_text : (v : Value) (a b : List ℕ) → v ≡ Text a → v ≡ Text b → b ≡ a
same_text v a b first second = let e : Text b ≡ Text a = sym second ∙ first in cc

-- a row is that of one table
one_table : (row : Row) (s t : Table) → IsTableRow row s → IsTableRow row t → t ≡ s
one_table row s t first second = search (rules, arith, same_tree, same_text)

-- two tables of a list with one name are one
one_named : (tables : List Table) (s t : Table) → IsAscending (λ (a b : Table). same_name a.name b.name ≡ false) tables
    → Has tables s → Has tables t → t.name ≡ s.name → t ≡ s
one_named tables s t rising first second same =
    one_alike (λ (a b : Table). same_name a.name b.name) tables t s rising second first
    (ap (same_name t.name) (sym same) ∙ same_itself t.name) (ap (same_name s.name) same ∙ same_itself s.name)

-- Indexes.

-- the number in the name of an automatic index is unique
same_number : (m n : ℕ) → m < 65536 → n < 65536 → decimal (n + 1) ≡ decimal (m + 1) → n ≡ m
same_number m n low high same =
    let a = decimal_is_IsNumeral (n + 1) (omega arith) in
    let b = decimal_is_IsNumeral (m + 1) (omega arith) in
    let e : n + 1 ≡ m + 1 = sym a.1 ∙ ap (digits_value 10) same ∙ b.1 in
    omega arith

same_place : (name : List ℕ) (m n : ℕ) → m < 65536 → n < 65536
    → codes "sqlite_autoindex_" ++ (name ++ (codes "_" ++ decimal (n + 1)))
    ≡ codes "sqlite_autoindex_" ++ (name ++ (codes "_" ++ decimal (m + 1))) → n ≡ m
same_place name m n low high same = search (rules, arith, same_number, append_cancel_left)

-- a table and a row define one index
one_defined : (table : Table) (v : Value) (i j : Index) → j.name ≡ i.name → j.tree ≡ i.tree
    → IsDefined table i v → IsDefined table j v → j ≡ i
one_defined table Null i j name tree first second =
    let names : (automatic table second.0 second.1 j.tree).name ≡ (automatic table first.0 first.1 i.tree).name = cc in
    let place : second.0 ≡ first.0 = same_place table.name first.0 second.0 first.4 second.4 names in
    let there : Some second.1 ≡ Some first.1 = sym second.2 ∙ ap (slice_get table.uniques) place ∙ first.2 in
    cc
one_defined table (Text sql) i j name tree first second = search (rules, arith)
one_defined table _ i j name tree first second = absurd first

one_index : (tables : List Table) → IsAscending (λ (a b : Table). same_name a.name b.name ≡ false) tables
    → (row : Row) (i j : Index) → IsIndexRow tables row i → IsIndexRow tables row j → j ≡ i
one_index tables rising row i j first second = search (rules, arith, same_text, one_named, one_defined, same_tree)

-- Schemas.

pub one_schema : OneSchema
one_schema a b db none first second =
    let rows = db catalog_tree in
    let x = first.lists.listed in
    let y = second.lists.listed in
    let tables : b.tables ≡ a.tables =
    zip_unique IsTableRow IsTableRow one_table (filter is_table_row rows) a.tables b.tables x.tables y.tables in
    let indexes : b.indexes ≡ a.indexes =
    zip_unique (IsIndexRow a.tables) (IsIndexRow a.tables) (one_index a.tables x.named) (filter is_index_row rows) a.indexes b.indexes
    x.indexes (rw tables at y.indexes) in
    let views : b.views ≡ a.views =
    zip_none IsViewRow IsViewRow (filter is_view_row rows) b.views (rw none at x.views) y.views ∙ sym none in
    λ i. record { tables = tables i; indexes = indexes i; views = views i }

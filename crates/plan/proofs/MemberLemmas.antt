-- What a JSON value has, by what is found in it. For what is taken out of values.
use Rattle.std.proofs.Common.{◌≡◌, ℕ, suc, ◌&&◌, ◌==◌, Bool, List, [], ◌∷◌, map, length, refl, ap, Option, Some, String, option_map, is_some, arith, Bor}
use Rattle.std.specs.List.{list_all}
use Rattle.std.specs.declared.alloc.Global.{Global}
use Rattle.std.proofs.lemmas.List.{length-map}
use Rattle.std.proofs.lemmas.List.Folds.{list_all-map}
use Rattle.serde_json.specs.Data.{Data}
use Rattle.serde_json.specs.Find.{get, as_array, as_object}
use Rattle.serde_json.specs.View.{items_of, items_view, members_view}
use Rattle.serde_json.specs.declared.value.Value.{Value}
use Rattle.plan.specs.PlanJson.{member_count, values_of, has_members, has_just, in_member, list_of}
use Rattle.plan.specs.Levels.{views}

-- an object shows as many members as it has
pub member_count-members_view : (es : List (String Global × Value)) → member_count (members_view es) ≡ length es
member_count-members_view [] = refl
member_count-members_view (e ∷ es) = ap (λ z. suc z) (member_count-members_view es)

-- a list shows its values
pub values_of-items_of : (ds : List Data) → values_of (items_of ds) ≡ ds
values_of-items_of [] = refl
values_of-items_of (d ∷ ds) = ap (λ z. d ∷ z) (values_of-items_of ds)

-- what shows is there
pub is_some-option_map : {X Y : Type 0} (f : X → Y) (o : Option X) → is_some (option_map f o) ≡ is_some o
is_some-option_map f o = grind arith

-- an object of so many members
pub members_counted : (es : List (String Global × Value)) (d : Data) (n m : ℕ) → Some (members_view es) ≡ as_object d
    → m ≡ length es → (m == n) ≡ has_members n d
members_counted es d n m e many = grind (arith, member_count-members_view)

-- the texts of some names
abbrev pub spelled_out : List (Bor (List ℕ)) → List (List ℕ)
spelled_out names = map (λ name. name.now) names

-- an object with so many members has just these where it has each
pub just_each : (names : List (Bor (List ℕ))) (d : Data) (m b : Bool) → m ≡ has_members (length names) d
    → b ≡ list_all (λ name. is_some (get name.now d)) names → (m && b) ≡ has_just (spelled_out names) d
just_each names d m b e h = grind (arith, length-map, list_all-map)

-- a list that is found
pub list_found : (name : List ℕ) (d e : Data) (vs xs : List Value) → xs ≡ vs → Some (items_view vs) ≡ as_array e
    → Some e ≡ get name d → Some (views xs) ≡ in_member name list_of d
list_found name d e vs xs same list found = grind (arith, values_of-items_of)

-- A JSON text whose value is that of a plan, and what is read of such a text.
use Rattle.std.specs.Prelude.{◌≡◌, ℕ, List, map, codes, Option, Some, None, option_map, IsTrue}
use Rattle.std.specs.Borrow.{Bor}
use Rattle.json.specs.Value.{value_view}
use Rattle.json.specs.declared.value.Value.{Value}
use Rattle.serde_json.specs.Data.{Data, number, unsigned, string, object, Members, member, no_members, put}
use Rattle.serde_json.specs.Read.{read, of_json}
use Rattle.plan.specs.PlanData.{plan_data}
use Rattle.plan.specs.PlanModel.{Planned, is_plan}
use Rattle.desk_http.specs.declared.plan_texts.Parts.{Parts}

-- the JSON value of the text is that of this plan
pub record IsPlanText (text : List ℕ) (plan : Planned) : Type 0 where
  pub keeps_limits : IsTrue (is_plan plan)
  pub spelled : read text ≡ Some (plan_data plan)

-- read as JSON, the value is this one
abbrev pub IsData : {A : Type 0} → Value A → Data → Type 0
IsData value d = of_json (value_view value) ≡ Some d

-- read as JSON, the values are these
abbrev pub AreData : {A : Type 0} → List (Value A) → List Data → Type 0
AreData values ds = map (λ v. of_json (value_view v)) values ≡ map Some ds

-- read as JSON, the value is that of this plan
pub record IsPlanValue {A : Type 0} (value : Value A) (plan : Planned) : Type 0 where
  pub keeps_limits : IsTrue (is_plan plan)
  pub spelled : IsData value (plan_data plan)

-- of two members with these names the first stands before the second, whichever is put in first
pub record AreInOrder (first second : List ℕ) : Type 0 where
  pub before : (d e : Data) → put first d (member second e no_members) ≡ member first d (member second e no_members)
  pub after : (d e : Data) → put second e (member first d no_members) ≡ member first d (member second e no_members)

-- the object has just the members of these names: once both are read as JSON, it is the object of what they are
abbrev pub PairsAs : {A : Type 0} → Value A → List ℕ → Value A → List ℕ → Value A → Type 0
PairsAs whole first one second other =
    (d e : Data) → IsData one d → IsData other e
    → IsData whole (object (member first d (member second e no_members)))

-- the member of this name, if it is there, and the later ones
abbrev pub with_part : List ℕ → Option Data → Members → Members
with_part name None later = later
with_part name (Some d) later = member name d later

-- a number, and a text, as parts
abbrev pub number_part : Option ℕ → Option Data
number_part part = option_map (λ n. number (unsigned n)) part

abbrev pub text_part : Option (Bor (List ℕ)) → Option Data
text_part part = option_map (λ text. string text.now) part

-- the members of an option whose known parts these are
abbrev pub parts_data : Parts → Members
parts_data parts =
    with_part (codes "count") (number_part parts.count)
    (with_part (codes "first") (text_part parts.first)
    (with_part (codes "kind") (text_part parts.kind)
    (with_part (codes "nights") (number_part parts.nights)
    (with_part (codes "product") (text_part parts.product)
    (with_part (codes "supplier") (text_part parts.supplier) no_members)))))

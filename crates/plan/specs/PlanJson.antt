-- The plan of a JSON value.
use Rattle.std.specs.Prelude.{◌≡◌, ℕ, suc, ◌==◌, ◌&&◌, Bool, false, List, [], ◌∷◌, map, length, codes, if◌then◌else◌, Option, Some, None, option_map, option_and_then, is_some, unwrap_or, Result}
use Rattle.std.specs.List.{list_all}
use Rattle.serde_json.specs.Data.{Data, Items, no_items, item, Members, no_members, member}
use Rattle.serde_json.specs.Find.{get, as_bool, as_number, as_u64, as_str, as_array, as_object}
use Rattle.allotment.specs.Nights.{night_in}
use Rattle.allotment.specs.Limits.{is_between}
use Rattle.allotment.specs.Texts.{keep_if, kind_of_word}
use Rattle.plan.specs.Limits.{most_tries}
use Rattle.plan.specs.PlanModel.{Planned}
use Rattle.plan.specs.declared.faults.BadPlan.{BadPlan}
use Rattle.plan.specs.Drafts.{OptionDraft, StepDraft, Draft, judged}

-- Values.

-- how many members there are
abbrev pub member_count : Members → ℕ
member_count no_members = 0
member_count (member name d later) = suc (member_count later)

-- the values of a list, in their order
abbrev pub values_of : Items → List Data
values_of no_items = []
values_of (item d later) = d ∷ values_of later

-- the value is an object with so many members
abbrev pub has_members : ℕ → Data → Bool
has_members n d = unwrap_or (option_map (λ members. member_count members == n) (as_object d)) false

-- the value is an object with just these members: as many, and each of them
abbrev pub has_just : List (List ℕ) → Data → Bool
has_just names d = has_members (length names) d && list_all (λ name. is_some (get name d)) names

-- what the member of this name is, if it is one of its sort
abbrev pub in_member : {X : Type 0} → List ℕ → (Data → Option X) → Data → Option X
in_member name sort d = option_and_then sort (get name d)

-- a whole number from 0 on: one that is held as an integer
abbrev pub whole_number : Data → Option ℕ
whole_number d = option_and_then as_u64 (as_number d)

-- a list
abbrev pub list_of : Data → Option (List Data)
list_of d = option_map values_of (as_array d)

-- the text of a member, and an empty one where it is no text: no part of an option is empty
abbrev pub text_of : List ℕ → Data → List ℕ
text_of name d = unwrap_or (in_member name as_str d) []

-- Plans.

-- the members of an option
abbrev pub option_members : List (List ℕ)
option_members = codes "count" ∷ codes "first" ∷ codes "kind" ∷ codes "nights" ∷ codes "product" ∷ codes "supplier" ∷ []

-- what the members of an option say
abbrev pub option_said : Data → OptionDraft
option_said d = record {
  kind = kind_of_word (text_of (codes "kind") d);
  supplier = text_of (codes "supplier") d;
  product = text_of (codes "product") d;
  first = night_in (text_of (codes "first") d);
  nights = in_member (codes "nights") whole_number d;
  count = in_member (codes "count") whole_number d;
}

-- an option is an object with just its six members
abbrev pub json_option : Data → Option OptionDraft
json_option d = if has_just option_members d then Some (option_said d) else None

-- a step with these options, marked or not
abbrev pub step_with : List Data → Bool → StepDraft
step_with options save = record { options = map json_option options; is_marked = save }

-- a step has a list of options, and says whether it is marked
abbrev pub step_from : Option (List Data) → Option Bool → Option StepDraft
step_from (Some options) (Some save) = Some (step_with options save)
step_from _ _ = None

-- the members of a step
abbrev pub step_members : List (List ℕ)
step_members = codes "options" ∷ codes "save" ∷ []

-- a step is an object with just its two members
abbrev pub json_step : Data → Option StepDraft
json_step d =
    if has_just step_members d
    then step_from (in_member (codes "options") list_of d) (in_member (codes "save") as_bool d) else None

-- the members of a plan
abbrev pub plan_members : List (List ℕ)
plan_members = codes "steps" ∷ codes "tries" ∷ []

-- the values that represent the steps of a plan, which is an object with just its two members, the steps a list
abbrev pub json_steps : Data → Option (List Data)
json_steps d = if has_just plan_members d then in_member (codes "steps") list_of d else None

-- the tries of a plan, if they are a whole number from 0 to 9
abbrev pub json_tries : Data → Option ℕ
json_tries d = option_and_then (keep_if (is_between 0 most_tries)) (in_member (codes "tries") whole_number d)

-- a plan with these steps, and tries if they are a number
abbrev pub draft_with : Option ℕ → List Data → Draft
draft_with tries steps = record { steps = map json_step steps; tries = tries }

-- what a value says as a plan
abbrev pub json_draft : Data → Option Draft
json_draft d = option_map (draft_with (json_tries d)) (json_steps d)

-- the plan of a value, or the first thing that is wrong with it
unfoldable pub plan_in_json : Data → Result Planned BadPlan
plan_in_json d = judged (json_draft d)

-- read as a plan, the value gives this
abbrev pub JsonReadsAs : Data → Result Planned BadPlan → Type 0
JsonReadsAs d result = plan_in_json d ≡ result

-- The line of a plan, and the plan of a line.
use Rattle.std.specs.Prelude.{◌≡◌, ◌↔◌, ℕ, ◌-◌, Bool, true, false, List, [], ◌∷◌, ◌++◌, map, length, take, drop, find, bytes_eq, nat_eq, decimal, codes, String, string_bytes, if◌then◌else◌, Option, Some, None, Result, Ok, IsTrue}
use Rattle.std.specs.List.{ends_with}
use Rattle.allotment.specs.Want.{Wanted}
use Rattle.allotment.specs.Cells.{numbers_from}
use Rattle.allotment.specs.Texts.{parts, joined, number_in, kind_of_letter, want_text, slash, bar, semicolon, star}
use Rattle.allotment.specs.Nights.{night_in}
use Rattle.plan.specs.PlanModel.{Planned, StepPlan, is_plan}
use Rattle.plan.specs.declared.faults.BadPlan.{BadPlan}
use Rattle.plan.specs.Drafts.{OptionDraft, StepDraft, Draft, judged}

-- Printing.

-- `*` after a marked step
abbrev pub mark_text : Bool → List ℕ
mark_text true = codes "*"
mark_text false = []

-- options, with `|` between them
abbrev pub options_text : List Wanted → List ℕ
options_text options = joined bar (map want_text options)

-- a step: its options and its mark
abbrev pub step_text : StepPlan → List ℕ
step_text s = options_text s.options ++ mark_text s.is_marked

-- steps, with `;` between them
abbrev pub steps_text : List StepPlan → List ℕ
steps_text steps = joined semicolon (map step_text steps)

-- the tries: `!` and the number
abbrev pub tries_text : ℕ → List ℕ
tries_text n = codes "!" ++ decimal n

-- the line of a plan: its steps and its tries
abbrev pub plan_line : Planned → List ℕ
plan_line p = steps_text p.steps ++ tries_text p.tries

-- the text was appended to what the string held
abbrev pub Writes : {A : Type 0} → String A → String A → List ℕ → Type 0
Writes old new text = string_bytes new ≡ string_bytes old ++ text

-- the text is the line of this plan, which keeps the limits
pub record IsPlanLine (text : List ℕ) (p : Planned) : Type 0 where
  pub keeps_limits : IsTrue (is_plan p)
  pub spelled : text ≡ plan_line p

-- Reading, by cutting.

-- an option has six parts: kind, supplier, product, first night, nights and count
abbrev pub option_of_parts : List (List ℕ) → Option OptionDraft
option_of_parts (kind ∷ supplier ∷ product ∷ first ∷ nights ∷ count ∷ []) = Some (record {
  kind = kind_of_letter kind;
  supplier = supplier;
  product = product;
  first = night_in first;
  nights = number_in nights;
  count = number_in count;
})
option_of_parts _ = None

-- an option is cut at each `/`
abbrev pub option_draft : List ℕ → Option OptionDraft
option_draft text = option_of_parts (parts slash text)

-- there is a `*` at the end
abbrev pub has_mark : List ℕ → Bool
has_mark text = ends_with nat_eq text (star ∷ [])

-- the text without the `*` at its end
abbrev pub without_mark : List ℕ → List ℕ
without_mark text = if has_mark text then take (length text - 1) text else text

-- a step, without its mark, is cut at each `|`
abbrev pub step_draft : List ℕ → StepDraft
step_draft text = record { options = map option_draft (parts bar (without_mark text)); is_marked = has_mark text }

-- the number of tries whose text this is
unfoldable pub tries_in : List ℕ → Option ℕ
tries_in text = find (λ n. bytes_eq (tries_text n) text) (numbers_from 0 10)

-- the text without its last two bytes
abbrev pub front_of : List ℕ → List ℕ
front_of text = take (length text - 2) text

-- its last two bytes
abbrev pub end_of : List ℕ → List ℕ
end_of text = drop (length text - 2) text

-- the last two bytes are the tries, and what stands before them is cut at each `;`
abbrev pub line_draft : List ℕ → Draft
line_draft text = record {
  steps = map (λ step. Some (step_draft step)) (parts semicolon (front_of text));
  tries = tries_in (end_of text);
}

-- the plan of a line, or the first thing that is wrong with it
unfoldable pub plan_in : List ℕ → Result Planned BadPlan
plan_in text = judged (Some (line_draft text))

-- reading the text as a plan gives this
abbrev pub ReadsAs : List ℕ → Result Planned BadPlan → Type 0
ReadsAs text result = plan_in text ≡ result

-- a plan has one line: what is read as a plan is its line, and the line of a plan is read as it
abbrev pub HasOneSpelling : Type 0
HasOneSpelling = (text : List ℕ) (p : Planned) → ReadsAs text (Ok p) ↔ IsPlanLine text p

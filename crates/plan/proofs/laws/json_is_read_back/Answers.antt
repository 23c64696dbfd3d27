use Rattle.plan.proofs.laws.json_is_read_back.Goals as goal
use Rattle.std.proofs.Common.{◌≡◌, Bool, true, List, map, length, ap, ◌∙◌, arith, Option, Some, Ok, nat_le, le-leb}
use Rattle.std.specs.List.{list_all}
use Rattle.allotment.specs.Want.{Wanted}
use Rattle.allotment.specs.Limits.{is_between, is_want}
use Rattle.plan.specs.Limits.{most_options, most_tries}
use Rattle.plan.specs.PlanModel.{Planned, StepPlan, is_step, is_plan}
use Rattle.plan.specs.Drafts.{OptionDraft, StepDraft, drafted, drafted_step, drafted_plan}
use Rattle.plan.specs.PlanJson.{json_option, json_step, step_with, json_draft, plan_in_json}
use Rattle.plan.specs.PlanData.{want_data, step_data, plan_data}
use Rattle.allotment.proofs.TestLemmas.{and_both, and_make, keep_if_yes}
use Rattle.allotment.proofs.NightLemmas.{night_in-night_text}
use Rattle.plan.proofs.MemberLemmas.{values_of-items_of}
use Rattle.plan.proofs.LimitLemmas.{limited}
use Rattle.allotment.proofs.LawLemmas.{word_again}
use Rattle.allotment.proofs.OwnTextLemmas.{IsSoundWant, is_sound_want}
use Rattle.plan.proofs.KeptLemmas.{drafted_again}
use Rattle.plan.proofs.SpellLemmas.{map_again}

-- the value of a want is read back as the want
option_again : (w : Wanted) → IsSoundWant w → json_option (want_data w) ≡ Some (drafted w)
option_again w g = grind (arith, word_again, night_in-night_text)

-- a step with these options
abbrev marked_so : List (Option OptionDraft) → Bool → StepDraft
marked_so options mark = record { options = options; is_marked = mark }

-- the value of a step is read as the step
step_again : (s : StepPlan) → is_step s ≡ true → json_step (step_data s) ≡ Some (drafted_step s)
step_again s e =
    let both = and_both (is_between 1 most_options (length s.options)) (list_all is_want s.options) e in
    ap (λ z. Some (step_with z s.is_marked)) (values_of-items_of (map want_data s.options))
    ∙ ap (λ z. Some (marked_so z s.is_marked))
    (map_again is_want want_data json_option (λ w. Some (drafted w)) (λ w good. option_again w (is_sound_want w good)) s.options both.1)

-- the value of a plan is read as what the plan says
draft_again : (p : Planned) → list_all is_step p.steps ≡ true → nat_le p.tries most_tries ≡ true
    → json_draft (plan_data p) ≡ Some (drafted_plan p)
draft_again p good few = grind (arith, and_make, le-leb, values_of-items_of, keep_if_yes, map_again, step_again)

-- the value of a plan is read back as the plan
json_again : (p : Planned) → is_plan p ≡ true → plan_in_json (plan_data p) ≡ Ok p
unfolding plan_in_json
json_again p e = grind (arith, limited, draft_again, le-leb, drafted_again)

-- each plan by its limits
pub returns : goal.returns
returns c = record { json_is_read_back = json_again }

-- What is read of a JSON plan keeps the limits. For the reader of JSON plans.
use Rattle.std.proofs.Common.{◌≡◌, arith, Bool, true, false, List, Option, Some, None, Ok, codes, option_map, if◌then◌else◌}
use Rattle.serde_json.specs.Data.{Data}
use Rattle.plan.specs.PlanModel.{Planned, is_plan}
use Rattle.plan.specs.Drafts.{judged}
use Rattle.plan.specs.PlanJson.{has_just, text_of, option_members, option_said, json_option, json_step, json_steps, json_tries, draft_with, plan_in_json}
use Rattle.plan.proofs.CleanLemmas.{HasNight, HasNights, all_images, judged_keeps}
use Rattle.plan.proofs.ReadLemmas.{night_read}

-- the first night of an option is read as a night
option_night : (d : Data) → HasNight (json_option d)
option_night d = by (has_just option_members d)
  where
    by : (b : Bool) → HasNight (if b then Some (option_said d) else None)
    by true = λ there. (night_read (text_of (codes "first") d) there).0
    by false = tt

-- so are those of a step
step_nights : (d : Data) → HasNights (json_step d)
step_nights d = grind (arith, all_images HasNight json_option option_night)

-- what is read of a value keeps the limits
pub json_keeps_limits : (d : Data) (p : Planned) → plan_in_json d ≡ Ok p → is_plan p ≡ true
unfolding plan_in_json
json_keeps_limits d p e = by (json_steps d) e
  where
    by : (o : Option (List Data)) → judged (option_map (draft_with (json_tries d)) o) ≡ Ok p → is_plan p ≡ true
    by None e = cc
    by (Some ds) e = judged_keeps (draft_with (json_tries d) ds) p (all_images HasNights json_step step_nights ds) e

use Rattle.std.proofs.Common.{◌≡◌, drop}
use Rattle.json.specs.Value.{members_view}
use Rattle.serde_json.specs.Data.{no_members}
use Rattle.serde_json.specs.Read.{of_members}
use Rattle.desk_http.specs.PlanTexts.{parts_data}
use Rattle.desk_http.proofs.plan_texts.parts_of.Given as goal

-- the remaining members, put to the parts so far, are all members
abbrev pub invariant-loop-member : goal.invariant-loop-member
invariant-loop-member l =
    of_members (members_view (drop l.member-index l.members)) (parts_data l.parts) ≡ of_members (members_view l.members) no_members

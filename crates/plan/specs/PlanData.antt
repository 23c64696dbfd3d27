-- The JSON value of a plan. The members of an object stand in the order of their names.
use Rattle.std.specs.Prelude.{map, codes, IsTrue, Ok}
use Rattle.serde_json.specs.Data.{Data, number, unsigned, string, boolean, array, object, member, no_members}
use Rattle.serde_json.specs.View.{items_of}
use Rattle.allotment.specs.Want.{Wanted}
use Rattle.allotment.specs.Nights.{night_text}
use Rattle.allotment.specs.Texts.{kind_word}
use Rattle.plan.specs.PlanModel.{Planned, StepPlan, is_plan}
use Rattle.plan.specs.PlanJson.{JsonReadsAs}

-- an option: its six parts, the kind by its word and the first night by its text
abbrev pub want_data : Wanted → Data
want_data w =
    object (member (codes "count") (number (unsigned w.count))
    (member (codes "first") (string (night_text w.first))
    (member (codes "kind") (string (kind_word w.kind))
    (member (codes "nights") (number (unsigned w.nights))
    (member (codes "product") (string w.product)
    (member (codes "supplier") (string w.supplier) no_members))))))

-- a step: its options, and whether it is marked
abbrev pub step_data : StepPlan → Data
step_data s =
    object (member (codes "options") (array (items_of (map want_data s.options)))
    (member (codes "save") (boolean s.is_marked) no_members))

-- a plan: its steps and its tries
abbrev pub plan_data : Planned → Data
plan_data p =
    object (member (codes "steps") (array (items_of (map step_data p.steps)))
    (member (codes "tries") (number (unsigned p.tries)) no_members))

-- each plan has a JSON value, which is read back as the plan
abbrev pub IsReadBack : Type 0
IsReadBack = (p : Planned) → IsTrue (is_plan p) → JsonReadsAs (plan_data p) (Ok p)

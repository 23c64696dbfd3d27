-- the tokens of the text are one value, which is that of the plan
use Rattle.std.proofs.Common.{◌≡◌, ◌∙◌, [], rules}
use Rattle.json.specs.Value.{value_view}
use Rattle.desk_http.proofs.PlanTextLemmas.{read_whole, some_weaker}
use Rattle.desk_http.proofs.plan_texts.plan_in.Goals as goal

pub returns : goal.returns
returns c =
    let none : c.read.new.reader ≡ [] = search rules in
    record {
      plan = some_weaker c.plan_of.result _ _
          (λ plan is. record {
            keeps_limits = is.keeps_limits;
            spelled = read_whole c.args.text.now (value_view c.in-Ok-read.value) (rw (c.in-Ok.ensures.ok, none) at c.in-Ok-read.ensures.ok)
                ∙ is.spelled;
          })
          c.plan_of.ensures.plan;
    }

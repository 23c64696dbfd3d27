use Rattle.std.proofs.Common.{◌≡◌, ◌∙◌, ap, rules, subst, sym}
use Rattle.commands.specs.declared.replies.Refusal.TheVariants.{BadBody}
use Rattle.http_pages.specs.Admitting.{plain}
use Rattle.http_pages.proofs.TextLemmas.{not_utf8}
use Rattle.desk_http.specs.Demands.{begin_by, begin_of}
use Rattle.desk_http.specs.DemandValues.{AsksFor}
use Rattle.desk_http.specs.declared.demands.Unmet.TheVariants.{Refused}
use Rattle.desk_http.proofs.PlanTextLemmas.{no_value, value_of_text}
use Rattle.desk_http.proofs.showing.begin.Goals as goal

-- a body that is not UTF-8 has no value
pub returns-in_default : goal.returns-in_default
returns-in_default c =
    let gave : c.from.result ≡ Refused (plain BadBody) = search rules in
    record { begin = no_value c.args.body.now c.from.result (not_utf8 c.args.body.now c.in_default.ensures.cases.0) gave }

-- the value of the body is that of the plan, which is read back
pub returns-in-Some : goal.returns-in-Some
returns-in-Some c =
    let cases = c.in-Ok.ensures.cases in
    let its = c.in-Some.ensures.plan in
    record {
      begin = ap begin_by (value_of_text c.args.body.now c.in-Ok.text.now cases.1 cases.0 ∙ its.spelled)
          ∙ ap begin_of (c.json_is_read_back.ensures.json_is_read_back c.in-Some.plan its.keeps_limits);
    }

-- the body is its text
pub returns-in-None : goal.returns-in-None
returns-in-None c =
    let cases = c.in-Ok.ensures.cases in
    record {
      begin = subst (λ z. AsksFor (begin_by z) c.begin_of.result)
          (sym (value_of_text c.args.body.now c.in-Ok.text.now cases.1 cases.0)) c.begin_of.ensures.begin;
    }

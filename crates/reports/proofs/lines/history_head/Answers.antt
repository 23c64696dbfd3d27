-- The format writes the head.
use Rattle.std.proofs.Common.{◌≡◌, ◌∙◌, ◌++◌, append_assoc, codes, decimal, string_bytes}
use Rattle.std.proofs.lemmas.Result.{IfOk-weaker}
use Rattle.reports.proofs.lines.history_head.Goals as goal

pub returns : goal.returns
returns c =
    let plan = string_bytes c.in_ok-plan.plan in
    let written =
    codes "journey " ++ (decimal c.args.id ++ (codes " agent " ++ (c.as_str-agent.result.now
    ++ (codes "\nplan " ++ (plan ++ codes "\nitems"))))) in
    record {
      head = IfOk-weaker c.format.result (λ text. string_bytes text ≡ written) _
          (λ text is. is ∙ rw (c.as_str-agent.ensures.text, c.in_ok-plan.ensures.line) (simp append_assoc)) c.format.ensures.ok;
    }

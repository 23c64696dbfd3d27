-- The members are those of the step.
use Rattle.std.proofs.Common.{rules}
use Rattle.serde_json.specs.declared.value.Value.{the_lemmas}
use Rattle.serde_json.proofs.Views.{view-Object}
use Rattle.http_pages.proofs.plans.step_value.Goals as goal

pub returns : goal.returns
returns c = record {
  value = λ s e.
      let options = c.in_ok-wants_value.ensures.value s e in
      rw (view-Object c.put-2.new.map, c.in_ok-put-2.ensures.ok, c.in_ok-put.ensures.ok, c.new-members.ensures.empty, options, c.marked.ensures.mark, e) (search (rules, the_lemmas));
}

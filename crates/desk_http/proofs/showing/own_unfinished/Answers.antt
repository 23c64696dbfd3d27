-- The journeys that who asks does not see are left out.
use Rattle.std.proofs.Common.{◌∙◌, ap, rules, filter}
use Rattle.std.proofs.lemmas.Fn.{filter_same}
use Rattle.saga_core.specs.declared.records.Brief.{Brief}
use Rattle.desk_http.specs.Pages.{sees}
use Rattle.desk_http.proofs.ReasonLemmas.{read_views}
use Rattle.desk_http.proofs.showing.own_unfinished.Goals as goal

pub returns : goal.returns
returns g c = record {
  briefs = read_views c.in_ok-briefs.ensures.reads
      (λ sound s stood. filter_same _ _ _ (λ x b f' k. search rules) _ _ c.retain.ensures.filtered
      ∙ ap (filter (λ (b : Brief). sees c.args.asker.now b.agent)) (c.in_ok-briefs.ensures.briefs sound s stood));
}

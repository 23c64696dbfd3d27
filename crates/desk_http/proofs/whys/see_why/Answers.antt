-- A journey that is seen is one of the ledger, and its page shows its preview.
use Rattle.std.proofs.lemmas.Grind.{common_steps}
use Rattle.std.proofs.Common.{◌≡◌, ◌∙◌, ap, arith, rules, sym, ℕ, List, None, Some}
use Rattle.http_pages.specs.Pages.{Paged, Value}
use Rattle.http_pages.specs.declared.heads.Status.TheVariants.{Fine}
use Rattle.desk_http.specs.Pages.{own_journey, why_page}
use Rattle.desk_http.proofs.WhyLemmas.{own_found}
use Rattle.desk_http.proofs.whys.see_why.Goals as goal

pub returns : goal.returns
returns g c = record {
  sees = record {
    shows = λ sound s stood.
        let l = s.ledger in
        let asker = c.args.asker.now in
        let own = c.in_ok-journey.ensures.journey.shows (c.why_of_journey.ensures.body.serves.sound sound) s stood in
        let seen : own_journey l asker c.args.id ≡ Some c.in-Some.journey = sym own.0 ∙ c.in-Some.is in
        let shown = c.in_ok-body.ensures.body.shows sound s own.1 in
        let with_body : List ℕ → Paged = λ bytes. record { status = Fine; allow = None; media = Value; body = bytes } in (
          c.shown_page.ensures.page ∙ ap with_body (shown.0 (own_found l asker c.args.id c.in-Some.journey seen)) ∙ ap (why_page l c.args.id) (sym seen),
          shown.1,
        );
    serves = first_of (search rules, grind (arith, common_steps));
    may_act = first_of (search rules, grind (arith, common_steps));
  };
}

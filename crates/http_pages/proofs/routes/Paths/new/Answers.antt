-- The paths of the lines are those of the table.
use Rattle.std.proofs.Common.{◌∙◌, ap}
use Rattle.http_pages.specs.Routes.{routes, table, with_lines}
use Rattle.http_pages.proofs.routes.Paths.new.Goals as goal

pub invariant_of-result : goal.invariant_of-result
unfolding routes
invariant_of-result c = record { whole = c.in_ok-add_all.ensures.added ∙ ap (λ known. with_lines known table) c.new-router.ensures }

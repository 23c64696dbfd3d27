use Rattle.std.proofs.Common.{◌≡◌, drop, map}
use Rattle.http_pages.specs.Routes.{line_of, with_lines}
use Rattle.http_pages.proofs.routes.add_all.Given as goal

-- the lines that are left lead from the paths so far to the paths of all
abbrev pub invariant-loop-line : goal.invariant-loop-line
invariant-loop-line l =
    with_lines l.router (map line_of (drop l.line-index l.lines)) ≡ with_lines l.initial.router (map line_of l.lines)

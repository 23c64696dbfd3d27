-- One more path, and those behind it, are those that were left.
use Rattle.std.proofs.Common.{ℕ, ◌≡◌, ◌∙◌, ◌+◌, suc, ap, sym, map, drop, arith}
use Rattle.std.proofs.Math.Seq.{drop-cons}
use Rattle.http_pages.specs.Routes.{line_of, with_lines}
use Rattle.http_pages.proofs.routes.add_all.Goals as goal

pub loop-line-preserved : goal.loop-line-preserved
loop-line-preserved c =
    let lines = c.args.lines.now in
    let i = c.loop-line.line-index in
    let left = λ (n : ℕ). map line_of (drop n lines) in
    let next : i + 1 ≡ suc i = omega arith in
    ap (λ n. with_lines c.add.new.router (left n)) next
    ∙ ap (λ known. with_lines known (left (suc i))) c.in_ok-add.ensures.added
    ∙ ap (λ ls. with_lines c.loop-line.router (map line_of ls)) (sym (drop-cons lines i _ (omega (arith, c.loop-line-test.true))))
    ∙ c.loop-line.invariant

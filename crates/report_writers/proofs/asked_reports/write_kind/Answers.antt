-- The lines of the cells of a kind, or none where it is not asked for.
use Rattle.std.proofs.Common.{◌≡◌, ◌∙◌, ◌+◌, Err, Ok, ap, arith, false, refl, rules, subst, sym}
use Rattle.std.proofs.lemmas.Result.{err_from_is_err_and}
use Rattle.std.specs.List.{flat_map}
use Rattle.allotment.specs.Cells.{kind_number}
use Rattle.saga_core.specs.CellFilters.{is_kind_asked}
use Rattle.reports.proofs.FrontLemmas.{appends_none, front_none}
use Rattle.reports.specs.Formats.{stock_row}
use Rattle.saga_core.specs.Written.{WroteFront}
use Rattle.report_writers.specs.Writing.{WritesCells}
use Rattle.report_writers.proofs.ShowLemmas.{in_as, in_none}
use Rattle.report_writers.proofs.StockLemmas.{counted_after, kind_asked, kind_passed, writes_less}
use Rattle.report_writers.proofs.asked_reports.write_kind.Goals as goal

-- the cells that the statement finds are those of the kind that are asked for
pub returns-in-Some : goal.returns-in-Some
returns-in-Some g c =
    record {
      cells = λ v. in_as g.S.Store (c.in_ok-count.ensures.shows v) (λ s fits. fits) (λ e. cc) (λ s desk fits found all stock.
          subst (λ cells. WritesCells (g.O.Write.contents c.args.out.now) (g.O.Write.contents c.write_found.new.out) c.args.format cells c.args.before (Ok c.in-Some.all))
          (sym (kind_asked c.args.kind c.args.filter.now all (search rules)))
          (counted_after c.args.before (found _ (all, stock, refl)) (search (rules, arith))));
    }

-- more than can be counted
pub returns-in-None : goal.returns-in-None
returns-in-None g c =
    record {
      cells = λ v. in_as g.S.Store (c.in_ok-count.ensures.shows v) (λ s fits. fits) (λ e. cc) (λ s desk fits found all stock.
          writes_less _ _ c.args.format _ c.args.before _ (search rules)
          (subst (λ cells. WroteFront (g.O.Write.contents c.args.out.now) (g.O.Write.contents c.write_found.new.out) (flat_map (stock_row c.args.format) cells))
          (sym (kind_asked c.args.kind c.args.filter.now all (search rules))) (found _ (all, stock, refl)).front));
    }

-- a prefix of the lines was written
pub returns-in_err-count : goal.returns-in_err-count
returns-in_err-count g c =
    let failed = err_from_is_err_and c.from_residual.result c.from_residual.ensures.1 in
    record {
      cells = λ v. in_as g.S.Store (c.in_err-count.ensures.shows v) (λ s fits. fits) (λ e. sym (failed.1 ∙ ap Err failed.2) ∙ e) (λ s desk fits found all stock.
          writes_less _ _ c.args.format _ c.args.before c.from_residual.result c.from_residual.ensures.0
          (subst (λ cells. WroteFront (g.O.Write.contents c.args.out.now) (g.O.Write.contents c.write_found.new.out) (flat_map (stock_row c.args.format) cells))
          (sym (kind_asked c.args.kind c.args.filter.now all (search rules))) (found _ (all, stock, refl)).front));
    }

-- the kind is not asked for, and no cell of it is
pub returns-then-not-lets_kind : goal.returns-then-not-lets_kind
returns-then-not-lets_kind g c =
    let filter = c.args.filter.now in
    let held = g.O.Write.contents c.args.out.now in
    let passed : is_kind_asked filter.kind (kind_number c.args.kind) ≡ false = search rules in
    record {
      cells = λ v. in_none g.S.Store (λ e. cc) (λ s all stock.
          subst (λ cells. WritesCells held held c.args.format cells c.args.before (Ok c.args.before)) (sym (kind_passed c.args.kind filter all passed))
          (record { whole = appends_none _; front = front_none _ _; counted = (let e : c.args.before ≡ 0 + c.args.before = omega arith in e) }));
    }

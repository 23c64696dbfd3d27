-- The filter names what each cell of the want has.
use Rattle.std.proofs.Common.{◌≡◌, ◌∙◌, ◌+◌, ◌-◌, ap, ap₂, ℕ, None, Some}
use Rattle.allotment.specs.Limits.{is_night}
use Rattle.allotment.specs.Texts.{keep_if}
use Rattle.saga_core.specs.declared.cell_filters.CellFilter.{CellFilter}
use Rattle.report_writers.proofs.WhyLemmas.{lets_cells}
use Rattle.report_writers.proofs.whys.filter_of.Goals as goal

pub returns : goal.returns
returns c =
    let w = c.args.want.now in
    let f : CellFilter =
    record {
      kind = None;
      supplier = Some c.supplier.result;
      product = Some c.product.result;
      from = Some c.first-first.result;
      to = c.from_day.result;
    } in
    let first : c.day.result ≡ w.first = cc in
    let nights : c.from.result ≡ w.nights = cc in
    let last : c.day.result + c.from.result - 1 ≡ w.first + w.nights - 1 = ap₂ (λ (a b : ℕ). a + b - 1) first nights in
    record {
      lets = lets_cells w f (ap Some c.supplier.ensures) (ap Some c.product.ensures) (ap Some c.first-first.ensures)
          (c.from_day.ensures ∙ ap (keep_if is_night) last);
    }

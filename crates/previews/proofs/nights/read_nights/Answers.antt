-- The cells are taken, and what is free of the nights is told from them.
use Rattle.std.proofs.Common.{◌≡◌, ◌∙◌, ap, arith}
use Rattle.std.proofs.lemmas.Result.{err_from_is_err_and}
use Rattle.commands.specs.declared.replies.Fault.{Fault}
use Rattle.reports.specs.Faults.{report_fault}
use Rattle.reports.specs.declared.faults.ReportFault.TheVariants.{Write}
use Rattle.reports.proofs.TakeLemmas.{ends, goes, takes_err, takes_memory, whole_list}
use Rattle.previews.specs.Nights.{nights_in}
use Rattle.previews.proofs.nights.read_nights.Goals as goal

-- a source does not fail to write
never_writes : (f : Fault) → report_fault f ≡ Write → ⊥
never_writes f is = grind arith

-- the source failed
pub returns-in_err-cells-clause-no_write : goal.returns-in_err-cells-clause-no_write
returns-in_err-cells-clause-no_write g c = grind (arith, err_from_is_err_and, never_writes)

pub returns-in_err-cells-clause-takes : goal.returns-in_err-cells-clause-takes
returns-in_err-cells-clause-takes g c = takes_err g.R.RowSource c.in_err-cells.ensures.takes _ c.from_residual.ensures.1

-- out of memory for the nights
pub returns-in_err-nights-clause-takes : goal.returns-in_err-nights-clause-takes
returns-in_err-nights-clause-takes g c =
    takes_memory g.R.RowSource (goes g.R.RowSource c.in_ok-cells.ensures.takes) _ c.from_residual-in_err-nights.ensures.1

-- all were taken
pub returns-clause-nights : goal.returns-clause-nights
returns-clause-nights g c sound all remain =
    c.in_ok-nights.ensures.nights ∙ ap (λ rows. nights_in rows c.args.want.now)
    (c.as_slice.ensures.value ∙ whole_list c.in_ok-cells.cells all (c.in_ok-cells.ensures.taken sound all remain))

pub returns-clause-takes : goal.returns-clause-takes
returns-clause-takes g c = ends g.R.RowSource (goes g.R.RowSource c.in_ok-cells.ensures.takes)

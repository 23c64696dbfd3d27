-- A want fits the nights that are read exactly if it fits the ledger.
use Rattle.std.proofs.Common.{◌≡◌, ◌∙◌, ap, rules}
use Rattle.allotment.specs.Places.{fits_in}
use Rattle.sql_reads.proofs.ReadLemmas.{read_err, read_ok}
use Rattle.sql_model.proofs.Fitting.{fits_told}
use Rattle.sql_commands.proofs.step_outcome.fits_nights.Goals as goal

pub returns-in-Ok : goal.returns-in-Ok
returns-in-Ok g c =
    let want = c.args.want.now in
    let same : c.as_slice.result.now ≡ c.in-Ok.cells.items = search rules in
    read_ok c.in-Ok.ensures (λ s desk cells.
    c.fits.ensures ∙ ap (λ rows. fits_in rows want) same ∙ fits_told s.ledger desk.legal want c.in-Ok.cells.items cells)

pub returns-in-Err : goal.returns-in-Err
returns-in-Err g c = read_err (search rules) c.in-Err.ensures (λ s desk fits. fits)

-- The night that was read is the text's.
use Rattle.std.proofs.Common.{◌∙◌, ap, sym, option_map, Some, is_none}
use Rattle.allotment.specs.Nights.{night_in}
use Rattle.allotment.proofs.MakingLemmas.{night_read}
use Rattle.command_line.specs.Filters.{spelled}
use Rattle.command_line.proofs.asked.night_in.Goals as goal

pub returns-in-Ok : goal.returns-in-Ok
returns-in-Ok c =
    let is = sym (ap (spelled night_in) c.in-Some.ensures) ∙ ap (option_map Some) (night_read _ _ c.in-Ok.ensures) in
    record { reads = (is, ap is_none is) }

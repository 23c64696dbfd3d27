-- The parts of the preview are those of the journey, and the move says what a step makes.
use Rattle.std.proofs.Common.{◌∙◌}
use Rattle.previews.proofs.PreviewLemmas.{preview_is, step_decided}
use Rattle.previews.proofs.steps.look_ahead.Goals as goal

pub returns : goal.returns
returns c = record {
  preview = λ l here is_next is_nights. (
      let chosen = c.decide-chosen.ensures in
      preview_is l c.args.id c.args.journey.now here c.args.next c.item_made-step.result is_next
      (c.item_made-step.ensures.item
      ∙ step_decided l c.args.id c.args.journey.now here c.args.next c.fits_next-fitting.result c.decide-chosen.result
      (record { takes = chosen.takes; turns = chosen.turns; undoes = chosen.undoes; ends = chosen.nothing.1 })
      is_next (c.fits_next-fitting.ensures.fits l here.legal is_nights)));
}

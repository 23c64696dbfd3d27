-- A peer takes one slot.
use Rattle.std.proofs.Common.{inl}
use Rattle.http_live.proofs.TurnLemmas.{changes_one}
use Rattle.http_live.proofs.serving.welcome.Goals as goal

pub returns : goal.returns
returns g c = record {
  taken = inl (changes_one _ c.args.slots.now c.args.at c.index-slots-at.result _ c.if-at-slots.false c.take.ensures.taken);
}

use Rattle.std.proofs.Common.{arith}
use Rattle.std.proofs.lemmas.Bool.Decides.{when_true}
use Rattle.allotment.proofs.ShortLemmas.{is_padded, keep_if-is_short}
use Rattle.allotment.proofs.codes.Short.new.Goals as goal

-- the bytes of the text are copied over the first zeros
pub invariant_of-result : goal.invariant_of-result
invariant_of-result g c =
    is_padded g.row.N c.as_bytes-given.result.now c.copy_from_slice.new.self c.copy_from_slice.ensures.after (omega (
      arith,
      c.if-given.false,
    )) (when_true _ _ c.if-not-is_ascii.false c.is_ascii.ensures.cases)

-- the text is short, since neither test refused it
pub returns : goal.returns
returns g c = grind (arith, when_true, keep_if-is_short)

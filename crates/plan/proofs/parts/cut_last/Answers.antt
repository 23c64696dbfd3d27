use Rattle.std.proofs.Common.{arith}
use Rattle.std.proofs.lemmas.Str.Pattern.{strip_suffix_char}
use Rattle.plan.proofs.parts.cut_last.Goals as goal

-- the character that was asked for is the last one, or it is not
pub returns : goal.returns
returns c =
    let cut = strip_suffix_char c.from.result c.args.text.now c.strip_suffix.result c.strip_suffix.ensures.cases
    (omega (arith, c.from.ensures, c.requires.ascii)) in
    record { cut = rw c.from.ensures at cut }

-- A text that ends with none of the three letters ends with no letter of a cause.
use Rattle.std.proofs.Common.{arith}
use Rattle.std.proofs.lemmas.Str.Pattern.{strip_suffix_char}
use Rattle.commands.proofs.ItemLemmas.{no_cause}
use Rattle.commands.proofs.readings.cause_in.Goals as goal

-- none of the three letters stands at the end
pub returns-in_err-front : goal.returns-in_err-front
returns-in_err-front c =
    let text = c.args.text.now in
    let refused = strip_suffix_char 114 text _ c.strip_suffix-2.ensures.cases (omega arith) in
    let asked = strip_suffix_char 97 text _ c.strip_suffix-3.ensures.cases (omega arith) in
    rw c.from_residual.ensures (record {
      found = no_cause text (rw c.in_default.is at (strip_suffix_char 115 text _ c.strip_suffix.ensures.cases (omega arith)))
          (rw c.in_default-strip_suffix.is at refused) (rw c.in_err-front.was at asked);
    })

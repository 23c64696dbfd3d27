-- The first letter decides which item the text can be of.
use Rattle.std.proofs.Common.{arith}
use Rattle.std.proofs.lemmas.Str.Pattern.{strip_prefix_char}
use Rattle.commands.proofs.ItemLemmas.{no_transaction, no_compensation, no_turn, no_letter}
use Rattle.commands.proofs.readings.item_in.Goals as goal

-- the text after a T is no step and option
pub returns-in_err-step : goal.returns-in_err-step
returns-in_err-step c = grind (arith, strip_prefix_char, no_transaction)

-- the text after a C is no step and option
pub returns-in_err-step-2 : goal.returns-in_err-step-2
returns-in_err-step-2 c = grind (arith, strip_prefix_char, no_compensation)

-- the text after a B is no target and cause
pub returns-in_err-target : goal.returns-in_err-target
returns-in_err-target c = grind (arith, strip_prefix_char, no_turn)

-- the text begins with no letter of an item
pub returns-in_err-rest : goal.returns-in_err-rest
returns-in_err-rest c =
    let text = c.args.text.now in
    let t = strip_prefix_char 84 text _ c.strip_prefix.ensures.cases (omega arith) in
    let c_front = strip_prefix_char 67 text _ c.strip_prefix-2.ensures.cases (omega arith) in
    let b = strip_prefix_char 66 text _ c.strip_prefix-3.ensures.cases (omega arith) in
    let s = strip_prefix_char 83 text _ c.strip_prefix-4.ensures.cases (omega arith) in
    rw c.from_residual-in_err-rest.ensures (record {
      found = no_letter text (rw c.in_default.is at t) (rw c.in_default-strip_prefix.is at c_front)
          (rw c.in_default-strip_prefix-2.is at b) (rw c.in_err-rest.was at s);
    })

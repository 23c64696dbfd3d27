-- Digit after digit, the number is the one that they spell, and it has room.
use Rattle.std.proofs.Common.{arith, refl, sym, ap, ◌∙◌, ◌+◌, ◌*◌}
use Rattle.http_messages.proofs.LengthLemmas.{has_room, number_more, number_told, some_bytes}
use Rattle.http_messages.proofs.requests.length_in.Goals as goal

-- no digit was read yet
pub loop-byte-init : goal.loop-byte-init
loop-byte-init c = record { digits = refl; value = refl; small = omega arith }

-- there is room for another digit
pub overflow_mul-length : goal.overflow_mul-length
overflow_mul-length c =
    omega (arith, has_room c.loop-byte.byte-index c.loop-byte.length (omega arith) c.loop-byte.invariant.small)

-- there is room for the value of that digit
pub overflow_add-length : goal.overflow_add-length
overflow_add-length c =
    omega (arith, has_room c.loop-byte.byte-index c.loop-byte.length (omega arith) c.loop-byte.invariant.small, c.from.ensures, c.type_inv.text c.loop-byte.byte-index)

-- one more digit
pub loop-byte-preserved : goal.loop-byte-preserved
loop-byte-preserved c =
    number_more c.args.text.now c.loop-byte.byte-index c.loop-byte.length _ c.loop-byte-test.true
    (sym c.is_ascii_digit.ensures.value ∙ c.if-not-is_ascii_digit.false)
    (ap (λ worth. 10 * c.loop-byte.length + worth) c.from.ensures) c.loop-byte.invariant

-- all bytes were examined
pub returns : goal.returns
returns c = grind (arith, number_told, some_bytes)

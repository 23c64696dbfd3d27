-- One more byte is shown after the others.
use Rattle.std.proofs.Common.{◌≡◌, ◌∙◌, ◌<◌, ◌++◌, length, get_or, ap, subst, sym, true, arith, string_bytes}
use Rattle.http_log.specs.Shown.{shown_byte}
use Rattle.http_log.proofs.MetricsLemmas.{flat_more}
use Rattle.http_log.proofs.PrintableLemmas.{both_print, prints}
use Rattle.http_log.proofs.escaping.shown_whole.Goals as goal

-- the byte is shown behind the text so far
pub loop-byte-preserved : goal.loop-byte-preserved
loop-byte-preserved c =
    let bs = c.args.bytes.now in
    let k = c.loop-byte.byte-index in
    let b = get_or bs k 0 in
    let within : k < length bs = omega (arith, c.loop-byte-test.true) in
    record {
      text = c.in_ok-add.ensures.added
          ∙ ap (λ z. z ++ shown_byte b) c.loop-byte.invariant.text
          ∙ sym (flat_more shown_byte bs k 0 within);
      printable = subst (λ z. prints z ≡ true) (sym c.in_ok-add.ensures.added)
          (both_print (string_bytes c.loop-byte.text) (shown_byte b) c.loop-byte.invariant.printable c.in_ok-add.ensures.printable);
    }

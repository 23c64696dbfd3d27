-- Bytes that are no text are no key.
use Rattle.std.proofs.Common.{◌∙◌, sym}
use Rattle.std.proofs.lemmas.Bool.{and_parts}
use Rattle.commands.specs.Names.{is_key, is_key_byte}
use Rattle.http_messages.proofs.WordLemmas.{key_byte_small, no_word}
use Rattle.http_messages.proofs.heads.key_in.Goals as goal

-- the bytes are no text
pub returns-in_err-ok : goal.returns-in_err-ok
returns-in_err-ok c = record {
  form = c.from_residual.ensures
      ∙ sym (no_word is_key_byte is_key c.args.bytes.now c.from_utf8.result _ key_byte_small (λ good. (and_parts _ _ good).1)
      c.from_utf8.ensures.cases (sym c.ok.ensures.value ∙ c.in_err-ok.was));
}

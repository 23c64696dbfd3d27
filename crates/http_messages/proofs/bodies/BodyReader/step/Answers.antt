-- What the decoder found, as what the reader found.
use Rattle.std.proofs.Common.{◌≡◌, ◌∙◌, ap, sym, subst, ◌++◌, arith}
use Rattle.httparse.specs.Spans.{span_bytes}
use Rattle.http_messages.specs.Bodies.{Moves}
use Rattle.http_messages.proofs.BodyLemmas.{ends, goes, is_short, moves_on, reading, too_large}
use Rattle.http_messages.proofs.bodies.BodyReader.step.Goals as goal

-- more is needed
pub returns-in-Ok-NeedMore-clause-steps : goal.returns-in-Ok-NeedMore-clause-steps
returns-in-Ok-NeedMore-clause-steps c = search (arith, reading, goes)

-- a piece came
pub returns-in_ok-extend_from_slice-in-Ok-Data-clause-steps : goal.returns-in_ok-extend_from_slice-in-Ok-Data-clause-steps
returns-in_ok-extend_from_slice-in-Ok-Data-clause-steps c =
    let old = c.self.inside.decoder in
    let body = c.self.inside.body.items in
    let input = c.args.input.now in
    let end = c.in-Ok-Data.piece.end in
    let piece = span_bytes input c.in-Ok-Data.piece in
    let found = rw c.in-Ok-Data.field-0-is at c.in-Ok-Data.ensures.ok in
    let longer : c.extend_from_slice.new.self.items ≡ body ++ piece =
    c.in_ok-extend_from_slice-in-Ok-Data.ensures.items ∙ ap (λ p. body ++ p) c.of-data.ensures in (
      omega (arith, found.0),
      subst (λ r. Moves r input (reading c.decode.new.self c.extend_from_slice.new.self.items) end) c.self.view_is
          (subst (λ items. Moves (reading old body) input (reading c.decode.new.self items) end) (sym longer)
          (moves_on old c.decode.new.self body input piece end found.1)),
    )

-- too much came
pub returns-then-data-len-clause-too_large : goal.returns-then-data-len-clause-too_large
returns-then-data-len-clause-too_large c large = grind (arith, is_short, too_large)

-- the body ends
pub returns-in-Ok-End-clause-steps : goal.returns-in-Ok-End-clause-steps
returns-in-Ok-End-clause-steps c = grind (arith, ends)

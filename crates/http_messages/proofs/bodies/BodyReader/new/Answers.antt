-- The decoder is that of the kind.
use Rattle.std.proofs.Common.{◌≡◌, ◌∙◌, ap, sym, subst, ◌↔◌}
use Rattle.http1.specs.Decoder.{decoder_for}
use Rattle.http1.specs.declared.decode.Decoder.TheVariants.{Chunked}
use Rattle.http_messages.specs.Bodies.{Awaits, IsBody, first_reading, framing_of, limits}
use Rattle.http_messages.proofs.BodyLemmas.{begins, reading}
use Rattle.http_messages.proofs.bodies.BodyReader.new.Goals as goal
use Rattle.http_messages.proofs.bodies.BodyReader.new.Goals.{in-Sized, in-Chunked}

pub returns : goal.returns
returns c =
    let is : c.match-kind.decoder ≡ decoder_for limits (framing_of c.args.kind) = elim c.match-kind.branch [
      | in-Sized w ↦ w.decoder-is ∙ ap (λ kind. decoder_for limits (framing_of kind)) (sym w.in-Sized.is)
      | in-Chunked w ↦ w.decoder-is ∙ ap (λ chunks. Chunked chunks 8192) w.new.ensures
          ∙ ap (λ kind. decoder_for limits (framing_of kind)) (sym w.in-Chunked.is)
    ] in
    let first : reading c.match-kind.decoder c.new-2.result.items ≡ first_reading c.args.kind =
    ap (λ d. reading d c.new-2.result.items) is
    ∙ ap (λ items. reading (decoder_for limits (framing_of c.args.kind)) items) c.new-2.ensures.items in
    record {
      first = first;
      waits = λ stream body rest.
          subst (λ r. IsBody c.args.kind stream body rest ↔ Awaits r stream body rest) (sym first) (begins c.args.kind stream body rest);
    }

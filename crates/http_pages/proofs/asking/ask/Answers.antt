-- What was written is a prefix of the request.
use Rattle.std.proofs.Common.{◌∙◌, ℕ, List, subst}
use Rattle.saga_core.specs.Written.{WroteFront}
use Rattle.http_pages.proofs.asking.ask.Goals as goal

pub returns-clause-front : goal.returns-clause-front
returns-clause-front g c =
    subst (λ (bytes : List ℕ). WroteFront (g.W.Write.contents c.args.writer.now) (g.W.Write.contents c.send.new.writer) bytes)
    (c.as_bytes.ensures.value ∙ c.in_ok-request.ensures.ok) c.send.ensures.front

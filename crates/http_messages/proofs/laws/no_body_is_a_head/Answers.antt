-- The head, and then its body, are decided by themselves.
use Rattle.http_messages.proofs.LawLemmas.{begins_alone, begins_with}
use Rattle.http_messages.proofs.laws.no_body_is_a_head.Goals as goal

pub returns : goal.returns
returns c = record {
  law = λ front text body rest h kind is framed is_body.
      (begins_with front text body rest h kind is framed is_body, begins_alone front text body rest h kind is framed is_body);
}

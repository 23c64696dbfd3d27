-- After a request the messages are those of what follows it.
use Rattle.http_messages.proofs.WideLemmas.{passed}
use Rattle.http_messages.proofs.laws.bodies_are_passed.Goals as goal

pub returns : goal.returns
returns c = record { law = λ front text body rest h kind is framed is_body stays. passed front text body rest h kind is framed is_body stays }

-- A page has its head as its decided prefix.
use Rattle.std.proofs.Common.{ap, sym, refl}
use Rattle.std.specs.Prelude.{unwrap_or}
use Rattle.http_conversations.proofs.PageTextLemmas.{head_is}
use Rattle.http_conversations.proofs.lines.head_of.Goals as goal

pub returns-in-Some : goal.returns-in-Some
returns-in-Some c = record { head = head_is c.args.page.now c.in-Some.end c.in-Some.ensures.front }

-- a page without an empty line is all head
pub returns-in-None : goal.returns-in-None
returns-in-None c = record { head = sym (ap (λ found. unwrap_or found c.args.page.now) (c.in-None.ensures.none refl)) }

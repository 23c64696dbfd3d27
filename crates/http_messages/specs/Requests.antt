-- What the desk takes from a message.
use Rattle.std.specs.Prelude.{◌≡◌, ⊤, ℕ, List, codes}
use Rattle.http_messages.specs.Heads.{Parts, agent_of, asks_to_close, complaint_of, host_of, is_method, is_unnamed, key_of, parts_of}
use Rattle.http_messages.specs.Messages as sent
use Rattle.http_messages.specs.declared.requests.Request.{Request}
use Rattle.http_messages.specs.declared.requests.Message.{Message}
use Rattle.http_messages.specs.declared.requests.Message.TheVariants as taken

-- the request is what a head with these parts asks with this body
pub record IsRequest (r : Request) (parts : Parts) (bytes : List ℕ) : Type 0 where
  pub method : r.method.items ≡ parts.method
  pub target : r.target.items ≡ parts.target
  pub host : r.host.items ≡ host_of parts
  pub agent : r.agent ≡ agent_of parts
  pub is_unnamed : r.is_unnamed ≡ is_unnamed parts
  pub key : r.key ≡ key_of parts
  pub body : r.body.items ≡ bytes
  pub closes : r.closes ≡ asks_to_close parts
  pub complaint : r.complaint ≡ complaint_of parts
  pub is_head : r.is_head ≡ is_method (codes "HEAD") parts

-- this was taken from that message
abbrev pub IsTaken : Message → sent.Message → Type 0
IsTaken taken.NoHead sent.NoHead = ⊤
IsTaken (taken.Asks r) (sent.Asks h body) = IsRequest r (parts_of h) body
IsTaken _ _ = ⊥

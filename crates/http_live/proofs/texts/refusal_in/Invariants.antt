use Rattle.std.proofs.Common.{◌≡◌, codes, drop}
use Rattle.http_live.specs.Requests.{after_name}
use Rattle.http_live.proofs.texts.refusal_in.Given as goal

-- the name does not begin where the loop has looked
abbrev pub invariant-loop-at : goal.invariant-loop-at
invariant-loop-at l = after_name (codes "\"refused\":") (drop l.at l.page) ≡ after_name (codes "\"refused\":") l.page

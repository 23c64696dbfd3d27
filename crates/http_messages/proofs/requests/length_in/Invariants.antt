use Rattle.http_messages.proofs.LengthLemmas.{IsNumberTo}
use Rattle.http_messages.proofs.requests.length_in.Given as goal

-- the bytes so far are digits of this number
abbrev pub invariant-loop-byte : goal.invariant-loop-byte
invariant-loop-byte l = IsNumberTo l.text l.byte-index l.length

-- Calls find what was waited for.
use Rattle.http_messages.proofs.laws.cuts_agree.Goals as goal
use Rattle.std.proofs.Common.{◌≡◌, ℕ, List}
use Rattle.http_messages.specs.declared.framing.BodyKind.{BodyKind}
use Rattle.http_messages.specs.Bodies.{Awaits, IsBody, Reading}
use Rattle.http_messages.specs.Calls.{Calls, IsAtBeginning, finds_end, goes_on}
use Rattle.http_messages.proofs.BodyLemmas.{one_body}

-- what the calls found is what the reader waited for
calls_await : {r : Reading} {stream body rest : List ℕ} → Calls r stream body rest → Awaits r stream body rest
calls_await (goes_on old new input more count body rest step later) = step.moves.back more body rest (calls_await later)
calls_await (finds_end old new input more count end) = end.whole more

-- it is a body, and the only one
cuts_agree : (kind : BodyKind) (r : Reading) (stream a b x y : List ℕ) → IsAtBeginning kind r → Calls r stream a x
    → IsBody kind stream a x × (Calls r stream b y → (a ≡ b) × (x ≡ y))
cuts_agree kind r stream a b x y begins calls =
    let found = (begins stream a x).1 (calls_await calls) in
    (found, λ others. one_body kind stream a b x y found ((begins stream b y).1 (calls_await others)))

pub returns : goal.returns
returns c = record { law = cuts_agree }

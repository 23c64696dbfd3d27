-- What holds of bytes where they are known.
use Rattle.std.proofs.Common.{ℕ, List, Option, IfSome, option_map, arith}
use Rattle.desk_jobs.specs.Openings.{Input, Lines}

-- what holds of known bytes, and leads to more
pub if_some_more : {X : Type 0} (known : Option X) (P Q : X → Type 0) → ((x : X) → P x → Q x) → IfSome known P → IfSome known Q
if_some_more known P Q f p = grind arith

-- what two facts of known bytes lead to
pub if_some_both : {X : Type 0} (known : Option X) (P Q R : X → Type 0) → ((x : X) → P x → Q x → R x) → IfSome known P → IfSome known Q
    → IfSome known R
if_some_both known P Q R f p q = grind arith

-- what holds whatever the bytes are
pub if_some_each : {X : Type 0} (known : Option X) (Q : X → Type 0) → ((x : X) → Q x) → IfSome known Q
if_some_each known Q f = grind arith

-- what holds of known bytes as lines, holds of the input that they are
pub of_lines : (known : Option (List ℕ)) (P : Input → Type 0) → IfSome known (λ bytes. P (Lines bytes))
    → IfSome (option_map Lines known) P
of_lines known P holds = grind arith

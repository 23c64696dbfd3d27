-- Prefixes of what was written. For reports in their parts.
use Rattle.std.proofs.Common.{◌≡◌, ◌∙◌, append-nil, sym, subst, min, List, [], ◌++◌, ℕ, ◌+◌, length, take, arith, Option, Some, None}
use Rattle.std.proofs.lemmas.List.{take_min}
use Rattle.std.proofs.Math.Seq.{take-append-add, take-append-le, take-length}
use Rattle.std.specs.Io.KnownBytes.{Appends}
use Rattle.saga_core.specs.Written.{WroteFront}
use Rattle.saga_core.proofs.ByteLemmas.{appends_more}

-- no byte was written
pub appends_none : (x : Option (List ℕ)) → Appends x x []
appends_none None = tt
appends_none (Some xs) = sym (append-nil xs)

-- the empty text is a prefix
pub front_none : (x : Option (List ℕ)) (bytes : List ℕ) → WroteFront x x bytes
front_none x bytes = (0, appends_none x)

-- the whole is a prefix
pub front_whole : (x y : Option (List ℕ)) (bytes : List ℕ) → Appends x y bytes → WroteFront x y bytes
front_whole x y bytes sent = (length bytes, subst (Appends x y) (sym (take-length bytes)) sent)

-- a prefix of the first bytes is a prefix of all
pub front_before : (x y : Option (List ℕ)) (us bs : List ℕ)
    → WroteFront x y us
    → WroteFront x y (us ++ bs)
front_before x y us bs front =
    let part = min front.0 (length us) in
    let same : take part (us ++ bs) ≡ take front.0 us =
    take-append-le part us bs (omega arith) ∙ take_min front.0 us in
    (part, subst (Appends x y) (sym same) front.1)

-- the first bytes, followed by a prefix of the others, are a prefix of all
pub front_after : (x y z : Option (List ℕ)) (us bs : List ℕ)
    → Appends x y us
    → WroteFront y z bs
    → WroteFront x z (us ++ bs)
front_after x y z us bs sent front = (
  length us + front.0,
  subst (Appends x z) (sym (take-append-add us bs front.0))
      (appends_more x y z us (take front.0 bs) sent front.1),
)

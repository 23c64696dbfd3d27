-- What readers and writers hold, over several calls.
use Rattle.std.proofs.Common.{◌≡◌, ◌∙◌, ap, sym, List, [], ◌++◌, ℕ, append-nil, append_assoc, refl, ◌+◌, ◌-◌, ◌≤◌, length, take, drop, arith, length-drop, Option, Some, None}
use Rattle.std.proofs.lemmas.List.{take_rest}
use Rattle.std.proofs.Math.Seq.{take-add}
use Rattle.std.specs.Io.KnownBytes.{Appends, Consumes, Keeps}

-- what is known of the bytes stays as it was
pub keeps_same : (x : Option (List ℕ)) → Keeps x x
keeps_same None = tt
keeps_same (Some xs) = refl

-- where the bytes are kept, no byte was written
pub appends_none : (x y : Option (List ℕ)) → Keeps x y → Appends x y []
appends_none None y kept = tt
appends_none (Some xs) None kept = absurd kept
appends_none (Some xs) (Some ys) kept = kept ∙ sym (append-nil xs)

-- bytes that were written, and then more bytes
pub appends_more : (x y z : Option (List ℕ)) (us bs : List ℕ)
    → Appends x y us
    → Appends y z bs
    → Appends x z (us ++ bs)
appends_more None y z us bs first second = tt
appends_more (Some xs) None z us bs first second = absurd first
appends_more (Some xs) (Some ys) None us bs first second = absurd second
appends_more (Some xs) (Some ys) (Some zs) us bs first second =
    second ∙ ap (λ front. front ++ bs) first ∙ append_assoc xs us bs

-- bytes that were written, and then kept
pub appends_before : (x y z : Option (List ℕ)) (bs : List ℕ)
    → Appends x y bs
    → Keeps y z
    → Appends x z bs
appends_before None y z bs sent kept = tt
appends_before (Some xs) None z bs sent kept = absurd sent
appends_before (Some xs) (Some ys) None bs sent kept = absurd kept
appends_before (Some xs) (Some ys) (Some zs) bs sent kept = kept ∙ sent

-- bytes that were kept, and then some that were read
pub consumes_after : (x y z : Option (List ℕ)) (bs : List ℕ)
    → Keeps x y
    → Consumes y z bs
    → Consumes x z bs
consumes_after None y z bs kept read = tt
consumes_after (Some xs) None z bs kept read = absurd kept
consumes_after (Some xs) (Some ys) None bs kept read = absurd read
consumes_after (Some xs) (Some ys) (Some zs) bs kept read = sym kept ∙ read

-- bytes that were read, and then more
pub consumes_more : (x y z : Option (List ℕ)) (us bs : List ℕ)
    → Consumes x y us
    → Consumes y z bs
    → Consumes x z (us ++ bs)
consumes_more None y z us bs first second = tt
consumes_more (Some xs) None z us bs first second = absurd first
consumes_more (Some xs) (Some ys) None us bs first second = absurd second
consumes_more (Some xs) (Some ys) (Some zs) us bs first second =
    first ∙ ap (λ rest. us ++ rest) second ∙ sym (append_assoc us bs zs)

-- the suffix of the bytes from a place on
abbrev pub rest_from : ℕ → List ℕ → List ℕ
rest_from at bytes = take (length bytes - at) (drop at bytes)

-- a prefix of the bytes and a prefix of their suffix make a longer prefix
pub front_grows : (bytes : List ℕ) (at count : ℕ)
    → take at bytes ++ take count (rest_from at bytes) ≡ take (at + count) bytes
front_grows bytes at count =
    ap (λ rest. take at bytes ++ take count rest) (take_rest bytes at) ∙ sym (take-add at count bytes)

-- a prefix of the suffix ends within the bytes
pub front_within : (bytes : List ℕ) (at count : ℕ)
    → at ≤ length bytes
    → count ≤ length (rest_from at bytes)
    → at + count ≤ length bytes
front_within bytes at count inside few = omega (arith, ap length (take_rest bytes at), length-drop at bytes)

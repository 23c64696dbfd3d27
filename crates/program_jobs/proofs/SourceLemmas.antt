-- The bytes that were read of an input. For `loading`.
use Rattle.std.proofs.Common.{◌≡◌, subst, ℕ, List, [], ◌++◌, take, Option, None, Some, IfSome, option_map, MutBor}
use Rattle.std.specs.Io.Take.{take_inner, take_limit, take_remaining}
use Rattle.std.specs.declared.io.traits.Take.{Take}
use Rattle.program_jobs.specs.Sources.{ArePrefixOf}

-- what was read to the end of a part of an input
front_read : (most : ℕ) (there : Option (List ℕ)) (bytes : List ℕ) → IfSome (option_map (take most) there) (λ part. bytes ≡ [] ++ part)
    → ArePrefixOf most there bytes
front_read most None bytes is = tt
front_read most (Some all) bytes is = is

pub front_taken : {R : Type 0} (remaining : R → Option (List ℕ)) (t : Take (MutBor R)) (most : ℕ) (reader : MutBor R) (bytes : List ℕ)
    → take_limit t ≡ most → take_inner t ≡ reader
    → IfSome (take_remaining (λ (r : MutBor R). remaining r.now) t) (λ part. bytes ≡ [] ++ part)
    → ArePrefixOf most (remaining reader.now) bytes
front_taken remaining t most reader bytes few same read =
    front_read most (remaining reader.now) bytes
    (subst (λ (r : MutBor _). IfSome (option_map (take most) (remaining r.now)) (λ part. bytes ≡ [] ++ part)) same
    (subst (λ n. IfSome (option_map (take n) (remaining (take_inner t).now)) (λ part. bytes ≡ [] ++ part)) few read))

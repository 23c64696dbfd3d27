-- Bytes that are not UTF-8 spell no agent and no key. For agent_in and key_in.
use Rattle.std.proofs.Common.{◌≡◌, ℕ, zero, suc, ◌<◌, Bool, true, List, [], ◌∷◌, arith, Bor, IsUtf8, MatchResult, None, Result}
use Rattle.std.proofs.lemmas.Bool.{and_parts}
use Rattle.std.specs.List.{list_all}
use Rattle.std.specs.Result.{result_ok}
use Rattle.std.specs.Str.{IsAscii}
use Rattle.std.proofs.lemmas.Str.{IsUtf8-from_ascii}
use Rattle.std.proofs.lemmas.Bool.Decides.{nat_tests}
use Rattle.allotment.specs.Texts.{keep_if}
use Rattle.commands.specs.Names.{is_agent_byte, is_key_byte}

-- bytes that pass are ASCII, where each byte that passes is
passing_ascii : (passes : ℕ → Bool) → ((b : ℕ) → passes b ≡ true → b < 128)
    → (bytes : List ℕ) → list_all passes bytes ≡ true → IsAscii bytes
passing_ascii passes small [] all i = omega arith
passing_ascii passes small (b ∷ bytes) all zero = grind (arith, and_parts)
passing_ascii passes small (b ∷ bytes) all (suc i) =
    passing_ascii passes small bytes (and_parts (passes b) (list_all passes bytes) all).1 i

-- a byte of an agent is ASCII
pub agent_byte_small : (b : ℕ) → is_agent_byte b ≡ true → b < 128
agent_byte_small b passes = grind (arith, nat_tests)

-- a byte of a key is ASCII
pub key_byte_small : (b : ℕ) → is_key_byte b ≡ true → b < 128
key_byte_small b passes = grind (arith, nat_tests)

-- bytes that are no text are no word of such bytes
pub no_word : {E : Type 0} (passes : ℕ → Bool) (is_word : List ℕ → Bool) (bytes : List ℕ) (r : Result (Bor (List ℕ)) E) (Wrong : E → Type 0)
    → ((b : ℕ) → passes b ≡ true → b < 128) → (is_word bytes ≡ true → list_all passes bytes ≡ true)
    → MatchResult r (λ s. (s.now ≡ bytes) × IsUtf8 bytes) (λ e. ¬ (IsUtf8 bytes) × Wrong e)
    → result_ok r ≡ None → keep_if is_word bytes ≡ None
no_word passes is_word bytes r Wrong small each cases none = grind (arith, IsUtf8-from_ascii, passing_ascii passes small bytes)

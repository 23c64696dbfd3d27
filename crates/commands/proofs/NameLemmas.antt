-- What has the form of a name fits into its inline text. For the readers of names.
use Rattle.std.specs.List.{list_all}
use Rattle.std.proofs.Common.{arith, refl, ◌≡◌, ℕ, Bool, true, List, [], ◌∷◌, nat_lt}
use Rattle.std.proofs.lemmas.Bool.{and_from, and_parts}
use Rattle.std.proofs.lemmas.Bool.Decides.{nat_tests}
use Rattle.allotment.specs.Limits.{is_word}
use Rattle.allotment.specs.Short.{is_short, is_ascii}
use Rattle.commands.specs.Limits.{longest_agent, longest_batch_name, longest_key}
use Rattle.commands.specs.Names.{is_batch_byte, is_batch_name, is_agent_byte, is_agent, is_key_byte, is_key}

-- bytes that pass are ASCII, where each byte that passes is
passing_ascii : (passes : ℕ → Bool) → ((b : ℕ) → passes b ≡ true → nat_lt b 128 ≡ true)
    → (bytes : List ℕ) → list_all passes bytes ≡ true → is_ascii bytes ≡ true
passing_ascii passes small [] all = refl
passing_ascii passes small (b ∷ bytes) all = grind (arith, and_parts, and_from, passing_ascii passes small bytes)

-- a word fits into its inline text, where each of its bytes is ASCII
word_is_short : (passes : ℕ → Bool) → ((b : ℕ) → passes b ≡ true → nat_lt b 128 ≡ true)
    → (most : ℕ) (text : List ℕ) → is_word passes most text ≡ true → is_short most text ≡ true
word_is_short passes small most text word = grind (arith, and_parts, and_from, passing_ascii)

-- a byte of a batch's name is ASCII
batch_byte_small : (b : ℕ) → is_batch_byte b ≡ true → nat_lt b 128 ≡ true
batch_byte_small b passes = grind (arith, nat_tests)

-- a byte of an agent is ASCII
agent_byte_small : (b : ℕ) → is_agent_byte b ≡ true → nat_lt b 128 ≡ true
agent_byte_small b passes = grind (arith, nat_tests)

-- a byte of a key is ASCII
key_byte_small : (b : ℕ) → is_key_byte b ≡ true → nat_lt b 128 ≡ true
key_byte_small b passes = grind (arith, nat_tests)

-- a batch's name fits into its inline text
pub batch_is_short : (text : List ℕ) → is_batch_name text ≡ true → is_short longest_batch_name text ≡ true
batch_is_short text good = word_is_short is_batch_byte batch_byte_small longest_batch_name text good

-- an agent fits into its inline text
pub agent_is_short : (text : List ℕ) → is_agent text ≡ true → is_short longest_agent text ≡ true
agent_is_short text good = word_is_short is_agent_byte agent_byte_small longest_agent text good

-- a key fits into its inline text
pub key_is_short : (text : List ℕ) → is_key text ≡ true → is_short longest_key text ≡ true
key_is_short text good = word_is_short is_key_byte key_byte_small longest_key text good

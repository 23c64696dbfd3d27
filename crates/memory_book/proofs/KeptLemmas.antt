-- Kept replies by agent and key. For the kept replies of a book in memory.
use Rattle.std.proofs.Common.{◌≡◌, ℕ, cond, List, ap, ◌∙◌, ◌&&◌, bytes_eq, if◌then◌else◌, Some, option_map}
use Rattle.std.specs.Ordering.{is_eq, nat_cmp}
use Rattle.std.specs.Cmp.Lexicographic.{slice_cmp, nat_list_eq_equiv}
use Rattle.std.specs.BTreeMap as tree
use Rattle.memory_book.specs.MemoryAnswers.{ask_key_cmp, kept_said, kept_in}
use Rattle.memory_book.specs.declared.keys.AskKey.{AskKey}
use Rattle.memory_book.specs.declared.answers.KeptAnswer.{KeptAnswer}
use Rattle.memory_book.specs.declared.answers.Answers.{Answers}
use Rattle.memory_book.proofs.CellLemmas.{is_eq-then, is_eq-texts, map-found}

-- the map key of an agent and a key
abbrev pub ask_key : List ℕ → List ℕ → AskKey
ask_key agent key = record { agent = agent; key = key }

-- a map key is its two parts
pub ask_key-is : (k : AskKey) (agent key : List ℕ) → k.agent ≡ agent → k.key ≡ key
    → k ≡ ask_key agent key
ask_key-is k agent key a b = λ i. record { agent = a i; key = b i }

-- two map keys are equal where agent and key are the same
is_eq-asks : (k : AskKey) (agent key : List ℕ)
    → is_eq (ask_key_cmp k (ask_key agent key)) ≡ (bytes_eq agent k.agent && bytes_eq key k.key)
is_eq-asks k agent key =
    is_eq-then (slice_cmp nat_cmp k.agent agent) (slice_cmp nat_cmp k.key key)
    ∙ (λ i. is_eq-text k.agent agent i && is_eq-text k.key key i)
  where
    is_eq-text : (a b : List ℕ) → is_eq (slice_cmp nat_cmp a b) ≡ bytes_eq b a
    is_eq-text a b = is_eq-texts a b ∙ nat_list_eq_equiv.symm a b

-- a reply that is inserted is kept under its agent and key, and the others keep what they had
pub kept_in-insert : (old new : Answers) (k : AskKey) (v : KeptAnswer)
    → tree.Updates ask_key_cmp old.kept new.kept k (Some v)
    → (agent key : List ℕ)
    → kept_in new agent key
    ≡ (if bytes_eq agent k.agent && bytes_eq key k.key then Some (kept_said v)
    else kept_in old agent key)
kept_in-insert old new k v updates agent key =
    ap (option_map kept_said) (updates.0 (ask_key agent key)) ∙ map-found kept_said _ v _
    ∙ ap (λ b. cond b (Some (kept_said v)) (kept_in old agent key)) (is_eq-asks k agent key)

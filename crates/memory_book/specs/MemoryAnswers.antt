-- The kept replies of a book in memory, by agent and key.
use Rattle.std.specs.Prelude.{◌≡◌, ℕ, List, Option, option_map, option_and_then}
use Rattle.std.specs.BTreeMap as tree
use Rattle.std.specs.Ordering.{nat_cmp, on, then_cmp}
use Rattle.std.specs.Cmp.Lexicographic.{slice_cmp}
use Rattle.std.specs.declared.cmp.Ordering.{Ordering}
use Rattle.commands.specs.Asks.{Asked}
use Rattle.ledger.specs.Answer.{Kept, KeptReply}
use Rattle.memory_book.specs.declared.keys.AskKey.{AskKey}
use Rattle.memory_book.specs.declared.answers.KeptAnswer.{KeptAnswer}
use Rattle.memory_book.specs.declared.answers.Answers.{Answers}

-- keys of agents are ordered by the texts of both
abbrev pub ask_key_cmp : AskKey → AskKey → Ordering
ask_key_cmp = then_cmp (on (λ k. k.agent) (slice_cmp nat_cmp)) (on (λ k. k.key) (slice_cmp nat_cmp))

-- the kept reply, as the definitions represent it
abbrev pub kept_said : KeptAnswer → KeptReply
kept_said k = record { text = k.text.items; reply = k.reply }

-- what is kept under each agent and key
abbrev pub kept_in : Answers → Kept
kept_in answers agent key =
    option_map kept_said
    (tree.get ask_key_cmp answers.kept (record { agent = agent; key = key }))

-- the same is kept under each agent and key
abbrev pub AreKeptAlike : Kept → Kept → Type 0
AreKeptAlike kept other = (agent key : List ℕ) → kept agent key ≡ other agent key

-- what is kept for an ask, if there is one
abbrev pub found_for : Kept → Option Asked → Option KeptReply
found_for kept ask = option_and_then (λ (a : Asked). kept a.agent a.key) ask

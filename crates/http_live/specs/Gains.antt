-- What a turn gains: a message with its page, which waits to go out, or nothing.
use Rattle.std.specs.Prelude.{◌≡◌, ℕ, ◌⊎◌, Bool, true, false, List, [], ◌∷◌, ◌++◌, Option, Some, None}
use Rattle.http_conversations.specs.Worlds.{Exchange}
use Rattle.http_live.specs.declared.slots.Standing.{Standing}
use Rattle.http_live.specs.declared.slots.Standing.TheVariants.{Answered, Stopped, Over}

-- a message was answered in this turn
abbrev pub is_answer : Standing → Bool
is_answer Answered = true
is_answer Stopped = true
is_answer _ = false

-- one exchange more, with this page, or without one
pub record GainsOne (page : Option (List ℕ)) (before after : List Exchange) : Type 0 where
  pub last : Exchange
  pub one : after ≡ before ++ last ∷ []
  pub has_page : last.page ≡ page

-- A message was answered, and its page is all that waits; or there is no exchange more. Where the connection is over, there
-- is none more, or one whose page was lost.
abbrev pub Gains : Standing → List ℕ → List Exchange → List Exchange → Type 0
Gains Answered pending before after = GainsOne (Some pending) before after
Gains Stopped pending before after = GainsOne (Some pending) before after
Gains Over pending before after = (after ≡ before) ⊎ GainsOne None before after
Gains _ pending before after = after ≡ before

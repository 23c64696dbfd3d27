-- What a connection waits for after its turn.
use Rattle.std.specs.Prelude.{◌≡◌, ◌≢◌, ◌⊎◌, [], true, false, ⊤}
use Rattle.http_conversations.specs.Modes.{SaysNothing}
use Rattle.http_conversations.specs.History.{History}
use Rattle.http_conversations.specs.declared.conversation.Stage.TheVariants.{Open, Closing}
use Rattle.http_live.specs.declared.slots.Standing.{Standing}
use Rattle.http_live.specs.declared.slots.Standing.TheVariants.{Between, Amid, Unsent, Lingering, Answered, Stopped}

-- each page was yielded, and no whole message waits for an answer
pub record IsUsedUp (h : History) : Type 0 where
  pub sent : h.pending ≡ []
  pub answered : (h.stage ≢ Open) ⊎ SaysNothing h.mode h.waiting

-- a page waits for its peer
abbrev pub IsUnsent : History → Type 0
IsUnsent h = h.pending ≢ []

-- no page waits, and what waits is not a whole message
pub record WaitsForMore (h : History) : Type 0 where
  pub is_open : h.stage ≡ Open
  pub sent : h.pending ≡ []
  pub none : SaysNothing h.mode h.waiting

-- every page was yielded, the last of which closes
pub record HasClosed (h : History) : Type 0 where
  pub closing : h.stage ≡ Closing
  pub sent : h.pending ≡ []

-- a message, or part of one, waits to be answered, and no page waits
pub record HasUnanswered (h : History) : Type 0 where
  pub part : h.waiting ≢ []
  pub sent : h.pending ≡ []

-- it waits for its peer alone: to send, to take a page, or to end; or it waits for nothing. Where a message was answered,
-- it is said whether that is a request of the house that the desk stop
abbrev pub Rests : Standing → History → Type 0
Rests Between h = WaitsForMore h × (h.waiting ≡ [])
Rests Amid h = WaitsForMore h × (h.waiting ≢ [])
Rests Unsent h = h.pending ≢ []
Rests Lingering h = HasClosed h
Rests Answered h = h.stops ≡ false
Rests Stopped h = h.stops ≡ true
Rests _ h = ⊤

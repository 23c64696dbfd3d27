-- What a peer owes.
use Rattle.std.specs.Prelude.{Bool, true, false, not}
use Rattle.http_live.specs.declared.slots.Standing.{Standing}
use Rattle.http_live.specs.declared.slots.Standing.TheVariants.{Between, Amid, Unsent, Lingering, Answered, Stopped, Busy, Over}
use Rattle.http_log.specs.declared.endings.Why.{Why}
use Rattle.http_log.specs.declared.endings.Why.TheVariants.{LateRequest, LatePage, Closed}
use Rattle.http_sockets.specs.declared.places.Owed.{Owed}
use Rattle.http_sockets.specs.declared.places.Owed.TheVariants.{Nothing, Message, Page, End}

-- by a byte, where nothing was owed, a message begins
abbrev pub owed_by_byte : Owed → Owed
owed_by_byte Nothing = Message
owed_by_byte owed = owed

-- what it owes after a turn that ended so, by what it owed before
abbrev pub owed_after : Owed → Standing → Owed
owed_after before Between = Nothing
owed_after before Amid = Message
owed_after before Unsent = Page
owed_after before Lingering = End
owed_after before Answered = Page
owed_after before Stopped = Page
owed_after before Busy = owed_by_byte before
owed_after before Over = Nothing

-- whether both are the same
abbrev pub is_same : Owed → Owed → Bool
is_same Nothing Nothing = true
is_same Message Message = true
is_same Page Page = true
is_same End End = true
is_same _ _ = false

-- whether it is owed from this turn on: another thing, or the page of one more message
abbrev pub is_owed_anew : Owed → Standing → Bool
is_owed_anew before Answered = true
is_owed_anew before standing = not (is_same before (owed_after before standing))

-- whether the turn shows that the peer sent or took something
abbrev pub shows_life : Standing → Bool
shows_life Busy = true
shows_life Answered = true
shows_life _ = false

-- why a slot is ended whose peer owes this for too long
abbrev pub why_owing : Owed → Why
why_owing Message = LateRequest
why_owing Page = LatePage
why_owing _ = Closed

-- By which door a peer comes, in which mode it is read, and with which ends; and for which reason none comes.
use Rattle.std.specs.Prelude.{⊤}
use Rattle.desk_http.specs.declared.doors.Door.{Door}
use Rattle.http_conversations.specs.declared.modes.Mode.{Mode}
use Rattle.http_live.specs.declared.serving.Turn.{Turn}
use Rattle.http_live.specs.declared.serving.Turn.TheVariants.{Comes, Ready, Leaves, End}

-- a peer that comes in this turn comes by the door of its reader
abbrev pub ComesByItsDoor : {R W : Type 0} → (R → Door → Type 0) → Turn R W → Type 0
ComesByItsDoor is_at (Comes at door mode reader writer) = is_at reader door
ComesByItsDoor is_at (Ready at) = ⊤
ComesByItsDoor is_at (Leaves at) = ⊤
ComesByItsDoor is_at End = ⊤

-- a peer that comes in this turn is read in the mode of its reader
abbrev pub ComesInItsMode : {R W : Type 0} → (R → Mode → Type 0) → Turn R W → Type 0
ComesInItsMode is_by (Comes at door mode reader writer) = is_by reader mode
ComesInItsMode is_by (Ready at) = ⊤
ComesInItsMode is_by (Leaves at) = ⊤
ComesInItsMode is_by End = ⊤

-- the two ends of a peer that comes in this turn are those of one peer
abbrev pub ComesWithBoth : {R W : Type 0} → (R → W → Type 0) → Turn R W → Type 0
ComesWithBoth is_pair (Comes at door mode reader writer) = is_pair reader writer
ComesWithBoth is_pair (Ready at) = ⊤
ComesWithBoth is_pair (Leaves at) = ⊤
ComesWithBoth is_pair End = ⊤

-- where no turn comes, it is for this reason
abbrev pub EndsOnlyIf : {R W : Type 0} → Type 0 → Turn R W → Type 0
EndsOnlyIf reason (Comes at door mode reader writer) = ⊤
EndsOnlyIf reason (Ready at) = ⊤
EndsOnlyIf reason (Leaves at) = ⊤
EndsOnlyIf reason End = reason

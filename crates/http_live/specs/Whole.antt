-- How serving goes from the first peer to its end, over slots that had no connection before.
use Rattle.std.specs.Prelude.{◌≡◌, ℕ, Bool, true, false, List, [], All, map, Result, Ok, Err}
use Rattle.std.specs.declared.io.traits.Read as Read
use Rattle.std.specs.declared.io.traits.Write as Write
use Rattle.commands.specs.declared.replies.Fault.{Fault}
use Rattle.ledger.specs.Answer.{State}
use Rattle.saga_core.specs.Runs.{Asks}
use Rattle.desk_http.specs.declared.doors.Door.{Door}
use Rattle.http_conversations.specs.declared.modes.Mode.{Mode}
use Rattle.http_conversations.specs.Worlds.{Exchange}
use Rattle.http_conversations.specs.Leading.{has_broken}
use Rattle.http_live.specs.Arrivals.{AreAtTheirDoors, ArePairs, AreReadInTheirModes}
use Rattle.http_live.specs.InTime.{GivesAll}
use Rattle.http_live.specs.Slots.{exchanges_at}
use Rattle.http_live.specs.Worlds.{WorldsGoOn}
use Rattle.http_live.specs.declared.slots.Slot.{Slot}
use Rattle.http_live.specs.declared.slots.Standing.{Standing}
use Rattle.http_live.specs.declared.serving.Turn.{Turn}
use Rattle.http_live.specs.declared.serving.Ending.{Ending}
use Rattle.http_live.specs.declared.serving.Ending.TheVariants.{NoTurn, Stopped, Spent}

module _ {R W T : Type 0} (took : T → Turn R W → T → Type 0) (heard : T → ℕ → Standing → T → Type 0) (seen : T → T → Type 0)
    (is_over : T → Type 0) where
  -- Serving came to this end, and the administrator stopped the desk, or nobody did. There is a reason that no turn comes, or the
  -- source gave all turns that are counted: since it was first asked, or, after a stop, since some instant.
  abbrev pub EndsOver : T → T → Ending → Bool → Type 0
  EndsOver first last NoTurn stopped = is_over last × (stopped ≡ false)
  EndsOver first last Stopped stopped = is_over last × (stopped ≡ true)
  EndsOver first last Spent false = GivesAll took heard seen first last
  EndsOver first last Spent true = (since : T) × GivesAll took heard seen since last

-- it came to an end that says so; at a fault nobody stopped the desk
abbrev pub StopsAs : (Ending → Bool → Type 0) → Result Ending Fault → Bool → Type 0
StopsAs over (Ok ending) stopped = over ending stopped
StopsAs over (Err fault) stopped = stopped ≡ false

-- Each world at whose end the book stood goes on by the exchanges of all slots, merged. Where serving ended so, the last of
-- them stopped the desk; no other did. Where the store failed, there was a reason.
pub record WorldsEnd {B : Type 0} (is_sound : B → Type 0) (stands : B → State → Type 0) (leaves : B → State → State → Type 0)
    (may : B → B → State → Asks → Type 0) (reason : B → B → State → State → Type 0) (old new : B)
    (over : Ending → Bool → Type 0) (result : Result Ending Fault) (before after : List (List Exchange)) : Type 0 where
  pub stopped : Bool
  pub stops_as : StopsAs over result stopped
  pub worlds : WorldsGoOn is_sound stands leaves may reason old new (has_broken result) stopped before after

-- The same of slots that had no exchange before. Each connection of them came by the door and in the mode of its reader, with the
-- writer of the same peer.
pub record GoOnByTurns {R W : Type 0} (r : Read.Ghosts R) (w : Write.Ghosts W) (is_at : R → Door → Type 0)
    (is_by : R → Mode → Type 0) (is_pair : R → W → Type 0) {B : Type 0} (is_sound : B → Type 0) (stands : B → State → Type 0)
    (leaves : B → State → State → Type 0) (may : B → B → State → Asks → Type 0) (reason : B → B → State → State → Type 0)
    (old new : B) (over : Ending → Bool → Type 0) (result : Result Ending Fault) : Type 0 where
  pub slots : List (Slot R W r w)
  pub doors : AreAtTheirDoors is_at slots
  pub modes : AreReadInTheirModes is_by slots
  pub pairs : ArePairs is_pair slots
  pub before : List (List Exchange)
  pub none : All (λ exchanges. exchanges ≡ []) before
  pub goes_on : WorldsEnd is_sound stands leaves may reason old new over result before (map exchanges_at slots)

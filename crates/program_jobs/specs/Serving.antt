-- What a job does over a connection that serves: its desk is recovered, and then who comes is served until there is a reason to end.
use Rattle.std.specs.Prelude.{◌≡◌, ◌⊎◌, ⊤, ℕ, Bool, true, false, List, [], ◌∷◌, All, codes, decimal, map, Option, Some, Result, Ok, Err, IfErr, OnOk}
use Rattle.std.specs.Io.KnownBytes.{Appends}
use Rattle.std.specs.declared.io.traits.Read as Read
use Rattle.std.specs.declared.io.traits.Write as Write
use Rattle.saga_core.specs.Written.{WroteFront}
use Rattle.sqlite.specs.Store.{Ghosts}
use Rattle.sqlite.specs.Held.{Held}
use Rattle.commands.specs.Texts.{sentence}
use Rattle.commands.specs.declared.replies.Fault.{Fault}
use Rattle.commands.specs.declared.replies.Fault.TheVariants.{Memory, Store}
use Rattle.saga_core.specs.StreamScenes.{ended}
use Rattle.ledger.specs.Answer.{State}
use Rattle.saga_core.specs.Books.{LeavesJust}
use Rattle.http_conversations.specs.Conversations.{history}
use Rattle.http_conversations.specs.Worlds.{Exchange}
use Rattle.http_conversations.specs.Exchanges.{StopAtLast}
use Rattle.http_conversations.specs.History.{IsServed}
use Rattle.http_live.specs.Arrivals.{AreAtTheirDoors, ArePairs, AreReadInTheirModes}
use Rattle.http_live.specs.Merging.{IsMerged, Slotted, exchange_of}
use Rattle.http_live.specs.Faithful.{Faithful}
use Rattle.http_live.specs.Slots.{connections_at, exchanges_at}
use Rattle.http_live.specs.declared.connection.Connection.{Connection}
use Rattle.http_live.specs.Whole.{EndsOver, StopsAs}
use Rattle.http_live.specs.declared.slots.Slot.{Slot}
use Rattle.http_live.specs.declared.serving.Ending.{Ending}
use Rattle.http_live.specs.declared.serving.Ending.TheVariants.{Spent}
use Rattle.http_live.specs.declared.serving.Turns as Turns
use Rattle.desk_jobs.specs.Openings.{Connections, Input, Nothing}
use Rattle.program_ends.specs.Causes.{cause_of_end}
use Rattle.program_ends.specs.Ends.{EndsBadly, EndsJob}
use Rattle.program_ends.specs.declared.ended.Ended.{Ended}
use Rattle.program_ends.specs.declared.ends.End.{End}
use Rattle.program_ends.specs.declared.ends.End.TheVariants as finish
use Rattle.program_ends.specs.declared.faults.ProgramFault.{ProgramFault}
use Rattle.program_ends.specs.declared.faults.ProgramFault.TheVariants as fault
use Rattle.tables.specs.declared.books.TableBook.{TableBook}
use Rattle.desk_jobs.specs.Following.{Follows, FollowsDesk}
use Rattle.desk_jobs.specs.Jobs.{NotReady, NotesRun}

-- the line that reports that connections to this port are accepted: `ready 8080`
abbrev pub ready_line : ℕ → List ℕ
ready_line port = ended (sentence (codes "ready" ∷ decimal port ∷ []))

-- the desk cannot be listened for: memory ran out, or the system refused
abbrev pub IsUnheard : End → Type 0
IsUnheard (finish.Fault fault.Memory) = ⊤
IsUnheard (finish.Fault fault.Net) = ⊤
IsUnheard _ = ⊥

-- nobody could come: the same, or the store failed, or the line that reports it could not be written
abbrev pub IsUnserved : End → Type 0
IsUnserved (finish.Fault fault.Store) = ⊤
IsUnserved (finish.Fault fault.Write) = ⊤
IsUnserved e = IsUnheard e

-- The end of serving that came to this, where the system failed meanwhile, or did not. That all turns were spent is a failure.
abbrev pub end_of_serving : Bool → Result Ending Fault → End
end_of_serving failed (Ok Spent) = finish.Fault fault.Net
end_of_serving true (Ok ending) = finish.Fault fault.Net
end_of_serving false (Ok ending) = finish.Done
end_of_serving failed (Err Memory) = finish.Fault fault.Memory
end_of_serving failed (Err Store) = finish.Fault fault.Store

-- an end with its own cause
abbrev pub IsFrom : End → Ended → Type 0
IsFrom end ended = ended ≡ record { end = end; cause = cause_of_end end }

module _ {R W : Type 0} {r : Read.Ghosts R} {w : Write.Ghosts W} where
  -- What was written to the peer of a connection is a prefix of the pages of its exchanges, with each 100 Continue that
  -- was given, and what was received begins with their messages. Where its ends report their bytes, that was written to the
  -- one, and this was read from the other.
  pub record IsSentItsPages (c : Connection R W r w) : Type 0 where
    pub pages : ∥ IsServed (history c.conversation) ∥₁
    pub ends : ∥ Faithful r.remaining w.contents c.came.items c.reader c.writer (history c.conversation).received
        (history c.conversation).sent ∥₁

  -- so it is with each connection of the slots, also with those that ended
  abbrev pub AreSentTheirPages : List (Slot R W r w) → Type 0
  AreSentTheirPages slots = All (λ slot. All IsSentItsPages (connections_at slot)) slots

-- Who came to a desk that served until this end, and the exchanges with them, in the order in which they were carried out: those of
-- slots that had none before, merged. Each connection came by the door and in the mode of its reader, with the writer of the same peer,
-- which was sent its pages. `listened_for` says what is known of the source of their turns as listening began.
-- Serving ended for a reason, or after all turns that are counted, and where the administrator stopped it, by the last exchange.
pub record CameFrom {T R W : Type 0} (r : Read.Ghosts R) (w : Write.Ghosts W) (t : Turns.Ghosts T R W) (has_failed : T → Bool)
    (listened_for : T → Type 0) (e : End) (exchanges : List Exchange) : Type 0 where
  pub began : T
  pub listened : listened_for began
  pub slots : List (Slot R W r w)
  pub doors : AreAtTheirDoors t.is_at slots
  pub modes : AreReadInTheirModes t.is_by slots
  pub pairs : ArePairs t.is_pair slots
  pub peers : AreSentTheirPages slots
  pub before : List (List Exchange)
  pub none : All (λ earlier. earlier ≡ []) before
  pub merged : List Slotted
  pub is_merged : IsMerged before (map exchanges_at slots) merged
  pub are : exchanges ≡ map exchange_of merged
  pub guests : T
  pub ending : Result Ending Fault
  pub stopped : Bool
  pub stops_as : StopsAs (EndsOver t.took t.heard t.seen t.is_over began guests) ending stopped
  pub stopping : StopAtLast stopped exchanges
  pub ends : e ≡ end_of_serving (has_failed guests) ending

-- What serving came to: nobody was served, for such a reason; or the line was written, and then these exchanges were carried out.
-- `held` and `holds` are the bytes of the output; the desk went on from an input to an end as `GoesOn` says.
module _ (Why : End → Type 0) (GoesOn : Input → End → Type 0) (Came : End → List Exchange → Type 0) (port : ℕ)
    (held holds : Option (List ℕ)) where
  pub record ServesNobody (ended : Ended) : Type 0 where
    pub why : Why ended.end
    pub bad : EndsBadly ended.end
    pub told : WroteFront held holds (ready_line port)
    pub goes : GoesOn Nothing ended.end

  pub record ServesGuests (ended : Ended) : Type 0 where
    pub exchanges : List Exchange
    pub came : Came ended.end exchanges
    pub told : Appends held holds (ready_line port)
    pub goes : GoesOn (Connections exchanges) ended.end
    pub job : EndsJob ended.end
    pub cause : ended.cause ≡ cause_of_end ended.end

  -- the one or the other
  abbrev pub ServesSo : Ended → Type 0
  ServesSo ended = ServesNobody ended ⊎ ServesGuests ended

module _ {S : Type 0} (g : Ghosts S) (Came : End → List Exchange → Type 0) (port : ℕ) where
  -- Serving over a recovered desk. None of its answers went to the output.
  abbrev pub ServesDesk : TableBook S g → Held S → (held holds : Option (List ℕ)) → Ended → Type 0
  ServesDesk b new held holds =
      ServesSo IsUnserved (λ input e. (any : Option (List ℕ)) → FollowsDesk g b new (Some input) any any e) Came port held holds

  -- Serving over a connection. `noted` and `notes` are the bytes of its notes.
  pub record Serves (old new : Held S) (held holds noted notes : Option (List ℕ)) (ended : Ended) : Type 0 where
    pub either : ServesSo (λ e. NotReady g old new e ⊎ IsUnserved e)
        (λ input e. (any : Option (List ℕ)) → Follows g old new (Some input) any any e) Came port held holds ended
    pub note : NotesRun g old new noted notes

-- What a book stood for it stands for still, if it was opened to guests, and a crash leaves just that in any case.
pub record OpensTo {B T : Type 0} (is_sound : B → Type 0) (stands : B → State → Type 0) (leaves : B → State → State → Type 0)
    (old new : B) (result : Result T ProgramFault) : Type 0 where
  pub stays : is_sound new → (s : State) → stands old s → OnOk result (stands new s)
  pub left : is_sound new → (s : State) → stands old s → LeavesJust (leaves new) s
  pub sound : is_sound new → is_sound old
  pub fault : IfErr result (λ f. IsUnserved (finish.Fault f))

-- What serving comes to, from how its desk came up and who was served. For `serving`.
use Rattle.std.proofs.Common.{◌≡◌, ◌∙◌, arith, refl, ap, sym, subst, inl, inr, ℕ, List, [], Bool, true, false, map, get_or, Option, Some, Result}
use Rattle.std.specs.Io.KnownBytes.{Appends}
use Rattle.std.specs.declared.io.traits.Read as Read
use Rattle.std.specs.declared.io.traits.Write as Write
use Rattle.std.proofs.KnownBytes.{Appends-nil}
use Rattle.saga_core.specs.Written.{WroteFront}
use Rattle.sqlite.specs.Store.{Ghosts}
use Rattle.sqlite.specs.Held.{Held, state}
use Rattle.sqlite.specs.State.{State as Connected, HasCleanDisk}
use Rattle.commands.specs.declared.replies.Fault.{Fault}
use Rattle.desk_sql.specs.declared.versions.Version.TheVariants.{Two}
use Rattle.ledger.specs.Answer.{State}
use Rattle.ledger.specs.World.{Moment}
use Rattle.saga_core.specs.Worlds.{StandsAtEnd}
use Rattle.sql_model.specs.Keeping.{MayLeave, StoodFor}
use Rattle.http_conversations.specs.Worlds.{Exchange}
use Rattle.http_conversations.specs.Leading.{has_broken}
use Rattle.http_live.specs.Merging.{exchange_of}
use Rattle.http_live.specs.Slots.{connections_at}
use Rattle.http_live.specs.declared.slots.Slot.{Slot}
use Rattle.http_live.specs.Whole.{EndsOver, GoOnByTurns}
use Rattle.http_conversations.specs.Worlds as by_exchange
use Rattle.http_live.specs.declared.serving.Ending.{Ending}
use Rattle.http_live.specs.declared.serving.Turns as Turns
use Rattle.desk_jobs.specs.Chains.{StandsAs}
use Rattle.desk_jobs.specs.Executions.{EachMayReopen}
use Rattle.desk_jobs.specs.Openings.{Connections, Nothing}
use Rattle.desk_jobs.specs.Stages.{Stood}
use Rattle.desk_jobs.proofs.StageLemmas.{either, exchanges_answered, some_served, unasked}
use Rattle.program_ends.specs.Ends.{EndsBadly, EndsJob}
use Rattle.program_ends.specs.declared.ended.Ended.{Ended}
use Rattle.program_ends.specs.declared.ends.End.{End}
use Rattle.tables.specs.Acting.{HasReasonSince, MayActSince}
use Rattle.tables.specs.BookTerms.{LeavesBook, StandsBook}
use Rattle.tables.specs.Making.{LetsGo}
use Rattle.tables.specs.declared.books.TableBook.{TableBook}
use Rattle.desk_jobs.specs.Following.{FollowsDesk}
use Rattle.desk_jobs.specs.Jobs.{NotReady, Readies}
use Rattle.desk_jobs.specs.Notes.{NotesEvents}
use Rattle.desk_jobs.proofs.FollowLemmas.{follows_not_up, follows_up, leaves_follows, stands_follows}
use Rattle.desk_jobs.proofs.RecoveredLemmas.{recovery_noted, unnoted}
use Rattle.program_jobs.specs.Serving.{AreSentTheirPages, CameFrom, IsFrom, IsUnheard, IsUnserved, Serves, ServesDesk, end_of_serving, ready_line}

-- where nobody could come, not all was done
unserved_bad : (e : End) → IsUnserved e → EndsBadly e
unserved_bad e is = grind arith

-- who cannot be listened for cannot come
pub unheard_unserved : (e : End) → IsUnheard e → IsUnserved e
unheard_unserved e is = grind arith

-- where the store failed, not all was done
broken_bad : (failed : Bool) (served : Result Ending Fault) → has_broken served ≡ true → EndsBadly (end_of_serving failed served)
broken_bad failed served is = grind arith

-- serving ends as a job
serving_job : (failed : Bool) (served : Result Ending Fault) → EndsJob (end_of_serving failed served)
serving_job failed served = grind arith

-- a crash leaves just what the connection stands for
pub stood_leaves : (c : Connected) (s : State) → StoodFor Two c s → MayLeave c s s
stood_leaves c s stood clean db may = inl ((stood clean).leaves db may)

-- what each connection was sent is known of every connection
sent_their_pages : {R W : Type 0} {r : Read.Ghosts R} {w : Write.Ghosts W} (slots : List (Slot R W r w)) → AreSentTheirPages slots
sent_their_pages slots j e inside k f there =
    let c = get_or (connections_at (get_or slots j e)) k f in record { pages = c.conversation.served; ends = c.faithful }

module _ {S : Type 0} (g : Ghosts S) (b : TableBook S g) (new : Held S) where
  -- nobody could come
  pub nobody_served : (Came : End → List Exchange → Type 0) (port : ℕ) (held holds : Option (List ℕ)) (ended : Ended)
      → IsUnserved ended.end → WroteFront held holds (ready_line port)
      → (HasCleanDisk (state g new) → (s : State) → StandsBook g b s → MayLeave (state g new) s s)
      → ServesDesk g Came port b new held holds ended
  nobody_served Came port held holds ended why told left =
      let bad = unserved_bad ended.end why in
      inl (record {
        why = why;
        bad = bad;
        told = told;
        goes = λ any. leaves_follows g b new (Some Nothing) any any ended.end bad (λ clean w here db may.
            unasked any any (StandsBook g b) w Nothing [] (StandsAs db) refl (refl, refl) here (Appends-nil any)
            (elim (either (state g new) _ _ clean (left clean _ here.stands_there) db may) [
              | inl m ↦ m
              | inr m ↦ m
            ]));
      })

  -- the exchanges of guests, over a book that was let go after them
  module _ (last : TableBook S g) (gone : LetsGo g last new) (held : Option (List ℕ)) (exchanges : List Exchange) (e : End) where
    follows_exchanges : (broken : Bool) → (broken ≡ true → EndsBadly e)
        → (HasCleanDisk (state g new) → (w : List Moment) → StandsAtEnd (StandsBook g b) w
        → by_exchange.GoesOnBy broken (StandsBook g last) (LeavesBook g last) w exchanges)
        → FollowsDesk g b new (Some (Connections exchanges)) held held e
    follows_exchanges false bad goes =
        stands_follows g b new (Some (Connections exchanges)) held held e (λ clean w here.
        exchanges_answered (StandsBook g last) (LeavesBook g last) w held (Stood (state g new))
        (λ s stands. (Two, gone.found s stands)) exchanges (goes clean w here))
    follows_exchanges true bad goes =
        leaves_follows g b new (Some (Connections exchanges)) held held e (bad refl) (λ clean w here.
        some_served (state g new) (LeavesBook g last) clean gone.left (StandsBook g last) w held exchanges (goes clean w here))

  pub guests_served : {T R W : Type 0} (r : Read.Ghosts R) (w : Write.Ghosts W) (t : Turns.Ghosts T R W) (has_failed : T → Bool)
      (listened_for : T → Type 0) (began : T) → listened_for began → (port : ℕ) (held holds : Option (List ℕ)) (first last : TableBook S g) (guests : T) (served : Result Ending Fault) (failed : Bool)
      (e : End) (ended : Ended)
      → (HasCleanDisk (state g first.conn) → (s : State) → StandsBook g b s → StandsBook g first s)
      → (HasCleanDisk (state g last.conn) → HasCleanDisk (state g first.conn))
      → GoOnByTurns r w t.is_at t.is_by t.is_pair (λ b. HasCleanDisk (state g b.conn)) (StandsBook g) (LeavesBook g) (MayActSince g)
      (HasReasonSince g) first last (EndsOver t.took t.heard t.seen t.is_over began guests) served
      → Appends held holds (ready_line port) → LetsGo g last new
      → failed ≡ has_failed guests → e ≡ end_of_serving failed served → IsFrom e ended
      → ServesDesk g (CameFrom r w t has_failed listened_for) port b new held holds ended
  guests_served r w t has_failed listened_for began listened port held holds first last guests served failed e ended stays back on told gone same ends from =
      let worlds = on.goes_on.worlds in
      let end = end_of_serving (has_failed guests) served in
      let is : IsFrom end ended = subst (λ x. IsFrom x ended) (ends ∙ ap (λ f. end_of_serving f served) same) from in
      subst (ServesDesk g (CameFrom r w t has_failed listened_for) port b new held holds) (sym is)
      (inr (record {
        exchanges = map exchange_of worlds.merged;
        came = record {
          began = began;
          listened = listened;
          slots = on.slots;
          doors = on.doors;
          modes = on.modes;
          pairs = on.pairs;
          peers = sent_their_pages on.slots;
          before = on.before;
          none = on.none;
          merged = worlds.merged;
          is_merged = worlds.is_merged;
          are = refl;
          guests = guests;
          ending = served;
          stopped = on.goes_on.stopped;
          stops_as = on.goes_on.stops_as;
          stopping = worlds.stopping;
          ends = refl;
        };
        told = told;
        goes = λ any. follows_exchanges last gone any (map exchange_of worlds.merged) end (has_broken served)
            (broken_bad (has_failed guests) served) (λ clean w here.
            worlds.worlds (gone.sound clean) w (record {
              world = here.world;
              whole = here.whole;
              stands_there = stays (back (gone.sound clean)) _ here.stands_there;
            }));
        job = serving_job (has_failed guests) served;
        cause = refl;
      }))

-- the desk that serves was recovered
pub serves_up : EachMayReopen → {S : Type 0} (g : Ghosts S) (Came : End → List Exchange → Type 0) (port : ℕ) (old new : Held S)
    (held holds noted notes : Option (List ℕ)) (ended : Ended) (b : TableBook S g) (made : ℕ) → Readies g old b made
    → (HasCleanDisk (state g new) → HasCleanDisk (state g b.conn)) → NotesEvents made noted notes
    → ServesDesk g Came port b new held holds ended → Serves g Came port old new held holds noted notes ended
serves_up law g Came port old new held holds noted notes ended b made ready back events did = record {
  either = elim did [
    | inl nobody ↦ inl (record {
      why = inr nobody.why;
      bad = nobody.bad;
      told = nobody.told;
      goes = λ any. follows_up g b new (Some Nothing) any any law old (λ clean. ready.world (back clean)) ended.end (nobody.goes any);
    })
    | inr guests ↦ inr (record {
      exchanges = guests.exchanges;
      came = guests.came;
      told = guests.told;
      goes = λ any. follows_up g b new (Some (Connections guests.exchanges)) any any law old (λ clean. ready.world (back clean)) ended.end
          (guests.goes any);
      job = guests.job;
      cause = guests.cause;
    })
  ];
  note = recovery_noted g old new b made ready back noted notes events;
}

-- it was not
pub serves_not_ready : EachMayReopen → {S : Type 0} (g : Ghosts S) (Came : End → List Exchange → Type 0) (port : ℕ) (old new : Held S)
    (held noted : Option (List ℕ)) (end : End) (ended : Ended) → IsFrom end ended → NotReady g old new end
    → Serves g Came port old new held held noted noted ended
serves_not_ready law g Came port old new held noted end ended is failed =
    subst (Serves g Came port old new held held noted noted) (sym is)
    (record {
      either = inl (record {
        why = inl failed;
        bad = failed.bad;
        told = (0, Appends-nil held);
        goes = λ any. follows_not_up g old new (Some Nothing) any end law failed.left failed.bad tt;
      });
      note = unnoted g old new noted;
    })

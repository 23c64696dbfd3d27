-- What a call of a book leaves of recovery and of what follows it. For `stop`, `step` and the passes.
use Rattle.std.proofs.Common.{◌≡◌, ◌+◌, ◌≤◌, ◌<◌, ℕ, List, [], ◌∷◌, ◌++◌, length, refl, subst, arith, length-append, Bool, Option, Some, None, is_some, Ok, Err, IsTrue}
use Rattle.commands.specs.Request.{Request}
use Rattle.commands.specs.declared.items.Item.{Item}
use Rattle.commands.specs.declared.replies.Fault.{Fault}
use Rattle.commands.specs.declared.replies.Fault.TheVariants.{Memory, Store}
use Rattle.commands.specs.declared.replies.Reply.{Reply}
use Rattle.ledger.specs.Answer.{State, Outcome, outcome, most_events}
use Rattle.ledger.specs.Ledger.{Event, Did, is_item_allowed}
use Rattle.ledger.specs.Recovery.{is_forward}
use Rattle.saga_core.specs.Calls.{Acts, Reads}
use Rattle.saga_core.specs.Runs.{Asks}
use Rattle.recovery.specs.Asking.{phase_told, Adds, SteppedTo}
use Rattle.recovery.specs.Following.{AfterMove, AfterPass, HasCome, LeftAt, MayGoOn}
use Rattle.recovery.specs.Growing.{with_events, MayHaveGrown}
use Rattle.recovery.specs.Passes.{Comes}
use Rattle.recovery.specs.Reasons.{IsStepOrStop}
use Rattle.recovery.specs.declared.passes.Came.{Came}
use Rattle.recovery.specs.declared.passes.Came.TheVariants.{Through, Full}
use Rattle.recovery.proofs.AskLemmas.{Moves, adds, steps, left-outcome, left-same, outcome-full, outcome-made}
use Rattle.recovery.proofs.PassLemmas.{grew-as}

module _ {B : Type 0} (stands : B → State → Type 0) (may : B → B → State → Asks → Type 0) where
  -- a book with which recovery may go on represents the state
  pub standing : (following : Option (B × Asks)) (b : B) (s : State) → MayGoOn stands may following b s → stands b s
  standing None b s here = here
  standing (Some follows) b s here = here.stands_there

  -- so does one whose recovery is over
  pub come-standing : (following : Option (B × Asks)) (b : B) (s : State) → HasCome stands may following b s → stands b s
  come-standing None b s here = here
  come-standing (Some follows) b s here = here.stands_there

  -- recovery may be over wherever it may go on
  pub come : (following : Option (B × Asks)) (b : B) (s : State) → MayGoOn stands may following b s → HasCome stands may following b s
  come None b s here = here
  come (Some follows) b s here = record { stands_there = here.stands_there; may = here.moves [] tt (omega arith) }

  -- after its last pass, whether that completed or filled the ledger, recovery is over
  pub came-over : (following : Option (B × Asks)) (b : B) (s : State) (Whole Part : List Event → Type 0) (came : Came)
      → Comes (AfterPass stands may following b came) s Whole Part came → Comes (HasCome stands may following b) s Whole Part came
  came-over following b s Whole Part (Through made) g = grew-as g g.are (come following b (with_events s g.events) g.stands_there)
  came-over following b s Whole Part (Full made) g = g

module _ {B : Type 0} {is_sound : B → Type 0} {stands : B → State → Type 0} {leaves : B → State → State → Type 0} {has_failed : B → Bool}
    {may : B → B → State → Asks → Type 0} {reason : B → B → State → State → Type 0} {old new : B} (sound : is_sound new)
    (following : Option (B × Asks)) (s : State) (here : MayGoOn stands may following old s) where
  -- Reads.

  -- recovery may go on after a read
  pub goes-read : {T : Type 0} {value : T} → Reads is_sound stands leaves has_failed may reason old new (Ok value)
      → MayGoOn stands may following new s
  goes-read {T = T} {value = value} read = go following here
    where
      go : (f : Option (B × Asks)) → MayGoOn stands may f old s → MayGoOn stands may f new s
      go None there = read.same sound s there
      go (Some follows) there = record {
        stands_there = read.same sound s there.stands_there;
        moves = λ moves are few. read.may_act sound follows.0 s (moves ++ follows.1) (there.moves moves are few);
      }

  -- a read that fails leaves the state, or had a reason
  pub left-read : {T : Type 0} (fault : Fault) → ((b : B) (u : State) → stands b u → leaves b u u)
      → Reads is_sound stands leaves has_failed may reason old new {T = T} (Err fault) → LeftAt stands leaves reason following new fault s s
  left-read {T = T} fault settled read = go following fault here read
    where
      go : (f : Option (B × Asks)) (e : Fault) → MayGoOn stands may f old s
          → Reads is_sound stands leaves has_failed may reason old new {T = T} (Err e) → LeftAt stands leaves reason f new e s s
      go None Memory there r = (r.same sound s there, r.stop sound s s (settled old s there))
      go None Store there r = r.stop sound s s (settled old s there)
      go (Some follows) Memory there r = tt
      go (Some follows) Store there r = r.may_act sound follows.0 s follows.1 (there.moves [] tt (omega arith))

  -- Moves.

  module _ (asked : Request) (is : IsStepOrStop asked) (j : ℕ) (item : Item) (m : Moves s.ledger asked j item) where
    module _ {reply : Reply} (act : Acts is_sound stands leaves has_failed may reason old new None asked (Ok reply)) where
      -- a move that was made: recovery may go on
      goes-made : length s.ledger < most_events → MayGoOn stands may following new (with_events s (Did j item ∷ []))
      goes-made room = go following here
        where
          so : (P : State → Type 0) → P (outcome s None asked).state → P (with_events s (Did j item ∷ []))
          so P is_so = subst (λ (o : Outcome). P o.state) (outcome-made s asked j item m room) is_so

          go : (f : Option (B × Asks)) → MayGoOn stands may f old s → MayGoOn stands may f new (with_events s (Did j item ∷ []))
          go None there = so (stands new) (act.after sound s there)
          go (Some follows) there = record {
            stands_there = so (stands new) (act.after sound s there.stands_there);
            moves = λ moves are few.
                let longer : length (s.ledger ++ Did j item ∷ []) ≡ length s.ledger + 1 = length-append s.ledger (Did j item ∷ []) in
                so (λ t. may follows.0 new t (moves ++ follows.1))
                (act.may_act sound follows.0 s (moves ++ follows.1) (there.moves ((asked, None) ∷ moves) ((is, refl), are) (omega (arith, few, longer, room))));
          }

      -- the ledger is full: it is over
      comes-full : most_events ≤ length s.ledger → HasCome stands may following new s
      comes-full full = go following here
        where
          so : (P : State → Type 0) → P (outcome s None asked).state → P s
          so P is_so = subst (λ (o : Outcome). P o.state) (outcome-full s asked j item m full) is_so

          go : (f : Option (B × Asks)) → MayGoOn stands may f old s → HasCome stands may f new s
          go None there = so (stands new) (act.after sound s there)
          go (Some follows) there = record {
            stands_there = so (stands new) (act.after sound s there.stands_there);
            may = so (λ t. may follows.0 new t follows.1)
                (act.may_act sound follows.0 s follows.1 (there.moves ((asked, None) ∷ []) ((is, refl), tt) (omega arith)));
          }

      pub move-adds : Adds (AfterMove stands may following new (is_some (phase_told reply))) s (Did j item) (is_some (phase_told reply))
      move-adds =
          adds s asked j item m (AfterMove stands may following new) goes-made comes-full reply (act.reply sound s (standing stands may following old s here))

      pub move-steps : IsTrue (is_forward item) → IsTrue (is_item_allowed s.ledger j item)
          → SteppedTo (AfterMove stands may following new (is_some (phase_told reply))) s j (phase_told reply)
      move-steps =
          steps s asked j item m (AfterMove stands may following new) goes-made comes-full reply (act.reply sound s (standing stands may following old s here))

    -- a move that failed left the state, or that of its outcome; or it had a reason
    pub move-left : {Are : List Event → Type 0} (fault : Fault) → ((b : B) (u : State) → stands b u → leaves b u u)
        → Acts is_sound stands leaves has_failed may reason old new None asked (Err fault) → Are [] → Are (Did j item ∷ [])
        → MayHaveGrown (LeftAt stands leaves reason following new fault) Are s fault
    move-left {Are = Are} fault settled act none one = go following fault here act
      where
        go : (f : Option (B × Asks)) (e : Fault) → MayGoOn stands may f old s
            → Acts is_sound stands leaves has_failed may reason old new None asked (Err e)
            → MayHaveGrown (LeftAt stands leaves reason f new e) Are s e
        go None Memory there a =
            let kept = a.memory sound s there in
            left-same s asked j item m none Memory (kept, settled new s kept)
        go None Store there a = left-outcome s asked j item m none one (a.store sound s there)
        go (Some follows) Memory there a = left-same s asked j item m none Memory tt
        go (Some follows) Store there a =
            left-outcome s asked j item m none one
            (a.may_act sound follows.0 s follows.1 (there.moves ((asked, None) ∷ []) ((is, refl), tt) (omega arith)))

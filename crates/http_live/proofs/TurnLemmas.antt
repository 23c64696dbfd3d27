-- What one turn leaves, and turn after turn. For take_turn, the loop over turns, serve_many, and the law of their order.
use Rattle.std.proofs.Common.{◌≡◌, ◌∙◌, ◌<◌, ℕ, Bool, true, false, List, [], ◌∷◌, ◌++◌, length, map, refl, ap, sym, subst, inl, inr, append_assoc, slice_index_or, slice_set, Contains}
use Rattle.std.proofs.Math.Seq.{map-set_same}
use Rattle.std.proofs.lemmas.List.{get_or_default}
use Rattle.std.proofs.lemmas.List.Elements.{Contains-push_cases}
use Rattle.std.proofs.lemmas.List.Quantifiers.{any-set}
use Rattle.std.specs.declared.io.traits.Read as Read
use Rattle.std.specs.declared.io.traits.Write as Write
use Rattle.ledger.specs.Answer.{State}
use Rattle.saga_core.specs.Runs.{Asks}
use Rattle.desk_http.specs.declared.doors.Door.{Door}
use Rattle.http_conversations.specs.declared.modes.Mode.{Mode}
use Rattle.http_conversations.specs.Leading.{GoesOnByOne, has_broken}
use Rattle.http_live.specs.Arrivals.{arrivals_at}
use Rattle.http_live.specs.Calls.{Admits, AreLeft, ChangesAt, ChangesOne, IsLeft, TakesTurns}
use Rattle.http_live.specs.Endings.{turn_stops}
use Rattle.http_live.specs.InTime.{ByTurns, GivesTurns, InTime, Instant, IsInOrder, IsTurn, TakesSome, TakesTurn, both, came, ended, gave, had_none, left, more, none, was_shown, was_told, went_on}
use Rattle.http_live.specs.Merging.{Slotted, slotted_at}
use Rattle.http_live.specs.Slots.{HasStopAt, exchanges_at, received_at}
use Rattle.http_live.specs.declared.slots.Slot.{Slot}
use Rattle.http_live.specs.declared.slots.Standing.{Standing}
use Rattle.http_live.specs.declared.serving.Turn.{Turn}
use Rattle.http_live.proofs.DoorLemmas.{admits_none, admits_one, admits_then}
use Rattle.http_live.proofs.Merged.{merges_none, merges_set, merges_then}
use Rattle.http_live.proofs.RestLemmas.{asked_in_turn}
use Rattle.http_live.proofs.WorldLemmas.{worlds_go_on}

module _ {R W : Type 0} {r : Read.Ghosts R} {w : Write.Ghosts W} where
  -- one slot of these has changed so
  pub changes_one : (how : Slot R W r w → Slot R W r w → Type 0) (slots : List (Slot R W r w)) (i : ℕ) (d new : Slot R W r w)
      → i < length slots → how (slice_index_or slots i d) new → ChangesOne how i slots (slice_set slots i new)
  changes_one how slots i d new within so = record {
    within = within;
    new = new;
    is = refl;
    so = subst (λ old. how old new) (get_or_default slots i d new within) so;
  }

  -- one slot of these was left
  pub left_one : (slots : List (Slot R W r w)) (i : ℕ) (d new : Slot R W r w) → IsLeft (slice_index_or slots i d) new
      → AreLeft slots (slice_set slots i new)
  left_one slots i d new so = record {
    kept = map-set_same exchanges_at slots i new d so.kept;
    arrivals = map-set_same arrivals_at slots i new d so.arrivals;
    unread = map-set_same received_at slots i new d so.unread;
  }

module _ {R W : Type 0} {r : Read.Ghosts R} {w : Write.Ghosts W} {is_at : R → Door → Type 0} {is_by : R → Mode → Type 0}
    {is_pair : R → W → Type 0} where
  module _ {B : Type 0} {is_sound : B → Type 0} {stands : B → State → Type 0} {leaves : B → State → State → Type 0}
      {may : B → B → State → Asks → Type 0} {reason : B → B → State → State → Type 0} where
    -- no message was answered
    turns_none : {book : B} (old new : List (Slot R W r w)) → map exchanges_at new ≡ map exchanges_at old → Admits is_at is_by is_pair old new
        → TakesTurns is_at is_by is_pair is_sound stands leaves may reason book book false false old new []
    turns_none old new kept admits = record {
      served = merges_none (map exchanges_at old) (map exchanges_at new) kept;
      asked = λ is. cc;
      admits = admits;
    }

    -- and nobody came
    no_turns : {book : B} (slots : List (Slot R W r w))
        → TakesTurns is_at is_by is_pair is_sound stands leaves may reason book book false false slots slots []
    no_turns slots = turns_none slots slots refl (record { doors = λ doors. doors; modes = λ modes. modes; pairs = λ pairs. pairs })

    -- one slot has changed, if there is one of that number, and no message was answered
    turns_quiet : {book : B} (how : Slot R W r w → Slot R W r w → Type 0) (i : ℕ) (before after : List (Slot R W r w))
        → ((old new : Slot R W r w) → how old new → exchanges_at new ≡ exchanges_at old)
        → ((d new : Slot R W r w) → i < length before → how (slice_index_or before i d) new → Admits is_at is_by is_pair before (slice_set before i new))
        → ChangesAt how i before after → TakesTurns is_at is_by is_pair is_sound stands leaves may reason book book false false before after []
    turns_quiet {book} how i before after kept admits changes = elim changes [
      | inl x ↦ subst (λ slots. TakesTurns is_at is_by is_pair is_sound stands leaves may reason book book false false before slots []) (sym x.is)
          (turns_none before (slice_set before i x.new) (map-set_same exchanges_at before i x.new x.new (kept _ x.new x.so))
          (admits x.new x.new x.within x.so))
      | inr same ↦ subst (λ slots. TakesTurns is_at is_by is_pair is_sound stands leaves may reason book book false false before slots []) (sym same.1)
          (no_turns before)
    ]

    -- the connection of one slot went on
    turns_set : {from to : B} {failed : Bool} (stopped : Bool) (slots : List (Slot R W r w)) (i : ℕ) (d new : Slot R W r w) → i < length slots
        → (x : GoesOnByOne is_sound stands leaves may reason from to failed stopped (exchanges_at (slice_index_or slots i d)) (exchanges_at new))
        → arrivals_at new ≡ arrivals_at (slice_index_or slots i d) → (stopped ≡ true → HasStopAt new)
        → TakesTurns is_at is_by is_pair is_sound stands leaves may reason from to failed stopped slots (slice_set slots i new)
        (slotted_at i x.goes_on.exchanges)
    turns_set stopped slots i d new within x same stop = record {
      served = merges_set exchanges_at slots i d new within x;
      asked = λ is. any-set HasStopAt slots i new within (stop is);
      admits = admits_none slots i d new within same;
    }

    -- turns after others
    turns_then : {a b c : B} (failed stopped : Bool) (before between after : List (Slot R W r w)) (ms ns : List Slotted) → (is_sound c → is_sound b)
        → TakesTurns is_at is_by is_pair is_sound stands leaves may reason a b false false before between ms
        → TakesTurns is_at is_by is_pair is_sound stands leaves may reason b c failed stopped between after ns
        → TakesTurns is_at is_by is_pair is_sound stands leaves may reason a c failed stopped before after (ms ++ ns)
    turns_then failed stopped before between after ms ns back x y = record {
      served = merges_then failed stopped _ _ _ ms ns back x.served y.served;
      asked = y.asked;
      admits = admits_then before between after x.admits y.admits;
    }

module _ {R W T B : Type 0} {r : Read.Ghosts R} {w : Write.Ghosts W} {took : T → Turn R W → T → Type 0}
    {heard : T → ℕ → Standing → T → Type 0} {seen : T → T → Type 0} {is_at : R → Door → Type 0} {is_by : R → Mode → Type 0}
    {is_pair : R → W → Type 0} {is_sound : B → Type 0} {stands : B → State → Type 0} {leaves : B → State → State → Type 0}
    {may : B → B → State → Asks → Type 0} {reason : B → B → State → State → Type 0} where
  -- what one turn leaves
  takes_turn : (failed stopped : Bool) (old : Instant r w T B) (added : List Slotted) (new : Instant r w T B)
      → IsTurn took heard seen is_at is_by is_pair is_sound stands leaves may reason failed stopped old added new
      → TakesTurns is_at is_by is_pair is_sound stands leaves may reason old.book new.book failed stopped
      old.slots new.slots added
  takes_turn _ _ _ _ _ (came from to before after book i door mode reader writer took here read pair changes) =
      turns_quiet _ i before after (λ old new so. so.kept)
      (λ d new within so. admits_one before i d new within reader writer door mode so.arrived here read pair) changes
  takes_turn _ _ _ _ _ (went_on from taken shown timed to before after old new i result took shows times slot told back) =
      subst (λ slots. TakesTurns is_at is_by is_pair is_sound stands leaves may reason old new (has_broken result)
      (turn_stops result) before slots (slotted_at i slot.so.turn.goes_on.exchanges)) (sym slot.is)
      (turns_set _ before i slot.new slot.new slot.within slot.so.turn slot.so.ends.arrivals
      (λ is. slot.so.ends.stopped (asked_in_turn result is)))
  takes_turn _ _ _ _ _ (had_none from to slots book i took past) = no_turns slots
  takes_turn _ _ _ _ _ (left from to before after book i took changes) =
      turns_quiet _ i before after (λ old new so. so.left.kept) (λ d new within so. admits_none before i d new within so.left.arrivals) changes
  takes_turn _ _ _ _ _ (ended from to slots book took) = no_turns slots

  -- it is one that the source gave
  pub gives_turn : (failed stopped : Bool) (old : Instant r w T B) (added : List Slotted) (new : Instant r w T B)
      → IsTurn took heard seen is_at is_by is_pair is_sound stands leaves may reason failed stopped old added new
      → GivesTurns took heard seen 1 old.turns new.turns
  gives_turn _ _ _ _ _ (came from to before after book i door mode reader writer took here read pair changes) = gave took
  gives_turn _ _ _ _ _ (went_on from taken shown timed to before after old new i result took shows times slot told back) =
      both (gave took) (both (was_shown shows) (both (was_shown times) (was_told i result told)))
  gives_turn _ _ _ _ _ (had_none from to slots book i took past) = gave took
  gives_turn _ _ _ _ _ (left from to before after book i took changes) = gave took
  gives_turn _ _ _ _ _ (ended from to slots book took) = gave took

  -- after it no book is sound that was not before
  sound_turn : (failed stopped : Bool) (old : Instant r w T B) (added : List Slotted) (new : Instant r w T B)
      → IsTurn took heard seen is_at is_by is_pair is_sound stands leaves may reason failed stopped old added new
      → is_sound new.book → is_sound old.book
  sound_turn _ _ _ _ _ (went_on from taken shown timed to before after old new i result took shows times slot told back) sound = back sound
  sound_turn _ _ _ _ _ _ sound = sound

  -- as much is said of a stop
  pub turn_as : {failed stopped other : Bool} {old new : Instant r w T B} → stopped ≡ other
      → TakesTurn took heard seen is_at is_by is_pair is_sound stands leaves may reason failed stopped old new
      → TakesTurn took heard seen is_at is_by is_pair is_sound stands leaves may reason failed other old new
  turn_as {failed} {old} {new} same turn = subst (λ s. TakesTurn took heard seen is_at is_by is_pair is_sound stands leaves may reason failed s old new) same turn

  -- no turn
  pub no_turn : (at : Instant r w T B) → TakesSome took heard seen is_at is_by is_pair is_sound stands leaves may reason false false at at
  no_turn at = record { instants = []; merged = []; by_turns = none at }

  -- one turn more
  pub one_more : {failed stopped : Bool} {first old new : Instant r w T B}
      → TakesSome took heard seen is_at is_by is_pair is_sound stands leaves may reason false false first old
      → TakesTurn took heard seen is_at is_by is_pair is_sound stands leaves may reason failed stopped old new
      → TakesSome took heard seen is_at is_by is_pair is_sound stands leaves may reason failed stopped first new
  one_more {failed} {stopped} {first} {old} {new} x turn = record {
    instants = x.instants ++ old ∷ [];
    merged = x.merged ++ turn.0;
    by_turns = more failed stopped first old new x.instants x.merged turn.0 x.by_turns turn.1;
  }

  -- what turn after turn leaves
  takes_turns : (failed stopped : Bool) (first : Instant r w T B) (instants : List (Instant r w T B)) (merged : List Slotted) (last : Instant r w T B)
      → ByTurns took heard seen is_at is_by is_pair is_sound stands leaves may reason failed stopped first instants merged last
      → TakesTurns is_at is_by is_pair is_sound stands leaves may reason first.book last.book failed stopped
      first.slots last.slots merged
  takes_turns _ _ _ _ _ _ (none first) = no_turns first.slots
  takes_turns _ _ _ _ _ _ (more failed stopped first old new instants merged added earlier turn) =
      turns_then failed stopped first.slots old.slots new.slots merged added (sound_turn failed stopped old added new turn)
      (takes_turns false false first instants merged old earlier) (takes_turn failed stopped old added new turn)

  -- in time the exchanges are one list
  pub in_time : (failed stopped : Bool) (first last : Instant r w T B) → ((u : State) → stands last.book u → leaves last.book u u)
      → TakesSome took heard seen is_at is_by is_pair is_sound stands leaves may reason failed stopped first last
      → InTime took heard seen is_at is_by is_pair is_sound stands leaves may reason failed stopped first last
  in_time failed stopped first last settled x =
      let turns = takes_turns failed stopped first x.instants x.merged last x.by_turns in record {
        worlds = worlds_go_on failed stopped (map exchanges_at first.slots) (map exchanges_at last.slots) x.merged settled turns.served;
        instants = x.instants;
        by_turns = x.by_turns;
        turns = turns;
      }

  -- what was answered before a turn leads to its instant, and what is answered in it and after it leads on
  pub in_order : (failed stopped : Bool) (first : Instant r w T B) (instants : List (Instant r w T B)) (merged : List Slotted) (last : Instant r w T B)
      → ByTurns took heard seen is_at is_by is_pair is_sound stands leaves may reason failed stopped first instants merged last
      → (now : Instant r w T B) → Contains instants now
      → IsInOrder took heard seen is_at is_by is_pair is_sound stands leaves may reason failed stopped first now last merged
  in_order _ _ _ _ _ _ (none first) now (k, below, is) = absurd (elim below [ ])
  in_order _ _ _ _ _ _ (more failed stopped first old new instants merged added earlier turn) now among =
      let back = sound_turn failed stopped old added new turn in
      let follows = (takes_turn failed stopped old added new turn).served in
      elim (Contains-push_cases instants old now among) [
        | inl before ↦
            (let x = in_order false false first instants merged old earlier now before in record {
              earlier = x.earlier;
              later = x.later ++ added;
              parts = ap (λ l. l ++ added) x.parts ∙ append_assoc x.earlier x.later added;
              sound = λ sound. x.sound (back sound);
              answered = x.answered;
              follows = merges_then failed stopped _ _ _ x.later added back x.follows follows;
            })
        | inr is ↦
            subst (λ m. IsInOrder took heard seen is_at is_by is_pair is_sound stands leaves may reason failed stopped first m new (merged ++ added)) is
            (record {
              earlier = merged;
              later = added;
              parts = refl;
              sound = back;
              answered = (takes_turns false false first instants merged old earlier).served;
              follows = follows;
            })
      ]

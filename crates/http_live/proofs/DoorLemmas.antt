-- Each connection is at its door, is read in its mode, and has both ends of one peer, since it came so. For serve_many.
use Rattle.std.proofs.Common.{◌≡◌, ℕ, ◌<◌, List, [], ◌∷◌, ◌++◌, All, length, map, refl, sym, ap₂, subst, slice_index_or, slice_set}
use Rattle.std.proofs.Math.Logic.{∥∥₁_map}
use Rattle.std.proofs.lemmas.List.Elements.{All-append, All-cons, All-get_or, All-head, All-map, All-nil, All-set, All-tail, All-weaker}
use Rattle.std.specs.declared.io.traits.Read as Read
use Rattle.std.specs.declared.io.traits.Write as Write
use Rattle.desk_http.specs.declared.doors.Door.{Door}
use Rattle.http_conversations.specs.declared.modes.Mode.{Mode}
use Rattle.http_conversations.specs.History.{History, Passes}
use Rattle.http_live.specs.Arrivals.{Arrival, HasBothOfOne, IsAtItsDoor, IsReadInItsMode, arrival, arrival_of, arrivals_at}
use Rattle.http_live.specs.Calls.{Admits, AreLeft, IsEmpty}
use Rattle.http_live.specs.Slots.{connections_at}
use Rattle.http_live.specs.declared.connection.Connection.{Connection}
use Rattle.http_live.specs.declared.slots.Slot.{Slot}

-- what is true of the values is true of what they were made of
All-unmap : {X Y : Type 0} (P : X → Type 0) (f : Y → X) (ys : List Y) → All P (map f ys) → All (λ y. P (f y)) ys
All-unmap P f [] all = All-nil _
All-unmap P f (y ∷ ys) all =
    All-cons (λ z. P (f z)) y ys (All-head P (f y) (map f ys) all) (All-unmap P f ys (All-tail P (f y) (map f ys) all))

-- somebody came with two ends of which this is so
record CameAs {R W : Type 0} (is : R → W → Arrival R W → Type 0) (a : Arrival R W) : Type 0 where
  reader : R
  writer : W
  came : a.ends ≡ (reader, writer) ∷ []
  so : is reader writer a

-- by the door of the reader
abbrev AtDoor : {R W : Type 0} → (R → Door → Type 0) → Arrival R W → Type 0
AtDoor is_at = CameAs (λ reader writer a. is_at reader a.door)

-- in the mode of the reader
abbrev InMode : {R W : Type 0} → (R → Mode → Type 0) → Arrival R W → Type 0
InMode is_by = CameAs (λ reader writer a. is_by reader a.mode)

-- with the writer of the reader
abbrev OfOne : {R W : Type 0} → (R → W → Type 0) → Arrival R W → Type 0
OfOne is_pair = CameAs (λ reader writer a. is_pair reader writer)

module _ {R W : Type 0} {r : Read.Ghosts R} {w : Write.Ghosts W} where
  -- what is so of connections as they came
  module _ (Came : Arrival R W → Type 0) (Is : Connection R W r w → Type 0)
      (came : (c : Connection R W r w) → Is c → Came (arrival_of c)) (is_so : (c : Connection R W r w) → Came (arrival_of c) → Is c) where
    all_came : (s : Slot R W r w) → All Is (connections_at s) → All Came (arrivals_at s)
    all_came s all = All-map Came arrival_of (connections_at s) (All-weaker Is _ came (connections_at s) all)

    all_so : (s : Slot R W r w) → All Came (arrivals_at s) → All Is (connections_at s)
    all_so s all = All-weaker _ Is is_so (connections_at s) (All-unmap Came arrival_of (connections_at s) all)

    -- nobody came to one slot
    kept_as : (slots : List (Slot R W r w)) (i : ℕ) (d new : Slot R W r w) → i < length slots
        → arrivals_at new ≡ arrivals_at (slice_index_or slots i d)
        → All (λ slot. All Is (connections_at slot)) slots → All (λ slot. All Is (connections_at slot)) (slice_set slots i new)
    kept_as slots i d new within same all =
        let old = slice_index_or slots i d in
        All-set (λ slot. All Is (connections_at slot)) slots i new
        (all_so new (subst (All Came) (sym same) (all_came old (All-get_or (λ slot. All Is (connections_at slot)) slots i d within all)))) all

    -- somebody came to one slot
    came_as : (slots : List (Slot R W r w)) (i : ℕ) (d new : Slot R W r w) (a : Arrival R W) → i < length slots
        → arrivals_at new ≡ arrivals_at (slice_index_or slots i d) ++ a ∷ [] → Came a
        → All (λ slot. All Is (connections_at slot)) slots → All (λ slot. All Is (connections_at slot)) (slice_set slots i new)
    came_as slots i d new a within more one all =
        let old = slice_index_or slots i d in
        All-set (λ slot. All Is (connections_at slot)) slots i new
        (all_so new (subst (All Came) (sym more)
        (All-append Came (arrivals_at old) (a ∷ [])
        (all_came old (All-get_or (λ slot. All Is (connections_at slot)) slots i d within all))
        (All-cons Came a [] one (All-nil _))))) all

    -- nobody came to any slot
    left_as : (old new : List (Slot R W r w)) → map arrivals_at new ≡ map arrivals_at old
        → All (λ slot. All Is (connections_at slot)) old → All (λ slot. All Is (connections_at slot)) new
    left_as old new same all =
        All-weaker (λ slot. All Came (arrivals_at slot)) (λ slot. All Is (connections_at slot)) all_so new
        (All-unmap (All Came) arrivals_at new
        (subst (All (All Came)) (sym same)
        (All-map (All Came) arrivals_at old
        (All-weaker (λ slot. All Is (connections_at slot)) (λ slot. All Came (arrivals_at slot)) all_came old all))))

  -- of slots without any connection all is so
  pub so_of_none : (Is : Connection R W r w → Type 0) (slots : List (Slot R W r w)) → All IsEmpty slots
      → All (λ slot. All Is (connections_at slot)) slots
  so_of_none Is slots empty =
      All-weaker IsEmpty (λ slot. All Is (connections_at slot)) (λ slot none. subst (All Is) (sym none.empty) (All-nil Is)) slots empty

  -- Doors.

  module _ (is_at : R → Door → Type 0) where
    came_at : (c : Connection R W r w) → IsAtItsDoor is_at c → AtDoor is_at (arrival_of c)
    came_at c x = record { reader = x.reader; writer = x.writer; came = x.came; so = x.door }

    -- the messages of every connection came in at its door
    is_there : (c : Connection R W r w) → AtDoor is_at (arrival_of c) → IsAtItsDoor is_at c
    is_there c x = record {
      reader = x.reader;
      writer = x.writer;
      came = x.came;
      door = x.so;
      messages = ∥∥₁_map c.conversation.served (λ served. served.at_door);
    }

  -- Modes.

  module _ (is_by : R → Mode → Type 0) where
    came_by : (c : Connection R W r w) → IsReadInItsMode is_by c → InMode is_by (arrival_of c)
    came_by c x = record { reader = x.reader; writer = x.writer; came = x.came; so = x.mode }

    -- the messages of every connection were read in its mode
    is_read : (c : Connection R W r w) → InMode is_by (arrival_of c) → IsReadInItsMode is_by c
    is_read c x = record {
      reader = x.reader;
      writer = x.writer;
      came = x.came;
      mode = x.so;
      messages = ∥∥₁_map c.conversation.served (λ served. served.in_mode);
    }

  -- Pairs.

  module _ (is_pair : R → W → Type 0) where
    came_of : (c : Connection R W r w) → HasBothOfOne is_pair c → OfOne is_pair (arrival_of c)
    came_of c x = record { reader = x.reader; writer = x.writer; came = x.came; so = x.pair }

    is_of : (c : Connection R W r w) → OfOne is_pair (arrival_of c) → HasBothOfOne is_pair c
    is_of c x = record { reader = x.reader; writer = x.writer; came = x.came; pair = x.so }

  module _ {is_at : R → Door → Type 0} {is_by : R → Mode → Type 0} {is_pair : R → W → Type 0} (slots : List (Slot R W r w)) (i : ℕ) (d new : Slot R W r w) (within : i < length slots) where
    -- nobody came to one slot
    pub admits_none : arrivals_at new ≡ arrivals_at (slice_index_or slots i d) → Admits is_at is_by is_pair slots (slice_set slots i new)
    admits_none same = record {
      doors = kept_as (AtDoor is_at) (IsAtItsDoor is_at) (came_at is_at) (is_there is_at) slots i d new within same;
      modes = kept_as (InMode is_by) (IsReadInItsMode is_by) (came_by is_by) (is_read is_by) slots i d new within same;
      pairs = kept_as (OfOne is_pair) (HasBothOfOne is_pair) (came_of is_pair) (is_of is_pair) slots i d new within same;
    }

    -- a peer came to one slot
    pub admits_one : (reader : R) (writer : W) (door : Door) (mode : Mode)
        → arrivals_at new ≡ arrivals_at (slice_index_or slots i d) ++ arrival reader writer door mode ∷ []
        → is_at reader door → is_by reader mode → is_pair reader writer → Admits is_at is_by is_pair slots (slice_set slots i new)
    admits_one reader writer door mode more at by of =
        let a = arrival reader writer door mode in record {
          doors = came_as (AtDoor is_at) (IsAtItsDoor is_at) (came_at is_at) (is_there is_at) slots i d new a within more
              (record { reader = reader; writer = writer; came = refl; so = at });
          modes = came_as (InMode is_by) (IsReadInItsMode is_by) (came_by is_by) (is_read is_by) slots i d new a within more
              (record { reader = reader; writer = writer; came = refl; so = by });
          pairs = came_as (OfOne is_pair) (HasBothOfOne is_pair) (came_of is_pair) (is_of is_pair) slots i d new a within more
              (record { reader = reader; writer = writer; came = refl; so = of });
        }

  -- nobody came to any slot
  pub admits_left : {is_at : R → Door → Type 0} {is_by : R → Mode → Type 0} {is_pair : R → W → Type 0} (old new : List (Slot R W r w))
      → AreLeft old new → Admits is_at is_by is_pair old new
  admits_left {is_at} {is_by} {is_pair} old new left = record {
    doors = left_as (AtDoor is_at) (IsAtItsDoor is_at) (came_at is_at) (is_there is_at) old new left.arrivals;
    modes = left_as (InMode is_by) (IsReadInItsMode is_by) (came_by is_by) (is_read is_by) old new left.arrivals;
    pairs = left_as (OfOne is_pair) (HasBothOfOne is_pair) (came_of is_pair) (is_of is_pair) old new left.arrivals;
  }

  -- who came before, and who came then
  pub admits_then : {is_at : R → Door → Type 0} {is_by : R → Mode → Type 0} {is_pair : R → W → Type 0}
      (before between after : List (Slot R W r w)) → Admits is_at is_by is_pair before between
      → Admits is_at is_by is_pair between after → Admits is_at is_by is_pair before after
  admits_then before between after x y = record {
    doors = λ doors. y.doors (x.doors doors);
    modes = λ modes. y.modes (x.modes modes);
    pairs = λ pairs. y.pairs (x.pairs pairs);
  }

abbrev with_ends : {R W : Type 0} → List (R × W) → Door → Mode → Arrival R W
with_ends ends door mode = record { ends = ends; door = door; mode = mode }

-- with the same ends, by the same door and mode
pub same_arrival : {R W : Type 0} (ends : List (R × W)) (h k : History) → Passes h k
    → with_ends ends k.door k.mode ≡ with_ends ends h.door h.mode
same_arrival ends h k x = ap₂ (λ d w. with_ends ends d w) x.door x.mode

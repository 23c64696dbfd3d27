-- What the definitions of a book's calls say of a new desk: of the load of a flight, and of a run that loads the flight
-- and begins a journey. A definition with one more premise, which a new desk does not meet, is refused here.
use Rattle.std.specs.Prelude.{◌≡◌, ◌<◌, ℕ, List, [], ◌∷◌, Option, Some, None, Ok, Err, refl}
use Rattle.allotment.specs.declared.codes.Kind.TheVariants.{Flight}
use Rattle.commands.specs.Request.{Request}
use Rattle.commands.specs.declared.replies.Fault.{Fault}
use Rattle.commands.specs.declared.replies.Fault.TheVariants.{Memory, Store}
use Rattle.commands.specs.declared.replies.Reply.{Reply}
use Rattle.commands.specs.declared.replies.Reply.TheVariants.{Loaded, Begun}
use Rattle.ledger.specs.Answer.{State, start, outcome}
use Rattle.ledger.specs.Examples.{load, row}
use Rattle.saga_core.specs.Books.{Replies, MovesOn, KeepsAtMemory, Keeps, LeavesNoMore, LeavesAtStore, Shows}
use Rattle.saga_core.specs.ChainExamples.{begun}
use Rattle.saga_core.specs.Reasons.{ActsOn, ActsOnAfter, FailsAmong, HasReasonAmong, ReadsOn}
use Rattle.saga_core.specs.RowSources.{Hands, StaysReady}
use Rattle.saga_core.specs.Runs.{Asks, AreReplies, MovesOnBy, Stops, StopsAmong, state_after}
use Rattle.saga_core.specs.Worlds.{EndsWith, GoesOnWith, GoesOnAmong, RunEndsAmong}

-- the book represents a new desk
abbrev pub is_new : State → Type 0
is_new s = s ≡ start

-- the load of a flight
abbrev pub flight : Request
flight = load 97 (row Flight 1 10 ∷ [])

-- Calls.

pub load_is_answered : (reply : Reply) → Replies is_new None flight (Ok reply) → reply ≡ Loaded (97 ∷ []) 1
load_is_answered reply replies = replies start refl

pub load_moves_on :
    (stands : State → Type 0) (reply : Reply) → MovesOn is_new stands None flight (Ok reply)
    → stands (outcome start None flight).state
load_moves_on stands reply moves = moves start refl

pub load_out_of_memory_changes_nothing :
    (stands : State → Type 0) → KeepsAtMemory {T = Reply} is_new stands (Err Memory) → stands start
load_out_of_memory_changes_nothing stands keeps = keeps start refl

pub load_at_a_failed_store_may_be_left :
    (leaves : State → State → Type 0) → LeavesAtStore is_new leaves None flight (Err Store)
    → leaves start (outcome start None flight).state
load_at_a_failed_store_may_be_left leaves at_store = at_store start refl

pub read_changes_nothing : (stands : State → Type 0) → Keeps {T = ℕ} is_new stands (Err Memory) → stands start
read_changes_nothing stands keeps = keeps start refl

pub read_shows_the_new_desk :
    (IsShown : State → ℕ → Type 0) → Shows is_new IsShown (Ok 7) → IsShown start 7
read_shows_the_new_desk IsShown shows = shows start refl

pub crash_leaves_no_more :
    (leaves : State → State → Type 0) → LeavesNoMore (λ s t. s ≡ t) leaves → leaves start start
crash_leaves_no_more leaves no_more = no_more start start refl

pub first_row_is_yielded :
    (rests : List ℕ → Type 0) (found : Option ℕ) → Hands (λ rows. rows ≡ 7 ∷ []) rests found → found ≡ Some 7
first_row_is_yielded rests found hands = (hands (7 ∷ []) refl).0

-- Reasons.

-- a book that may act for the load of a flight, on a new desk, may then act for no more asks
pub load_leaves_a_book_that_may_act :
    (could can : State → Asks → Type 0) (reason : State → State → Type 0) (reply : Reply)
    → ActsOn could can reason None flight (Ok reply) → could start ((flight, None) ∷ []) → can (outcome start None flight).state []
load_leaves_a_book_that_may_act could can reason reply acts may = acts start [] may

pub load_out_of_memory_leaves_a_book_that_may_act :
    (could can : State → Asks → Type 0) (reason : State → State → Type 0)
    → ActsOn {T = Reply} could can reason None flight (Err Memory) → could start ((flight, None) ∷ []) → can start []
load_out_of_memory_leaves_a_book_that_may_act could can reason acts may = acts start [] may

pub load_fails_for_a_reason :
    (could can : State → Asks → Type 0) (reason : State → State → Type 0)
    → ActsOn {T = Reply} could can reason None flight (Err Store) → could start ((flight, None) ∷ [])
    → reason start (outcome start None flight).state
load_fails_for_a_reason could can reason acts may = acts start [] may

pub read_leaves_a_book_that_may_act :
    (could can : State → Asks → Type 0) (reason : State → State → Type 0)
    → ReadsOn {T = ℕ} could can reason (Ok 7) → could start begun → can start begun
read_leaves_a_book_that_may_act could can reason reads may = reads start begun may

pub read_fails_for_a_reason :
    (could can : State → Asks → Type 0) (reason : State → State → Type 0)
    → ReadsOn {T = ℕ} could can reason (Err Store) → could start begun → reason start start
read_fails_for_a_reason could can reason reads may = reads start begun may

pub run_leaves_a_book_that_may_act :
    (could can : State → Asks → Type 0) → ActsOnAfter could can begun → could start begun → can (state_after start begun) []
run_leaves_a_book_that_may_act could can acts may = acts start [] may

pub run_fails_for_a_reason :
    (could : State → Asks → Type 0) (reason : State → State → Type 0) → FailsAmong could reason begun → could start begun
    → HasReasonAmong reason start begun
run_fails_for_a_reason could reason fails may = fails start [] may

-- the reason is one of a single ask
pub reason_is_that_of_one_ask : (reason : State → State → Type 0) (among : HasReasonAmong reason start begun) → among.count < 2
reason_is_that_of_one_ask reason among = among.within

-- Runs.

pub run_is_answered :
    (replies : List Reply) → AreReplies is_new begun replies → replies ≡ Loaded (97 ∷ []) 1 ∷ Begun 1 ∷ []
run_is_answered replies are = are start refl

pub run_moves_on : (stands : State → Type 0) → MovesOnBy is_new stands begun → stands (state_after start begun)
run_moves_on stands moves = moves start refl

pub run_stops_among_its_asks :
    (stands : State → Type 0) (leaves : State → State → Type 0) (replies : List Reply) (fault : Fault)
    → Stops is_new stands leaves begun replies fault → StopsAmong stands leaves start begun replies fault
run_stops_among_its_asks stands leaves replies fault stops = stops start refl

-- the execution in which nothing was done goes on with the run
pub run_goes_on :
    (stands : State → Type 0) (leaves : State → State → Type 0) → GoesOnWith is_new stands leaves begun
    → EndsWith stands leaves [] begun
run_goes_on stands leaves goes = goes [] (record { world = tt; whole = refl; stands_there = refl })

pub run_goes_on_with_a_prefix :
    (stands : State → Type 0) (leaves : State → State → Type 0) (replies : List Reply) (fault : Fault)
    → GoesOnAmong is_new stands leaves begun replies fault → RunEndsAmong stands leaves [] begun replies fault
run_goes_on_with_a_prefix stands leaves replies fault goes =
    goes [] (record { world = tt; whole = refl; stands_there = refl })

-- Rows, one at a time.

pub row_leaves_the_later_ones_ready : (ready : Type 0) → StaysReady {T = ℕ} ready ⊥ (Ok 7) → ready
row_leaves_the_later_ones_ready ready stays = stays

pub row_fails_by_its_reason : (reason : Type 0) → StaysReady {T = ℕ} ⊥ reason (Err Store) → reason
row_fails_by_its_reason reason stays = stays

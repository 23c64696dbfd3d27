-- What a book in memory represents, part by part.
use Rattle.std.specs.Prelude.{◌≡◌, ℕ, suc, ◌<◌, List, [], ◌∷◌, ◌++◌, vec_len, vec_capacity, length, map, filter_map, slice_get, Option, Some, None, MatchOption, Result, MatchResult, IfOk, IsTrue}
use Rattle.std.specs.declared.alloc.AllocError.{AllocError}
use Rattle.allotment.specs.declared.cells.Cell.{Cell}
use Rattle.commands.specs.BatchData.{Batched}
use Rattle.commands.specs.declared.items.Item.{Item}
use Rattle.commands.specs.Asks.{Asked}
use Rattle.commands.specs.Request.{Request}
use Rattle.commands.specs.declared.replies.Refusal.{Refusal}
use Rattle.commands.specs.declared.replies.Reply.{Reply}
use Rattle.ledger.specs.Answer.{State, Outcome, answer, asker, carried_out}
use Rattle.ledger.specs.Replies.{Answer, refused, sees, seen_journey}
use Rattle.ledger.specs.AnswerChanges.{moves}
use Rattle.ledger.specs.History.{net}
use Rattle.ledger.specs.JourneyChanges.{cursor_after}
use Rattle.ledger.specs.Ledger as l
use Rattle.ledger.specs.Ledger.{Event, Loaded, IsLegal, history, journey_at, journeys}
use Rattle.saga_core.specs.Views.{cursor_of, marks_of, places_of}
use Rattle.plan.specs.Marks.{is_taken_in}
use Rattle.saga_core.specs.declared.records.Brief.{Brief}
use Rattle.saga_core.specs.declared.records.Record.{Record}
use Rattle.memory_book.specs.MemoryStock.{stock_at}
use Rattle.memory_book.specs.MemoryAnswers.{kept_in, AreKeptAlike}
use Rattle.memory_book.specs.MemoryJourneys.{IsNext, stands_after, taken_after}
use Rattle.memory_book.specs.declared.journeys.Journey.{Journey}
use Rattle.memory_book.specs.declared.mem_book.MemBook.{MemBook}

-- a journey as it was begun
abbrev pub begun_as : Journey → l.Journey
begun_as k = record { agent = k.agent; plan = k.plan }

-- the summary of a journey
abbrev pub brief_kept : Journey → Brief
brief_kept k = record { id = k.id; agent = k.agent; cursor = k.cursor }

-- the journey, as a book shows it
abbrev pub record_kept : Journey → Record
record_kept k = record { agent = k.agent; plan = k.plan; cursor = k.cursor; marks = k.marks }

-- what is kept of the journey with this number is its history, and the state that follows from it
pub record Tells (k : Journey) (j : ℕ) (h : List Item) : Type 0 where
  pub number : k.id ≡ j
  pub items : k.items.items ≡ h
  pub cursor : k.cursor ≡ cursor_of k.plan h
  pub marks : k.marks ≡ marks_of h
  pub taken : k.taken.items ≡ map (λ (t : ℕ × ℕ). t.1) (net h)

-- there is capacity for one more item
pub record HasRoom (k : Journey) : Type 0 where
  pub items : vec_len k.items < vec_capacity k.items
  pub taken : vec_len k.taken < vec_capacity k.taken

-- the two journeys are the same, except for their capacity
pub record IsSameJourney (old new : Journey) : Type 0 where
  pub number : new.id ≡ old.id
  pub begun : begun_as new ≡ begun_as old
  pub items : new.items.items ≡ old.items.items
  pub cursor : new.cursor ≡ old.cursor
  pub marks : new.marks ≡ old.marks
  pub taken : new.taken.items ≡ old.taken.items

-- one more item was made in a journey
pub record MakesOne (old new : Journey) (x : Item) : Type 0 where
  pub number : new.id ≡ old.id
  pub begun : begun_as new ≡ begun_as old
  pub items : new.items.items ≡ old.items.items ++ x ∷ []
  pub cursor : new.cursor ≡ cursor_after old.plan old.cursor x
  pub taken : new.taken.items ≡ taken_after x old.taken.items
  pub marks : (q : ℕ)
      → is_taken_in new.marks q ≡ stands_after x new.cursor.pos (is_taken_in old.marks) q

-- the batch that this event loaded, if any
abbrev pub batch_of : Event → Option Batched
batch_of (Loaded name rows) = Some (record { name = name; rows = rows })
batch_of _ = None

-- the batches that were loaded, in order
abbrev pub loads : List Event → List Batched
loads l = filter_map batch_of l

-- each journey is kept with the history of its number
abbrev pub TellEach : List Journey → List Event → Type 0
TellEach kept l =
    (i : ℕ) (k : Journey) → slice_get kept i ≡ Some k → Tells k (suc i) (history l (suc i))

-- the book represents a state, whose ledger is legal
pub record StandsFor (m : MemBook) (s : State) : Type 0 where
  pub begun : map begun_as m.journeys.items ≡ journeys s.ledger
  pub told : TellEach m.journeys.items s.ledger
  pub stock : (x : Cell) → stock_at m.stock x ≡ places_of s.ledger x
  pub batches : m.batches.items ≡ loads s.ledger
  pub kept : AreKeptAlike (kept_in m.answers) s.kept
  pub events : m.events ≡ length s.ledger
  pub legal : IsLegal s.ledger

-- Answers.

-- the reply is that of the outcome, and the book represents the state after it
pub record Gives (m : MemBook) (o : Outcome) (r : Reply) : Type 0 where
  pub replied : r ≡ o.reply
  pub stands : StandsFor m o.state

-- the outcome has come, or out of memory the book represents the state as before
abbrev pub Comes : MemBook → State → Outcome → Result Reply AllocError → Type 0
Comes m s o result = MatchResult result (Gives m o) (λ _. StandsFor m s)

-- the same of the outcome by an answer
abbrev pub IsCarriedOut : MemBook → State → Option Asked → Answer → Reply → Type 0
IsCarriedOut m s ask a = Gives m (carried_out s ask a)

abbrev pub Carried : MemBook → State → Option Asked → Answer → Result Reply AllocError → Type 0
Carried m s ask a = Comes m s (carried_out s ask a)

-- a request whose key is not known is answered, whatever state the book represented
abbrev pub CarriesOut : MemBook → MemBook → Option Asked → Request → Result Reply AllocError → Type 0
CarriesOut old new ask asked result =
    (s : State) → StandsFor old s → Carried new s ask (answer s.ledger (asker ask) asked) result

-- the journey is the one with this number
pub record IsKept (l : List Event) (j : ℕ) (k : Journey) : Type 0 where
  pub at : journey_at l j ≡ Some (begun_as k)
  pub told : Tells k j (history l j)

-- the journey with this number was found, if there is one
abbrev pub Finds : MemBook → ℕ → Option Journey → Type 0
Finds m j found = (s : State) → StandsFor m s → MatchOption found (journey_at s.ledger j ≡ None) (IsKept s.ledger j)

-- a journey is at this place, and the asker sees it
pub record IsSeenAt (m : MemBook) (who : Option (List ℕ)) (id place : ℕ) : Type 0 where
  pub within : place < length m.journeys.items
  pub number : id ≡ suc place
  pub seen : (k : Journey) → slice_get m.journeys.items place ≡ Some k
      → IsTrue (sees who (begun_as k))

-- the asker sees no journey with this number
abbrev pub IsSeenNowhere : MemBook → Option (List ℕ) → ℕ → Type 0
IsSeenNowhere m who id = (s : State) → StandsFor m s → seen_journey s.ledger who id ≡ None

-- the rules answer with the result of this move of the journey at this place: its item, or a refusal
abbrev pub IsMove : MemBook → ℕ → Answer → Result Item Refusal → Type 0
IsMove m place answered next =
    (k : Journey) → slice_get m.journeys.items place ≡ Some k
    → MatchResult next (λ x. answered ≡ moves (suc place) k.plan k.cursor x)
    (λ why. answered ≡ refused why)

-- if the move results in an item, the item is next for the journey at this place
abbrev pub MayBeMade : MemBook → ℕ → Result Item Refusal → Type 0
MayBeMade m place next =
    (k : Journey) → slice_get m.journeys.items place ≡ Some k → IfOk next (IsNext k.plan k.cursor)

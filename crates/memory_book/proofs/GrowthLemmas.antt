-- How one more event changes the parts that a book in memory keeps. For each command.
use Rattle.std.proofs.Common.{◌≡◌, ℕ, ◌+◌, ◌-◌, ◌<◌, ◌≤◌, Bool, true, false, List, [], ◌∷◌, ◌++◌, length, map, ap, sym, ◌∙◌, subst, inl, inr, ◌&&◌, ◌↔◌, if◌then◌else◌, suc, slice_set, Option, Some, is_some, option_map, Result, Ok, Err, IsTrue, arith}
use Rattle.std.specs.Prelude.{IsErr, MatchResult}
use Rattle.std.specs.List.{cons_option}
use Rattle.std.proofs.lemmas.Bool.{lt-leb, le-leb, and_right, cases_lt}
use Rattle.std.proofs.lemmas.List.Elements.{filter_map-append}
use Rattle.allotment.specs.declared.cells.Cell.{Cell}
use Rattle.commands.specs.Asks.{Asked}
use Rattle.commands.specs.declared.replies.Refusal.{Refusal}
use Rattle.commands.specs.declared.replies.Refusal.TheVariants.{Limit}
use Rattle.commands.specs.declared.replies.Reply.{Reply}
use Rattle.ledger.specs.Answer.{State, Kept, Answer, kept_after, limited, most_events, state_with}
use Rattle.ledger.specs.Replies.{refused}
use Rattle.ledger.specs.Ledger.{Event, allotment, held, history, journeys, is_allowed}
use Rattle.ledger.proofs.Growing.{IsLegal-append}
use Rattle.ledger.proofs.Events.{length-more}
use Rattle.saga_core.specs.Views.{Places, places_of}
use Rattle.memory_book.specs.Memory.{begun_as, batch_of, Tells, TellEach, StandsFor, IsCarriedOut}
use Rattle.memory_book.specs.MemoryAnswers.{kept_in, AreKeptAlike}
use Rattle.memory_book.specs.MemoryStock.{stock_at}
use Rattle.memory_book.specs.declared.journeys.Journey.{Journey}
use Rattle.memory_book.specs.declared.mem_book.MemBook.{MemBook}
use Rattle.memory_book.proofs.PlaceLemmas.{place_of-set}

-- Places.

-- the places of a cell with so many allotted and so many held
abbrev pub places_left : ℕ → ℕ → Places
places_left held_now n = record { allot = n; free = n - held_now }

-- a ledger has the places of a cell that what it holds and what it allots of the cell make
pub places_of-parts : (l : List Event) (x : Cell) (h : ℕ) (a : Option ℕ)
    → held l x ≡ h → allotment l x ≡ a → option_map (places_left h) a ≡ places_of l x
places_of-parts l x h a holds allots = λ i. option_map (places_left (sym holds i)) (sym allots i)

-- Answers.

-- where the ledger has room, the limit does not change the answer
pub limited-room : (l : List Event) (a : Answer) → length l < most_events → limited l a ≡ a
limited-room l a room = grind (arith, and_right, lt-leb)

-- where the ledger has no room, an answer with an event becomes a refusal
pub limited-full : (l : List Event) (a : Answer) → is_some a.event ≡ true → most_events ≤ length l
    → limited l a ≡ refused Limit
limited-full l a due full =
    λ i. if due i && le-leb most_events (length l) full i then refused Limit else a

-- a refusal leaves the book as it was
pub carried_out-refused : (m : MemBook) (s : State) (ask : Option Asked) (a : Answer) (why : Refusal)
    → StandsFor m s → a ≡ refused why → (r : Reply) → r ≡ (refused why).reply
    → IsCarriedOut m s ask a r
carried_out-refused m s ask a why here is r replied = grind arith

-- a ledger that is not full has room
pub room_left : (full : Bool) (most events : ℕ) → IsTrue full ↔ (most ≤ events) → full ≡ false
    → events < most
room_left full most events tells not_full = grind (arith, cases_lt)

-- The book.

-- after one journey was replaced, a ledger tells each journey if it tells the new one, and the
-- others as before
pub TellEach-set : (ks : List Journey) (place : ℕ) (new : Journey) (l after : List Event)
    → TellEach ks l → Tells new (suc place) (history after (suc place))
    → ((i : ℕ) → (i ≡ place → ⊥) → history after (suc i) ≡ history l (suc i))
    → TellEach (slice_set ks place new) after
TellEach-set ks place new l after each own others i k at = elim (place_of-set ks place new i k at) [
  | inl is ↦ subst (λ (j : ℕ). Tells k (suc j) (history after (suc j))) (sym is.0)
      (subst (λ (j : Journey). Tells j (suc place) (history after (suc place))) (sym is.1) own)
  | inr other ↦ subst (Tells k (suc i)) (sym (others i other.0)) (each i k other.1)
]

-- the batches, the kept replies and the count of the book grew by this event, whose reply is kept
pub record Grows (m n : MemBook) (ask : Option Asked) (r : Reply) (e : Event) : Type 0 where
  pub batches : n.batches.items ≡ m.batches.items ++ cons_option (batch_of e) []
  pub kept : AreKeptAlike (kept_in n.answers) (kept_after (kept_in m.answers) ask r)
  pub events : n.events ≡ m.events + 1

-- the book then represents the ledger with that event, if it has its journeys and its places
pub stands-grown : (m n : MemBook) (s : State) (ask : Option Asked) (r : Reply) (e : Event)
    → StandsFor m s → IsTrue (is_allowed s.ledger e) → Grows m n ask r e
    → map begun_as n.journeys.items ≡ journeys (s.ledger ++ e ∷ [])
    → TellEach n.journeys.items (s.ledger ++ e ∷ [])
    → ((x : Cell) → stock_at n.stock x ≡ places_of (s.ledger ++ e ∷ []) x)
    → StandsFor n (state_with s ask r (Some e))
stands-grown m n s ask r e here may g begun told stock = record {
  begun = begun;
  told = told;
  stock = stock;
  batches =
      g.batches ∙ ap (λ bs. bs ++ cons_option (batch_of e) []) here.batches
      ∙ sym (filter_map-append batch_of s.ledger (e ∷ []));
  kept = λ agent key.
      g.kept agent key ∙ ap (λ (k : Kept). kept_after k ask r agent key) (λ i a b. here.kept a b i);
  events = g.events ∙ ap (λ i. i + 1) here.events ∙ sym (length-more s.ledger e);
  legal = IsLegal-append s.ledger e here.legal may;
}

-- of a result that is an error, what is said of an error is enough
pub at_error : {T E : Type 0} (Given : T → Type 0) (Left : Type 0) (result : Result T E) → IsErr result → Left
    → MatchResult result Given (λ _. Left)
at_error Given Left (Ok x) is left = cc
at_error Given Left (Err e) is left = left

-- the book represents the same state, if its journeys are told as they were and no other part changed
pub keeps_book : (m n : MemBook) (s : State) → StandsFor m s → map begun_as n.journeys.items ≡ map begun_as m.journeys.items
    → TellEach n.journeys.items s.ledger → n.stock ≡ m.stock → n.batches.items ≡ m.batches.items
    → AreKeptAlike (kept_in n.answers) (kept_in m.answers) → n.events ≡ m.events → StandsFor n s
keeps_book m n s here begun told stock batches kept events = record {
  begun = begun ∙ here.begun;
  told = told;
  stock = λ x. ap (λ st. stock_at st x) stock ∙ here.stock x;
  batches = batches ∙ here.batches;
  kept = λ agent key. kept agent key ∙ here.kept agent key;
  events = events ∙ here.events;
  legal = here.legal;
}

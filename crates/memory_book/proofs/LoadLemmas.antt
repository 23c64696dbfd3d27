-- How a load changes a book in memory. For `MemBook::load`.
use Rattle.std.proofs.Common.{◌≡◌, ℕ, suc, ◌-◌, ◌<◌, Bool, true, false, cond, List, [], ◌∷◌, ◌++◌, length, map, refl, ap, sym, ◌∙◌, subst, arith, not, bytes_eq, nat_le, nat_lt, if◌then◌else◌, slice_get, find, filter_map, position, Option, Some, None, option_map}
use Rattle.std.specs.Prelude.{unwrap_or}
use Rattle.std.specs.List.{cons_option}
use Rattle.std.specs.Cmp.Lexicographic.{nat_list_eq_equiv}
use Rattle.std.proofs.lemmas.Option.{same_Some}
use Rattle.std.proofs.lemmas.Bool.Decides.{nat_tests}
use Rattle.allotment.specs.declared.cells.Cell.{Cell}
use Rattle.allotment.specs.declared.cells.Row.{Row}
use Rattle.commands.specs.Asks.{Asked}
use Rattle.commands.specs.BatchData.{Batched}
use Rattle.commands.specs.declared.replies.Reply.{Reply}
use Rattle.commands.specs.Request as request
use Rattle.ledger.specs.Answer.{State, answer, asker, limited, most_events, state_with}
use Rattle.ledger.specs.Replies.{Answer, answer_known, answer_load, answer_new, loaded}
use Rattle.ledger.proofs.Answers.{IsAllowedEvent, answer-allowed}
use Rattle.ledger.specs.Ledger.{Event, Loaded, Began, Did, batches_named, allotment, held, is_not_below_held, is_batch, IsLegal}
use Rattle.ledger.proofs.Allotments.{allotment-loaded_last}
use Rattle.ledger.proofs.Events.{journeys-loaded, history-loaded}
use Rattle.ledger.proofs.PlacesMoved.{held-loaded, held_within, held_none}
use Rattle.saga_core.specs.Views.{Places, places_of}
use Rattle.memory_book.specs.MemoryStock.{stock_at, is_below_in, set_to, LoadsRows, last_row}
use Rattle.memory_book.specs.Memory.{begun_as, Tells, loads, StandsFor, IsCarriedOut}
use Rattle.memory_book.specs.declared.stock.Stock.{Stock}
use Rattle.memory_book.specs.declared.mem_book.MemBook.{MemBook}
use Rattle.memory_book.proofs.GrowthLemmas.{Grows, places_left, places_of-parts, limited-room, stands-grown}
use Rattle.ledger.specs.JourneyChanges.{newer}

-- Known batches.

-- the rows of this batch, if it has this name
abbrev pub rows_of_named : List ℕ → Batched → Option (List Row)
rows_of_named name b = if bytes_eq name b.name then Some b.rows else None

-- the batches of a name in the ledger are those of its loads
batches_named-loads : (l : List Event) (name : List ℕ)
    → batches_named l name ≡ filter_map (rows_of_named name) (loads l)
batches_named-loads [] name = refl
batches_named-loads (Loaded other rows ∷ l) name = grind (arith, batches_named-loads l name)
batches_named-loads (Began agent plan ∷ l) name = batches_named-loads l name
batches_named-loads (Did j x ∷ l) name = batches_named-loads l name

-- the batch has this name
abbrev pub has_name : List ℕ → Batched → Bool
has_name name b = bytes_eq b.name name

-- where a batch of this name is found first, its rows are the first of that name
named-first : (name : List ℕ) (bs : List Batched)
    → option_map (λ (b : Batched). b.rows) (find (has_name name) bs)
    ≡ slice_get (filter_map (rows_of_named name) bs) 0
named-first name [] = refl
named-first name (b ∷ bs) =
    go (bytes_eq b.name name) (named-first name bs)
    ∙ ap (λ v. slice_get (cons_option (if v then Some b.rows else None)
    (filter_map (rows_of_named name) bs)) 0) (nat_list_eq_equiv.symm b.name name)
  where
    go : (v : Bool)
        → option_map (λ (x : Batched). x.rows) (find (has_name name) bs)
        ≡ slice_get (filter_map (rows_of_named name) bs) 0
        → option_map (λ (x : Batched). x.rows) (cond v (Some b) (find (has_name name) bs))
        ≡ slice_get (cons_option (if v then Some b.rows else None)
        (filter_map (rows_of_named name) bs)) 0
    go v later = grind arith

-- so the book finds the first rows of that name in the ledger
pub named-kept : (m : MemBook) (s : State) → StandsFor m s → (name : List ℕ) (o : Option Batched)
    → o ≡ find (has_name name) m.batches.items
    → slice_get (batches_named s.ledger name) 0 ≡ option_map (λ (b : Batched). b.rows) o
named-kept m s here name o is = grind (arith, batches_named-loads, named-first)

-- a list without a first element is empty
pub none_first : (bs : List (List Row)) → slice_get bs 0 ≡ None → bs ≡ []
none_first [] none = refl
none_first (b ∷ bs) none = cc

-- Rows below what is held.

-- a row is below what is held by the stock exactly if it is below what is held by the ledger
below_by : (s : List Event) (stock : Stock) → IsLegal s
    → ((x : Cell) → stock_at stock x ≡ places_of s x) → (r : Row)
    → is_below_in stock r ≡ not (is_not_below_held s r)
below_by s stock legal here r =
    ap (λ (o : Option Places).
    unwrap_or (option_map (λ (p : Places). nat_lt r.places (p.allot - p.free)) o) false)
    (here r.cell)
    ∙ go (allotment s r.cell) refl
  where
    go : (o : Option ℕ) → allotment s r.cell ≡ o
        → unwrap_or (option_map (λ (p : Places). nat_lt r.places (p.allot - p.free))
        (option_map (places_left (held s r.cell)) o)) false
        ≡ not (nat_le (held s r.cell) r.places)
    go None e = let none = held_none s r.cell legal e in grind (arith, nat_tests)
    go (Some n) e = let within = held_within s r.cell n legal e in grind (arith, nat_tests)

-- so the first such row is the same in both
pub first_below-held : (m : MemBook) (s : State) → StandsFor m s → (rows : List Row)
    → position (is_below_in m.stock) rows ≡ position (λ r. not (is_not_below_held s.ledger r)) rows
first_below-held m s here rows =
    ap (λ test. position test rows)
    (λ i r. below_by s.ledger m.stock here.legal here.stock r i)

-- Places.

-- a row sets its cell to its places, less those that are held
set_left : (s : List Event) (stock : Stock) (x : Cell) (n : ℕ) → IsLegal s
    → stock_at stock x ≡ places_of s x → set_to stock x n ≡ places_left (held s x) n
set_left s stock x n legal here = grind (arith, held_none, held_within)

-- a stock with the places of a ledger has them after a load too, when the rows are loaded
pub stock-loaded : (s : List Event) (name : List ℕ) (rows : List Row) → IsLegal s
    → (old new : Stock) → ((x : Cell) → stock_at old x ≡ places_of s x) → LoadsRows old new rows
    → (x : Cell) → stock_at new x ≡ places_of (s ++ Loaded name rows ∷ []) x
stock-loaded s name rows legal old new here changed x =
    changed x ∙ go (last_row rows x)
    ∙ places_of-parts (s ++ Loaded name rows ∷ []) x _ _ (held-loaded s name rows x)
    (allotment-loaded_last s name rows x)
  where
    go : (o : Option Row)
        → unwrap_or (option_map (λ (r : Row). Some (set_to old x r.places)) o) (stock_at old x)
        ≡ option_map (places_left (held s x))
        (newer (option_map (λ (r : Row). r.places) o) (allotment s x))
    go None = here x
    go (Some r) = ap (λ p. Some p) (set_left s old x r.places legal (here x))

-- Answers.

-- a batch is answered by the first rows of its name
load-known : (l : List Event) (name : List ℕ) (rows known : List Row) (bs : List (List Row))
    → slice_get bs 0 ≡ Some known → answer_load l name rows bs ≡ answer_known name rows known
load-known l name rows known [] is = cc
load-known l name rows known (b ∷ bs) is = ap (answer_known name rows) (same_Some b known is)

-- the answer to a batch whose name is known
pub carried_out-known : (m : MemBook) (s : State) (ask : Option Asked) (name : List ℕ)
    (rows known : List Row) (r : Reply) → StandsFor m s
    → slice_get (batches_named s.ledger name) 0 ≡ Some known
    → r ≡ (answer_known name rows known).reply
    → IsCarriedOut m s ask (answer s.ledger (asker ask) (request.Load name rows)) r
carried_out-known m s ask name rows known r here is replied = grind (arith, load-known)

-- the answer to a batch with a new name, by the first row that the stock has below what is held
pub answer-new : (m : MemBook) (s : State) (who : Option (List ℕ)) (name : List ℕ)
    (rows : List Row) (o : Option ℕ) → StandsFor m s → batches_named s.ledger name ≡ []
    → o ≡ position (is_below_in m.stock) rows
    → answer s.ledger who (request.Load name rows) ≡ limited s.ledger (answer_new name rows o)
answer-new m s who name rows o here none first =
    ap (λ bs. limited s.ledger (answer_load s.ledger name rows bs)) none
    ∙ ap (λ p. limited s.ledger (answer_new name rows p))
    (sym (first ∙ first_below-held m s here rows))

-- the batch was loaded in the book, and this reply is kept
pub record LoadsIn (m n : MemBook) (ask : Option Asked) (b : Batched) (r : Reply) : Type 0 where
  pub replied : r ≡ loaded b.name b.rows
  pub journeys : n.journeys.items ≡ m.journeys.items
  pub stock : LoadsRows m.stock n.stock b.rows
  pub parts : Grows m n ask r (Loaded b.name b.rows)

-- the load is answered where the ledger has room
pub carried_out-loaded : (m n : MemBook) (s : State) (ask : Option Asked) (b : Batched) (r : Reply)
    → StandsFor m s → m.events < most_events → is_batch b.name b.rows ≡ true
    → answer s.ledger (asker ask) (request.Load b.name b.rows)
    ≡ limited s.ledger (answer_new b.name b.rows None)
    → LoadsIn m n ask b r → IsCarriedOut n s ask (answer s.ledger (asker ask) (request.Load b.name b.rows)) r
carried_out-loaded m n s ask b r here room good due k =
    let event = Loaded b.name b.rows in
    let small : length s.ledger < most_events = omega (arith, here.events) in
    let told = due ∙ limited-room s.ledger (answer_new b.name b.rows None) small in
    let may = subst (λ (a : Answer). IsAllowedEvent s.ledger a.event) told
    (answer-allowed s.ledger (asker ask) (request.Load b.name b.rows) good) in
    subst (λ (a : Answer). IsCarriedOut n s ask a r) (sym told)
    (record {
      replied = k.replied;
      stands = subst (λ q. StandsFor n (state_with s ask q (Some event))) k.replied
          (stands-grown m n s ask r event here may k.parts
          (ap (map begun_as) k.journeys ∙ here.begun ∙ sym (journeys-loaded s.ledger b.name b.rows))
          (λ i j at. subst (Tells j (suc i)) (sym (history-loaded s.ledger b.name b.rows (suc i)))
          (here.told i j (ap (λ js. slice_get js i) (sym k.journeys) ∙ at)))
          (stock-loaded s.ledger b.name b.rows here.legal m.stock n.stock here.stock k.stock));
    })

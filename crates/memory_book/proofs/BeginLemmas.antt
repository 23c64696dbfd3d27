-- How a begin changes a book in memory. For `MemBook::begin`.
use Rattle.std.proofs.Common.{◌≡◌, ℕ, suc, ◌+◌, ◌<◌, inl, inr, List, [], ◌∷◌, ◌++◌, length, map, ap, sym, ◌∙◌, subst, arith, slice_get, Option, Some, IsTrue}
use Rattle.std.specs.Prelude.{unwrap_or}
use Rattle.std.proofs.lemmas.List.{length-map, map-append}
use Rattle.allotment.specs.declared.cells.Cell.{Cell}
use Rattle.plan.specs.PlanModel.{Planned, is_plan}
use Rattle.commands.specs.Asks.{Asked}
use Rattle.commands.specs.Names.{house}
use Rattle.commands.specs.Request as request
use Rattle.commands.specs.declared.replies.Reply.TheVariants as reply
use Rattle.ledger.specs.Answer.{State, Answer, answer, asker, most_events, state_with}
use Rattle.ledger.specs.Replies.{answer_begin}
use Rattle.ledger.specs.Ledger.{Began, journeys}
use Rattle.ledger.proofs.Allotments.{allotment-began}
use Rattle.ledger.proofs.Events.{journeys-began, history-began}
use Rattle.ledger.proofs.PlacesMoved.{held-began}
use Rattle.saga_core.specs.Views.{places_of}
use Rattle.memory_book.specs.MemoryStock.{stock_at}
use Rattle.memory_book.specs.Memory.{begun_as, Tells, TellEach, StandsFor, IsCarriedOut}
use Rattle.memory_book.specs.declared.journeys.Journey.{Journey}
use Rattle.memory_book.specs.declared.mem_book.MemBook.{MemBook}
use Rattle.memory_book.proofs.PlaceLemmas.{place_of-push}
use Rattle.memory_book.proofs.StandLemmas.{history-past}
use Rattle.memory_book.proofs.GrowthLemmas.{Grows, stands-grown, places_of-parts, limited-room}

-- the book keeps as many journeys as the ledger has
pub length-begun : (m : MemBook) (s : State) → StandsFor m s
    → length m.journeys.items ≡ length (journeys s.ledger)
length-begun m s here = sym (length-map m.journeys.items begun_as) ∙ ap length here.begun

-- the agent to whom a journey begun by this asker belongs
abbrev pub owner : Option Asked → List ℕ
owner ask = unwrap_or (asker ask) house

-- one more journey is begun in the book, after so many others, and the reply with its number is kept
pub record BeginsIn (m n : MemBook) (ask : Option Asked) (plan : Planned) (count : ℕ) : Type 0 where
  pub counted : count ≡ length m.journeys.items
  pub journey : Journey
  pub grown : n.journeys.items ≡ m.journeys.items ++ journey ∷ []
  pub begun : begun_as journey ≡ record { agent = owner ask; plan = plan }
  pub told : Tells journey (count + 1) []
  pub stock : n.stock ≡ m.stock
  pub parts : Grows m n ask (reply.Begun (count + 1)) (Began (owner ask) plan)

-- so a begin is answered with the next number, where the ledger has room
pub carried_out-begun : (m n : MemBook) (s : State) (ask : Option Asked) (plan : Planned) (count : ℕ)
    → StandsFor m s → IsTrue (is_plan plan) → BeginsIn m n ask plan count → m.events < most_events
    → IsCarriedOut n s ask (answer s.ledger (asker ask) (request.Begin plan)) (reply.Begun (count + 1))
carried_out-begun m n s ask plan count here good b room =
    let small : length s.ledger < most_events = omega (arith, here.events) in
    let numbered = b.counted ∙ length-begun m s here in
    let made = stands-grown m n s ask (reply.Begun (count + 1)) (Began (owner ask) plan) here good b.parts begun told stock in
    subst (λ (a : Answer). IsCarriedOut n s ask a (reply.Begun (count + 1)))
    (sym (limited-room s.ledger (answer_begin s.ledger (asker ask) plan) small))
    (record {
      replied = ap (λ i. reply.Begun (i + 1)) numbered;
      stands = subst (λ i. StandsFor n (state_with s ask (reply.Begun (i + 1)) (Some (Began (owner ask) plan)))) numbered made;
    })
  where
    begun : map begun_as n.journeys.items ≡ journeys (s.ledger ++ Began (owner ask) plan ∷ [])
    begun = grind (arith, map-append, journeys-began)

    told : TellEach n.journeys.items (s.ledger ++ Began (owner ask) plan ∷ [])
    told i k at =
        subst (Tells k (suc i)) (sym (history-began s.ledger (owner ask) plan (suc i)))
        (elim (place_of-push m.journeys.items b.journey i k
        (ap (λ js. slice_get js i) (sym b.grown) ∙ at)) [
          | inl there ↦ here.told i k there
          | inr last ↦ (
              let number : count + 1 ≡ suc i = omega (arith, b.counted, last.0) in
              subst (Tells k (suc i)) (sym (history-past m s here (suc i) (inr (omega (arith, last.0)))))
              (subst (λ (j : Journey). Tells j (suc i) []) (sym last.1) (subst (λ j. Tells b.journey j []) number b.told)))
        ])

    stock : (x : Cell) → stock_at n.stock x ≡ places_of (s.ledger ++ Began (owner ask) plan ∷ []) x
    stock x = grind (arith, places_of-parts, held-began, allotment-began)

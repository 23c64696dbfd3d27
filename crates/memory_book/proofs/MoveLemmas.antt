-- How one more item changes a book in memory. For `MemBook::make` and `carry_out`.
use Rattle.std.proofs.Common.{◌≡◌, ℕ, suc, ◌+◌, ◌≤◌, List, [], ◌∷◌, ◌++◌, map, refl, ap, sym, ◌∙◌, subst, arith, slice_get, slice_set, Option, Some, option_map, IsTrue}
use Rattle.std.proofs.lemmas.Bool.{le-leb}
use Rattle.allotment.specs.declared.cells.Cell.{Cell}
use Rattle.plan.specs.PlanModel.{want_at}
use Rattle.commands.specs.Asks.{Asked}
use Rattle.commands.specs.declared.items.Item.{Item}
use Rattle.commands.specs.declared.items.Item.TheVariants.{Transaction, Compensation, Turn, Save}
use Rattle.commands.specs.declared.items.Cursor.{Cursor}
use Rattle.commands.specs.declared.replies.Reply.{Reply}
use Rattle.commands.specs.declared.replies.Reply.TheVariants as reply
use Rattle.ledger.specs.Answer.{State, state_with}
use Rattle.ledger.specs.Ledger as l
use Rattle.ledger.specs.Ledger.{Event, Did, journey_at, history, allotment, held, places_in, is_allowed, fits, IsLegal}
use Rattle.ledger.specs.History.{next_want}
use Rattle.ledger.specs.AnswerChanges.{moves}
use Rattle.ledger.specs.JourneyChanges.{cursor_after}
use Rattle.ledger.proofs.Allotments.{allotment-did}
use Rattle.ledger.proofs.Events.{journeys-did, history-did_same, history-did_other}
use Rattle.ledger.proofs.Histories.{follows, may_come-allowed}
use Rattle.ledger.proofs.PlacesMoved.{held-transaction, held-compensation, held-turn, held-save, held_within}
use Rattle.saga_core.specs.Views.{places_of}
use Rattle.memory_book.specs.MemoryStock.{with_less, with_back, stock_at, ChangesFor}
use Rattle.memory_book.specs.Memory.{begun_as, Tells, TellEach, StandsFor, IsCarriedOut, IsSameJourney, MakesOne}
use Rattle.memory_book.specs.declared.stock.Stock.{Stock}
use Rattle.memory_book.specs.declared.journeys.Journey.{Journey}
use Rattle.memory_book.specs.declared.mem_book.MemBook.{MemBook}
use Rattle.memory_book.proofs.PlaceLemmas.{map-set}
use Rattle.memory_book.proofs.StandLemmas.{journey_at-kept}
use Rattle.memory_book.proofs.GrowthLemmas.{Grows, TellEach-set, places_left, places_of-parts, stands-grown}
use Rattle.memory_book.proofs.TellLemmas.{tells-same, tells-more}

-- Places.

-- with more places held, fewer are free
less_left : (n h : ℕ) (allotted : Option ℕ)
    → option_map (with_less n) (option_map (places_left h) allotted)
    ≡ option_map (places_left (h + n)) allotted
less_left n h allotted = grind arith

-- with fewer places held, more are free, as many as were held
back_left : (n g h : ℕ) (allotted : Option ℕ) → h ≡ g + n
    → ((a : ℕ) → allotted ≡ Some a → h ≤ a)
    → option_map (with_back n) (option_map (places_left h) allotted)
    ≡ option_map (places_left g) allotted
back_left n g h allotted is within = grind (arith, le-leb)

-- a stock with the places of a ledger has them after an item too, when the item's places changed
pub stock-did : (s : List Event) (j : ℕ) (a : l.Journey) (x : Item) → IsLegal s
    → journey_at s j ≡ Some a → IsTrue (is_allowed s (Did j x)) → (old new : Stock)
    → ((y : Cell) → stock_at old y ≡ places_of s y) → ChangesFor a.plan x old new
    → (y : Cell) → stock_at new y ≡ places_of (s ++ Did j x ∷ []) y
stock-did s j a (Transaction i c) legal at may old new here changed y =
    grind (arith, less_left, places_of-parts, held-transaction, allotment-did)
stock-did s j a (Compensation i c) legal at may old new here changed y =
    let n = places_in y (want_at a.plan i c) in
    changed y ∙ ap (option_map (with_back n)) (here y)
    ∙ back_left n (held (s ++ Did j (Compensation i c) ∷ []) y) (held s y) (allotment s y)
    (held-compensation s j i c a y legal at may) (λ m e. held_within s y m legal e)
    ∙ places_of-parts (s ++ Did j (Compensation i c) ∷ []) y _ _ refl
    (allotment-did s j (Compensation i c) y)
stock-did s j a (Turn p cause) legal at may old new here changed y = grind (arith, places_of-parts, held-turn, allotment-did)
stock-did s j a (Save p) legal at may old new here changed y = grind (arith, places_of-parts, held-save, allotment-did)

-- The book.

-- the reply to an item of the journey with this number, which is then at this cursor
abbrev pub moved : ℕ → Item → Cursor → Reply
moved j x c = reply.Moved j x c.pos c.phase

-- the journey at this place was given capacity and made an item in the book, and this reply is kept
pub record MakesIn (m n : MemBook) (ask : Option Asked) (place : ℕ) (old kept new : Journey) (x : Item) (r : Reply)
    : Type 0 where
  pub at : slice_get m.journeys.items place ≡ Some old
  pub written : n.journeys.items ≡ slice_set m.journeys.items place new
  pub same : IsSameJourney old kept
  pub made : MakesOne kept new x
  pub stock : ChangesFor kept.plan x m.stock n.stock
  pub parts : Grows m n ask r (Did (suc place) x)
  pub replied : r ≡ moved old.id x (cursor_after old.plan old.cursor x)

-- so the item is made
pub carried_out-made : (m n : MemBook) (s : State) (ask : Option Asked) (place : ℕ)
    (old kept new : Journey) (x : Item) (r : Reply) → StandsFor m s
    → IsTrue (is_allowed s.ledger (Did (suc place) x)) → MakesIn m n ask place old kept new x r
    → IsCarriedOut n s ask (moves (suc place) old.plan old.cursor x) r
carried_out-made m n s ask place old kept new x r here may b = record {
  replied = is;
  stands = subst (λ q. StandsFor n (state_with s ask q (Some (Did (suc place) x)))) is
      (stands-grown m n s ask r (Did (suc place) x) here may b.parts
      (ap (map begun_as) b.written
      ∙ map-set begun_as m.journeys.items place new old b.at (b.made.begun ∙ b.same.begun)
      ∙ here.begun ∙ sym (journeys-did s.ledger (suc place) x))
      (subst (λ js. TellEach js (s.ledger ++ Did (suc place) x ∷ [])) (sym b.written)
      (TellEach-set m.journeys.items place new s.ledger (s.ledger ++ Did (suc place) x ∷ [])
      here.told own
      (λ i other. history-did_other s.ledger (suc place) x (suc i)
      (λ (e : suc i ≡ suc place). other (omega arith)))))
      (stock-did s.ledger (suc place) (begun_as kept) x here.legal there may m.stock n.stock
      here.stock b.stock));
}
  where
    is : r ≡ moved (suc place) x (cursor_after old.plan old.cursor x)
    is = b.replied ∙ ap (λ j. moved j x (cursor_after old.plan old.cursor x)) (here.told place old b.at).number

    there : journey_at s.ledger (suc place) ≡ Some (begun_as kept)
    there = journey_at-kept m s here place old b.at ∙ ap Some (sym b.same.begun)

    own : Tells new (suc place) (history (s.ledger ++ Did (suc place) x ∷ []) (suc place))
    own =
        let h = history s.ledger (suc place) in
        subst (Tells new (suc place)) (sym (history-did_same s.ledger (suc place) x))
        (tells-more kept new x (suc place) h (fits s.ledger (next_want kept.plan h))
        (tells-same old kept (suc place) h b.same (here.told place old b.at)) b.made
        (follows s.ledger here.legal (suc place) (begun_as kept) there)
        (may_come-allowed s.ledger (suc place) (begun_as kept) x there may))

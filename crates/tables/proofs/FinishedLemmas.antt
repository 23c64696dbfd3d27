-- Journeys that have finished stay finished, and need not be read again. For `TableBook`.
use Rattle.std.proofs.Common.{◌≡◌, ℕ, List, [], ◌∷◌, ◌++◌, length, ◌-◌, inl, inr, refl, ap, sym, ◌∙◌, arith, IsTrue, true, false, Option, Some, None, option_map}
use Rattle.std.proofs.lemmas.Bool.{cases_eq}
use Rattle.std.specs.Prelude.{unwrap_or}
use Rattle.commands.specs.declared.items.Item.{Item}
use Rattle.commands.specs.declared.items.Phase.{Phase}
use Rattle.commands.specs.Asks.{Asked}
use Rattle.commands.specs.Request.{Request}
use Rattle.commands.specs.declared.replies.Reply.{Reply}
use Rattle.ledger.specs.History.{phase, is_finished, is_open}
use Rattle.ledger.specs.Ledger.{Event, Loaded, Began, Did, Journey, journeys, journey_at, history, is_in, is_allowed, is_item_allowed, may_do, IsLegal}
use Rattle.ledger.specs.Answer.{KeptReply, State, answer, asker, kept_for, outcome, outcome_for, state_with}
use Rattle.ledger.proofs.Phases.{passing}
use Rattle.ledger.proofs.Deciding.{no_finished_goes_on}
use Rattle.ledger.proofs.Recovering.{AreAllowedAfter-split}
use Rattle.ledger.proofs.Events.{journeys-loaded, journeys-did, journey_count-began, journey_at-loaded, journey_at-did, journey_at-began_other, history-loaded, history-began, history-did_other}
use Rattle.saga_core.specs.Views.{first_unfinished}
use Rattle.saga_core.specs.declared.records.Brief.{Brief}
use Rattle.saga_core.proofs.FirstLemmas.{first-found, first-none}
use Rattle.tables.specs.FinishedJourneys.{AreFinishedTo, finished_by}

-- One more event.

-- no item of a journey that is not open is allowed
pub closed_refuses : (l : List Event) (j : ℕ) (item : Item) → is_in is_open l j ≡ false
    → is_item_allowed l j item ≡ false
closed_refuses l j item closed = go (journey_at l j) refl
  where
    ended : (p : Phase) → is_open p ≡ false → is_finished p ≡ true
    ended p e = grind arith

    go : (o : Option Journey) → journey_at l j ≡ o → is_item_allowed l j item ≡ false
    go None at = ap (λ o. unwrap_or (option_map (may_do l j item) o) false) at
    go (Some a) at =
        no_finished_goes_on l j item
        (ap (passing is_finished (history l j)) at
        ∙ ended (phase a.plan (history l j)) (sym (ap (passing is_open (history l j)) at) ∙ closed))

-- an allowed event opens no journey that has finished
pub finished-more : (l : List Event) (e : Event) (n : ℕ) → IsTrue (is_allowed l e)
    → AreFinishedTo l n → AreFinishedTo (l ++ e ∷ []) n
finished-more l (Loaded name rows) n may has = record {
  begun = (let same = ap length (journeys-loaded l name rows) in let low = has.begun in omega arith);
  closed = λ j low.
      ap (λ h. passing is_open h (journey_at (l ++ Loaded name rows ∷ []) j)) (history-loaded l name rows j)
      ∙ ap (passing is_open (history l j)) (journey_at-loaded l name rows j)
      ∙ has.closed j low;
}
finished-more l (Began agent plan) n may has = record {
  begun = (let more = journey_count-began l agent plan in let low = has.begun in omega arith);
  closed = λ j low.
      ap (λ h. passing is_open h (journey_at (l ++ Began agent plan ∷ []) j)) (history-began l agent plan j)
      ∙ ap (passing is_open (history l j))
      (journey_at-began_other l agent plan j (λ e. let begun = has.begun in omega arith))
      ∙ has.closed j low;
}
finished-more l (Did k item) n may has = record {
  begun = (let same = ap length (journeys-did l k item) in let low = has.begun in omega arith);
  closed = λ j low. elim (cases_eq j k) [
    | inl same ↦ (
        let refused = closed_refuses l k item (ap (is_in is_open l) (sym same) ∙ has.closed j low) in
        let bad : true ≡ false = sym may ∙ refused in cc)
    | inr other ↦ ap (λ h. passing is_open h (journey_at (l ++ Did k item ∷ []) j)) (history-did_other l k item j other)
        ∙ ap (passing is_open (history l j)) (journey_at-did l k item j)
        ∙ has.closed j low
  ];
}

-- so an answer opens none, since its event, if there is one, is allowed
finished-with : (s : State) (ask : Option Asked) (r : Reply) (e : Option Event) (n : ℕ) → IsLegal (state_with s ask r e).ledger
    → AreFinishedTo s.ledger n → AreFinishedTo (state_with s ask r e).ledger n
finished-with s ask r None n legal has = has
finished-with s ask r (Some e) n legal has = finished-more s.ledger e n (AreAllowedAfter-split [] s.ledger (e ∷ []) legal).1.0 has

-- the outcome of a request opens no journey that has finished
pub finished-kept : (s : State) (ask : Option Asked) (asked : Request) (n : ℕ)
    → IsLegal (outcome s ask asked).state.ledger → AreFinishedTo s.ledger n
    → AreFinishedTo (outcome s ask asked).state.ledger n
finished-kept s ask asked n legal has = go (kept_for s ask) legal
  where
    go : (o : Option KeptReply) → IsLegal (outcome_for s ask asked o).state.ledger → AreFinishedTo (outcome_for s ask asked o).state.ledger n
    go (Some k) legal = has
    go None legal = let a = answer s.ledger (asker ask) asked in finished-with s ask a.reply a.event n legal has

-- A search for the first unfinished journey.

-- all journeys before the first that is found have finished
finished-found : (l : List Event) (n : ℕ) (b : Brief) → AreFinishedTo l n
    → Some b ≡ first_unfinished l n → AreFinishedTo l (b.id - 1)
finished-found l n b has is =
    let first = first-found l n b is in
    record {
      begun = (let within = first.within in omega arith);
      closed = λ j low. (let between = first.between j in
          let closed = has.closed j in
          let above = first.above in
          grind (arith, between, closed, above, low));
    }

-- if none is found, all have finished
finished-all : (l : List Event) (n : ℕ) → AreFinishedTo l n → None ≡ first_unfinished l n
    → AreFinishedTo l (length (journeys l))
finished-all l n has is = record {
  begun = omega arith;
  closed = λ j low. (let none = first-none l n is j in let closed = has.closed j in grind (arith, none, closed));
}

-- so the journeys up to this number have finished
pub finished_next : (l : List Event) (n : ℕ) (found : Option Brief) → AreFinishedTo l n → found ≡ first_unfinished l n
    → AreFinishedTo l (finished_by l found)
finished_next l n (Some b) has is = finished-found l n b has is
finished_next l n None has is = finished-all l n has is

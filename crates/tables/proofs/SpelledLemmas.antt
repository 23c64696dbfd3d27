-- A command leaves what the rules of a legal ledger leave open: agents in their form, and few events. For carry_out.
use Rattle.std.proofs.Common.{◌≡◌, ◌<◌, ◌+◌, ℕ, zero, suc, List, [], ◌∷◌, ◌++◌, Bool, true, false, length, refl, sym, subst, ap, ◌∙◌, arith, IsTrue, length-append, eqb-true, ◌==◌, Option, Some, None, IfSome}
use Rattle.std.specs.Prelude.{⊤, unwrap_or}
use Rattle.std.proofs.lemmas.Bool.{eqb-false}
use Rattle.commands.specs.Asks.{Asked}
use Rattle.commands.specs.Names.{house, is_agent}
use Rattle.commands.specs.Request.{Request}
use Rattle.commands.specs.declared.replies.Reply.{Reply}
use Rattle.ledger.specs.Ledger.{Event, Loaded, Began, Did, Journey, journey_at, journeys}
use Rattle.ledger.specs.Answer.{KeptReply, State, answer, asker, is_request, kept_for, most_events, outcome, outcome_for, start, state_with}
use Rattle.ledger.proofs.Answers.{IfEvent, answer-holds}
use Rattle.ledger.proofs.Events.{journey_at-began_new, journey_at-began_other, journey_at-did, journey_at-loaded}
use Rattle.sql_model.specs.Spelling.{IsSpelled}
use Rattle.tables.specs.Asking.{HasAgent}

-- One more event.

-- the agent of a journey that is begun has its form
abbrev IsSpelledEvent : Event → Type 0
IsSpelledEvent (Loaded name rows) = ⊤
IsSpelledEvent (Began agent plan) = IsTrue (is_agent agent)
IsSpelledEvent (Did journey item) = ⊤

abbrev HasForm : Option Journey → Type 0
HasForm o = IfSome o (λ (a : Journey). IsTrue (is_agent a.agent))

agents-more : (l : List Event) (e : Event) → IsSpelled l → IsSpelledEvent e → (id : ℕ) → HasForm (journey_at (l ++ e ∷ []) id)
agents-more l (Loaded name rows) spelled form id = subst HasForm (sym (journey_at-loaded l name rows id)) (spelled.agents id)
agents-more l (Did k item) spelled form id = subst HasForm (sym (journey_at-did l k item id)) (spelled.agents id)
agents-more l (Began agent plan) spelled form id = go (id == length (journeys l) + 1) refl
  where
    go : (v : Bool) → (id == length (journeys l) + 1) ≡ v → HasForm (journey_at (l ++ Began agent plan ∷ []) id)
    go true is =
        subst HasForm (sym (ap (journey_at (l ++ Began agent plan ∷ [])) (eqb-true id (length (journeys l) + 1) is) ∙ journey_at-began_new l agent plan))
        form
    go false is =
        subst HasForm (sym (journey_at-began_other l agent plan id (λ e. let other = eqb-false id (length (journeys l) + 1) is in omega (arith, other, e))))
        (spelled.agents id)

spelled-more : (l : List Event) (e : Event) → IsSpelled l → length l < most_events → IsSpelledEvent e → IsSpelled (l ++ e ∷ [])
spelled-more l e spelled room form = record {
  agents = agents-more l e spelled form;
  few = (let more : length (l ++ e ∷ []) ≡ length l + 1 = length-append l (e ∷ []) in omega (arith, more, room));
}

-- Answers.

-- the house has the form of an agent, and the agent of an ask has it
asker_form : (ask : Option Asked) → HasAgent ask → IsTrue (is_agent (unwrap_or (asker ask) house))
asker_form None form = refl
asker_form (Some ask) form = form

-- an answer adds an event only where the ledger has room; so the ledger of the outcome is spelled
pub outcome_spelled : (s : State) (ask : Option Asked) (asked : Request) → is_request asked ≡ true → IsSpelled s.ledger → HasAgent ask
    → IsSpelled (outcome s ask asked).state.ledger
outcome_spelled s ask asked good spelled form = go (kept_for s ask)
  where
    with-event : (r : Reply) (o : Option Event) → IfEvent (λ e _. IsSpelled (s.ledger ++ e ∷ [])) o r → IsSpelled (state_with s ask r o).ledger
    with-event r None holds = spelled
    with-event r (Some e) holds = holds

    go : (o : Option KeptReply) → IsSpelled (outcome_for s ask asked o).state.ledger
    go (Some k) = spelled
    go None =
        with-event (answer s.ledger (asker ask) asked).reply (answer s.ledger (asker ask) asked).event
        (answer-holds (λ e _. IsSpelled (s.ledger ++ e ∷ [])) s.ledger (asker ask) asked good (λ room. record {
          load = λ name rows _ _. spelled-more s.ledger (Loaded name rows) spelled room tt;
          begin = λ plan _. spelled-more s.ledger (Began (unwrap_or (asker ask) house) plan) spelled room (asker_form ask form);
          move = λ j a next _ _. spelled-more s.ledger (Did j next) spelled room tt;
        }))

-- a new desk has no agent and no event
pub start_spelled : IsSpelled start.ledger
start_spelled = record { agents = nobody; few = omega arith }
  where
    nobody : (id : ℕ) → HasForm (journey_at [] id)
    nobody zero = tt
    nobody (suc i) = tt

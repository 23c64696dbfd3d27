-- What a request changes: a legal ledger grows by its event and stays legal, kept replies stay kept, and under each agent
-- and key at most one event is made. For the law of worlds.
use Rattle.std.proofs.Common.{◌≡◌, ℕ, List, ◌++◌, refl, sym, append-nil, true, false, Option, Some, None, is_some, option_to_list, [], ◌∷◌, append_assoc, ◌+◌, ◌≤◌, ◌⊎◌, arith}
use Rattle.commands.specs.Asks.{Asked}
use Rattle.commands.specs.Request.{Request}
use Rattle.commands.specs.declared.replies.Reply.{Reply}
use Rattle.ledger.specs.Answer.{is_request, State, Kept, state_with, outcome}
use Rattle.ledger.specs.Ledger.{Event, IsLegal}
use Rattle.ledger.proofs.Answers.{IsAllowedEvent, answer-allowed}
use Rattle.ledger.proofs.Growing.{IsLegal-append}
use Rattle.ledger.specs.World.{Moment, Done, Cut, Reopened, after, KeepsLimits, GoesOn, events_of, acts, times_acted}
use Rattle.std.proofs.lemmas.Bool.{and_parts}
use Rattle.std.proofs.lemmas.Slice.Eq.{bytes_eq-Decides}

-- Legality.

-- an answer whose event is allowed leaves the ledger legal
legal-with : (s : State) (ask : Option Asked) (answered : Reply) (e : Option Event)
    → IsLegal s.ledger → IsAllowedEvent s.ledger e → IsLegal (state_with s ask answered e).ledger
legal-with s ask answered None legal may = legal
legal-with s ask answered (Some e) legal may = IsLegal-append s.ledger e legal may

-- a request that keeps the limits leaves the ledger legal: a kept reply adds nothing, an answer adds an event that is
-- allowed
pub outcome-legal : (s : State) (ask : Option Asked) (asked : Request)
    → IsLegal s.ledger → is_request asked ≡ true → IsLegal (outcome s ask asked).state.ledger
outcome-legal s ask asked legal good = grind (arith, legal-with, answer-allowed)

-- Growth.

-- the ledger grows by the event of the request alone
pub outcome-ledger : (s : State) (ask : Option Asked) (asked : Request)
    → (outcome s ask asked).state.ledger ≡ s.ledger ++ option_to_list (outcome s ask asked).event
outcome-ledger s ask asked = grind (arith, append-nil)

-- Kept replies.

-- a reply is kept under this agent and key
abbrev pub IsKept : Kept → List ℕ → List ℕ → Type 0
IsKept kept agent key = is_some (kept agent key) ≡ true

-- under a key with a kept reply a reply stays kept
pub outcome-kept : (s : State) (ask : Option Asked) (asked : Request) (agent key : List ℕ)
    → IsKept s.kept agent key → IsKept (outcome s ask asked).state.kept agent key
outcome-kept s ask asked agent key k = grind arith

-- Worlds.

-- a request leaves the ledger legal: where it does not keep the limits, it makes no event
stays-legal : (s : State) (ask : Option Asked) (asked : Request) → IsLegal s.ledger
    → KeepsLimits s ask asked → IsLegal (outcome s ask asked).state.ledger
stays-legal s ask asked legal keeps = grind (arith, outcome-legal, outcome-ledger, append-nil)

-- all requests of a world leave the ledger legal
pub after-legal : (s : State) (w : List Moment) → IsLegal s.ledger → GoesOn s w
    → IsLegal (after s w).ledger
after-legal s [] legal goes = legal
after-legal s (Done asked ask reply ∷ later) legal goes =
    after-legal (outcome s ask asked).state later (stays-legal s ask asked legal goes.0) goes.2
after-legal s (Cut asked ask true ∷ later) legal goes =
    after-legal (outcome s ask asked).state later (stays-legal s ask asked legal goes.0) goes.2
after-legal s (Cut asked ask false ∷ later) legal goes = after-legal s later legal goes.2
after-legal s (Reopened ∷ later) legal goes = after-legal s later legal goes

-- the ledger grows by the events that were made, one after another
pub after-ledger : (s : State) (w : List Moment) → (after s w).ledger ≡ s.ledger ++ events_of s w
after-ledger s [] = sym (append-nil s.ledger)
after-ledger s (Done asked ask reply ∷ later) =
    grind (arith, append_assoc, outcome-ledger, after-ledger (outcome s ask asked).state later)
after-ledger s (Cut asked ask true ∷ later) =
    grind (arith, append_assoc, outcome-ledger, after-ledger (outcome s ask asked).state later)
after-ledger s (_ ∷ later) = after-ledger s later

-- A request under a key.

-- what a request does under this agent and key: at most one event; none where a reply was kept; and
-- where it makes one, its reply is kept
record Once (agent key : List ℕ) (s : State) (ask : Option Asked) (asked : Request) : Type 0 where
  at_most : acts agent key s ask asked ≤ 1
  known : IsKept s.kept agent key → acts agent key s ask asked ≡ 0
  kept : (acts agent key s ask asked ≡ 0) ⊎ IsKept (outcome s ask asked).state.kept agent key

-- each request acts at most once: it has another key, or a kept reply, or no event, or it acts
once : (agent key : List ℕ) (s : State) (ask : Option Asked) (asked : Request)
    → Once agent key s ask asked
once agent key s ask asked = grind (arith, and_parts, bytes_eq-Decides)

-- Worlds with a key.

-- where a reply is kept, its key makes no further event
never_again : (agent key : List ℕ) (s : State) (w : List Moment) → IsKept s.kept agent key
    → times_acted agent key s w ≡ 0
never_again agent key s [] k = refl
never_again agent key s (Done asked ask reply ∷ later) k =
    grind (arith, once, outcome-kept, never_again agent key (outcome s ask asked).state later)
never_again agent key s (Cut asked ask true ∷ later) k =
    grind (arith, once, outcome-kept, never_again agent key (outcome s ask asked).state later)
never_again agent key s (_ ∷ later) k = never_again agent key s later k

-- after a request that acts its reply is kept; after one that does not, the later ones act at most once
one_more : (agent key : List ℕ) (s : State) (ask : Option Asked) (asked : Request)
    (later : List Moment) → times_acted agent key (outcome s ask asked).state later ≤ 1
    → acts agent key s ask asked + times_acted agent key (outcome s ask asked).state later ≤ 1
one_more agent key s ask asked later rest = grind (arith, once, never_again)

-- in all, a key acts at most once
pub acts_once : (agent key : List ℕ) (s : State) (w : List Moment) → times_acted agent key s w ≤ 1
acts_once agent key s [] = omega arith
acts_once agent key s (Done asked ask reply ∷ later) =
    one_more agent key s ask asked later (acts_once agent key (outcome s ask asked).state later)
acts_once agent key s (Cut asked ask true ∷ later) = grind (arith, one_more, acts_once agent key (outcome s ask asked).state later)
acts_once agent key s (_ ∷ later) = acts_once agent key s later

-- Induction over the items of each history of a legal ledger, and that each journey follows an up-and-down word. For the
-- laws of words and steps.
use Rattle.std.proofs.Common.{◌≡◌, ℕ, List, [], ◌∷◌, ◌++◌, refl, ◌∙◌, eqb-true, Bool, Some, None, IsTrue, arith}
use Rattle.plan.specs.PlanModel.{Planned, is_plan}
use Rattle.commands.specs.declared.items.Item.{Item}
use Rattle.ledger.specs.History.{may_come}
use Rattle.ledger.specs.Ledger.{Event, Loaded, Began, Did, Journey, journey_at, history, is_allowed, IsLegal}
use Rattle.ledger.specs.Laws.{EveryJourneyIsUpAndDown}
use Rattle.ledger.proofs.Growing.{Keeps, induct, journey_at-began, journeys-loaded, journeys-did, history-began, history-loaded, history-did_same, history-did_other, is_item_allowed-may_do, absurd_item}
use Rattle.ledger.proofs.Journeys.{goes-begin, goes-more}
use Rattle.ledger.proofs.Lists.{numbered-past, map-none}
use Rattle.ledger.proofs.Modes.{Goes, begins-word, ended-word, undone-word}

-- each journey of the ledger has this property, and a number without a journey has no history
pub record Each (P : Planned → List Item → Type 0) (l : List Event) : Type 0 where
  pub go : (j : ℕ) (a : Journey) → journey_at l j ≡ Some a → P a.plan (history l j)
  pub none : (j : ℕ) → journey_at l j ≡ None → history l j ≡ []

-- what holds of a journey that is just begun
abbrev pub AtBegin : (Planned → List Item → Type 0) → Type 0
AtBegin P = (plan : Planned) → IsTrue (is_plan plan) → P plan []

-- what each item that may come keeps
abbrev pub AtItem : (Planned → List Item → Type 0) → Type 0
AtItem P = (plan : Planned) (h : List Item) (fits : Bool) (x : Item) → IsTrue (may_come plan h fits x)
    → P plan h → P plan (h ++ x ∷ [])

module _ (P : Planned → List Item → Type 0) (begin : AtBegin P) (more : AtItem P) where
  -- a journey that is begun is new and has no history yet, and the others are as they were
  each-began : (l : List Event) (agent : List ℕ) (plan : Planned) → IsTrue (is_plan plan) → Each P l
      → Each P (l ++ Began agent plan ∷ [])
  each-began l agent plan good all = record {
    go = λ j a is.
        let at = journey_at-began l agent plan j in let past = history-began l agent plan j in
        grind (arith, numbered-past, all.go j a, all.none j, begin plan good);
    none = λ j is.
        let at = journey_at-began l agent plan j in let past = history-began l agent plan j in grind (arith, all.none j);
  }

  -- an item takes its own journey on, and leaves the others
  each-did : (l : List Event) (k : ℕ) (x : Item) → IsTrue (is_allowed l (Did k x)) → Each P l
      → Each P (l ++ Did k x ∷ [])
  each-did l k x may all = record {
    go = λ j a is.
        let same = history-did_same l k x j in let other = history-did_other l k x j in
        grind (arith, journeys-did, is_item_allowed-may_do, eqb-true, all.go j a, more a.plan (history l j));
    none = λ j is.
        let same = history-did_same l k x j in let other = history-did_other l k x j in
        grind (arith, journeys-did, absurd_item, eqb-true, all.none j);
  }

  -- each allowed event keeps the property of each journey
  each-more : Keeps (Each P)
  each-more l (Loaded name rows) legal may all = record {
    go = λ j a is. rw (history-loaded l name rows j) (all.go j a (rw (journeys-loaded l name rows) at is));
    none = λ j is. history-loaded l name rows j ∙ all.none j (rw (journeys-loaded l name rows) at is);
  }
  each-more l (Began agent plan) legal may all = each-began l agent plan may all
  each-more l (Did k x) legal may all = each-did l k x may all

  -- what holds of the empty history, and is kept by each item that may come, holds of each journey
  pub each_journey : (l : List Event) → IsLegal l → Each P l
  each_journey = induct (Each P) (record { go = λ j a is. absurd (grind arith); none = λ j is. refl }) each-more

-- every journey follows its word, and a number without a journey has no history
abbrev pub AllGo : List Event → Type 0
AllGo l = Each Goes l

-- in every legal ledger every journey follows its word
pub all_go : (l : List Event) → IsLegal l → AllGo l
all_go = each_journey Goes (λ plan good. goes-begin plan) (λ plan h fits x may g. goes-more plan h fits x g may)

-- each journey of a legal ledger reads as an up-and-down word
pub up_and_down : (l : List Event) → IsLegal l → EveryJourneyIsUpAndDown l
up_and_down l legal j a e = search (arith, all_go, begins-word, ended-word, undone-word, map-none)

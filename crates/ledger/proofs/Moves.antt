-- The answer to a request about a journey, by the first of its choices that is allowed. For each such request.
use Rattle.std.proofs.Common.{◌≡◌, ℕ, List, [], ◌∷◌, ap, ◌∙◌, Bool, true, false, if◌then◌else◌, find, Option, Some, None, option_map, arith, unwrap_or}
use Rattle.plan.specs.PlanModel.{Planned}
use Rattle.commands.specs.declared.items.Item.{Item}
use Rattle.commands.specs.declared.replies.Refusal.{Refusal}
use Rattle.commands.specs.declared.replies.Refusal.TheVariants.{Finished}
use Rattle.ledger.specs.History.{phase, is_finished}
use Rattle.ledger.specs.Ledger.{Event, Journey, journey_at, history, may_do, IsLegal}
use Rattle.ledger.specs.Replies.{refused, sees, seen_journey, moved, answer_move}
pub use Rattle.ledger.proofs.Lists.{find-next, find-first}
use Rattle.ledger.proofs.Lists.{find-passes}
use Rattle.ledger.specs.AnswerChanges.{moves}
use Rattle.ledger.specs.Cursors.{cursor_of}
use Rattle.ledger.proofs.Histories.{follows}
use Rattle.ledger.proofs.Items.{cursor_of-more}

-- Journeys that are seen.

-- a journey that the caller sees is there
pub seen : (l : List Event) (who : Option (List ℕ)) (j : ℕ) (a : Journey) → journey_at l j ≡ Some a
    → sees who a ≡ true → seen_journey l who j ≡ Some a
seen l who j a at e = cc

-- another agent's journey looks absent
pub unseen : (l : List Event) (who : Option (List ℕ)) (j : ℕ) (a : Journey)
    → journey_at l j ≡ Some a
    → sees who a ≡ false → seen_journey l who j ≡ None
unseen l who j a at e = cc

-- if there is no journey, none is seen
pub seen-none : (l : List Event) (who : Option (List ℕ)) (j : ℕ) → journey_at l j ≡ None
    → seen_journey l who j ≡ None
seen-none l who j absent = cc

-- Moves.

-- to a request about a journey that has ended or is undone
pub move-finished : (l : List Event) (j : ℕ) (choices : Planned → List Item → List Item)
    (otherwise : Refusal)
    (a : Journey) → is_finished (phase a.plan (history l j)) ≡ true
    → answer_move l j choices otherwise (Some a) ≡ refused Finished
move-finished l j choices otherwise a finished = cc

-- the test of a journey's next item
abbrev pub may : List Event → ℕ → Journey → Item → Bool
may l j a next = may_do l j next a

-- the answer if this is the first choice that is allowed
move-first : (l : List Event) (j : ℕ) (choices : Planned → List Item → List Item)
    (otherwise : Refusal)
    (a : Journey) (o : Option Item) → is_finished (phase a.plan (history l j)) ≡ false
    → find (may l j a) (choices a.plan (history l j)) ≡ o
    → answer_move l j choices otherwise (Some a)
    ≡ unwrap_or (option_map (moved a.plan (history l j) j) o) (refused otherwise)
move-first l j choices otherwise a o unfinished found = cc

-- the reply to an item says where the journey is then
moved-moves : (l : List Event) (j : ℕ) (a : Journey) (x : Item) → IsLegal l
    → journey_at l j ≡ Some a
    → may l j a x ≡ true
    → moved a.plan (history l j) j x ≡ moves j a.plan (cursor_of a.plan (history l j)) x
moved-moves l j a x legal at comes = grind (arith, cursor_of-more, follows)

-- the item that is found is made
pub move-found : (l : List Event) (j : ℕ) (choices : Planned → List Item → List Item)
    (otherwise : Refusal)
    (a : Journey) (x : Item) → IsLegal l → journey_at l j ≡ Some a
    → is_finished (phase a.plan (history l j)) ≡ false
    → find (may l j a) (choices a.plan (history l j)) ≡ Some x
    → answer_move l j choices otherwise (Some a) ≡ moves j a.plan (cursor_of a.plan (history l j)) x
move-found l j choices otherwise a x legal at unfinished found =
    move-first l j choices otherwise a (Some x) unfinished found
    ∙ moved-moves l j a x legal at (find-passes (may l j a) (choices a.plan (history l j)) x found)

-- an only choice is made if it is allowed, else the request is refused
pub move-only : (l : List Event) (j : ℕ) (choices : Planned → List Item → List Item)
    (otherwise : Refusal)
    (a : Journey) (x : Item) (allowed : Bool) → IsLegal l → journey_at l j ≡ Some a
    → is_finished (phase a.plan (history l j)) ≡ false
    → choices a.plan (history l j) ≡ x ∷ [] → may l j a x ≡ allowed
    → answer_move l j choices otherwise (Some a)
    ≡ (if allowed then moves j a.plan (cursor_of a.plan (history l j)) x else refused otherwise)
move-only l j choices otherwise a x true legal at unfinished only comes =
    move-found l j choices otherwise a x legal at unfinished
    (ap (find (may l j a)) only ∙ find-first (may l j a) x [] comes)
move-only l j choices otherwise a x false legal at unfinished only fails = grind (arith, move-first, find-next)

-- A history item by item: each may come after those before it, where the journey is after it, and which of them
-- finishes it. For those who read a history one item at a time.
use Rattle.std.proofs.Common.{◌≡◌, ℕ, ◌-◌, List, [], ◌∷◌, ◌++◌, refl, sym, subst, arith, append_assoc, append-nil, Bool, true, false, ◌==◌, ◌&&◌, ◌||◌, Some, IsTrue}
use Rattle.std.proofs.Math.Bool.{or-false}
use Rattle.std.proofs.lemmas.Bool.{ne_eqb}
use Rattle.std.proofs.lemmas.Bool.Decides.{nat_tests}
use Rattle.plan.specs.PlanModel.{Planned, step_count}
use Rattle.commands.specs.declared.items.Cause.{Cause}
use Rattle.commands.specs.declared.items.Item.{Item}
use Rattle.commands.specs.declared.items.Item.TheVariants.{Transaction, Compensation, Turn, Save}
use Rattle.ledger.specs.History.{position_of, has_turned_to_start, phase, is_finished, may_come}
use Rattle.ledger.specs.Ledger.{Event, Journey, journey_at, history, IsLegal}
use Rattle.ledger.proofs.Coming.{step-comes, compensation-comes, save-comes}
use Rattle.ledger.proofs.Deciding.{finished-none}
use Rattle.ledger.proofs.Taking.{turned-other}
use Rattle.ledger.proofs.Journeys.{goes-begin, goes-more, turn-turned}
use Rattle.ledger.proofs.Ledgers.{Each, each_journey}
use Rattle.ledger.proofs.Modes.{Goes, running-rises, going_back-falls}
use Rattle.ledger.proofs.Standing.{compensates, position_of-transaction, position_of-turn, position_of-save}

-- One item after another.

-- the item may come next after this history, where the next want fits or does not
pub record Comes (plan : Planned) (h : List Item) (x : Item) : Type 0 where
  pub fits : Bool
  pub may : IsTrue (may_come plan h fits x)

-- each of these items may come after those before it
abbrev pub AllCome : Planned → List Item → List Item → Type 0
AllCome plan before [] = Unit {0}
AllCome plan before (x ∷ later) = Comes plan before x × AllCome plan (before ++ x ∷ []) later

-- one more item at the end may come after all of them
all_come-snoc : (plan : Planned) (before h : List Item) (x : Item) → AllCome plan before h
    → Comes plan (before ++ h) x → AllCome plan before (h ++ x ∷ [])
all_come-snoc plan before [] x all one = grind (arith, append-nil)
all_come-snoc plan before (y ∷ h) x all one = (
  all.0,
  all_come-snoc plan (before ++ y ∷ []) h x all.1
      (subst (λ g. Comes plan g x) (sym (append_assoc before (y ∷ []) h)) one),
)

-- the items of each journey of a legal ledger may come one after another
all_come : (l : List Event) → IsLegal l → Each (λ plan h. AllCome plan [] h) l
all_come = search (arith, each_journey, all_come-snoc)

-- after a prefix of a history the journey follows its word, and each later item may come
all_come-split : (plan : Planned) (before h rest : List Item) → Goes plan before
    → AllCome plan before (h ++ rest) → Goes plan (before ++ h) × AllCome plan (before ++ h) rest
all_come-split plan before [] rest g all = grind (arith, append-nil)
all_come-split plan before (x ∷ h) rest g all =
    grind (arith, goes-more, append_assoc, all_come-split plan (before ++ x ∷ []) h rest (goes-more plan before all.0.fits x g all.0.may) all.1)

-- a history goes on with this item, and then with the later ones
pub record GoesOn (plan : Planned) (h : List Item) (x : Item) (later : List Item) : Type 0 where
  pub goes : Goes plan h
  pub comes : Comes plan h x
  pub rest : AllCome plan (h ++ x ∷ []) later

-- the history of each journey of a legal ledger goes on so, wherever it is cut
pub goes_on : (l : List Event) (legal : IsLegal l) (j : ℕ) (a : Journey) → journey_at l j ≡ Some a
    → (h : List Item) (x : Item) (later : List Item) → history l j ≡ h ++ x ∷ later
    → GoesOn a.plan h x later
goes_on l legal j a at h x later e =
    let both = all_come-split a.plan [] h (x ∷ later) (goes-begin a.plan)
    (subst (AllCome a.plan []) e ((all_come l legal).go j a at)) in
    record { goes = both.0; comes = both.1.0; rest = both.1.1 }

-- Where the journey is.

module _ (plan : Planned) (h later : List Item) where
  pub stands-transaction : (i c : ℕ) → GoesOn plan h (Transaction i c) later
      → position_of (h ++ Transaction i c ∷ []) ≡ i
  stands-transaction i c on = grind (arith, step-comes, position_of-transaction)

  pub stands-compensation : (i c : ℕ) → GoesOn plan h (Compensation i c) later
      → position_of (h ++ Compensation i c ∷ []) ≡ i - 1
  stands-compensation i c on = search (arith, compensates, compensation-comes)

-- Which item finishes it.

-- by whether all steps stand, or none after a turn to the start
finished_by : (plan : Planned) (h : List Item) (pos : ℕ) (turned : Bool) → position_of h ≡ pos
    → has_turned_to_start h ≡ turned
    → is_finished (phase plan h) ≡ ((pos == step_count plan) || (turned && (pos == 0)))
finished_by plan h pos turned at is = grind (arith, nat_tests)

module _ (plan : Planned) (h later : List Item) where
  -- a transaction finishes it if it is that of the last step
  pub finished-transaction : (i c : ℕ) → GoesOn plan h (Transaction i c) later
      → is_finished (phase plan (h ++ Transaction i c ∷ [])) ≡ (i == step_count plan)
  finished-transaction i c on = search (arith, step-comes, running-rises, finished_by, stands-transaction, turned-other, or-false)

  -- a compensation finishes it if it is that of the first step
  pub finished-compensation : (i c : ℕ) → GoesOn plan h (Compensation i c) later
      → is_finished (phase plan (h ++ Compensation i c ∷ [])) ≡ (i == 1)
  finished-compensation i c on =
      search (arith, compensation-comes, going_back-falls, compensates, finished_by, turned-other, ne_eqb, nat_tests)

  -- a turn finishes it if it leads to the start where no step stands
  pub finished-turn : (p : ℕ) (cause : Cause) → GoesOn plan h (Turn p cause) later
      → is_finished (phase plan (h ++ Turn p cause ∷ [])) ≡ ((p == 0) && (position_of h == 0))
  finished-turn p cause on = grind (arith, turn-turned, finished_by, position_of-turn, ne_eqb, nat_tests)

  -- a save-point never finishes it
  pub finished-save : (p : ℕ) → GoesOn plan h (Save p) later
      → is_finished (phase plan (h ++ Save p ∷ [])) ≡ false
  finished-save p on = grind (arith, running-rises, save-comes, finished_by, position_of-save, turned-other, ne_eqb)

  -- after the item that finishes it no item comes
  pub none_later : (x : Item) → GoesOn plan h x later
      → is_finished (phase plan (h ++ x ∷ [])) ≡ true → later ≡ []
  none_later x on finished = go later on.rest
    where
      go : (items : List Item) → AllCome plan (h ++ x ∷ []) items → items ≡ []
      go [] rest = refl
      go (y ∷ items) rest = absurd (finished-none plan (h ++ x ∷ []) rest.0.fits y finished rest.0.may)

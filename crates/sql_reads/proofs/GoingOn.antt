-- The continuation of a journey by its items, in a legal ledger. For the items that are read one at a time.
use Rattle.std.proofs.Common.{◌≡◌, ℕ, ◌==◌, ◌&&◌, List, [], ◌∷◌, ◌++◌, length, Option, Some, None, true, refl, sym, ap, ◌∙◌, arith, length-append}
use Rattle.commands.specs.declared.items.Item.{Item}
use Rattle.commands.specs.declared.items.Item.TheVariants.{Transaction, Compensation, Turn, Save}
use Rattle.ledger.specs.History.{position_of, phase, is_finished}
use Rattle.ledger.specs.Ledger.{Journey, journey_at}
use Rattle.ledger.proofs.Ledgers.{all_go}
use Rattle.ledger.proofs.Ending.{GoesOn, goes_on, stands-transaction, stands-compensation, finished-transaction, finished-compensation, finished-turn, finished-save, none_later}
use Rattle.ledger.proofs.Standing.{position_of-turn, position_of-save}
use Rattle.sql_reads.specs.Following.{GoesOnWith, next_position, finishes}

-- the journey, and that the item may come
record GoesThere {steps pos : ℕ} {x : Item} {later : List Item} (it : GoesOnWith steps pos (x ∷ later)) : Type 0 where
  pub journey : Journey
  pub at : journey_at it.ledger it.id ≡ Some journey
  pub on : GoesOn journey.plan it.before x later

goes_there : (steps pos : ℕ) (x : Item) (later : List Item) (it : GoesOnWith steps pos (x ∷ later)) → GoesThere it
goes_there steps pos x later it = go (journey_at it.ledger it.id) refl
  where
    go : (o : Option Journey) → journey_at it.ledger it.id ≡ o → GoesThere it
    go None none =
        let empty : it.before ++ x ∷ later ≡ [] = sym it.whole ∙ (all_go it.ledger it.legal).none it.id none in
        let long = ap length empty in
        let parts = length-append it.before (x ∷ later) in
        absurd (omega arith)
    go (Some a) at = record {
      journey = a;
      at = at;
      on = goes_on it.ledger it.legal it.id a at it.before x later it.whole;
    }

-- the position after each item
pub brings : (steps pos : ℕ) (x : Item) (later : List Item) (it : GoesOnWith steps pos (x ∷ later)) → next_position pos x ≡ position_of (it.before ++ x ∷ [])
brings steps pos (Transaction i c) later it =
    let there = goes_there steps pos (Transaction i c) later it in
    sym (stands-transaction there.journey.plan it.before later i c there.on)
brings steps pos (Compensation i c) later it =
    let there = goes_there steps pos (Compensation i c) later it in
    sym (stands-compensation there.journey.plan it.before later i c there.on)
brings steps pos (Turn p cause) later it = sym (position_of-turn it.before p cause ∙ it.stands)
brings steps pos (Save p) later it = sym (position_of-save it.before p ∙ it.stands)

-- whether each item finishes the journey
tells : (steps pos : ℕ) (x : Item) (later : List Item) (it : GoesOnWith steps pos (x ∷ later)) (a : Journey) → journey_at it.ledger it.id ≡ Some a
    → GoesOn a.plan it.before x later → finishes steps pos x ≡ is_finished (phase a.plan (it.before ++ x ∷ []))
tells steps pos (Transaction i c) later it a at on =
    sym (finished-transaction a.plan it.before later i c on ∙ ap (λ n. i == n) (it.has_steps a at))
tells steps pos (Compensation i c) later it a at on = sym (finished-compensation a.plan it.before later i c on)
tells steps pos (Turn p cause) later it a at on =
    sym (finished-turn a.plan it.before later p cause on ∙ ap (λ n. (p == 0) && (n == 0)) it.stands)
tells steps pos (Save p) later it a at on = sym (finished-save a.plan it.before later p on)

-- a journey that an item finishes does not go on
pub goes_no_further : (steps pos : ℕ) (x : Item) (later : List Item) → true ≡ finishes steps pos x → GoesOnWith steps pos (x ∷ later) → later ≡ []
goes_no_further steps pos x later finished it =
    let there = goes_there steps pos x later it in
    none_later there.journey.plan it.before later x there.on (sym (finished ∙ tells steps pos x later it there.journey there.at there.on))

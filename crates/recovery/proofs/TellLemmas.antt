-- What the rules answer to a stop of a running journey, and to a step of an open one. For `stop` and `step`.
use Rattle.std.proofs.Common.{◌≡◌, ℕ, List, [], refl, ap, sym, ◌∙◌, eq-eqb, Bool, true, false, Option, Some, None, find, option_map, if◌then◌else◌, arith}
use Rattle.std.proofs.lemmas.Bool.{and_from}
use Rattle.std.specs.Prelude.{unwrap_or}
use Rattle.commands.specs.Request.{Stop, Step}
use Rattle.commands.specs.declared.items.Cause.TheVariants as cause
use Rattle.commands.specs.declared.items.Item.{Item}
use Rattle.commands.specs.declared.items.Item.TheVariants.{Turn}
use Rattle.commands.specs.declared.items.Phase.{Phase}
use Rattle.commands.specs.declared.replies.Refusal.TheVariants.{Finished, NoSavePoint}
use Rattle.ledger.specs.Answer.{refused, moved, step_choices, stop_choices, answer_choices, answer_move}
use Rattle.ledger.specs.History.{phase, is_running, is_finished, is_open, last_save}
use Rattle.ledger.specs.Ledger.{Event, Did, Journey, journey_at, history, is_in, may_do}
use Rattle.ledger.specs.Laws.{HasOneStep}
use Rattle.ledger.specs.Recovery.{last_save_of}
use Rattle.ledger.proofs.Moves.{seen, find-first}
use Rattle.recovery.proofs.AskLemmas.{Moves}

-- a journey that is in some phase exists
pub record IsThere (passes : Phase → Bool) (l : List Event) (j : ℕ) : Type 0 where
  pub journey : Journey
  pub at : journey_at l j ≡ Some journey
  pub here : passes (phase journey.plan (history l j)) ≡ true

pub is_there : (passes : Phase → Bool) (l : List Event) (j : ℕ) → is_in passes l j ≡ true
    → IsThere passes l j
is_there passes l j is = grind arith

-- a running journey is not finished
run-unfinished : (p : Phase) → is_running p ≡ true → is_finished p ≡ false
run-unfinished p e = grind arith

-- a stop of a running journey turns it to its last save-point
pub stop-moves : (l : List Event) (j : ℕ) → is_in is_running l j ≡ true
    → Moves l (Stop j) j (Turn (last_save_of l j) cause.Stop)
stop-moves l j runs =
    let t = is_there is_running l j runs in
    let a = t.journey in
    let h = history l j in
    let target : last_save a.plan h ≡ last_save_of l j =
    sym (ap (λ o. unwrap_or (option_map (λ (b : Journey). last_save b.plan h) o) 0) t.at) in
    let may : may_do l j (Turn (last_save a.plan h) cause.Stop) a ≡ true =
    and_from _ _ t.here (eq-eqb _ _ refl) in
    record {
      journey = a;
      at = t.at;
      told =
          ap (answer_move l j stop_choices NoSavePoint) (seen l None j a t.at refl)
          ∙ ap (λ v. if v then refused Finished
          else answer_choices l j a (stop_choices a.plan h) NoSavePoint)
          (run-unfinished _ t.here)
          ∙ ap (λ o. unwrap_or (option_map (moved a.plan h j) o) (refused NoSavePoint))
          (find-first (λ next. may_do l j next a) (Turn (last_save a.plan h) cause.Stop) [] may)
          ∙ ap (λ p. moved a.plan h j (Turn p cause.Stop)) target;
    }

-- an answer with this event is the answer for this item
event-moved : (l : List Event) (j : ℕ) (a : Journey) (x : Item)
    → (answer_move l j step_choices NoSavePoint (Some a)).event ≡ Some (Did j x)
    → answer_move l j step_choices NoSavePoint (Some a) ≡ moved a.plan (history l j) j x
event-moved l j a x is =
    go (is_finished (phase a.plan (history l j)))
    (find (λ next. may_do l j next a) (step_choices a.plan (history l j))) is
  where
    go : (v : Bool) (o : Option Item)
        → (if v then refused Finished
        else unwrap_or (option_map (moved a.plan (history l j) j) o) (refused NoSavePoint)).event
        ≡ Some (Did j x)
        → (if v then refused Finished
        else unwrap_or (option_map (moved a.plan (history l j) j) o) (refused NoSavePoint))
        ≡ moved a.plan (history l j) j x
    go v o e = grind arith

-- a step of an open journey makes its one step
pub step-moves : (l : List Event) (j : ℕ) → is_in is_open l j ≡ true → (one : HasOneStep l j)
    → Moves l (Step j) j one.step
step-moves l j unfinished one =
    let t = is_there is_open l j unfinished in
    let sees = ap (answer_move l j step_choices NoSavePoint) (seen l None j t.journey t.at refl) in
    record {
      journey = t.journey;
      at = t.at;
      told =
          sees
          ∙ event-moved l j t.journey one.step
          (ap (λ o. (answer_move l j step_choices NoSavePoint o).event) (sym t.at)
          ∙ one.answered);
    }

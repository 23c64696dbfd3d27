-- The result of a journey's move in a book in memory is what the rules answer. For steps, turns and save-points.
use Rattle.std.proofs.Common.{◌≡◌, ℕ, suc, ◌-◌, ◌<◌, Bool, true, false, List, [], ◌∷◌, length, get_or, map, refl, ap, sym, ◌∙◌, subst, arith, nat_le, slice_get, slice_index, Option, Some, None, option_map, Result, IsTrue}
use Rattle.std.specs.Prelude.{unwrap_or}
use Rattle.std.proofs.lemmas.Option.{same_Some, slice_get_read}
use Rattle.allotment.specs.Want.{Wanted}
use Rattle.allotment.specs.declared.cells.Cell.{Cell}
use Rattle.plan.specs.PlanModel.{Planned}
use Rattle.plan.specs.Rules as rules
use Rattle.commands.specs.declared.items.Cause.TheVariants as cause
use Rattle.commands.specs.declared.items.Cursor.{Cursor}
use Rattle.commands.specs.declared.items.Item.{Item}
use Rattle.commands.specs.declared.items.Item.TheVariants as item
use Rattle.commands.specs.declared.items.Phase.{Phase}
use Rattle.commands.specs.declared.items.Phase.TheVariants.{Run, Back, Ended, Undone}
use Rattle.commands.specs.declared.replies.Refusal.{Refusal}
use Rattle.commands.specs.declared.replies.Refusal.TheVariants.{NoJourney, NoSave, NoSavePoint}
use Rattle.ledger.specs.Answer.{State, answer, answer_within, is_request}
use Rattle.ledger.specs.Replies.{Answer, abort_choices, answer_move, refused, save_choices, seen_journey, step_choices, stop_choices}
use Rattle.ledger.specs.Ledger as l
use Rattle.ledger.specs.Ledger.{Event, journey_at, history, allotment, held, fits, has_free}
use Rattle.ledger.specs.History.{net, last_of, position_of, refusals, phase, is_finished}
use Rattle.ledger.specs.AnswerChanges.{moves}
use Rattle.ledger.specs.Cursors.{cursor_of, marks_of}
use Rattle.ledger.proofs.Answering.{step-fits, step-refused, step-back}
use Rattle.ledger.proofs.Free.{has_free-by_held, fits-by_test}
use Rattle.ledger.proofs.Histories.{follows}
use Rattle.ledger.proofs.Moves.{move-finished, seen}
use Rattle.ledger.proofs.Positions.{last_standing, back_above}
use Rattle.ledger.proofs.Taken.{refused_target_by-marks}
use Rattle.saga_core.specs.Views.{Places}
use Rattle.memory_book.specs.MemoryStock.{has_free_in, fits_in_stock, fits_some}
use Rattle.memory_book.specs.MemoryNext.{motion_said, request_for, save_said, step_said, turn_said}
use Rattle.memory_book.specs.declared.next.Motion.{Motion}
use Rattle.memory_book.specs.declared.next.Motion.TheVariants.{Step, Abort, Stop, Save}
use Rattle.plan.specs.declared.turns.Turn.TheVariants as turn
use Rattle.saga_core.proofs.RulingLemmas.{abort_ruled, save_ruled, stop_ruled}
use Rattle.saga_core.specs.Rulings.{Fits}
use Rattle.std.specs.FinSet as set
use Rattle.std.specs.Ordering.{nat_cmp}
use Rattle.memory_book.specs.Memory.{begun_as, Tells, StandsFor, IsSeenAt, IsMove}
use Rattle.memory_book.proofs.StandLemmas.{journey_at-kept}
use Rattle.memory_book.specs.declared.journeys.Journey.{Journey}
use Rattle.memory_book.specs.declared.mem_book.MemBook.{MemBook}

-- What fits.

-- a want fits by the stock exactly if it fits by the ledger
pub fits-stock : (m : MemBook) (s : State) → StandsFor m s → (w : Wanted)
    → fits_in_stock m.stock w ≡ fits s.ledger (Some w)
fits-stock m s here w = fits-by_test s.ledger w (has_free_in m.stock w.count) each
  where
    go : (count h : ℕ) (allotted : Option ℕ)
        → unwrap_or (option_map (λ (p : Places). nat_le count p.free)
        (option_map (λ (n : ℕ). record { allot = n; free = n - h }) allotted)) false
        ≡ unwrap_or (option_map (λ n. nat_le count (n - h)) allotted) false
    go count h None = refl
    go count h (Some n) = refl

    each : (x : Cell) → has_free_in m.stock w.count x ≡ has_free s.ledger w.count x
    each x =
        ap (λ (o : Option Places).
        unwrap_or (option_map (λ (p : Places). nat_le w.count p.free) o) false) (here.stock x)
        ∙ go w.count (held s.ledger x) (allotment s.ledger x)
        ∙ sym (has_free-by_held s.ledger w.count x here.legal)

-- Moves.

-- the last element of a list, read at its last index
last-index : (ts : List (ℕ × ℕ)) (t : ℕ × ℕ) → last_of ts ≡ Some t
    → slice_index (map (λ (u : ℕ × ℕ). u.1) ts) (length ts - 1) ≡ t.1
last-index [] t e = cc
last-index (u ∷ []) t e = let is : u ≡ t = cc in ap (λ (v : ℕ × ℕ). v.1) is
last-index (u ∷ v ∷ ts) t e =
    let n : length (u ∷ v ∷ ts) - 1 ≡ suc (length (v ∷ ts) - 1) = omega arith in
    ap (slice_index (map (λ (w : ℕ × ℕ). w.1) (u ∷ v ∷ ts))) n ∙ last-index (v ∷ ts) t e

-- for a journey in a ledger, with what is kept of it
module _ (m : MemBook) (s : State) (here : StandsFor m s) (j : ℕ) (a : l.Journey)
    (at : journey_at s.ledger j ≡ Some a) where
  -- its items
  abbrev h : List Item
  h = history s.ledger j

  -- its cursor
  abbrev c : Cursor
  c = cursor_of a.plan (history s.ledger j)

  -- the answer to a step: by the phase, and by whether the next want fits
  step-by_phase : (p : Phase) → phase a.plan h ≡ p → (fit : Bool)
      → (p ≡ Run → fit ≡ fits s.ledger (rules.next_want a.plan c.pos c.used))
      → Fits j a.plan c (answer_move s.ledger j step_choices NoSavePoint (Some a))
      (step_said a.plan (record c { phase = p }) (marks_of h)
      (map (λ (t : ℕ × ℕ). t.1) (net h)) fit)
  step-by_phase Run e true is =
      step-fits s.ledger j a here.legal at e (sym (is refl))
  step-by_phase Run e false is =
      step-refused s.ledger j a here.legal at e (sym (is refl))
      ∙ ap (λ p. moves j a.plan c (item.Turn p cause.Refused))
      (refused_target_by-marks a.plan h (follows s.ledger here.legal j a at))
  step-by_phase (Back q) e fit is =
      let f = follows s.ledger here.legal j a at in
      let above : 0 < position_of h = omega (arith, (back_above a.plan h q f e).0) in
      let last = last_standing a.plan h f above in
      step-back s.ledger j a q (position_of h) last.0 here.legal at e last.1
      ∙ ap (λ o. moves j a.plan c (item.Compensation (position_of h) o))
      (sym (last-index (net h) (position_of h, last.0) last.1))
  step-by_phase Ended e fit is = move-finished s.ledger j step_choices NoSavePoint a (ap is_finished e)
  step-by_phase Undone e fit is = move-finished s.ledger j step_choices NoSavePoint a (ap is_finished e)

-- The book's own moves.

-- whether an optional want fits
pub fits_some-stock : (m : MemBook) (s : State) → StandsFor m s → (o : Option Wanted)
    → fits_some m.stock o ≡ fits s.ledger o
fits_some-stock m s here None = refl
fits_some-stock m s here (Some w) = fits-stock m s here w

-- two reads of one place give the same journey
pub same_item : (ks : List Journey) (place : ℕ) (a k : Journey) → place < length ks
    → a ≡ get_or ks place a → slice_get ks place ≡ Some k → a ≡ k
same_item ks place a k within is at =
    same_Some a k (sym (slice_get_read ks (length ks) place a refl within is) ∙ at)

-- the ruling on what is kept of the journey at a place is what the rules answer to who sees it
pub seen-move : (m : MemBook) (who : Option (List ℕ)) (s : State) (id place : ℕ) (k : Journey)
    (next : Result Item Refusal) (choices : Planned → List Item → List Item) (otherwise : Refusal)
    (said : Planned → Cursor → set.FinSet nat_cmp → List ℕ → Result Item Refusal)
    → StandsFor m s → IsSeenAt m who id place → k ≡ get_or m.journeys.items place k
    → next ≡ said k.plan k.cursor k.marks k.taken.items
    → (journey_at s.ledger (suc place) ≡ Some (begun_as k) → Tells k (suc place) (history s.ledger (suc place))
    → Fits (suc place) k.plan (cursor_of k.plan (history s.ledger (suc place)))
    (answer_move s.ledger (suc place) choices otherwise (Some (begun_as k)))
    (said k.plan (cursor_of k.plan (history s.ledger (suc place)))
    (marks_of (history s.ledger (suc place)))
    (map (λ (t : ℕ × ℕ). t.1) (net (history s.ledger (suc place))))))
    → IsMove m place (answer_move s.ledger id choices otherwise (seen_journey s.ledger who id)) next
seen-move m who s id place k next choices otherwise said here is read kept ruled other there =
    let at = slice_get_read m.journeys.items _ place k refl is.within read in
    let told = here.told place k at in
    let begun = journey_at-kept m s here place k at in
    let h : List Item = history s.ledger (suc place) in
    let answered : answer_move s.ledger id choices otherwise (seen_journey s.ledger who id)
    ≡ answer_move s.ledger (suc place) choices otherwise (Some (begun_as k)) =
    ap (λ j. answer_move s.ledger j choices otherwise (seen_journey s.ledger who j)) is.number
    ∙ ap (answer_move s.ledger (suc place) choices otherwise)
    (seen s.ledger who (suc place) (begun_as k) begun (is.seen k at)) in
    let made : next
    ≡ said k.plan (cursor_of k.plan h) (marks_of h) (map (λ (u : ℕ × ℕ). u.1) (net h)) =
    kept ∙ (λ i. said k.plan (told.cursor i) (told.marks i) (told.taken i)) in
    subst (λ (o : Journey). Fits (suc place) o.plan o.cursor
    (answer_move s.ledger id choices otherwise (seen_journey s.ledger who id)) next)
    (same_item m.journeys.items place k other is.within read there)
    (subst (λ (f : Cursor × Answer × Result Item Refusal). Fits (suc place) k.plan f.0 f.1 f.2)
    (λ i. (sym told.cursor i, sym answered i, sym made i)) (ruled begun told))

-- the ruling on a motion of the journey at a place is what the rules answer to who sees it
pub motion-move : (m : MemBook) (who : Option (List ℕ)) (s : State) (id place : ℕ) (k : Journey) (motion : Motion)
    (next : Result Item Refusal) (fit : Bool) → StandsFor m s → IsSeenAt m who id place
    → k ≡ get_or m.journeys.items place k
    → next ≡ motion_said motion k.plan k.cursor k.marks k.taken.items fit
    → ((o : Journey) → slice_get m.journeys.items place ≡ Some o → o.cursor.phase ≡ Run
    → fit ≡ fits_some m.stock (rules.next_want o.plan o.cursor.pos o.cursor.used))
    → IsMove m place (answer_within s.ledger who (request_for motion id)) next
motion-move m who s id place k Step next fit here is read said tests =
    seen-move m who s id place k next step_choices NoSavePoint
    (λ p c ms ts. step_said p c ms ts fit) here is read said
    (λ there told.
    let h : List Item = history s.ledger (suc place) in
    step-by_phase m s here (suc place) (begun_as k) there (phase k.plan h) refl fit
    (λ run. tests k (slice_get_read m.journeys.items _ place k refl is.within read)
    (ap (λ (c : Cursor). c.phase) told.cursor ∙ run)
    ∙ ap (λ (c : Cursor). fits_some m.stock (rules.next_want k.plan c.pos c.used)) told.cursor
    ∙ fits_some-stock m s here (rules.next_want k.plan (position_of h) (refusals h))))
motion-move m who s id place k (Abort q) next fit here is read said tests =
    seen-move m who s id place k next (abort_choices q) NoSavePoint (λ p c ms ts. turn_said p c ms (turn.Asked q) cause.Asked)
    here is read said (λ there told. abort_ruled s.ledger here.legal (suc place) (begun_as k) there q)
motion-move m who s id place k Stop next fit here is read said tests =
    seen-move m who s id place k next stop_choices NoSavePoint (λ p c ms ts. turn_said p c ms turn.Stop cause.Stop)
    here is read said (λ there told. stop_ruled s.ledger here.legal (suc place) (begun_as k) there)
motion-move m who s id place k Save next fit here is read said tests =
    seen-move m who s id place k next save_choices NoSave (λ p c ms ts. save_said p c ms)
    here is read said (λ there told. save_ruled s.ledger here.legal (suc place) (begun_as k) there)

-- a motion of a journey that the asker does not see is refused
pub motion-unseen : (l : List Event) (who : Option (List ℕ)) (id : ℕ) (motion : Motion) → seen_journey l who id ≡ None
    → answer l who (request_for motion id) ≡ refused NoJourney
motion-unseen l who id motion none = grind arith

-- a request for a motion keeps the limits
pub motion-good : (motion : Motion) (id : ℕ) → IsTrue (is_request (request_for motion id))
motion-good motion id = grind arith

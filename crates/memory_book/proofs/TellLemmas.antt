-- What is kept of a journey agrees with its history after one more item. For the moves of a book in memory.
use Rattle.std.proofs.Common.{◌≡◌, ℕ, ◌-◌, Bool, List, [], ◌∷◌, ◌++◌, length, map, take, ap, sym, ◌∙◌, arith, ◌==◌, ◌&&◌, ◌||◌, nat_le, IsTrue}
use Rattle.std.specs.FinSet as set
use Rattle.std.specs.Ordering.{nat_cmp}
use Rattle.std.proofs.lemmas.List.{length-append, map-append}
use Rattle.std.proofs.Math.Seq.{take-append_seam}
use Rattle.plan.specs.PlanModel.{Planned}
use Rattle.plan.specs.Marks.{is_taken_in, same_marks}
use Rattle.commands.specs.declared.items.Cursor.{Cursor}
use Rattle.commands.specs.declared.items.Item.{Item}
use Rattle.commands.specs.declared.items.Item.TheVariants.{Transaction, Compensation, Turn, Save}
use Rattle.ledger.specs.History.{net, position_of, may_come}
use Rattle.ledger.specs.Ledger as l
use Rattle.ledger.proofs.Standing.{net-transaction, net-turn, net-save}
use Rattle.ledger.specs.JourneyChanges.{cursor_after}
use Rattle.ledger.specs.Cursors.{cursor_of, marks_of}
use Rattle.ledger.proofs.Histories.{Follows}
use Rattle.ledger.proofs.Items.{cursor_of-more, net-compensation}
use Rattle.ledger.proofs.Taken.{marks_of-save, marks_of-compensation, marks_of-transaction, marks_of-turn}
use Rattle.memory_book.specs.MemoryJourneys.{taken_after, stands_after}
use Rattle.memory_book.specs.Memory.{Tells, IsSameJourney, MakesOne}
use Rattle.memory_book.specs.declared.journeys.Journey.{Journey}

-- the option of a step that stands
abbrev option_of : ℕ × ℕ → ℕ
option_of t = t.1

-- a list with one appended is the list again without its last element
take-push : (xs : List ℕ) (x : ℕ) → take (length (xs ++ x ∷ []) - 1) (xs ++ x ∷ []) ≡ xs
take-push xs x =
    let n : length (xs ++ x ∷ []) - 1 ≡ length xs = omega (arith, length-append xs (x ∷ [])) in
    ap (λ k. take k (xs ++ x ∷ [])) n ∙ take-append_seam xs (x ∷ [])

-- the options of the steps that stand, after one more item
pub taken-more : (plan : Planned) (h : List Item) (may_fit : Bool) (x : Item) (taken : List ℕ)
    → Follows plan h → IsTrue (may_come plan h may_fit x) → taken ≡ map option_of (net h)
    → taken_after x taken ≡ map option_of (net (h ++ x ∷ []))
taken-more plan h may_fit (Transaction i c) taken f may is =
    ap (λ k. k ++ c ∷ []) is ∙ sym (map-append option_of (net h) ((i, c) ∷ []))
    ∙ ap (map option_of) (sym (net-transaction h i c))
taken-more plan h may_fit (Compensation i c) taken f may is =
    let left = map option_of (net (h ++ Compensation i c ∷ [])) in
    let whole : taken ≡ left ++ c ∷ [] =
    is ∙ ap (map option_of) (net-compensation plan h may_fit i c f may)
    ∙ map-append option_of (net (h ++ Compensation i c ∷ [])) ((i, c) ∷ []) in
    ap (λ k. take (length k - 1) k) whole ∙ take-push left c
taken-more plan h may_fit (Turn p cause) taken f may is =
    is ∙ ap (map option_of) (sym (net-turn h p cause))
taken-more plan h may_fit (Save p) taken f may is =
    is ∙ ap (map option_of) (sym (net-save h p))

-- the save-points that stand, after one more item
pub marks-more : (plan : Planned) (h : List Item) (may_fit : Bool) (x : Item)
    (old new : set.FinSet nat_cmp) (pos : ℕ)
    → Follows plan h → IsTrue (may_come plan h may_fit x) → old ≡ marks_of h
    → pos ≡ (cursor_after plan (cursor_of plan h) x).pos
    → ((q : ℕ) → is_taken_in new q ≡ stands_after x pos (is_taken_in old) q)
    → new ≡ marks_of (h ++ x ∷ [])
marks-more plan h may_fit (Transaction i c) old new pos f may is at each =
    same_marks new old each ∙ is ∙ sym (marks_of-transaction h i c)
marks-more plan h may_fit (Compensation i c) old new pos f may is at each =
    marks_of-compensation plan h may_fit i c new f may
    (λ q. each q
    ∙ ap (λ n. nat_le q n && is_taken_in old q) at
    ∙ ap (λ ms. nat_le q (position_of h - 1) && is_taken_in ms q) is)
marks-more plan h may_fit (Turn p cause) old new pos f may is at each =
    same_marks new old each ∙ is ∙ sym (marks_of-turn h p cause)
marks-more plan h may_fit (Save p) old new pos f may is at each =
    marks_of-save plan h may_fit p new f may
    (λ q. each q ∙ ap (λ ms. (q == p) || is_taken_in ms q) is)

-- after one more item what is kept of a journey agrees with the history with that item
pub tells-more : (old new : Journey) (x : Item) (j : ℕ) (h : List Item) (may_fit : Bool)
    → Tells old j h → MakesOne old new x → Follows old.plan h
    → IsTrue (may_come old.plan h may_fit x) → Tells new j (h ++ x ∷ [])
tells-more old new x j h may_fit told made f may =
    let cursor : new.cursor ≡ cursor_after old.plan (cursor_of old.plan h) x =
    made.cursor ∙ ap (λ c. cursor_after old.plan c x) told.cursor in
    record {
      number = made.number ∙ told.number;
      items = made.items ∙ ap (λ k. k ++ x ∷ []) told.items;
      cursor =
          cursor ∙ sym (cursor_of-more old.plan h may_fit x f may)
          ∙ ap (λ (b : l.Journey). cursor_of b.plan (h ++ x ∷ [])) (sym made.begun);
      marks =
          marks-more old.plan h may_fit x old.marks new.marks new.cursor.pos f may told.marks
          (ap (λ (c : Cursor). c.pos) cursor) made.marks;
      taken = made.taken ∙ taken-more old.plan h may_fit x old.taken.items f may told.taken;
    }

-- what is kept of the same journey agrees with the same history
pub tells-same : (old new : Journey) (j : ℕ) (h : List Item) → IsSameJourney old new → Tells old j h
    → Tells new j h
tells-same old new j h same told = grind arith

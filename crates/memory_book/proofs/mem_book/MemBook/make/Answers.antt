-- More than 60 lines: three ways out and what three calls ask for.
use Rattle.std.proofs.Common.{◌+◌, suc, refl, ap, sym, subst, ◌∙◌, append-nil}
use Rattle.std.specs.Option.{option_copied}
use Rattle.std.specs.Vec.{with_item}
use Rattle.std.proofs.lemmas.Option.{slice_get_read}
use Rattle.ledger.specs.AnswerChanges.{moves}
use Rattle.memory_book.specs.Memory.{IsCarriedOut, StandsFor}
use Rattle.memory_book.specs.declared.journeys.Journey.{Journey}
use Rattle.memory_book.proofs.GrowthLemmas.{at_error}
use Rattle.memory_book.proofs.MoveLemmas.{carried_out-made, moved}
use Rattle.memory_book.proofs.ReadyLemmas.{in_plan, keeps-reserved, next_within, next-same, same_by}
use Rattle.memory_book.proofs.StepLemmas.{same_item}
use Rattle.memory_book.proofs.mem_book.MemBook.make.Goals as goal

-- the item is next for the journey at this place
pub cursor_after-cursor-requires-clause-within : goal.cursor_after-cursor-requires-clause-within
cursor_after-cursor-requires-clause-within c =
    let old = c.index_mut-journey.result.now in
    next_within old.plan old.cursor old.taken.items c.args.item old.placed
    (c.requires.next old (slice_get_read c.args.self.now.journeys.items _ c.args.place old refl
    c.requires.within c.index_mut-journey.ensures.value))

-- no capacity was reserved, and nothing changed
pub returns-in_err-reserve : goal.returns-in_err-reserve
returns-in_err-reserve c s here _ _ _ =
    let m = c.args.self.now in
    let kept = c.reserve.new.self in
    let same = c.reserve.ensures.same in
    let n = record m { journeys = with_item m.journeys c.args.place kept } in
    at_error _ (StandsFor n s) _ c.from_residual.ensures.0
    (keeps-reserved m n s c.args.place c.index_mut-journey.result.now kept here c.requires.within
    c.index_mut-journey.ensures.value refl
    (same_by _ kept same.number same.begun same.items same.cursor same.marks same.taken)
    refl refl (λ agent key. refl) refl)

-- capacity was reserved, and nothing else changed
pub returns-in_err-keep : goal.returns-in_err-keep
returns-in_err-keep c s here _ _ _ =
    let m = c.args.self.now in
    let kept = c.reserve.new.self in
    let same = c.reserve.ensures.same in
    let n = record m { journeys = with_item m.journeys c.args.place kept; answers = c.keep.new.self } in
    at_error _ (StandsFor n s) _ c.from_residual-in_err-keep.ensures.0
    (keeps-reserved m n s c.args.place c.index_mut-journey.result.now kept here c.requires.within
    c.index_mut-journey.ensures.value refl
    (same_by _ kept same.number same.begun same.items same.cursor same.marks same.taken)
    refl refl c.in_err-keep.ensures.memory refl)

-- the next item is in the plan
pub change_stock-requires : goal.change_stock-requires
change_stock-requires c =
    let kept = c.reserve.new.self in
    let same = c.reserve.ensures.same in
    record {
      in_plan =
          in_plan kept.plan kept.cursor kept.taken.items c.args.item kept.placed
          (next-same c.args.self.now c.args.place c.index_mut-journey.result.now kept c.args.item
          c.requires.within c.index_mut-journey.ensures.value same.begun same.cursor c.requires.next);
    }

-- the item is still next
pub make-requires-clause-next : goal.make-requires-clause-next
make-requires-clause-next c =
    let same = c.reserve.ensures.same in
    next-same c.args.self.now c.args.place c.index_mut-journey.result.now c.reserve.new.self
    c.args.item c.requires.within c.index_mut-journey.ensures.value same.begun same.cursor
    c.requires.next

-- the item was made
pub returns : goal.returns
returns c s here k there may =
    let m = c.args.self.now in
    let place = c.args.place in
    let x = c.args.item in
    let ask = option_copied c.args.ask in
    let old = c.index_mut-journey.result.now in
    let read = c.index_mut-journey.ensures.value in
    let same = c.reserve.ensures.same in
    let n = record m {
      journeys = with_item m.journeys place c.make.new.self;
      stock = c.change_stock.new.stock;
      answers = c.keep.new.self;
      events = m.events + 1;
    } in
    rw (c.moved-2.ensures.moved ∙ sym c.moved.ensures.moved)
    (subst (λ (o : Journey). IsCarriedOut n s ask (moves (suc place) o.plan o.cursor x) c.moved.result)
    (same_item m.journeys.items place old k c.requires.within read there)
    (carried_out-made m n s ask place old c.reserve.new.self c.make.new.self x c.moved.result here may
    (record {
      at = slice_get_read m.journeys.items _ place old refl c.requires.within read;
      written = refl;
      same = same_by old c.reserve.new.self same.number same.begun same.items same.cursor same.marks same.taken;
      made = c.make.ensures.made;
      stock = c.change_stock.ensures.changed;
      parts = record {
        batches = sym (append-nil m.batches.items);
        kept = c.in_ok-keep.ensures.kept;
        events = refl;
      };
      replied = c.moved.ensures.moved ∙ ap (moved old.id x) c.cursor_after-cursor.ensures.after;
    })))

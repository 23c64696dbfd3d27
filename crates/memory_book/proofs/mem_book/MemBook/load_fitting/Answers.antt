use Rattle.std.proofs.Common.{◌+◌, ◌<◌, ◌≤◌, ◌++◌, ◌∷◌, [], None, refl, sym, subst, ◌∙◌, arith}
use Rattle.std.specs.Option.{option_copied}
use Rattle.commands.specs.declared.replies.Refusal.TheVariants.{Limit}
use Rattle.ledger.specs.Answer.{most_events}
use Rattle.ledger.specs.Replies.{answer_new}
use Rattle.memory_book.specs.MemoryStock.{LoadsRows}
use Rattle.memory_book.specs.Memory.{StandsFor}
use Rattle.memory_book.proofs.GrowthLemmas.{carried_out-refused, at_error, keeps_book, limited-full, room_left}
use Rattle.memory_book.proofs.LoadLemmas.{carried_out-loaded}
use Rattle.memory_book.proofs.mem_book.MemBook.load_fitting.Goals as goal

-- the ledger is full
pub returns-then-is_full : goal.returns-then-is_full
returns-then-is_full c s here due =
    let m = c.args.self.now in
    let batch = c.args.batch.now in
    let most : most_events ≤ m.events = c.is_full.ensures.full.0 c.if-is_full.true in
    carried_out-refused m s (option_copied c.args.ask) _ Limit here
    (due ∙ limited-full s.ledger (answer_new batch.name batch.rows None) refl
    (omega (arith, here.events))) _ refl

-- capacity was reserved, and nothing else changed
pub returns-in_err-keep : goal.returns-in_err-keep
returns-in_err-keep c s here _ =
    let m = c.args.self.now in
    let n = record m { batches = c.reserve.new.self; answers = c.keep.new.self } in
    at_error _ (StandsFor n s) _ c.from_residual-in_err-keep.ensures.0
    (keeps_book m n s here refl here.told refl c.reserve.ensures.items c.in_err-keep.ensures.memory refl)

-- the batch was loaded
pub returns : goal.returns
returns c s here due =
    let m = c.args.self.now in
    let batch = c.args.batch.now in
    let ask = option_copied c.args.ask in
    let room : m.events < most_events =
    room_left c.is_full.result _ m.events c.is_full.ensures.full c.if-is_full.false in
    rw (c.loaded-3.ensures.loaded ∙ sym c.loaded-2.ensures.loaded) (carried_out-loaded m
    (record m {
      stock = c.in_ok-stock.stock;
      batches = c.push_reserved.new.self;
      answers = c.keep.new.self;
      events = m.events + 1;
    })
    s ask batch c.loaded-2.result here room c.rows.ensures.limits due
    (record {
      replied = c.loaded-2.ensures.loaded;
      journeys = refl;
      stock =
          subst (LoadsRows m.stock c.in_ok-stock.stock) c.rows.ensures.rows c.in_ok-stock.ensures.loaded;
      parts = record {
        batches = c.push_reserved.ensures.items
            ∙ (λ i. c.reserve.ensures.items i ++ c.in_ok-copy.ensures.same i ∷ []);
        kept = c.in_ok-keep.ensures.kept;
        events = refl;
      };
    }))

use Rattle.std.proofs.Common.{◌≡◌, ◌+◌, ◌<◌, ◌++◌, ◌∷◌, [], refl, ap, sym, ◌∙◌, subst, append-nil, arith, map, IsTrue}
use Rattle.std.specs.Option.{option_copied}
use Rattle.plan.specs.PlanModel.{is_plan}
use Rattle.ledger.specs.Answer.{most_events}
use Rattle.memory_book.specs.Memory.{begun_as, TellEach, StandsFor}
use Rattle.memory_book.proofs.BeginLemmas.{owner, carried_out-begun}
use Rattle.memory_book.proofs.GrowthLemmas.{at_error, keeps_book, room_left}
use Rattle.memory_book.proofs.mem_book.MemBook.begin.Goals as goal
use Rattle.memory_book.proofs.mem_book.MemBook.begin.Goals.{in-Some, in-None}

-- capacity was reserved, and nothing else changed
pub returns-in_err-keep : goal.returns-in_err-keep
returns-in_err-keep c s here =
    let m = c.args.self.now in
    let n = record m { journeys = c.reserve.new.self; answers = c.keep.new.self } in
    at_error _ (StandsFor n s) _ c.from_residual-in_err-keep.ensures.0
    (keeps_book m n s here (ap (map begun_as) c.reserve.ensures.items)
    (subst (λ js. TellEach js s.ledger) (sym c.reserve.ensures.items) here.told)
    refl refl c.in_err-keep.ensures.memory refl)

-- the journey was begun
pub returns : goal.returns
returns c s here =
    let m = c.args.self.now in
    let ask = option_copied c.args.ask in
    let owned : c.match-ask.agent ≡ owner ask = elim c.match-ask.branch [
      | in-Some w ↦ rw w.in-Some.is (w.agent-is ∙ w.agent-agent.ensures.agent)
      | in-None w ↦ rw w.in-None.is (w.agent-is ∙ w.house-agent.ensures.house)
    ] in
    let good : IsTrue (is_plan c.args.plan.now) =
    subst (λ p. IsTrue (is_plan p)) c.in_ok-plan.ensures.same c.new-journey.ensures.limits in
    let room : m.events < most_events =
    room_left c.is_full.result _ m.events c.is_full.ensures.full c.if-is_full.false in
    carried_out-begun m
    (record m { journeys = c.push_reserved.new.self; answers = c.keep.new.self; events = m.events + 1 })
    s ask c.args.plan.now c.len.result here good
    (record {
      counted = omega arith;
      journey = c.new-journey.result;
      grown =
          c.push_reserved.ensures.items ∙ ap (λ js. js ++ c.new-journey.result ∷ []) c.reserve.ensures.items;
      begun = c.new-journey.ensures.begun ∙ (λ i. record { agent = owned i; plan = c.in_ok-plan.ensures.same i });
      told = c.new-journey.ensures.told;
      stock = refl;
      parts = record {
        batches = sym (append-nil m.batches.items);
        kept = c.in_ok-keep.ensures.kept;
        events = refl;
      };
    })
    room

use Rattle.std.proofs.Common.{refl}
use Rattle.std.proofs.lemmas.Option.{slice_get_read}
use Rattle.memory_book.proofs.StandLemmas.{journey_at-past, is_kept}
use Rattle.memory_book.proofs.mem_book.MemBook.journey_of.Goals as goal

-- the journey at a place has the next number
pub returns-in-Some : goal.returns-in-Some
returns-in-Some c s here =
    let m = c.args.self.now in
    is_kept m s here c.in-Some.place c.index.result.now (slice_get_read m.journeys.items _ c.in-Some.place c.index.result.now refl
    c.in-Some.ensures.within c.index.ensures) c.args.id c.in-Some.ensures.number

-- no journey has the number
pub returns-in-None : goal.returns-in-None
returns-in-None c s here = journey_at-past c.args.self.now s here c.args.id c.in-None.ensures.none

use Rattle.std.proofs.Common.{false}
use Rattle.saga_core.specs.Calls.{Stays}
use Rattle.http_live.specs.InTime.{GivesTurns, TakesSome, instant}
use Rattle.http_live.proofs.serving.serve_turns.Given as goal

-- the turns so far
abbrev pub invariant-loop : goal.invariant-loop
invariant-loop g l =
    let book = g.B.Book in
    let turns = g.T.Turns in record {
      gives : GivesTurns turns.took turns.heard turns.seen l.counter l.fn.turns l.turns;
      turns : TakesSome turns.took turns.heard turns.seen turns.is_at turns.is_by turns.is_pair book.is_sound book.stands book.leaves
          book.may_act book.has_reason false false (instant l.fn.turns l.fn.slots l.fn.book) (instant l.turns l.slots l.book);
      stays : Stays book.is_sound book.leaves book.has_failed l.fn.book l.book;
    }

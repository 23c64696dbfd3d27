use Rattle.std.proofs.Common.{◌≡◌, ◌++◌, List, ℕ, Some}
use Rattle.ledger.specs.Answer.{State}
use Rattle.saga_core.specs.Calls.{Stays}
use Rattle.saga_core.specs.Runs.{Asks}
use Rattle.recovery.specs.Lines.{lines}
use Rattle.recovery.specs.Reading.{to_come}
use Rattle.recovery.specs.LineWorlds.{asks_in}
use Rattle.saga_core.specs.StreamScenes.{scene}
use Rattle.recovery.proofs.ReasonLemmas.{MayStill}
use Rattle.recovery.proofs.ServeLemmas.{SoFar}
use Rattle.recovery.proofs.runs.answer_input.Given as goal

-- the lines so far were answered, and the others are in the rest of the input
abbrev pub invariant-loop-answered : goal.invariant-loop-answered
invariant-loop-answered g l =
    let book = g.B.Book in
    let left = g.R.Read.remaining in
    let contents = g.W.Write.contents in
    record {
      stays : Stays book.is_sound book.leaves book.has_failed l.fn.book l.book;
      so_far : book.is_sound l.book → (s : State) → book.stands l.fn.book s → (input : List ℕ) → left l.fn.reader ≡ Some input
          → SoFar (scene (contents l.fn.writer) (contents l.writer) (book.stands l.book) (book.leaves l.book)) s input (to_come l.unread (left l.reader)) l.answered;
      may_act : book.is_sound l.book → (first : _) (s : State) (later : Asks) (input : List ℕ) → left l.fn.reader ≡ Some input
          → book.may_act first l.fn.book s (asks_in (lines input) ++ later)
          → MayStill (book.may_act first l.book) s input (to_come l.unread (left l.reader)) later;
    }

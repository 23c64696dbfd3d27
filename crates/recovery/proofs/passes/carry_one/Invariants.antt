-- The book has made so many steps of the journey, and the pass goes on with it.
use Rattle.std.proofs.Common.{◌≡◌, true}
use Rattle.ledger.specs.Answer.{State}
use Rattle.ledger.specs.Ledger.{is_in}
use Rattle.saga_core.specs.Calls.{Stays}
use Rattle.recovery.specs.Following.{MayGoOn}
use Rattle.recovery.specs.Growing.{Grew}
use Rattle.recovery.specs.Passes.{goes_on}
use Rattle.recovery.proofs.CarriedOneLemmas.{Carrying}
use Rattle.recovery.proofs.passes.carry_one.Given as goal

abbrev pub invariant-loop-made : goal.invariant-loop-made
invariant-loop-made g l =
    let book = g.B.Book in
    record {
      stays : Stays book.is_sound book.leaves book.has_failed l.fn.book l.book;
      carried : book.is_sound l.book → (following : _) (s : State) → MayGoOn book.stands book.may_act following l.fn.book s
          → is_in (goes_on l.pass) s.ledger l.id ≡ true
          → Grew (MayGoOn book.stands book.may_act following l.book) (Carrying l.pass l.id s.ledger true) s l.made;
    }

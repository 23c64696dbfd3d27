-- What was served is how each world goes on.
use Rattle.std.proofs.Common.{◌≡◌, Result, Ok, Err, IfErr, false}
use Rattle.commands.specs.declared.replies.Fault.{Fault}
use Rattle.commands.specs.declared.replies.Fault.TheVariants.{Memory, Store}
use Rattle.http_live.proofs.TurnLemmas.{in_time, no_turn}
use Rattle.http_live.proofs.serving.serve_many.Goals as goal

-- out of memory, no turn was taken
pub returns-in_default-clause-in_time : goal.returns-in_default-clause-in_time
returns-in_default-clause-in_time g c = in_time false false _ _ (g.met.B.Book.settled c.args.book.now) (no_turn _)

pub returns-in_default-new-clause-in_time : goal.returns-in_default-new-clause-in_time
returns-in_default-new-clause-in_time g c = in_time false false _ _ (g.met.B.Book.settled c.args.book.now) (no_turn _)

-- all turns were taken, or the store failed at one
pub returns-clause-in_time : goal.returns-clause-in_time
returns-clause-in_time g c = in_time _ _ _ _ (g.met.B.Book.settled c.serve_turns.new.book) c.serve_turns.ensures.turns

-- where the only fault is that of the store, memory did not run out
never_memory : {T : Type 0} (r : Result T Fault) → IfErr r (λ fault. fault ≡ Store) → r ≡ Err Memory → ⊥
never_memory (Ok value) broken is = cc
never_memory (Err Memory) broken is = let bad : Memory ≡ Store = broken in cc
never_memory (Err Store) broken is = cc

pub returns-clause-memory : goal.returns-clause-memory
returns-clause-memory g c = λ is. absurd (never_memory c.serve_turns.result c.serve_turns.ensures.broken is)

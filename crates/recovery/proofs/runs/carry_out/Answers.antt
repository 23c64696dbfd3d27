-- A command that failed leaves the states that the book's contract names.
use Rattle.std.proofs.Common.{Global, Err, arith, None, Ok}
use Rattle.std.proofs.lemmas.Result.{err_from_is_err_and}
use Rattle.recovery.specs.Answering.{AnswersOrder}
use Rattle.saga_core.specs.StreamFaults.{served_fault}
use Rattle.recovery.proofs.ReasonLemmas.{command_fails, same_fault}
use Rattle.recovery.proofs.runs.carry_out.Goals as goal
use Rattle.commands.specs.Request.{Request}
use Rattle.commands.specs.declared.replies.Fault.{Fault}
use Rattle.commands.specs.declared.replies.Reply.{Reply}
use Rattle.ledger.specs.Answer.{State}
use Rattle.saga_core.specs.Books.{KeepsAtMemory, LeavesAtStore}

-- where a command failed, the book represents the state before it, or the store leaves that state or the next one
act_failed : (stood stands : State → Type 0) (leaves : State → State → Type 0) (s : State) (request : Request) (fault : Fault)
    → stood s → KeepsAtMemory {T = Reply} stood stands (Err fault) → LeavesAtStore stood leaves None request (Err fault)
    → AnswersOrder stands leaves s {Z = Global} (Ok request) (Err (served_fault fault))
act_failed stood stands leaves s request fault stands_old memory store = grind arith

pub returns-in_err-act-in-Do-clause-answer : goal.returns-in_err-act-in-Do-clause-answer
returns-in_err-act-in-Do-clause-answer g c = grind (arith, err_from_is_err_and, act_failed)

-- a command that failed had a reason
pub returns-in_err-act-in-Do-clause-reason : goal.returns-in_err-act-in-Do-clause-reason
returns-in_err-act-in-Do-clause-reason g c = grind (arith, err_from_is_err_and, same_fault, command_fails)

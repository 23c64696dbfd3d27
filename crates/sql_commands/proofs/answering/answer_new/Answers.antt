-- The outcome of each command is that of its request.
use Rattle.sql_commands.proofs.Executing.{executes_where}
use Rattle.sql_commands.proofs.answering.answer_new.Goals as goal

pub returns-in-Load : goal.returns-in-Load
returns-in-Load g c = rw c.in-Load.is c.answer_load.ensures

pub returns-in-Begin : goal.returns-in-Begin
returns-in-Begin g c = rw c.in-Begin.is c.answer_begin.ensures

pub returns-in-Step : goal.returns-in-Step
returns-in-Step g c = rw c.in-Step.is c.answer_step.ensures

pub returns-in-Abort : goal.returns-in-Abort
returns-in-Abort g c = rw c.in-Abort.is (executes_where c.answer_move.ensures (λ s due. record { here = due; unfit = tt }))

pub returns-in-Stop : goal.returns-in-Stop
returns-in-Stop g c = rw c.in-Stop.is (executes_where c.answer_move-in-Stop.ensures (λ s due. record { here = due; unfit = tt }))

pub returns-in-Save : goal.returns-in-Save
returns-in-Save g c = rw c.in-Save.is (executes_where c.answer_move-in-Save.ensures (λ s due. record { here = due; unfit = tt }))

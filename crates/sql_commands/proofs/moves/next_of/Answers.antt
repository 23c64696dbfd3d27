-- The ruling on a record that the caller sees is the answer of the rules: a turn, a save-point or a refusal.
use Rattle.std.proofs.Common.{refl, sym, subst, Ok, false}
use Rattle.commands.specs.declared.items.Cause.TheVariants.{Asked, Refused, Stop}
use Rattle.plan.specs.declared.turns.Turn.TheVariants as turn
use Rattle.commands.specs.declared.items.Item.TheVariants.{Turn}
use Rattle.sql_commands.proofs.StepLemmas.{IsSaid, abort_next, save_moves, save_next, step_next, stop_next, turn_moves}
use Rattle.sql_commands.proofs.moves.next_of.Goals as goal

pub returns-in-Turn : goal.returns-in-Turn
returns-in-Turn c =
    record {
      next = λ id s desk. rw c.in-Refused.is (λ who is unfit.
          step_next s desk.legal who id c.args.journey.now is false (unfit who c.args.journey.now is).1 c.decide.result
          c.decide.ensures.one c.decide.ensures.nothing _
          (subst (λ d. IsSaid s id d (Ok (Turn c.in-Turn.target Refused))) (sym c.in-Turn.is) refl));
      kind = tt;
      there = λ runs. refl;
    }

pub returns-in-Abort : goal.returns-in-Abort
returns-in-Abort c =
    record {
      next = λ id s desk who is unfit.
          rw c.in-Abort.is (abort_next s desk.legal who id c.args.journey.now is c.in-Abort.position _ c.turned.ensures.said);
      kind = (let r = c.args.journey.now in rw c.turned.ensures.said (turn_moves r.plan r.cursor r.marks (turn.Asked c.in-Abort.position) Asked));
      there = λ runs. refl;
    }

pub returns-in-Stop : goal.returns-in-Stop
returns-in-Stop c =
    record {
      next = λ id s desk who is unfit.
          rw c.in-Stop.is (stop_next s desk.legal who id c.args.journey.now is _ c.turned-in-Stop.ensures.said);
      kind = (let r = c.args.journey.now in rw c.turned-in-Stop.ensures.said (turn_moves r.plan r.cursor r.marks turn.Stop Stop));
      there = λ runs. refl;
    }

pub returns-in-Save : goal.returns-in-Save
returns-in-Save c =
    record {
      next = λ id s desk who is unfit.
          rw c.in-Save.is (save_next s desk.legal who id c.args.journey.now is _ c.saved.ensures.said);
      kind = (let r = c.args.journey.now in rw c.saved.ensures.said (save_moves r.plan r.cursor r.marks));
      there = λ runs. refl;
    }

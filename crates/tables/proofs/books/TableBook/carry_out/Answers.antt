-- More than 60 lines: four ways out.
use Rattle.std.proofs.Common.{◌≡◌, rules, Err}
use Rattle.std.specs.Option.{option_copied}
use Rattle.commands.specs.Orders.{request_of}
use Rattle.commands.specs.declared.replies.Fault.TheVariants.{Memory, Store}
use Rattle.sql_model.proofs.Accepting.{outcome_keeps}
use Rattle.tables.proofs.CountLemmas.{count_kept}
use Rattle.tables.proofs.FinishedLemmas.{finished-kept}
use Rattle.tables.proofs.SinceLemmas.{executed, not_executed}
use Rattle.tables.proofs.SpelledLemmas.{outcome_spelled}
use Rattle.tables.proofs.books.TableBook.carry_out.Goals as goal

-- the store had failed, so that no call reaches it
pub returns-then-self : goal.returns-then-self
returns-then-self g c =
    record { executes = not_executed g.S.Store c.args.self.now c.args.ask (request_of c.args.command.now) c.if-self.true }

-- the book has not failed, knows of its journeys what it knew, and its connection keeps the state of the command's outcome
pub returns-in-Ok : goal.returns-in-Ok
returns-in-Ok g c =
    let ask = option_copied c.args.ask in
    let asked = request_of c.args.command.now in
    let did = c.answer.ensures.executes in
    record {
      executes = executed g.S.Store c.args.self.now _ c.args.ask asked did.sound did.up
          (λ clean s here m has up. did.rowids clean s here.keeps here.desk m has up)
          (λ s spelled. outcome_spelled s ask asked c.know_limits.ensures.limits spelled c.know_agent.ensures.form) _ c.if-self.false
          (λ clean s here. c.in-Ok.ensures.executes.reply clean s here.keeps here.desk)
          (λ clean s here. let next = outcome_keeps s ask asked here.desk c.know_limits.ensures.limits in record {
            working = here.working;
            known = finished-kept s ask asked c.args.self.now.finished next.legal here.known;
            counted =
                count_kept s ask asked c.in-Ok.answered c.args.self.now.unfinished c.counted_after-self.result c.know_limits.ensures.limits
                here.desk.legal next.legal (c.in-Ok.ensures.executes.reply clean s here.keeps here.desk)
                (c.in-Ok.ensures.new clean s here.desk here.keeps) c.counted_after-self.ensures.count here.counted;
            desk = next;
            keeps = c.in-Ok.ensures.executes.after s here.keeps here.desk;
          })
          (λ clean. tt) (λ clean. tt) (search rules) (λ clean s here spelled short has up failed. absurd (let never = failed in cc));
    }

-- out of memory, the book is as it was
pub returns-in-Err-Memory : goal.returns-in-Err-Memory
returns-in-Err-Memory g c =
    let did = c.answer.ensures.executes in
    let ran_out : c.answer.result ≡ Err Memory = search rules in
    record {
      executes = executed g.S.Store c.args.self.now _ c.args.ask (request_of c.args.command.now) did.sound did.up
          (λ clean s here m has up. did.rowids clean s here.keeps here.desk m has up)
          (λ s spelled. outcome_spelled s (option_copied c.args.ask) (request_of c.args.command.now) c.know_limits.ensures.limits spelled
          c.know_agent.ensures.form) _ c.if-self.false
          (λ clean s here. tt) (λ clean s here. tt)
          (λ clean s here. record {
            working = here.working;
            known = here.known;
            counted = here.counted;
            desk = here.desk;
            keeps = did.memory s here.keeps ran_out;
          })
          (λ clean. tt) (search rules) (λ clean s here spelled short has up failed. absurd (let never = failed in cc));
    }

-- the store failed for a reason, and a crash leaves the old state, or that of the outcome
pub returns-in-Err-Store : goal.returns-in-Err-Store
returns-in-Err-Store g c =
    let did = c.answer.ensures.executes in
    let failed : c.answer.result ≡ Err Store = search rules in
    record {
      executes = executed g.S.Store c.args.self.now _ c.args.ask (request_of c.args.command.now) did.sound did.up
          (λ clean s here m has up. did.rowids clean s here.keeps here.desk m has up)
          (λ s spelled. outcome_spelled s (option_copied c.args.ask) (request_of c.args.command.now) c.know_limits.ensures.limits spelled
          c.know_agent.ensures.form) _ c.if-self.false
          (λ clean s here. tt) (λ clean s here. tt) (λ clean. tt) (λ clean s here. did.left s here.keeps here.desk) (search rules)
          (λ clean s here spelled short has up is. did.store clean s spelled here.keeps here.desk short has up failed);
    }

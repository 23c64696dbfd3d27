-- With an ask there is one more row, that of its reply.
use Rattle.std.proofs.Common.{inl, ◌∙◌, arith}
use Rattle.commands.specs.Texts.{reply_line}
use Rattle.desk_sql.proofs.Quieting.{quiet_alone}
use Rattle.desk_sql.proofs.Rowids.{rowids_fewer}
use Rattle.sql_model.proofs.Quieting.{quiet_up}
use Rattle.sql_commands.proofs.answering.commit_kept.Goals as goal

pub returns-in-None : goal.returns-in-None
returns-in-None g c = rw c.in-None.is (c.commit_event.ensures.commits (reply_line c.args.reply.now) tt)

pub returns-in-Ok : goal.returns-in-Ok
returns-in-Ok g c =
    rw c.in-Some.is (c.commit_event-in-Ok.ensures.commits (reply_line c.args.reply.now) (c.as_str-line.ensures.value ∙ c.in-Ok.ensures.line))

-- nothing was written
pub returns-in-Err : goal.returns-in-Err
returns-in-Err g c =
    let conn = c.args.conn.now in
    record {
      done = λ s next leads keeps. tt;
      memory = λ s keeps ran. keeps;
      store = λ clean s keeps permits has up failed. absurd (cc);
      leaves = record {
        outside = c.requires.outside;
        either = λ s next leads keeps clean db may. inl ((keeps clean).leaves db may);
        rowids = λ clean s keeps fits m has live. rowids_fewer m _ _ (omega arith) has;
        up = quiet_up g.S.Store conn conn (quiet_alone g.S.Store conn);
        less = λ clean. clean;
      };
    }

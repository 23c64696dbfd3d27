-- A known key gets its reply, and a new one that of the request's outcome.
use Rattle.std.proofs.Common.{◌≡◌, None, ap, refl, rules, sym, is_some, not}
use Rattle.commands.specs.Orders.{request_of}
use Rattle.sql_commands.proofs.Executing.{fails_as, reads_alone, reads_fail, reads_then, says_as}
use Rattle.sql_commands.proofs.answering.answer.Goals as goal

-- the key is known: its reply is returned, and nothing changes
pub returns-in-Some : goal.returns-in-Some
returns-in-Some g c =
    let asked = request_of c.args.command.now in
    let read = (rw c.in-Some.is at c.in_ok-known.ensures) in
    record {
      executes = reads_alone (λ s desk. desk) c.requires.outside read
          (λ s desk found. (let it = found.1 asked in record { replied = it.0; same = it.1 }));
      new = λ clean s desk keeps. sym (ap not (read.shows clean s desk keeps).0);
    }

-- the key cannot be looked up
pub returns-in_err-known : goal.returns-in_err-known
returns-in_err-known g c = record {
  executes = reads_fail (λ s desk. desk) (search rules) c.requires.outside c.in_err-known.ensures (λ s desk. tt);
  new = search rules;
}

-- the key is new: the request is executed
pub returns : goal.returns
returns g c =
    let none : c.in_ok-known.known ≡ None = search rules in
    let read = (rw none at c.in_ok-known.ensures) in
    record {
      executes = reads_then (λ s desk. desk) read (says_as c.in_ok-reply.ensures refl) (λ s desk new. record { desk = desk; new = new });
      new = λ clean s desk keeps. sym (ap (λ k. not (is_some k)) (read.shows (c.in_ok-reply.ensures.sound clean) s desk keeps));
    }

pub returns-in_err-reply : goal.returns-in_err-reply
returns-in_err-reply g c =
    let none : c.in_ok-known.known ≡ None = search rules in
    let read = (rw none at c.in_ok-known.ensures) in
    record {
      executes = reads_then (λ s desk. desk) read (fails_as (search rules) c.in_err-reply.ensures) (λ s desk new. record { desk = desk; new = new });
      new = search rules;
    }

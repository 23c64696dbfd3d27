-- What the rules answer, by the record that is read, is executed.
use Rattle.std.proofs.Common.{◌≡◌, Err, sym, subst, rules, option_copied}
use Rattle.commands.specs.declared.items.Phase.TheVariants.{Run}
use Rattle.commands.specs.declared.replies.Fault.TheVariants.{Store}
use Rattle.saga_core.specs.declared.records.Record.{Record}
use Rattle.sql_commands.specs.Moving.{IsMade, IsUnfit}
use Rattle.ledger.specs.Answer.{asker}
use Rattle.sql_commands.proofs.ComingLemmas.{due_read, has_stand, read_seen, start_made}
use Rattle.sql_commands.proofs.Executing.{executes_where, reads_fail, reads_never, reads_then}
use Rattle.sql_commands.proofs.LoadRows.{not_failed}
use Rattle.sql_commands.proofs.moves.answer_motion.Goals as goal

-- a turn to the start
pub returns-in-Some : goal.returns-in-Some
returns-in-Some g c =
    let ask = option_copied c.args.ask in
    let found = c.args.found.now in
    executes_where (c.make_event.ensures c.args.why)
    (λ s read. subst (IsMade s ask found c.args.why) (sym c.turn-made.ensures.turn)
    (start_made s ask found c.args.why c.in-Some.cause read c.in-Some.ensures.start))

-- what the rules answer by the record
pub returns : goal.returns
returns g c =
    reads_then (λ s read. read.desk) c.in_ok-journey.ensures.read (c.carry_out.ensures c.args.why) (λ s read record_is.
    due_read s (option_copied c.args.ask) c.args.found.now c.args.why c.in_ok-journey.journey c.in_ok-next.next read record_is
    c.in_ok-next.ensures.next)

pub returns-in_err-journey : goal.returns-in_err-journey
returns-in_err-journey g c =
    reads_fail (λ s read. read.desk) (search rules) c.requires.outside c.in_err-journey.ensures.read
    (λ s read. has_stand s (option_copied c.args.ask) c.args.found.now read.here)

-- a journey whose step is refused runs, so there is a turn
pub returns-in_err-next : goal.returns-in_err-next
returns-in_err-next g c =
    let ask = option_copied c.args.ask in
    let found = c.args.found.now in
    reads_never (λ s read. read.desk) {f = c.in_err-next.field-0.0} (search rules) c.requires.outside c.in_ok-journey.ensures.read (λ s read record_is store.
    let same = read_seen s ask found c.in_ok-journey.journey read.here record_is in
    let too : c.next_of.result ≡ Err Store = search rules in
    not_failed c.next_of.result (c.next_of.ensures.there (λ is.
    let unfit = subst (λ x. IsUnfit found.id x s) is read.unfit in
    subst (λ (r : Record). r.cursor.phase ≡ Run) same (unfit (asker ask) read.here.journey read.here.seen).0)) too)

-- A caller who sees the journeys of its agent sees where a journey is.
use Rattle.std.proofs.Common.{◌≡◌, true, false, sym, ◌∙◌, rules, arith, option_copied}
use Rattle.ledger.specs.Answer.{asker}
use Rattle.sql_reads.proofs.GoodPlans.{not_both}
use Rattle.sql_reads.proofs.ReadLemmas.{read_both, read_err, read_never, read_ok, then_err}
use Rattle.sql_commands.proofs.ComingLemmas.{stand_none, stand_seen, stand_unseen}
use Rattle.sql_commands.proofs.Reasons.{stand_placed}
use Rattle.sql_commands.proofs.moves.find_stand.Goals as goal
use Rattle.sql_commands.proofs.moves.find_stand.Goals.{else-id-le-LARGEST-via-then-id-le-LARGEST+then-stand-le-MOST_STEPS+else-is_placed, else-id-le-LARGEST-via-then-id-le-LARGEST+else-stand-le-MOST_STEPS, else-id-le-LARGEST-via-else-id-le-LARGEST}

pub returns-in_err-numbers-clause-read : goal.returns-in_err-numbers-clause-read
returns-in_err-numbers-clause-read g c = read_err (search rules) c.in_err-numbers.ensures (λ s desk fits. fits)

pub returns-in-Ok-None-clause-read : goal.returns-in-Ok-None-clause-read
returns-in-Ok-None-clause-read g c =
    read_ok (read_both c.in_ok-numbers.ensures (rw c.in-Ok-None.field-0-is at c.in-Ok-None.ensures))
    (λ s desk both. stand_none s (asker (option_copied c.args.ask)) c.args.id both.1)

pub returns-then-not-is_seen_by-clause-read : goal.returns-then-not-is_seen_by-clause-read
returns-then-not-is_seen_by-clause-read g c =
    let off : c.is_seen_by.result ≡ false = search rules in
    read_ok (read_both c.in_ok-numbers.ensures (rw c.in-Ok-Some.field-0-is at c.in-Ok-Some.ensures)) (λ s desk both.
    stand_unseen s (asker (option_copied c.args.ask)) c.args.id c.in-Ok-Some.stand both.1 (λ plan. sym off ∙ c.is_seen_by.ensures.seen plan))

pub returns-then-is_placed-clause-read : goal.returns-then-is_placed-clause-read
returns-then-is_placed-clause-read g c =
    let on : c.is_seen_by.result ≡ true = search rules in
    read_ok (read_both c.in_ok-numbers.ensures (rw c.in-Ok-Some.field-0-is at c.in-Ok-Some.ensures)) (λ s desk both.
    let it = stand_seen s (asker (option_copied c.args.ask)) c.args.id c.in-Ok-Some.stand both.1 (λ plan. sym on ∙ c.is_seen_by.ensures.seen plan) in
    record { counted = both.0; journey = it.0; seen = it.1; stand = it.2 })

pub returns-in-Err-clause-read : goal.returns-in-Err-clause-read
returns-in-Err-clause-read g c = then_err (search rules) c.in_ok-numbers.ensures c.in-Err.ensures (λ s desk fits numbers. tt)

-- a journey is where one may be
pub returns-else-id-le-LARGEST-clause-read : goal.returns-else-id-le-LARGEST-clause-read
returns-else-id-le-LARGEST-clause-read g c =
    read_never (read_both c.in_ok-numbers.ensures (rw c.in-Ok-Some.field-0-is at c.in-Ok-Some.ensures)) (λ s desk spelled _ both.
    let place = stand_placed s desk spelled c.args.id c.in-Ok-Some.stand both.1 in
    elim c.else-id-le-LARGEST.branch [
      | else-id-le-LARGEST-via-then-id-le-LARGEST+then-stand-le-MOST_STEPS+else-is_placed w ↦
          not_both w.is_placed.result (w.is_placed.ensures.exact place.placed) w.if-is_placed.false
      | else-id-le-LARGEST-via-then-id-le-LARGEST+else-stand-le-MOST_STEPS w ↦
          omega (arith, w.if-stand-le-MOST_STEPS.false, place.few)
      | else-id-le-LARGEST-via-else-id-le-LARGEST w ↦ omega (arith, w.if-id-le-LARGEST.false, place.low)
    ])

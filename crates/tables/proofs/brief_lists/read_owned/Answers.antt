-- The briefs that are taken are those of the state that is kept. No journey has a number above those that a query may have.
-- More than 60 lines: four ways out.
use Rattle.std.proofs.Common.{◌≡◌, ◌∙◌, ◌==◌, [], true, false, length, sym, ap, arith, eqb-true, rules, take}
use Rattle.desk_sql.specs.FoundRows.{is_owned_after}
use Rattle.saga_core.specs.Views.{is_owned_above, owned_above}
use Rattle.sql_reads.proofs.ReadLemmas.{read_err, read_never, read_ok}
use Rattle.sql_reads.proofs.ReadReasons.{few_journeys}
use Rattle.report_writers.proofs.ReadyLemmas.{ready_alone, takes_fails}
use Rattle.report_writers.proofs.ShowLemmas.{reported_store}
use Rattle.tables.proofs.BriefLists.{briefs_read, owned_agree}
use Rattle.tables.proofs.OwnedLists.{no_items, none_above, none_past}
use Rattle.tables.proofs.Taken.{not_begun_read}
use Rattle.tables.proofs.brief_lists.read_owned.Goals as goal
use Rattle.tables.proofs.brief_lists.read_owned.Goals.{else-after-gt-LARGEST-via-then-after-gt-LARGEST+else-not-is_empty, else-after-gt-LARGEST-via-else-after-gt-LARGEST}

-- rows that could not be started
pub returns-in-Err : goal.returns-in-Err
returns-in-Err g c = not_begun_read c.in-Err.is c.hand_owned.follows.holds-at-none c.fault_of.ensures.memory

-- rows that could not be taken
pub returns-in_err-briefs : goal.returns-in_err-briefs
returns-in_err-briefs g c =
    let agent = c.args.agent.now in
    let after = c.min.result in
    let taken = c.in_err-briefs.ensures in
    read_err (search rules)
    (briefs_read c.args.most (is_owned_after agent after) (is_owned_above agent after) (owned_agree agent after) (search rules)
    c.in-Ok.ensures.started.starts taken.takes.kept.under.quiet (λ clean all rests. taken.taken clean all (c.new.ensures.going, rests))
    (λ clean good up store. takes_fails taken.takes clean (ready_alone g.S.Store _ (c.new.ensures.going, good) up) (reported_store _ store))) (λ s desk fits. fits)

-- no journey has so large a number
pub returns-then-not-is_empty : goal.returns-then-not-is_empty
returns-then-not-is_empty g c =
    let agent = c.args.agent.now in
    let after = c.min.result in
    let taken = c.in_ok-briefs.ensures in
    let briefs = c.in_ok-briefs.briefs in
    let top : after ≡ 9223372036854775807 = search rules in
    read_never
    (briefs_read c.args.most (is_owned_after agent after) (is_owned_above agent after) (owned_agree agent after) (search rules)
    c.in-Ok.ensures.started.starts taken.takes.kept.under.quiet (λ clean all rests. taken.taken clean all (c.new.ensures.going, rests))
    (λ clean good up store. takes_fails taken.takes clean (ready_alone g.S.Store _ (c.new.ensures.going, good) up) (reported_store _ store)))
    (λ s desk spelled _ is.
    let few = few_journeys s.ledger in
    let none : briefs.items ≡ [] = is ∙ none_past s.ledger agent after c.args.most (omega (arith, few, spelled.few, top)) in
    let short : briefs.len ≡ 0 = briefs.ok.0 ∙ ap length none in
    let bad : true ≡ false = sym (ap (λ n. n == 0) short) ∙ sym c.is_empty.ensures ∙ c.if-not-is_empty.true in cc)

-- the number is one that a query may have, or no journey was found
pub returns : goal.returns
returns g c =
    let agent = c.args.agent.now in
    let after = c.min.result in
    let taken = c.in_ok-briefs.ensures in
    let briefs = c.in_ok-briefs.briefs in
    read_ok
    (briefs_read c.args.most (is_owned_after agent after) (is_owned_above agent after) (owned_agree agent after) (search rules)
    c.in-Ok.ensures.started.starts taken.takes.kept.under.quiet (λ clean all rests. taken.taken clean all (c.new.ensures.going, rests))
    (λ clean good up store. takes_fails taken.takes clean (ready_alone g.S.Store _ (c.new.ensures.going, good) up) (reported_store _ store)))
    (λ s desk is. elim c.else-after-gt-LARGEST.branch [
      | else-after-gt-LARGEST-via-then-after-gt-LARGEST+else-not-is_empty w ↦ (
          let none : briefs.items ≡ [] = no_items briefs (eqb-true _ _ (sym w.is_empty.ensures ∙ w.if-not-is_empty.false)) in
          none ∙ sym (none_above s.ledger agent after c.args.after c.args.most (search rules) (sym is ∙ none)))
      | else-after-gt-LARGEST-via-else-after-gt-LARGEST w ↦ (
          let same : after ≡ c.args.after = search (rules, w.if-after-gt-LARGEST.false) in
          is ∙ ap (λ n. take c.args.most (owned_above s.ledger agent n)) same)
    ])

-- What is asked for by the target is the report of the words; it is there if each word may stand in one.
use Rattle.std.proofs.Common.{◌≡◌, ◌∙◌, ◌∷◌, ◌++◌, ap, codes, false, map, rules, string_bytes, sym, true}
use Rattle.std.proofs.lemmas.List.Folds.{list_all-map}
use Rattle.std.specs.List.{list_all}
use Rattle.clap.specs.Words.{Text}
use Rattle.report_words.specs.Targets.{fits_target, marked}
use Rattle.report_words.proofs.TargetLemmas.{asked_back, target_is, target_none}
use Rattle.report_words.proofs.targets.target_of.Goals as goal

pub returns : goal.returns
returns c =
    let words = map string_bytes c.args.words.now in
    let name = string_bytes c.in-Some.name.now in
    let others = map string_bytes c.in-Some.others.now in
    let are : words ≡ name ∷ others = search rules in
    let fits : list_all fits_target words ≡ true =
    list_all-map fits_target string_bytes c.args.words.now ∙ sym c.fit_target.ensures.fit ∙ c.if-not-fit_target.false in
    let text : string_bytes c.push_query.new.target ≡ name ++ marked (codes "?") others =
    c.in_ok-push_query.ensures.added ∙ ap (λ (t : Text). t ++ marked (codes "?") others) c.in_ok-text.ensures.cases in
    let made = c.in_ok-format.ensures.ok in
    record {
      target = target_is words name others (string_bytes c.push_query.new.target) (string_bytes c.in_ok-format.field-0) are fits text made;
      answered = asked_back words name others c.push_query.new.target (string_bytes c.in_ok-format.field-0) are fits text made;
    }

pub returns-then-not-fit_target-clause-target : goal.returns-then-not-fit_target-clause-target
returns-then-not-fit_target-clause-target c =
    target_none (map string_bytes c.args.words.now)
    (list_all-map fits_target string_bytes c.args.words.now ∙ sym c.fit_target.ensures.fit ∙ c.if-not-fit_target.true)

-- What follows the front of the target is a text, whose report it is; or it is none.
use Rattle.std.proofs.Common.{◌≡◌, ◌∙◌, Bool, true, false, IfOk, None, ap, drop, if◌then◌else◌, refl, subst, sym}
use Rattle.std.specs.Str.{IsUtf8, is_utf8}
use Rattle.std.proofs.lemmas.Str.{IsUtf8-from_is_utf8, is_utf8-from_IsUtf8}
use Rattle.clap.specs.Words.{Text}
use Rattle.report_words.specs.Targets.{asks_for_report, report_after, report_asked, report_named}
use Rattle.report_words.proofs.targets.report_asked.Goals as goal

after : (target rest : Text) → asks_for_report target ≡ true → rest ≡ drop 9 target → report_after rest ≡ report_asked target
after target rest asks is = ap report_after is ∙ sym (ap (λ a. if a then report_after (drop 9 target) else None) asks)

no_text : (rest : Text) → (IsUtf8 rest → ⊥) → (is : Bool) → is_utf8 rest ≡ is → None ≡ (if is then report_named rest else None)
no_text rest other true is = absurd (other (IsUtf8-from_is_utf8 rest is))
no_text rest other false is = refl

pub returns-in-Ok : goal.returns-in-Ok
returns-in-Ok c =
    let rest = c.in-Some.rest.now in
    let valid : is_utf8 rest ≡ true = is_utf8-from_IsUtf8 rest c.in-Ok.ensures.cases.1 in
    let text = ap report_named c.in-Ok.ensures.cases.0 ∙ sym (ap (λ v. if v then report_named rest else None) valid) in
    let found = text ∙ after c.args.target.now rest c.in-Some.ensures.cases.0 c.in-Some.ensures.cases.1 in
    record { report = subst (λ x. IfOk c.report_named.result (λ report. report ≡ x)) found c.report_named.ensures.report }

pub returns-in-Err : goal.returns-in-Err
returns-in-Err c =
    let rest = c.in-Some.rest.now in
    record {
      report = no_text rest c.in-Err.ensures.cases.0 (is_utf8 rest) refl
          ∙ after c.args.target.now rest c.in-Some.ensures.cases.0 c.in-Some.ensures.cases.1;
    }

-- The report of the job is that of the words; words that are refused ask for none.
use Rattle.std.proofs.Common.{◌≡◌, ◌∙◌, ◌∷◌, Global, List, None, String, false, true, if◌then◌else◌, ap, map, refl, subst, sym}
use Rattle.std.specs.String.{string_bytes}
use Rattle.commands.specs.Readings.{texts_of}
use Rattle.command_line.specs.Asking.{over_file}
use Rattle.command_line.specs.Jobs.{are_refused, IsJob, IsText}
use Rattle.report_words.specs.Targets.{report_of_words}
use Rattle.report_words.proofs.JobLemmas.{job_report}
use Rattle.report_words.proofs.targets.report_by.Goals as goal

pub returns-in-Ok : goal.returns-in-Ok
returns-in-Ok c =
    let words = over_file (c.args.name.now ∷ texts_of c.args.others.now) in
    let same : over_file (map string_bytes c.as_slice.result.now) ≡ words =
    ap (λ (ws : List (String Global)). over_file (map string_bytes ws)) c.as_slice.ensures.value ∙ ap over_file c.in_ok-words.ensures.words in
    let taken : are_refused words ≡ false = ap are_refused (sym same) ∙ c.in-Ok.ensures.taken refl in
    record {
      report = c.report_of.ensures.report ∙ job_report words c.in-Ok.job (subst (λ ws. IsJob ws c.in-Ok.job) same c.in-Ok.ensures.job)
          ∙ sym (ap (λ refused. if refused then None else report_of_words words) taken);
    }

pub returns-in-Err-Usage : goal.returns-in-Err-Usage
returns-in-Err-Usage c =
    let words = over_file (c.args.name.now ∷ texts_of c.args.others.now) in
    let same : over_file (map string_bytes c.as_slice.result.now) ≡ words =
    ap (λ (ws : List (String Global)). over_file (map string_bytes ws)) c.as_slice.ensures.value ∙ ap over_file c.in_ok-words.ensures.words in
    let told : IsText c.in-Err-Usage.field-0 = subst IsText (sym c.in-Err-Usage.field-0-is) tt in
    let refused : are_refused words ≡ true = ap are_refused (sym same) ∙ c.in-Err-Usage.ensures.usage told in
    record { report = sym (ap (λ refused. if refused then None else report_of_words words) refused) }

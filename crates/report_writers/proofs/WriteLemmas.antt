-- What was written of a report. For the writers of the reports.
use Rattle.std.proofs.Common.{[], ◌≡◌, false, refl, sym, subst, true, ℕ, Bool, List, Option, Result, None, Some, Ok, Err, IsErr, option_map, arith, rules}
use Rattle.saga_core.specs.declared.records.Record.{Record}
use Rattle.saga_core.specs.Written.{WroteFront}
use Rattle.saga_core.proofs.ByteLemmas.{keeps_same}
use Rattle.reports.proofs.FrontLemmas.{front_none}
use Rattle.reports.specs.declared.faults.ReportFault.{ReportFault}
use Rattle.reports.specs.Writing.{Wrote}
use Rattle.report_writers.specs.Writing.{WritesIfThere, WritesText}

module _ (held : Option (List ℕ)) (text : List ℕ) where
  -- the text of a source's rows was written
  pub wrote_rows : {holds : Option (List ℕ)} {n : ℕ} {r : Result ℕ ReportFault} → Wrote held holds text n r → WritesText held holds text r
  wrote_rows it = record { whole = it.written; front = it.front }

  -- nothing was written, and a fault came
  pub wrote_none : {T : Type 0} (f : ReportFault) → WritesText held held text {T = T} (Err f)
  wrote_none f = record { whole = tt; front = front_none held text }

  -- a prefix of it was written, and a fault came
  pub wrote_front : {T : Type 0} (holds : Option (List ℕ)) (r : Result T ReportFault) → IsErr r → WroteFront held holds text
      → WritesText held holds text r
  wrote_front holds r failed front = search (rules, arith)

-- The report of a journey, if there is one of its number.

-- there is one
pub written_there : (held holds : Option (List ℕ)) (text : Record → List ℕ) (found : Option Record) (journey : Record)
    (result : Result Bool ReportFault) → found ≡ Some journey → WritesIfThere held holds (Some (text journey)) result
    → WritesIfThere held holds (option_map text found) result
written_there held holds text found journey result is wrote =
    subst (λ o. WritesIfThere held holds (option_map text o) result) (sym is) wrote

module _ (held : Option (List ℕ)) where
  -- there is none
  pub written_absent : (text : Record → List ℕ) (found : Option Record) → found ≡ None → WritesIfThere held held (option_map text found) (Ok false)
  written_absent text found none =
      subst (λ o. WritesIfThere held held (option_map text o) (Ok false)) (sym none) (refl, keeps_same held)

  -- a fault, where nothing was written
  pub written_fault : (text : Option (List ℕ)) (f : ReportFault) → WritesIfThere held held text (Err f)
  written_fault text f = search (rules, arith, keeps_same, wrote_none)

-- What was written to an empty list is the text of the report, if there is one.

pub text_there : (held made : List ℕ) (text : Option (List ℕ)) {r : Result Bool ReportFault} → held ≡ [] → r ≡ Ok true
    → WritesIfThere (Some held) (Some made) text r → Some made ≡ text
text_there held made text none is wrote = search (rules, arith)

pub text_absent : (held holds : Option (List ℕ)) (text : Option (List ℕ)) {r : Result Bool ReportFault} → r ≡ Ok false
    → WritesIfThere held holds text r → None ≡ text
text_absent held holds text is wrote = search (rules, arith)

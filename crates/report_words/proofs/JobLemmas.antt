-- The report of a job is that of the values which its subcommand reads. For the report that a target asks for.
use Rattle.std.proofs.Common.{◌≡◌, ◌∙◌, ℕ, Bool, true, false, List, [], ◌∷◌, Option, Some, None, option_map, inl, inr, is_some, if◌then◌else◌, ap, refl, sym, subst, codes, bytes_eq, ◌||◌}
use Rattle.std.specs.Option.{option_and_then}
use Rattle.std.specs.String.{string_bytes}
use Rattle.std.proofs.lemmas.Slice.Eq.{bytes_eq-Decides}
use Rattle.allotment.specs.Texts.{cell_in}
use Rattle.allotment.specs.declared.cells.Cell.{Cell}
use Rattle.clap.specs.Words.{Text}
use Rattle.command_line.specs.Filters.{cell_asked, HasCells, HasJourneys, phases_in, unfinished_in}
use Rattle.command_line.specs.Jobs.{names_version, subcommand_of, value_in, HasValues, IsJob}
use Rattle.command_line.specs.Subcommands.{app_for, name_of, subcommand_in}
use Rattle.command_line.specs.Values.{format_in}
use Rattle.command_line.specs.declared.jobs.Job.{Job}
use Rattle.command_line.specs.declared.jobs.Job.TheVariants as job
use Rattle.saga_core.specs.declared.cell_filters.CellFilter.{CellFilter}
use Rattle.saga_core.specs.declared.journey_filters.JourneyFilter.{JourneyFilter}
use Rattle.saga_core.specs.declared.journey_filters.Phases.{Phases}
use Rattle.saga_core.specs.declared.report.MonthReport.TheVariants.{Summary, Calendar}
use Rattle.saga_core.specs.declared.report.Format.{Format}
use Rattle.saga_core.specs.declared.report.Format.TheVariants.{Text as AsText}
use Rattle.saga_core.specs.declared.report.JourneyReport.TheVariants as name
use Rattle.saga_core.specs.declared.report.Report.{Report}
use Rattle.saga_core.specs.declared.report.Report.TheVariants.{Stock, Journeys, Holders, Holdings, Months, Why}
use Rattle.report_words.specs.Jobs.{cells_of, history_of, journeys_of, known, phases_or_all, report_in, report_of, report_with}
use Rattle.report_words.specs.Targets.{report_of_words}

module _ (value : Text → Option Text) where
  -- the filter of the values that were read is the one that they spell
  cells_known : (f : CellFilter) → HasCells value f → cells_of value ≡ f
  cells_known f has =
      let kind : (cells_of value).kind ≡ f.kind = ap known has.kind in
      let supplier : (cells_of value).supplier ≡ f.supplier = ap known has.supplier in
      let product : (cells_of value).product ≡ f.product = ap known has.product in
      let from : (cells_of value).from ≡ f.from = ap known has.from in
      let to : (cells_of value).to ≡ f.to = ap known has.to in
      ap (λ k. record (cells_of value) { kind = k }) kind
      ∙ ap (λ k. record (cells_of value) { kind = f.kind; supplier = k }) supplier
      ∙ ap (λ k. record (cells_of value) { kind = f.kind; supplier = f.supplier; product = k }) product
      ∙ ap (λ k. record (cells_of value) { kind = f.kind; supplier = f.supplier; product = f.product; from = k }) from
      ∙ ap (λ k. record (cells_of value) { kind = f.kind; supplier = f.supplier; product = f.product; from = f.from; to = k }) to

  journeys_known : (reads : Option Text → Option Phases) (f : JourneyFilter) → HasJourneys reads value f → journeys_of reads value ≡ f
  journeys_known reads f has =
      ap (λ a. record (journeys_of reads value) { agent = a }) (ap known has.agent)
      ∙ ap (λ p. record (journeys_of reads value) { agent = f.agent; phases = p }) (ap phases_or_all has.phases)

  -- the name of a subcommand that has no report
  none_in : (word : Text) → ((format : Format) → report_in word value format ≡ None) → None ≡ report_with word value
  none_in word none = go (format_in value)
    where
      go : (o : Option Format) → None ≡ option_and_then (report_in word value) o
      go None = refl
      go (Some format) = sym (none format)

  -- one that has, in a format that was read
  some_in : (word : Text) (format : Format) (report : Option Report) → format_in value ≡ Some format
      → report_in word value format ≡ report → report ≡ report_with word value
  some_in word format report read is = sym is ∙ ap (option_and_then (report_in word value)) (sym read)

  -- the holders of a cell, where one is given
  one_cell : (o : Option Text) (x : Cell) (format : Format) (others : Option Report) → option_and_then cell_in o ≡ Some x
      → (if is_some o then option_map (λ x. Holders x format) (option_and_then cell_in o) else others) ≡ Some (Holders x format)
  one_cell (Some word) x format others is = ap (option_map (λ x. Holders x format)) is
  one_cell None x format others is = cc

  -- the report of a job, by its case
  by_case : (j : Job) (word : Text) → option_map name_of (subcommand_of j) ≡ Some word → HasValues value j → report_of j ≡ report_with word value
  by_case (job.Run file) word is has =
      let e : codes "run" ≡ word = cc in subst (λ word. None ≡ report_with word value) e (none_in (codes "run") (λ format. refl))
  by_case (job.Serve file port connections house page log wide) word is has =
      let e : codes "serve" ≡ word = cc in subst (λ word. None ≡ report_with word value) e (none_in (codes "serve") (λ format. refl))
  by_case (job.Recover file) word is has =
      let e : codes "recover" ≡ word = cc in subst (λ word. None ≡ report_with word value) e (none_in (codes "recover") (λ format. refl))
  by_case (job.Load file csv batch) word is has =
      let e : codes "load" ≡ word = cc in subst (λ word. None ≡ report_with word value) e (none_in (codes "load") (λ format. refl))
  by_case (job.Stock file f format) word is has =
      let e : codes "stock" ≡ word = cc in
      subst (λ word. Some (Stock f format) ≡ report_with word value) e (some_in (codes "stock") format _ has.3
      (ap (λ c. if c then Some (Months Calendar (cells_of value)) else Some (Stock (cells_of value) format)) has.2
      ∙ ap (λ f. Some (Stock f format)) (cells_known f has.1)))
  by_case (job.Calendar file f) word is has =
      let e : codes "stock" ≡ word = cc in
      subst (λ word. Some (Months Calendar f) ≡ report_with word value) e (some_in (codes "stock") AsText _ has.3
      (ap (λ c. if c then Some (Months Calendar (cells_of value)) else Some (Stock (cells_of value) AsText)) has.2
      ∙ ap (λ f. Some (Months Calendar f)) (cells_known f has.1)))
  by_case (job.Summary file f format) word is has =
      let e : codes "summary" ≡ word = cc in
      subst (λ word. Some (Months (Summary format) f) ≡ report_with word value) e (some_in (codes "summary") format _ has.2
      (ap (λ f. Some (Months (Summary format) f)) (cells_known f has.1)))
  by_case (job.Holders file x format) word is has =
      let e : codes "holders" ≡ word = cc in
      subst (λ word. Some (Holders x format) ≡ report_with word value) e (some_in (codes "holders") format _ has.3
      (one_cell (value (codes "CELL")) x format _ has.1))
  by_case (job.Holdings file f format) word is has =
      let e : codes "holders" ≡ word = cc in
      subst (λ word. Some (Holdings f format) ≡ report_with word value) e (some_in (codes "holders") format _ has.3
      (ap (λ c. if c then option_map (λ x. Holders x format) (cell_asked value) else Some (Holdings (cells_of value) format)) has.1
      ∙ ap (λ f. Some (Holdings f format)) (cells_known f has.2)))
  by_case (job.Unfinished file f format) word is has =
      let e : codes "unfinished" ≡ word = cc in
      subst (λ word. Some (Journeys name.Unfinished f format) ≡ report_with word value) e (some_in (codes "unfinished") format _ has.2
      (ap (λ f. Some (Journeys name.Unfinished f format)) (journeys_known unfinished_in f has.1)))
  by_case (job.Journeys file f format) word is has =
      let e : codes "journeys" ≡ word = cc in
      subst (λ word. Some (Journeys name.Journeys f format) ≡ report_with word value) e (some_in (codes "journeys") format _ has.2
      (ap (λ f. Some (Journeys name.Journeys f format)) (journeys_known phases_in f has.1)))
  by_case (job.History file id format) word is has =
      let e : codes "history" ≡ word = cc in
      subst (λ word. history_of format (string_bytes id) ≡ report_with word value) e (some_in (codes "history") format _ has.2
      (ap (option_and_then (history_of format)) has.1))
  by_case (job.Why file id format) word is has =
      let e : codes "why" ≡ word = cc in
      subst (λ word. Some (Why id format) ≡ report_with word value) e (some_in (codes "why") format _ has.2
      (ap (option_map (λ (id : ℕ). Why id format)) has.1))
  by_case (job.Migrate file) word is has =
      let e : codes "migrate" ≡ word = cc in subst (λ word. None ≡ report_with word value) e (none_in (codes "migrate") (λ format. refl))
  by_case (job.Index file) word is has =
      let e : codes "index" ≡ word = cc in subst (λ word. None ≡ report_with word value) e (none_in (codes "index") (λ format. refl))
  by_case job.Version word is has = cc

-- a word that asks for the version names no subcommand
no_subcommand : (word : Text) → names_version word ≡ true → subcommand_in word ≡ None
no_subcommand word is = go (bytes_eq word (codes "--version")) (bytes_eq word (codes "-V")) refl refl is
  where
    go : (long short : Bool) → bytes_eq word (codes "--version") ≡ long → bytes_eq word (codes "-V") ≡ short → (long || short) ≡ true
        → subcommand_in word ≡ None
    go true short a b e = ap subcommand_in ((bytes_eq-Decides word (codes "--version")).0 a)
    go false true a b e = ap subcommand_in ((bytes_eq-Decides word (codes "-V")).0 b)
    go false false a b e = cc

-- the subcommand of a job is the one that its name names
own_name : (j : Job) → option_and_then subcommand_in (option_map name_of (subcommand_of j)) ≡ subcommand_of j
own_name (job.Run file) = refl
own_name (job.Serve file port connections house page log wide) = refl
own_name (job.Recover file) = refl
own_name (job.Load file csv batch) = refl
own_name (job.Stock file f format) = refl
own_name (job.Calendar file f) = refl
own_name (job.Summary file f format) = refl
own_name (job.Holders file x format) = refl
own_name (job.Holdings file f format) = refl
own_name (job.Unfinished file f format) = refl
own_name (job.Journeys file f format) = refl
own_name (job.History file id format) = refl
own_name (job.Why file id format) = refl
own_name (job.Migrate file) = refl
own_name (job.Index file) = refl
own_name job.Version = refl

-- the report of the job of these words
pub job_report : (words : List Text) (j : Job) → IsJob words j → report_of j ≡ report_of_words words
job_report [] j is = absurd is
job_report (word ∷ others) j (inl version) =
    ap report_of version.version ∙ sym (ap (option_and_then (λ s. report_with word (value_in (app_for s) others))) (no_subcommand word version.named))
job_report (word ∷ others) j (inr fits) =
    let named = ap (option_map name_of) fits.fits.subcommand ∙ ap Some (sym fits.named) in
    let found = sym (ap (option_and_then subcommand_in) named) ∙ own_name j ∙ fits.fits.subcommand in
    by_case (value_in (app_for fits.subcommand) others) j word named fits.fits.values
    ∙ sym (ap (option_and_then (λ s. report_with word (value_in (app_for s) others))) found)

-- Why a query that returns its rows one at a time fails. For the functions that return the next row.
use Rattle.std.proofs.Common.{◌≡◌, inl, inr, ℕ, List, [], append-nil, length, Bool, true, false, Ok, eq-eqb, sym, ap, subst, ◌∙◌}
use Rattle.std.proofs.lemmas.Bool.{and_from, le-leb}
use Rattle.sqlite.specs.declared.error.Error.{Error}
use Rattle.sqlite.specs.Order.{Row}
use Rattle.sqlite.specs.Query.{Query}
use Rattle.sqlite.specs.Effect.{Database, Reads}
use Rattle.sqlite.specs.Command.{Command}
use Rattle.sqlite.specs.Command.TheVariants.{Select}
use Rattle.sqlite.specs.Store.{Ghosts}
use Rattle.sqlite.specs.Held.{Held, state}
use Rattle.sqlite.specs.Given.{HasGiven, FailsToAdvance, IsEnded}
use Rattle.sqlite.specs.Stream.{HasRead}
use Rattle.sqlite.specs.Clock.{timed}
use Rattle.sqlite.specs.Listing.{understood, reads_listing, IsSourceOf}
use Rattle.sqlite.specs.Calls.{database}
use Rattle.sqlite.specs.State.{Fails}
use Rattle.sqlite.proofs.Callers.{command_of, IsPlain}
use Rattle.sqlite_schema.specs.declared.program.Program.{Program}
use Rattle.sqlite_schema.specs.Program.{lets_of}
use Rattle.sqlite_typing.specs.Types.{accepts_program}
use Rattle.desk_sql.specs.declared.versions.Version.{Version}
use Rattle.desk_sql.specs.Causes.{IsUp, HasReason}
use Rattle.desk_sql.specs.RemainingRows.{Rests}
use Rattle.sqlite_schema.specs.declared.schema.Schema.{Schema}
use Rattle.desk_sql.specs.Schema.{schema_with, IsSchemaOf}
use Rattle.desk_sql.proofs.Causing.{IsSure, TakesUnder, takes, of_store, query_reason}
use Rattle.desk_sql.proofs.Meaning.{MeansEach}
use Rattle.sql_lists.specs.Listing.{Listing, RestsOf}
use Rattle.sql_lists.proofs.HandedRows.{IsMeant}

module _ {S : Type 0} (g : Ghosts S) {q : Query} (sure : IsSure q) {text : List ℕ} {names : List (List ℕ)}
    (m : MeansEach text q names) where
  abbrev program : Program
  program = record { lets = []; body = q }

  -- a query that reads rows was accepted
  typed_of : (rows : List Row) (command : Command) (db : Database) (params : Row) → command ≡ Select program names
      → Reads command db params rows → accepts_program db.schema [] q params ≡ true
  typed_of rows command db params is reads =
      let answers = subst (λ k. Reads k db params rows) is reads in answers.typed

  -- and so was one that gave rows
  accepted : (known : Schema) (params : Row) (h : Held S) (given : List Row) → h.schema ≡ known → (command : Command) (listing : Bool)
      → command ≡ Select program names → listing ≡ false → h.params ≡ params
      → HasRead command listing h.schema (g.view h.store) h.params h.step_limit h.reading given
      → accepts_program known [] q params ≡ true
  accepted known params h given schema command listing is unlisted same read =
      let db : read.db ≡ database h.schema (g.view h.store).trees
      = subst (λ b. IsSourceOf b (database h.schema (g.view h.store).trees) read.db) unlisted read.source in
      let of : read.db.schema ≡ known = ap (λ (d : Database). d.schema) db ∙ schema in
      elim read.at [
        | inl ran ↦ subst (λ s. accepts_program s [] q params ≡ true) of
            (subst (λ p. accepts_program read.db.schema [] q p ≡ true) same (typed_of _ command read.db h.params is ran.1))
        | inr runs ↦ (let one : Select runs.0 runs.1 ≡ Select program names = sym runs.2 ∙ is in
            let plan : runs.0 ≡ program = cc in
            subst (λ s. accepts_program s [] q params ≡ true) schema
            (subst (λ p. accepts_program h.schema [] q p ≡ true) same
            (subst (λ (p : Program). accepts_program h.schema (lets_of p) p.body h.params ≡ true) plan runs.4)))
      ]

  -- and it takes its parameters
  takes_given : (v : Version) (params : Row) (h : Held S) (given : List Row) → (of : IsSchemaOf v h.schema) → HasGiven g text params h given
      → TakesUnder (schema_with v of.extra) text q params
  unfolding HasGiven
  takes_given v params h given of it =
      let schema = of.is in
      let means = m v of.extra in
      let c = it.0.found.compiled in
      let run = it.0.statement in
      let known : understood (schema_with v of.extra) text ≡ Ok c = ap (λ s. understood s text) (sym schema) ∙ run.is in
      let plain = subst IsPlain known means.plain in
      let same : h.params ≡ params
      = it.0.given ∙ ap (λ f. timed params f run.now) plain.1 ∙ append-nil params in
      record {
        whole = subst (λ r. takes (length text) (length params) r ≡ true) (sym known)
            (and_from _ _ (le-leb _ _ run.whole) (eq-eqb _ _ run.given));
        typed = accepted (schema_with v of.extra) params h given schema c.command it.0.found.reads_listing
            (ap command_of (sym known) ∙ means.is)
            (it.0.reads ∙ ap (λ s. reads_listing s text) schema ∙ means.unlisted) same it.2;
      }

  -- so the next row is not read only out of memory, or where the disk failed or refused
  advance_reason_sure : (old new : Held S) (later : List Row) (e : Error) → IsUp (state g old) → Rests g text q old later
      → FailsToAdvance g old new e → (IsEnded old → Fails (state g old) (state g new) ⊥ e) → HasReason (state g old) (state g new) e
  advance_reason_sure old new later e up (inr over) fails ended =
      let why = ended over.0 in of_store (state g old) (state g new) up why.0 e why.1 why.2
  advance_reason_sure old new later e up (inl runs) fails ended =
      let v = runs.1.version in
      query_reason sure (m v) (state g old) (state g new) up runs.1.schema (takes_given v runs.0 old runs.1.given runs.1.schema runs.1.gave) e
      (fails text runs.0 runs.1.given runs.1.gave)

-- the same of the rows of a list
pub advance_reason : {I X S : Type 0} {list : Listing I X} (m : IsMeant list) (g : Ghosts S) (old new : Held S) (later : List X) (e : Error)
    → IsUp (state g old) → RestsOf list g old later → FailsToAdvance g old new e
    → (IsEnded old → Fails (state g old) (state g new) ⊥ e) → HasReason (state g old) (state g new) e
advance_reason m g old new later e up rests = advance_reason_sure g (m.sure rests.0) (m.means rests.0) old new _ e up rests.1

-- The statements that insert a row. For the functions that insert.
use Rattle.std.proofs.Common.{◌≡◌, ◌<◌, ◌≤◌, ◌^◌, ◌==◌, ℕ, ℤ, suc, [], ◌∷◌, Bool, true, false, cond, refl, sym, subst, arith, rules}
use Rattle.std.specs.Prelude.{⊤}
use Rattle.std.specs.List.{AllByRecursion}
use Rattle.sqlite.specs.declared.types.Value.TheVariants.{Null, Int, Text, Blob}
use Rattle.sqlite.specs.Kind.TheVariants.{Integer}
use Rattle.sqlite.specs.Cast.{cast}
use Rattle.sqlite.specs.Ops.{unary, binary}
use Rattle.sqlite.specs.Order.{Row}
use Rattle.sqlite.specs.Edit.{next_rowid}
use Rattle.sqlite.specs.Listing.{understood}
use Rattle.sqlite_schema.specs.declared.schema.Constraint.TheVariants.{Check}
use Rattle.sqlite_schema.specs.Rules.{passes}
use Rattle.sqlite_tied.specs.Compute.{everything}
use Rattle.desk_sql.specs.Schema.{desk_schema, meta_at, batch_at, journey_at, step_at, answer_at, entry2_at, mark_at}
use Rattle.desk_sql.specs.Rows.{whole, MetaRow, meta_row, BatchRow, batch_columns, JourneyRow, journey_row, StepRow, step_columns, AnswerRow, answer_columns, mark_columns}
use Rattle.desk_sql.specs.Changes.{LacksMeta, at_first, adds_meta, adds_batch, AreJourneysBelow, adds_journey, is_option, adds_step, AreItemsBelow, adds_item, adds_answer, is_mark_at, adds_mark}
use Rattle.desk_sql.specs.Writable.{HasRowids, MayKeep, MayAddBatch, MayAddJourney, MayAddStep, MayAddItem, MayAddMark}
use Rattle.desk_sql.specs.FoundRows.{is_for, is_named, item_of, mark_at_pos}
use Rattle.desk_sql.specs.declared.journeys.ItemFound.{ItemFound}
use Rattle.desk_sql.specs.Texts
use Rattle.desk_sql.specs.Meanings
use Rattle.desk_sql.proofs.Effects.{Effect}
use Rattle.desk_sql.proofs.InsertReasons.{SaysInsert, adds_next, adds_last}
use Rattle.desk_sql.proofs.Places
use Rattle.desk_sql.proofs.Storing.{storable, held_from, rows_all, numbered_all, key_text, key_whole, parent_first, parent_second, bit_holds, range_holds}
use Rattle.desk_sql.proofs.Testing.{and_true}
use Rattle.desk_sql.proofs.Writing.{cast_null}

same_int : (b : Bool) (n : ℤ) → cond b (Int n) (Int n) ≡ Int n
same_int b n = search (rules, arith)

-- an integer is stored as it is
pub cast_int : (n : ℤ) → cast Integer (Int n) ≡ Int n
unfolding unary
cast_int n = same_int _ n

-- Replies.

abbrev answer_params : AnswerRow → Row
answer_params a = Text a.agent ∷ Text a.mark ∷ Blob a.ask ∷ Text a.reply ∷ []

pub keeps_answer : (a : AnswerRow)
    → Effect Texts.insert_answer_text (answer_params a) (λ _. ⊤) (adds_answer a) (HasRowids 1) (MayKeep a) (λ _. ⊤) suc
unfolding understood everything
keeps_answer a =
    adds_next Places.answers (λ n db has. has.answer) {terms = Meanings.insert_answer_terms} {width = 5} (grind arith) a
    (λ db. simp cast_null) (MayKeep a) (λ db t fits shown. record {
      alone = (refl, refl, refl);
      storable = held_from (answer_at 11) _ (storable _ _ refl refl (omega (arith, fits.short)), omega arith)
          (storable _ _ refl refl (omega (arith, fits.short)), tt) tt;
      single = (
        rows_all answer_columns (db 11) t.answer _ (λ k. is_for a.agent a.mark k ≡ false) shown.answer
            (λ p apart. simp key_text (simp and_true apart)) fits.unkept,
        tt,
      );
      parents = tt;
    })

-- Batches.

abbrev batch_params : BatchRow → Row
batch_params b = Text b.name ∷ whole b.num ∷ Blob b.content ∷ []

pub loads_batch : (b : BatchRow)
    → Effect Texts.insert_batch_text (batch_params b) (λ _. ⊤) (adds_batch b) (HasRowids 1) (MayAddBatch b) (λ _. ⊤) suc
unfolding understood everything
loads_batch b =
    adds_next Places.batches (λ n db has. has.batch) {terms = Meanings.insert_batch_terms} {width = 4} (search rules) b
    (λ db. simp (cast_int, cast_null)) (MayAddBatch b) (λ db t fits shown. record {
      alone = (refl, refl, refl);
      storable = held_from (batch_at 3) _ (storable _ _ refl refl (omega (arith, fits.short)), omega arith)
          (storable _ _ refl refl (omega (arith, fits.short)), (storable _ _ refl refl (omega arith), tt)) tt;
      single = (
        rows_all batch_columns (db 3) t.batch _ (λ k. is_named b.name k ≡ false) shown.batch
            (λ p apart. simp key_text (simp and_true apart)) fits.unnamed,
        (
          rows_all batch_columns (db 3) t.batch _ (λ (k : BatchRow). (k.num == b.num) ≡ false) shown.batch
              (λ p apart. simp key_whole (simp and_true apart)) fits.unnumbered,
          tt,
        ),
      );
      parents = tt;
    })

-- Journeys.

abbrev journey_params : JourneyRow → Row
journey_params j =
    whole j.id ∷ whole j.num ∷ Text j.agent ∷ whole j.steps ∷ whole j.tries ∷ whole j.cursor.pos ∷ whole j.cursor.phase
    ∷ whole j.cursor.target ∷ whole j.cursor.used ∷ []

pub begins_journey : (j : JourneyRow) → j.id < 2 ^ 63 → j.cursor.phase ≤ 3
    → Effect Texts.insert_journey_text (journey_params j) (AreJourneysBelow j.id) (adds_journey j) (λ _. ⊤) (MayAddJourney j) (λ _. ⊤) (λ n. n)
unfolding understood everything
begins_journey j small phase =
    adds_last Places.journeys (λ _. refl) (refl, (refl, (refl, (refl, (refl, tt))))) {terms = Meanings.insert_journey_terms} {width = 10}
    (record { means = λ _. record { is = refl; plain = (refl, refl) }; whole = λ _. refl; types = λ _. refl }) j small
    (λ db. simp (cast_int, cast_null))
    (AreJourneysBelow j.id) (MayAddJourney j) (λ t fits. fits.below) (λ t below. below) (λ db t fits shown. record {
      alone = (refl, refl, rw (range_holds j.cursor.phase 0 3 (omega arith) phase) refl);
      storable = held_from (journey_at 6) _ (storable _ _ refl refl (omega (arith, fits.short)), omega arith) (storable _ _ refl refl (omega arith), tt)
          (storable _ _ refl refl (omega (arith, fits.short)), tt);
      single = (
        numbered_all journey_row (db 6) t.journey _ (λ (k : JourneyRow). (k.num == j.num) ≡ false) shown.journey.rows_are
            (λ k apart. simp key_whole (simp and_true apart)) fits.unnumbered,
        tt,
      );
      parents = tt;
    })

-- Options.

abbrev step_params : StepRow → Row
step_params s =
    whole s.journey ∷ whole s.place ∷ whole s.opt ∷ whole s.save ∷ whole s.kind ∷ Text s.supplier ∷ Text s.product
    ∷ whole s.night ∷ whole s.nights ∷ whole s.places ∷ []

step_says : (s : StepRow) → SaysInsert Texts.insert_step_text 4 Meanings.insert_step_terms 12 (step_params s)
unfolding understood everything
step_says s = record { means = λ _. record { is = refl; plain = (refl, refl) }; whole = λ _. refl; types = λ _. refl }

pub offers_step : (s : StepRow)
    → Effect Texts.insert_step_text (step_params s) (λ _. ⊤) (adds_step (record s { taken = 0 })) (HasRowids 1) (MayAddStep s) (λ _. ⊤) suc
offers_step s =
    adds_next Places.steps (λ n db has. has.step) (step_says s) (record s { taken = 0 }) (λ db. simp (cast_int, cast_null)) (MayAddStep s)
    (λ db t fits shown. record {
      alone = (refl, refl, rw (bit_holds s.save fits.save, bit_holds 0 (omega arith)) refl);
      storable = held_from (step_at 8) _ (storable _ _ refl refl (omega (arith, fits.short)), omega arith) (storable _ _ refl refl (omega arith), tt) tt;
      single = (
        rows_all step_columns (db 8) t.step _ (λ k. is_option s.journey s.place s.opt k ≡ false) shown.step
            (λ p apart. simp key_whole (simp and_true apart)) fits.unplaced,
        tt,
      );
      parents = (parent_first db t s.journey (Int (next_rowid (db 8))) _ shown fits.journey, tt);
    })

-- Items.

abbrev item_params : ℕ → ItemFound → Row
item_params journey i = whole i.num ∷ whole journey ∷ whole i.item ∷ whole i.a ∷ whole i.b ∷ []

item_says : (journey : ℕ) (i : ItemFound) → SaysInsert Texts.insert_item_text 7 Meanings.insert_item_terms 6 (item_params journey i)
unfolding understood everything
item_says journey i = record { means = λ _. record { is = refl; plain = (refl, refl) }; whole = λ _. refl; types = λ _. refl }

pub notes_item : (journey : ℕ) (i : ItemFound) → i.num < 2 ^ 63
    → Effect Texts.insert_item_text (item_params journey i) (AreItemsBelow i.num) (adds_item journey i) (λ _. ⊤) (MayAddItem journey i) (λ _. ⊤) (λ n. n)
notes_item journey i small =
    adds_last Places.entries (λ _. refl) (refl, (refl, (refl, (refl, (refl, tt))))) (item_says journey i) (item_of journey i) small
    (λ db. simp (cast_int, cast_null)) (AreItemsBelow i.num) (MayAddItem journey i) (λ t fits. fits.below) (λ t below. below)
    (λ db t fits shown. record {
      alone = (refl, refl, rw (range_holds i.item 0 3 (omega arith) fits.kind) refl);
      storable = held_from (entry2_at 13) _ (storable _ _ refl refl (omega arith), omega arith) tt (storable _ _ refl refl (omega arith), tt);
      single = tt;
      parents = (parent_second db t journey (whole i.num) Null _ shown fits.journey_is, tt);
    })

-- Save-points.

abbrev mark_params : ℕ → ℕ → Row
mark_params journey at = whole journey ∷ whole at ∷ []

mark_says : (journey at : ℕ) → SaysInsert Texts.insert_mark_text 8 Meanings.insert_mark_terms 3 (mark_params journey at)
unfolding understood everything
mark_says journey at = record { means = λ _. record { is = refl; plain = (refl, refl) }; whole = λ _. refl; types = λ _. refl }

pub saves_mark : (journey at : ℕ)
    → Effect Texts.insert_mark_text (mark_params journey at) (λ _. ⊤) (adds_mark journey at) (HasRowids 1) (MayAddMark journey at) (λ _. ⊤) suc
saves_mark journey at =
    adds_next Places.marks (λ n db has. has.mark) (mark_says journey at) (mark_at_pos journey at) (λ db. simp (cast_int, cast_null))
    (MayAddMark journey at) (λ db t fits shown. record {
      alone = (refl, refl, refl);
      storable = held_from (mark_at 14) _ (storable _ _ refl refl (omega arith), omega arith) (storable _ _ refl refl (omega arith), tt) tt;
      single = (
        rows_all mark_columns (db 14) t.mark _ (λ k. is_mark_at journey at k ≡ false) shown.mark
            (λ p apart. simp key_whole (simp and_true apart)) fits.unmarked,
        tt,
      );
      parents = (parent_first db t journey (Int (next_rowid (db 14))) _ shown fits.journey_is, tt);
    })

-- The first row of meta.

abbrev first_params : ℕ → Row
first_params version = whole version ∷ []

first_says : (version : ℕ) → SaysInsert Texts.insert_meta_text 0 Meanings.insert_meta_terms 5 (first_params version)
unfolding understood everything
first_says version = record { means = λ _. record { is = refl; plain = (refl, refl) }; whole = λ _. refl; types = λ _. refl }

-- each row of meta has 1 in its first column
pub meta_one : passes Check desk_schema (λ _. []) (meta_at 0) (meta_row (record { version = 0; events = 0; journeys = 0 })) ≡ true
unfolding binary Rattle.sqlite_value.specs.Order.value_cmp lib.Ieee.is_nan lib.Ieee.lt
meta_one = refl

pub founds_meta : (version : ℕ)
    → Effect Texts.insert_meta_text (first_params version) LacksMeta (adds_meta (at_first version)) (λ _. ⊤) LacksMeta (λ _. ⊤) (λ n. n)
founds_meta version =
    adds_last Places.meta (λ _. refl) (refl, (refl, (refl, (refl, (refl, tt))))) (first_says version) (at_first version) (omega arith)
    (λ db. simp (cast_int, cast_null)) LacksMeta LacksMeta (λ t none. none)
    (λ t none. subst (AllByRecursion (λ (m : MetaRow). 1 < 1)) (sym none) tt) (λ db t fits shown. record {
      alone = (refl, refl, meta_one);
      storable = held_from (meta_at 0) _ (storable _ _ refl refl (omega arith), omega arith) tt tt;
      single = tt;
      parents = tt;
    })

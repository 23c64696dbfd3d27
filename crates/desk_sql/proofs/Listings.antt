-- The queries for the rows of a journey. For `find_items`, `find_marks`, `find_steps` and `find_options`.
use Rattle.std.proofs.Common.{◌≡◌, ◌⊎◌, ℕ, ◌<◌, ◌≤◌, eqb-true, [], ◌∷◌, map, filter, false, Equal, is_lt, refl, ◌∙◌, arith, rules}
use Rattle.std.specs.Prelude.{⊤}
use Rattle.std.proofs.lemmas.Bool.{and_parts}
use Rattle.std.specs.Ordering.{ordering_then}
use Rattle.sqlite.specs.declared.types.Value.TheVariants.{Text}
use Rattle.sqlite.specs.Order.{column, value_cmp}
use Rattle.sqlite.specs.Query.{Output}
use Rattle.sqlite.specs.Listing.{understood}
use Rattle.sqlite_rules.proofs.ListLemmas.{has_filtered}
use Rattle.sqlite_tied.specs.Compute.{everything}
use Rattle.sqlite_trees.proofs.ListLemmas.{ascending-filter}
use Rattle.desk_sql.specs.Rows.{whole, Tables, StepRow, step_columns, EntryRow, entry_row, MarkRow, mark_columns}
use Rattle.desk_sql.specs.declared.versions.Version.{Version}
use Rattle.desk_sql.specs.declared.versions.Version.TheVariants.{One, Two}
use Rattle.desk_sql.specs.FoundRows.{step_of, is_step_of, IsByPlace, FindsSteps, is_option_of, FindsOptions, shows_step, ten_of, item_of, is_item_after, FindsItems, shows_item, four_of, mark_at_pos, is_mark_of, IsByPosition, FindsMarks}
use Rattle.desk_sql.specs.Readable.{Any, ShowsOne, AreWantTexts, HaveWantTexts, HaveOptionTexts, step_shown, item_shown, mark_shown}
use Rattle.desk_sql.specs.Texts.{find_steps_text, find_options_text, find_items_text, find_marks_text}
use Rattle.desk_sql.specs.Meanings.{find_steps_query, find_steps_names, find_options_query, find_items_query, find_items_names, find_marks_query, find_marks_names}
use Rattle.desk_sql.specs.declared.journeys.ItemFound.{ItemFound}
use Rattle.desk_sql.proofs.Asking.{SaysQuery, FindsList, asks_chosen, asks_own, lists}
use Rattle.desk_sql.proofs.OneList.{one_list}
use Rattle.desk_sql.proofs.Ordered.{whole_then, whole_last}
use Rattle.desk_sql.proofs.Reading.{passes}
use Rattle.desk_sql.proofs.Testing.{eq_whole, gt_whole, and_true}

-- Options of steps.

abbrev step_out : StepRow → Output
step_out s = (
  whole s.place ∷ whole s.opt ∷ [],
  whole s.place ∷ whole s.opt ∷ whole s.save ∷ whole s.taken ∷ whole s.kind ∷ Text s.supplier ∷ Text s.product ∷ whole s.night
      ∷ whole s.nights ∷ whole s.places ∷ [],
)

by_place : (a b c d : ℕ)
    → is_lt (ordering_then (value_cmp (whole b) (whole a)) (ordering_then (value_cmp (whole d) (whole c)) Equal)) ≡ false
    → (a < b) ⊎ ((a ≡ b) × (c ≤ d))
by_place a b c d e = search (rules, arith, whole_then, whole_last)

steps_say : (v : Version) (journey : ℕ) → SaysQuery v find_steps_text find_steps_query find_steps_names (whole journey ∷ [])
unfolding understood everything
steps_say One journey = record { means = λ _. record { is = refl; plain = (refl, refl); unlisted = refl; selects = refl }; takes = λ _. record { whole = refl; typed = refl } }
steps_say Two journey = record { means = λ _. record { is = refl; plain = (refl, refl); unlisted = refl; selects = refl }; takes = λ _. record { whole = refl; typed = refl } }

pub finds_steps : (v : Version) (journey : ℕ)
    → FindsList v find_steps_text (whole journey ∷ []) shows_step ten_of (FindsSteps journey) (HaveWantTexts journey) (ShowsOne step_shown AreWantTexts)
finds_steps v journey =
    lists (asks_chosen 8 find_steps_query.filter find_steps_query.project find_steps_query.order (steps_say v journey) (λ _. refl) step_columns (λ t. t.step)
    (λ _ _ s. s.step) step_out (λ _. refl) (is_step_of journey) (λ p. and_true _ ∙ eq_whole p.1.journey journey)) (step_of journey) shows_step ten_of
    (λ t f s there shown. let passed = (has_filtered (is_step_of journey) t.step s there).1 in search (rules, arith, eqb-true))
    (HaveWantTexts journey) (ShowsOne step_shown AreWantTexts) (λ t fits s there. (s, refl, fits s there))
    IsByPlace (λ a b up. by_place a.place b.place a.opt b.opt up)

options_say : (journey place : ℕ) → SaysQuery Two find_options_text find_options_query find_steps_names (whole journey ∷ whole place ∷ [])
unfolding understood everything
options_say journey place = record { means = λ _. record { is = refl; plain = (refl, refl); unlisted = refl; selects = refl }; takes = λ _. record { whole = refl; typed = refl } }

pub finds_options : (journey place : ℕ)
    → FindsList Two find_options_text (whole journey ∷ whole place ∷ []) shows_step ten_of (FindsOptions journey place) (HaveOptionTexts journey place)
    (ShowsOne step_shown AreWantTexts)
finds_options journey place =
    lists (asks_chosen 8 find_options_query.filter find_options_query.project find_options_query.order (options_say journey place) (λ _. refl) step_columns
    (λ t. t.step) (λ _ _ s. s.step) step_out (λ _. refl) (is_option_of journey place) (λ p. simp eq_whole (simp and_true))) (step_of journey) shows_step ten_of
    (λ t f s there shown. let passed = (has_filtered (is_option_of journey place) t.step s there).1 in search (rules, arith, and_parts, eqb-true))
    (HaveOptionTexts journey place) (ShowsOne step_shown AreWantTexts) (λ t fits s there. (s, refl, fits s there))
    IsByPlace (λ a b up. by_place a.place b.place a.opt b.opt up)

-- Items.

abbrev pub item_out : EntryRow → Output
item_out e = (whole e.num ∷ [], whole e.num ∷ whole e.item ∷ whole e.a ∷ whole e.b ∷ [])

pub item_test : (journey after : ℕ) (e : EntryRow)
    → passes find_items_query.filter (whole journey ∷ whole after ∷ []) (entry_row e) ≡ is_item_after journey after e
item_test journey after e = simp (eq_whole, gt_whole) (simp and_true)

pub same_item : (journey : ℕ) (f : ItemFound) (e : EntryRow) → e.journey ≡ journey → shows_item f ≡ (item_out e).1 → item_of journey f ≡ e
same_item journey f e of shown = search (rules, arith)

items_say : (journey after : ℕ) → SaysQuery Two find_items_text find_items_query find_items_names (whole journey ∷ whole after ∷ [])
unfolding understood everything
items_say journey after = record { means = λ _. record { is = refl; plain = (refl, refl); unlisted = refl; selects = refl }; takes = λ _. record { whole = refl; typed = refl } }

-- the numbers of items differ, so they have just one order
pub finds_items : (journey after : ℕ)
    → FindsList Two find_items_text (whole journey ∷ whole after ∷ []) shows_item four_of (FindsItems journey after) Any (ShowsOne item_shown (λ _. ⊤))
finds_items journey after =
    let some = λ (t : Tables). filter (is_item_after journey after) t.entries in
    let it = lists (asks_own 13 find_items_query.filter find_items_query.project find_items_query.order (items_say journey after) (λ _. refl)
    (λ (e : EntryRow). e.num) entry_row (λ t. t.entries) (λ _ _ s. s.entries) (is_item_after journey after) (item_test journey after))
    (item_of journey) shows_item four_of
    (λ t f e there shown. let passed = (has_filtered (is_item_after journey after) t.entries e there).1 in search (rules, arith, and_parts, eqb-true))
    Any (ShowsOne item_shown (λ _. ⊤)) (λ t any e there. (e, refl, tt)) (λ (a b : EntryRow). a.num ≤ b.num) (λ a b up. whole_last a.num b.num up) in
    record {
      selects = it.selects;
      found = λ old new t sees rows found was given. (
          let listed = it.found old new t sees rows found was given in
          one_list (λ (e : EntryRow). e.num) (some t) (map (item_of journey) found)
          (ascending-filter _ (is_item_after journey after) t.entries (sees given.0.0.was_open).rows.entries.rise) listed.same listed.rising);
      good = it.good;
      reason = it.reason;
    }

-- Save-points.

abbrev mark_out : MarkRow → Output
mark_out m = (whole m.pos ∷ [], whole m.pos ∷ [])

marks_say : (journey : ℕ) → SaysQuery Two find_marks_text find_marks_query find_marks_names (whole journey ∷ [])
unfolding understood everything
marks_say journey = record { means = λ _. record { is = refl; plain = (refl, refl); unlisted = refl; selects = refl }; takes = λ _. record { whole = refl; typed = refl } }

pub finds_marks : (journey : ℕ)
    → FindsList Two find_marks_text (whole journey ∷ []) whole (λ r. column r 0) (FindsMarks journey) Any (ShowsOne mark_shown (λ _. ⊤))
finds_marks journey =
    lists (asks_chosen 14 find_marks_query.filter find_marks_query.project find_marks_query.order (marks_say journey) (λ _. refl) mark_columns (λ t. t.mark)
    (λ _ _ s. s.mark) mark_out (λ _. refl) (is_mark_of journey) (λ p. and_true _ ∙ eq_whole p.1.journey journey)) (mark_at_pos journey) whole (λ r. column r 0)
    (λ t at m there shown. let passed = (has_filtered (is_mark_of journey) t.mark m there).1 in search (rules, arith, eqb-true))
    Any (ShowsOne mark_shown (λ _. ⊤)) (λ t any m there. (m, refl, tt)) IsByPosition (λ a b up. whole_last a.pos b.pos up)

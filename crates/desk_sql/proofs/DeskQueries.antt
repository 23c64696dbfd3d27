-- The queries for the numbers of meta, a kept reply, a batch, journeys, and the nights of a range. For the functions that read one table.
use Rattle.std.proofs.Common.{◌≡◌, ◌<◌, List, [], ◌∷◌, filter, true, Some, None, arith, refl, sym, subst, ◌∙◌, ℕ, Option, option_map, eqb-true, rules}
use Rattle.sqlite.specs.Order.{Row}
use Rattle.sqlite.specs.State.{State, QueriesRow}
use Rattle.sqlite.specs.Query.{Output}
use Rattle.sqlite.specs.Listing.{understood}
use Rattle.sqlite_tied.specs.Compute.{everything}
use Rattle.sqlite_trees.specs.Tree.{IsAscending}
use Rattle.sqlite_trees.proofs.ListLemmas.{filter_all, all_of}
use Rattle.sqlite_rules.specs.Lists.{Has}
use Rattle.desk_sql.specs.Lists.{IsOneOf}
use Rattle.desk_sql.specs.Rows.{whole, Tables, MetaRow, meta_row, AnswerRow, answer_columns, BatchRow, batch_columns, JourneyRow, journey_row, StockRow, stock_columns}
use Rattle.desk_sql.specs.declared.versions.Version.{Version}
use Rattle.desk_sql.specs.declared.versions.Version.TheVariants.{One, Two}
use Rattle.desk_sql.specs.Calls.{MaySeeIn}
use Rattle.desk_sql.specs.Queries.{GivesRow, one_row}
use Rattle.desk_sql.specs.FoundRows.{HasRow, meta_of, IsMeta, shows_meta, three_of, is_for, answer_of, FindsAnswer, shows_answer, two_of, is_named, batch_of, FindsBatch, shows_batch, journey_of, is_numbered, is_unfinished_after, FindsJourney, FindsUnfinished, shows_journey, nine_of}
use Rattle.desk_sql.specs.Readable.{HasMeta, meta_shown, ShowsOne, IsReplyText, HasReplyText, answer_shown, Any, batch_shown, IsAgentText, HasAgentText, HaveAgentTexts, night_shown}
use Rattle.desk_sql.specs.declared.meta.Meta.{Meta}
use Rattle.desk_sql.specs.Texts.{read_meta_text, find_answer_text, find_batch_text, find_journey_text, first_unfinished_text, find_nights_text}
use Rattle.desk_sql.specs.Meanings.{read_meta_query, read_meta_names, find_answer_query, find_answer_names, find_batch_query, find_batch_names, find_journey_query, first_unfinished_query, journey_names, journey_project, find_nights_query, find_nights_names}
use Rattle.desk_sql.proofs.Asking.{SaysQuery, asks_own, Finds, FindsOne, asks_chosen, one_of, least_of, FindsList, lists}
use Rattle.desk_sql.proofs.Changing.{meta_passes}
use Rattle.std.proofs.lemmas.Bool.{and_parts}
use Rattle.std.proofs.lemmas.Slice.Eq.{bytes_eq-Decides}
use Rattle.sqlite.specs.declared.types.Value.TheVariants.{Text, Blob}
use Rattle.sqlite_rules.proofs.ListLemmas.{has_filtered}
use Rattle.desk_sql.proofs.Reading.{passes}
use Rattle.desk_sql.proofs.Testing.{eq_text, and_true, eq_whole, gt_whole, le_whole, ge_whole}
use Rattle.std.specs.Prelude.{⊤}
use Rattle.desk_sql.specs.RemainingRows.{journey_shown}
use Rattle.desk_sql.specs.declared.journeys.JourneyFound.{JourneyFound}
use Rattle.desk_sql.proofs.Ordered.{whole_last}
use Rattle.desk_sql.specs.Stock.{is_within, night_of, IsByNight, FindsNights, shows_night}
use Rattle.desk_sql.specs.declared.stock.NightRange.{NightRange}

-- The query on meta.

all_pass : (ms : List MetaRow) → filter (λ _. true) ms ≡ ms
all_pass ms = filter_all (λ (_ : MetaRow). true) ms (all_of (λ (_ : MetaRow). true ≡ true) (λ _. refl) ms)

-- at most one value has rowid 1
only_one : (ms : List MetaRow) (m : MetaRow) → IsAscending (λ (x y : MetaRow). 1 < 1) ms → Has ms m → ms ≡ m ∷ []
only_one [] m rise h = absurd h
only_one (n ∷ []) m rise h = search (rules, arith)
only_one (n ∷ o ∷ ms) m rise h = absurd (let low = rise.0.0 in omega (arith, low))

same_meta : (r : Meta) (m : MetaRow) → shows_meta r ≡ whole m.version ∷ whole m.events ∷ whole m.journeys ∷ [] → m ≡ meta_of r
same_meta r m shown = search (rules, arith)

meta_says : (v : Version) → SaysQuery v read_meta_text read_meta_query read_meta_names []
unfolding understood everything
meta_says One = record { means = λ _. record { is = refl; plain = (refl, refl); unlisted = refl; selects = refl }; takes = λ _. record { whole = refl; typed = refl } }
meta_says Two = record { means = λ _. record { is = refl; plain = (refl, refl); unlisted = refl; selects = refl }; takes = λ _. record { whole = refl; typed = refl } }

-- the row that is read is that of meta, and where meta has a row, one is given
pub finds_meta : (v : Version) → Finds v read_meta_text [] (λ given old new row. QueriesRow read_meta_text given old new (one_row row))
    (λ row m. HasRow (λ r. shows_meta m ≡ three_of r) row) IsMeta HasMeta (HasRow (ShowsOne meta_shown (λ _. ⊤)))
finds_meta v = record { selects = asked.selects; found = found; good = good; reason = asked.reason }
  where
    asked : FindsOne v read_meta_text [] shows_meta three_of (λ t found. IsOneOf (filter (λ _. true) t.meta) (option_map meta_of found)) HasMeta
        (ShowsOne meta_shown (λ _. ⊤))
    asked =
        one_of (asks_own 0 read_meta_query.filter read_meta_query.project [] (meta_says v) (λ _. refl) (λ (m : MetaRow). 1) meta_row (λ t. t.meta)
        (λ _ _ s. s.meta) (λ _. true) (meta_passes [])) meta_of shows_meta three_of (λ t f m there shown. sym (same_meta f m shown))
        HasMeta (ShowsOne meta_shown (λ _. ⊤)) (λ t has m there. (m, refl, tt))

    found : (old new : State) (t : Tables) → MaySeeIn v old t → (row : Option Row) (m : Meta) → HasRow (λ r. shows_meta m ≡ three_of r) row
        → GivesRow read_meta_text [] old new row → IsMeta t m
    found old new t sees (Some row) m read given =
        only_one t.meta (meta_of m) (sees given.0.0.was_open).rows.meta.rise
        (subst (λ ms. Has ms (meta_of m)) (all_pass t.meta) (asked.found old new t sees (Some row) (Some m) read given))
    found old new t sees None m read given = absurd read

    good : (old new : State) (t : Tables) → MaySeeIn v old t → HasMeta t → (row : Option Row) → GivesRow read_meta_text [] old new row
        → HasRow (ShowsOne meta_shown (λ _. ⊤)) row
    good old new t sees has (Some row) given = asked.good old new t sees has (Some row) given
    good old new t sees has None given =
        let bad : has.0 ∷ [] ≡ [] = sym has.1 ∙ (sym (all_pass t.meta) ∙ asked.found old new t sees None None tt given) in cc

-- The reply that is kept under an agent's key.

abbrev answer_key : List ℕ → List ℕ → Row
answer_key agent mark = Text agent ∷ Text mark ∷ []

abbrev answer_out : AnswerRow → Output
answer_out a = ([], Blob a.ask ∷ Text a.reply ∷ [])

answer_says : (agent mark : List ℕ) → SaysQuery Two find_answer_text find_answer_query find_answer_names (answer_key agent mark)
unfolding understood everything
answer_says agent mark = record { means = λ _. record { is = refl; plain = (refl, refl); unlisted = refl; selects = refl }; takes = λ _. record { whole = refl; typed = refl } }

pub finds_answer : (agent mark : List ℕ)
    → FindsOne Two find_answer_text (answer_key agent mark) shows_answer two_of (FindsAnswer agent mark) (HasReplyText agent mark) (ShowsOne answer_shown IsReplyText)
finds_answer agent mark =
    one_of (asks_chosen 11 find_answer_query.filter find_answer_query.project [] (answer_says agent mark) (λ _. refl) answer_columns (λ t. t.answer)
    (λ _ _ s. s.answer) answer_out (λ _. refl) (is_for agent mark) (λ p. simp eq_text (simp and_true))) (answer_of agent mark) shows_answer two_of
    (λ t k a there shown. let passed = (has_filtered (is_for agent mark) t.answer a there).1 in search (rules, arith, and_parts, bytes_eq-Decides))
    (HasReplyText agent mark) (ShowsOne answer_shown IsReplyText) (λ t fits a there. (a, refl, fits a there))

-- The batch with a name.

abbrev batch_out : BatchRow → Output
batch_out b = ([], whole b.num ∷ Blob b.content ∷ [])

batch_says : (name : List ℕ) → SaysQuery Two find_batch_text find_batch_query find_batch_names (Text name ∷ [])
unfolding understood everything
batch_says name = record { means = λ _. record { is = refl; plain = (refl, refl); unlisted = refl; selects = refl }; takes = λ _. record { whole = refl; typed = refl } }

pub finds_batch : (name : List ℕ)
    → FindsOne Two find_batch_text (Text name ∷ []) shows_batch two_of (FindsBatch name) Any (ShowsOne batch_shown (λ _. ⊤))
finds_batch name =
    one_of (asks_chosen 3 find_batch_query.filter find_batch_query.project [] (batch_says name) (λ _. refl) batch_columns (λ t. t.batch)
    (λ _ _ s. s.batch) batch_out (λ _. refl) (is_named name) (λ p. and_true _ ∙ eq_text p.1.name name)) (batch_of name) shows_batch two_of
    (λ t f b there shown. let passed = (has_filtered (is_named name) t.batch b there).1 in search (rules, arith, bytes_eq-Decides))
    Any (ShowsOne batch_shown (λ _. ⊤)) (λ t any b there. (b, refl, tt))

-- The queries on journeys.

-- the journey that was read of a row is that of the row
pub same_journey : (f : JourneyFound) (j : JourneyRow) → shows_journey f ≡ journey_shown j → journey_of f ≡ j
same_journey f j e = search (rules, arith)

pub unfinished_test : (after : ℕ) (j : JourneyRow)
    → passes first_unfinished_query.filter (whole after ∷ []) (journey_row j) ≡ is_unfinished_after after j
unfinished_test after j = simp (gt_whole, le_whole) (simp and_true)

journey_says : (v : Version) (id : ℕ) → SaysQuery v find_journey_text find_journey_query journey_names (whole id ∷ [])
unfolding understood everything
journey_says One id = record { means = λ _. record { is = refl; plain = (refl, refl); unlisted = refl; selects = refl }; takes = λ _. record { whole = refl; typed = refl } }
journey_says Two id = record { means = λ _. record { is = refl; plain = (refl, refl); unlisted = refl; selects = refl }; takes = λ _. record { whole = refl; typed = refl } }

pub finds_journey : (v : Version) (id : ℕ)
    → FindsOne v find_journey_text (whole id ∷ []) shows_journey nine_of (FindsJourney id) (HasAgentText id) (ShowsOne journey_shown IsAgentText)
finds_journey v id =
    one_of (asks_own 6 find_journey_query.filter journey_project [] (journey_says v id) (λ _. refl) (λ (j : JourneyRow). j.id) journey_row (λ t. t.journey)
    (λ _ _ s. s.journey) (is_numbered id) (λ j. and_true _ ∙ eq_whole j.id id)) journey_of shows_journey nine_of (λ t f j there shown. same_journey f j shown)
    (HasAgentText id) (ShowsOne journey_shown IsAgentText) (λ t fits j there. (j, refl, fits j there))

unfinished_says : (after : ℕ) → SaysQuery Two first_unfinished_text first_unfinished_query journey_names (whole after ∷ [])
unfolding understood everything
unfinished_says after = record { means = λ _. record { is = refl; plain = (refl, refl); unlisted = refl; selects = refl }; takes = λ _. record { whole = refl; typed = refl } }

pub finds_unfinished : (after : ℕ)
    → FindsOne Two first_unfinished_text (whole after ∷ []) shows_journey nine_of (FindsUnfinished after) (HaveAgentTexts after) (ShowsOne journey_shown IsAgentText)
finds_unfinished after =
    least_of (asks_own 6 first_unfinished_query.filter journey_project first_unfinished_query.order (unfinished_says after) (λ _. refl)
    (λ (j : JourneyRow). j.id) journey_row (λ t. t.journey) (λ _ _ s. s.journey) (is_unfinished_after after) (unfinished_test after))
    journey_of shows_journey nine_of (λ t f j there shown. same_journey f j shown)
    (HaveAgentTexts after) (ShowsOne journey_shown IsAgentText) (λ t fits j there. (j, refl, fits j there))
    (λ (j : JourneyRow). j.id) (λ a b up. whole_last a.id b.id up)

-- The query on the nights of a range.

abbrev range_params : NightRange → Row
range_params r = whole r.kind ∷ Text r.supplier.now ∷ Text r.product.now ∷ whole r.first ∷ whole r.last ∷ []

abbrev night_out : StockRow → Output
night_out s = (whole s.night ∷ [], whole s.night ∷ whole s.allot ∷ whole s.free ∷ [])

nights_say : (r : NightRange) → SaysQuery Two find_nights_text find_nights_query find_nights_names (range_params r)
unfolding understood everything
nights_say r = record { means = λ _. record { is = refl; plain = (refl, refl); unlisted = refl; selects = refl }; takes = λ _. record { whole = refl; typed = refl } }

pub finds_nights : (r : NightRange)
    → FindsList Two find_nights_text (range_params r) shows_night three_of (FindsNights r) Any (ShowsOne night_shown (λ _. ⊤))
finds_nights r =
    lists (asks_chosen 1 find_nights_query.filter find_nights_query.project find_nights_query.order (nights_say r) (λ _. refl) stock_columns (λ t. t.stock)
    (λ _ _ s. s.stock) night_out (λ _. refl) (is_within r) (λ p. simp (eq_whole, eq_text, ge_whole, le_whole) (simp and_true))) (night_of r) shows_night three_of
    (λ t n s there shown. let passed = (has_filtered (is_within r) t.stock s there).1 in search (rules, arith, and_parts, bytes_eq-Decides, eqb-true))
    Any (ShowsOne night_shown (λ _. ⊤)) (λ t any s there. (s, refl, tt)) IsByNight (λ a b up. whole_last a.night b.night up)

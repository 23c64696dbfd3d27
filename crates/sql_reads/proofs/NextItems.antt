-- The first item of a journey after an event, in tables of each version. For `next_item`.
use Rattle.std.proofs.Common.{arith, rules}
use Rattle.std.specs.Prelude.{⊤, ◌≡◌, ℕ, List, ◌==◌, [], ◌∷◌, refl, ltb as nat_lt}
use Rattle.std.proofs.lemmas.Bool.{and_parts, eqb-true}
use Rattle.sqlite.specs.Listing.{understood}
use Rattle.sqlite.specs.Program.{overlay}
use Rattle.sqlite.specs.Tree.{Trees}
use Rattle.sqlite_rules.proofs.ListLemmas.{has_filtered}
use Rattle.sqlite_tied.specs.Compute.{everything}
use Rattle.desk_sql.specs.declared.versions.Version.{Version}
use Rattle.desk_sql.specs.declared.versions.Version.TheVariants.{One, Two}
use Rattle.desk_sql.specs.FoundRows.{is_item_after, item_of, FindsNextItem, shows_item, four_of}
use Rattle.desk_sql.specs.Meanings.{find_items_in, find_items_names, find_items_query}
use Rattle.desk_sql.specs.Readable.{Any, ShowsOne, item_shown}
use Rattle.desk_sql.specs.Rows.{whole, EntryRow, entry_row, items_tree}
use Rattle.desk_sql.proofs.Asking.{FindsOne, SaysQuery, asks_own, least_of}
use Rattle.desk_sql.proofs.Listings.{item_test, same_item}
use Rattle.desk_sql.proofs.Ordered.{whole_last}
use Rattle.sql_reads.specs.ItemTexts.{next_item_text}

items_say : (v : Version) (journey after : ℕ) → SaysQuery v (next_item_text v) (find_items_in v) find_items_names (whole journey ∷ whole after ∷ [])
unfolding understood everything
items_say One journey after = record { means = λ _. record { is = refl; plain = (refl, refl); unlisted = refl; selects = refl }; takes = λ _. record { whole = refl; typed = refl } }
items_say Two journey after = record { means = λ _. record { is = refl; plain = (refl, refl); unlisted = refl; selects = refl }; takes = λ _. record { whole = refl; typed = refl } }

items_there : (v : Version) (db : Trees) → overlay db [] (items_tree v) ≡ db (items_tree v)
items_there v db = search (rules, arith)

next_found : (v : Version) (journey after : ℕ) → FindsOne v (next_item_text v) (whole journey ∷ whole after ∷ []) shows_item four_of
    (FindsNextItem journey after) Any (ShowsOne item_shown (λ _. ⊤))
next_found v journey after =
    least_of (asks_own (items_tree v) find_items_query.filter find_items_query.project find_items_query.order (items_say v journey after) (items_there v)
    (λ (e : EntryRow). e.num) entry_row (λ t. t.entries) (λ _ _ s. s.entries) (is_item_after journey after) (item_test journey after))
    (item_of journey) shows_item four_of (λ t f e there shown.
    let both = and_parts (e.journey == journey) (nat_lt after e.num) (has_filtered (is_item_after journey after) t.entries e there).1 in
    same_item journey f e (eqb-true _ _ both.0) shown)
    Any (ShowsOne item_shown (λ _. ⊤)) (λ t any e there. (e, refl, tt)) (λ (e : EntryRow). e.num) (λ a b up. whole_last a.num b.num up)

pub finds_next : (v : Version) (text : List ℕ) (journey after : ℕ) → text ≡ next_item_text v → FindsOne v text (whole journey ∷ whole after ∷ [])
    shows_item four_of (FindsNextItem journey after) Any (ShowsOne item_shown (λ _. ⊤))
finds_next v text journey after is = rw is (next_found v journey after)

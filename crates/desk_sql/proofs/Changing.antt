-- The statements that update rows. For the functions that update.
use Rattle.std.proofs.Common.{to_z, of_z, w64, ◌≡◌, ◌<◌, ◌≤◌, ◌^◌, ◌+◌, ◌-◌, ◌-ℤ◌, neg_ℤ, ℕ, ℤ, pos, [], ◌∷◌, length, inl, inr, true, ◌&&◌, eqb-true, refl, ◌∙◌, arith, rules}
use Rattle.std.specs.Prelude.{⊤}
use Rattle.std.proofs.lemmas.Int.{ints}
use Rattle.std.proofs.lemmas.Bool.{and_parts, and_from}
use Rattle.std.proofs.lemmas.Bool.Decides.{nat_tests}
use Rattle.sqlite.specs.declared.types.Value.TheVariants.{Int, Text}
use Rattle.sqlite.specs.Ops.{binary, fits_i64}
use Rattle.sqlite_sql.specs.declared.ops.BinaryOp.TheVariants.{Arith}
use Rattle.sqlite_sql.specs.declared.ops.ArithOp.TheVariants.{Sub}
use Rattle.sqlite.specs.Order.{Row, value_cmp}
use Rattle.sqlite.specs.Tree.{Trees}
use Rattle.sqlite.specs.Listing.{understood}
use Rattle.sqlite_schema.specs.declared.schema.Constraint.TheVariants.{Check}
use Rattle.sqlite_schema.specs.Rules.{Obeys}
use Rattle.sqlite_rules.specs.Lists.{Has}
use Rattle.sqlite_rules.proofs.ListLemmas.{all_has, all_from, has_kept}
use Rattle.sqlite_rules.proofs.RuleLemmas.{keeps_at}
use Rattle.sqlite_tied.specs.Compute.{everything}
use Rattle.desk_sql.specs.Schema.{desk_schema, meta_at, stock_at, journey_at, step_at}
use Rattle.desk_sql.specs.Lists.{numbered_row, changed}
use Rattle.desk_sql.specs.Rows.{whole, Tables, MetaRow, meta_row, StockRow, stock_columns, JourneyRow, journey_row, StepRow, step_columns}
use Rattle.desk_sql.specs.FoundRows.{is_numbered}
use Rattle.desk_sql.specs.Changes.{counts, moves_journey, with_cursor, marks_step, is_option, with_taken}
use Rattle.desk_sql.specs.Stock.{is_within, HaveFree, HaveRoom, takes_nights, gives_nights}
use Rattle.desk_sql.specs.Writable.{HasRowids, IsShort, MayMove, MayMarkStep, AreShortNights, MayTakeNights, MayGiveNights}
use Rattle.desk_sql.specs.Texts.{update_meta_text, move_journey_text, mark_step_text, shift_nights_text}
use Rattle.desk_sql.specs.Meanings.{update_meta_query, move_journey_query, mark_step_query, shift_nights_query}
use Rattle.desk_sql.specs.declared.journeys.Cursor.{Cursor}
use Rattle.desk_sql.specs.declared.stock.NightRange.{NightRange}
use Rattle.desk_sql.proofs.Effects.{Effect}
use Rattle.desk_sql.proofs.Inserting.{cast_int, meta_one}
use Rattle.desk_sql.proofs.NewRow.{IsFit}
use Rattle.desk_sql.proofs.Places.{chosen, own}
use Rattle.desk_sql.proofs.Places
use Rattle.desk_sql.proofs.Reading.{passes}
use Rattle.desk_sql.proofs.Storing.{storable, held_from, fits_whole, is_bit, bit_holds, range_holds}
use Rattle.desk_sql.proofs.Testing.{eq_whole, eq_text, ge_whole, le_whole, and_true}
use Rattle.desk_sql.proofs.UpdateReasons.{SaysUpdate, changes_rows, twin_four, low_fits, stock_fit, kept_kind, allotted}
use Rattle.desk_sql.proofs.Writing.{cast_null}

-- Numbers of meta.

abbrev meta_params : MetaRow → Row
meta_params m = whole m.version ∷ whole m.events ∷ whole m.journeys ∷ []

-- the row of meta has 1 in its first column
pub meta_passes : (params : Row) (m : MetaRow) → passes update_meta_query.filter params (meta_row m) ≡ true
unfolding binary value_cmp lib.Ieee.is_nan lib.Ieee.lt
meta_passes params m = refl

meta_says : (m : MetaRow) → SaysUpdate update_meta_text 0 0 update_meta_query.filter update_meta_query.project (meta_params m)
unfolding understood everything
meta_says m = record { means = λ _. record { is = refl; plain = (refl, refl) }; whole = λ _. refl; types = λ _. refl }

pub counts_meta : (m : MetaRow) → Effect update_meta_text (meta_params m) (λ _. ⊤) (counts m) (λ _. ⊤) (λ _. ⊤) (λ _. ⊤) (λ n. n)
counts_meta m =
    changes_rows (own (λ (x : MetaRow). 1) meta_row (λ _. refl)) Places.meta (inr (refl, (refl, (refl, (refl, (refl, tt))))))
    update_meta_query.filter update_meta_query.project (meta_says m) (λ _. true) (λ _. m) (meta_passes (meta_params m)) (λ _. refl) (λ _. refl)
    (λ _. ⊤) (λ _. ⊤) (λ _. ⊤) (λ t any. any) (λ t any x there is. simp (cast_int, cast_null)) (λ db t room any obeys x there row is. record {
      typed = refl;
      present = refl;
      checked = meta_one;
      id = pos 1;
      keyed = refl;
      fits = fits_whole 1 (omega arith);
      storable = held_from (meta_at 0) (meta_row m) (storable _ (meta_row m) refl refl (omega arith), omega arith) tt tt;
    }) (λ x. search (rules, arith, all_from, has_kept))

-- A journey's cursor.

abbrev cursor_params : ℕ → Cursor → Row
cursor_params id c = whole id ∷ whole c.pos ∷ whole c.phase ∷ whole c.target ∷ whole c.used ∷ []

move_says : (id : ℕ) (c : Cursor) → SaysUpdate move_journey_text 3 6 move_journey_query.filter move_journey_query.project (cursor_params id c)
unfolding understood everything
move_says id c = record { means = λ _. record { is = refl; plain = (refl, refl) }; whole = λ _. refl; types = λ _. refl }

pub moves_cursor : (id : ℕ) (c : Cursor) → id < 2 ^ 63
    → Effect move_journey_text (cursor_params id c) (λ _. ⊤) (moves_journey id c) (λ _. ⊤) (MayMove id c) (λ _. ⊤) (λ n. n)
moves_cursor id c small =
    changes_rows (own (λ (j : JourneyRow). j.id) journey_row (λ _. refl)) Places.journeys (inr (refl, (refl, (refl, (refl, (refl, tt))))))
    move_journey_query.filter move_journey_query.project (move_says id c) (is_numbered id) (with_cursor c) (λ j. and_true _ ∙ eq_whole j.id id)
    (λ _. refl) (λ _. refl) (λ _. ⊤) (MayMove id c) (λ _. ⊤) (λ t fits. tt) (λ t any j there is. simp (cast_int, cast_null))
    (λ db t room fits obeys j there row is.
    let short = all_has (λ (k : JourneyRow). is_numbered id k ≡ true → IsShort (length k.agent)) t.journey j fits.short there is in
    record {
      typed = refl;
      present = refl;
      checked = rw (range_holds c.phase 0 3 (omega arith) fits.phase) refl;
      id = pos j.id;
      keyed = refl;
      fits = fits_whole j.id (omega (arith, eqb-true j.id id is, small));
      storable = held_from (journey_at 6) (journey_row (with_cursor c j))
          (storable _ (journey_row (with_cursor c j)) refl refl (omega (arith, short)), omega arith) (storable _ _ refl refl (omega arith), tt)
          (storable _ _ refl refl (omega (arith, short)), tt);
    })
    (λ j. twin_four (journey_at 6) (journey_row j) (journey_row (with_cursor c j)) refl refl refl refl refl tt)

-- An option's mark.

abbrev option_params : ℕ → ℕ → ℕ → ℕ → Row
option_params journey place opt taken = whole journey ∷ whole place ∷ whole opt ∷ whole taken ∷ []

option_says : (journey place opt taken : ℕ)
    → SaysUpdate mark_step_text 4 8 mark_step_query.filter mark_step_query.project (option_params journey place opt taken)
unfolding understood everything
option_says journey place opt taken = record { means = λ _. record { is = refl; plain = (refl, refl) }; whole = λ _. refl; types = λ _. refl }

-- an option keeps whether a save-point follows it
option_fit : (db : Trees) (id : ℤ) (s : StepRow) (taken : ℕ) → Obeys desk_schema db → Has (db 8) (numbered_row step_columns (id, s)) → fits_i64 id ≡ true
    → taken ≤ 1 → IsShort (length s.supplier + length s.product) → IsFit (step_at 8) db (numbered_row step_columns (id, with_taken taken s))
option_fit db id s taken obeys there fits low short =
    let was = keeps_at Check desk_schema db (step_at 8) (numbered_row step_columns (id, s)) (obeys.rules Check) (inr (inr (inr (inr (inl refl))))) there in
    let first = (and_parts (is_bit s.save) (is_bit s.taken && true) was).0 in
    record {
      typed = refl;
      present = refl;
      checked = and_from (is_bit s.save) (is_bit taken && true) first (rw (bit_holds taken low) refl);
      id = id;
      keyed = refl;
      fits = fits;
      storable = held_from (step_at 8) (numbered_row step_columns (id, with_taken taken s))
          (storable _ (numbered_row step_columns (id, with_taken taken s)) refl refl (omega (arith, short)), omega arith) (storable _ _ refl refl (omega arith), tt) tt;
    }

pub marks_option : (journey place opt taken : ℕ)
    → Effect mark_step_text (option_params journey place opt taken) (λ _. ⊤) (marks_step journey place opt taken) (HasRowids 0)
    (MayMarkStep journey place opt taken) (λ _. ⊤) (λ n. n)
marks_option journey place opt taken =
    changes_rows (chosen step_columns) Places.steps (inl (λ n db has. has.step)) mark_step_query.filter mark_step_query.project
    (option_says journey place opt taken) (is_option journey place opt) (with_taken taken) (λ p. simp eq_whole (simp and_true)) (λ _. refl) (λ _. refl)
    (λ _. ⊤) (MayMarkStep journey place opt taken) (HasRowids 0) (λ t fits. tt) (λ t any p there is. simp cast_int)
    (λ db t room fits obeys p there row is.
    option_fit db p.0 p.1 taken obeys row (low_fits (db 8) (numbered_row step_columns p) p.0 room.step row refl) fits.mark_is
    (all_has (λ (s : StepRow). is_option journey place opt s ≡ true → IsShort (length s.supplier + length s.product)) t.step p.1 fits.short there is))
    (λ p. twin_four (step_at 8) (numbered_row step_columns p) (numbered_row step_columns (p.0, with_taken taken p.1)) refl refl refl refl refl ((refl, tt), tt))

-- The nights of a range.

abbrev shift_params : NightRange → ℤ → Row
shift_params r by = whole r.kind ∷ Text r.supplier.now ∷ Text r.product.now ∷ Int by ∷ whole r.first ∷ whole r.last ∷ []

shift_says : (r : NightRange) (by : ℤ) → SaysUpdate shift_nights_text 1 1 shift_nights_query.filter shift_nights_query.project (shift_params r by)
unfolding understood everything
shift_says r by = record { means = λ _. record { is = refl; plain = (refl, refl) }; whole = λ _. refl; types = λ _. refl }

abbrev with_free : (StockRow → ℕ) → StockRow → StockRow
with_free to s = record s { free = to s }

-- the free places of each night are changed to so many, by this difference
shifts : (w : NightRange) (by : ℤ) (to : StockRow → ℕ) (Seen Fits : Tables → Type 0) → ((t : Tables) → Fits t → Seen t)
    → ((t : Tables) → Seen t → (s : StockRow) → Has t.stock s → is_within w s ≡ true → binary (Arith Sub) (whole s.free) (Int by) ≡ whole (to s))
    → ((t : Tables) → Fits t → AreShortNights w t)
    → ((t : Tables) → Fits t → (s : StockRow) → Has t.stock s → is_within w s ≡ true → s.free ≤ s.allot → to s ≤ s.allot)
    → Effect shift_nights_text (shift_params w by) Seen (λ t. record t { stock = changed (is_within w) (with_free to) t.stock }) (HasRowids 0) Fits Seen (λ n. n)
shifts w by to Seen Fits fits_seen sub_is short under =
    changes_rows (chosen stock_columns) Places.stock (inl (λ n db has. has.stock)) shift_nights_query.filter shift_nights_query.project
    (shift_says w by) (is_within w) (with_free to) (λ p. simp (eq_whole, eq_text, ge_whole, le_whole) (simp and_true)) (λ _. refl) (λ _. refl) Seen Fits (HasRowids 0) fits_seen
    (λ t seen p there is. simp (sub_is t seen p.1 there is, cast_int))
    (λ db t room fits obeys p there row is.
    stock_fit db p.0 (with_free to p.1) (low_fits (db 1) (numbered_row stock_columns p) p.0 room.stock row refl) (kept_kind db p.0 p.1 obeys row)
    (under t fits p.1 there is (allotted db p.0 p.1 obeys row))
    (all_has (λ (s : StockRow). is_within w s ≡ true → IsShort (length s.supplier + length s.product)) t.stock p.1 (short t fits) there is))
    (λ p. twin_four (stock_at 1) (numbered_row stock_columns p) (numbered_row stock_columns (p.0, with_free to p.1)) refl refl refl refl refl tt)

fits : (n : ℕ) → n < 2 ^ 63 → fits_i64 (pos n) ≡ true
fits n low = grind (arith, ints, nat_tests)

int_minus : (a b : ℕ) → b ≤ a → pos a -ℤ pos b ≡ pos (a - b)
int_minus a b low = omega (arith, ints)

int_plus : (a b : ℕ) → pos a -ℤ neg_ℤ (pos b) ≡ pos (a + b)
int_plus a b = omega (arith, ints)

-- the free places after places are taken or given back
pub sub_fewer : (a b : ℕ) → b ≤ a → a < 2 ^ 63 → binary (Arith Sub) (whole a) (whole b) ≡ whole (a - b)
unfolding binary
sub_fewer a b low high = rw (int_minus a b low, fits (a - b) (omega arith)) refl

sub_more : (a b : ℕ) → a + b < 2 ^ 63 → binary (Arith Sub) (whole a) (Int (neg_ℤ (pos b))) ≡ whole (a + b)
unfolding binary
sub_more a b high = rw (int_plus a b, fits (a + b) high) refl

pub takes_places : (w : NightRange) (count : ℕ)
    → Effect shift_nights_text (shift_params w (pos count)) (HaveFree w count) (takes_nights w count) (HasRowids 0) (MayTakeNights w count) (HaveFree w count) (λ n. n)
takes_places w count =
    shifts w (pos count) (λ s. s.free - count) (HaveFree w count) (MayTakeNights w count) (λ t may. may.free)
    (λ t free s there is.
    let enough = all_has (λ (s : StockRow). is_within w s ≡ true → (count ≤ s.free) × (s.free < 2 ^ 63)) t.stock s free there is in
    sub_fewer s.free count enough.0 enough.1)
    (λ t may. may.short) (λ t may s there is low. omega (arith, low))

pub gives_places : (w : NightRange) (count : ℕ)
    → Effect shift_nights_text (shift_params w (neg_ℤ (pos count))) (HaveRoom w count) (gives_nights w count) (HasRowids 0) (MayGiveNights w count) (HaveRoom w count) (λ n. n)
gives_places w count =
    shifts w (neg_ℤ (pos count)) (λ s. s.free + count) (HaveRoom w count) (MayGiveNights w count)
    (λ t may. all_from (λ (s : StockRow). is_within w s ≡ true → s.free + count < 2 ^ 63) t.stock
    (λ s there is. let room = held t may s there is in omega (arith, room.0, room.1)))
    (λ t room s there is.
    sub_more s.free count (all_has (λ (s : StockRow). is_within w s ≡ true → s.free + count < 2 ^ 63) t.stock s room there is))
    (λ t may. may.short) (λ t may s there is low. (held t may s there is).0)
  where
    held : (t : Tables) → MayGiveNights w count t → (s : StockRow) → Has t.stock s → is_within w s ≡ true → (s.free + count ≤ s.allot) × (s.allot < 2 ^ 63)
    held t may s there is = all_has (λ (x : StockRow). is_within w x ≡ true → (x.free + count ≤ x.allot) × (x.allot < 2 ^ 63)) t.stock s may.held there is

-- a signed number that is passed as a parameter is stored as it is
pub kept_signed : (n : ℕ) → n < 2 ^ 63 → to_z w64 (of_z w64 (neg_ℤ (pos n))) ≡ neg_ℤ (pos n)
kept_signed n low = omega (arith, ints, low)

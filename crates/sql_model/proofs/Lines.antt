-- Two batches have the same rows exactly if they have one text: good rows have different texts, without line feeds. For loads.
use Rattle.std.proofs.Common.{◌≡◌, ℕ, ◌+◌, ◌%◌, ◌<◌, ◌≤◌, ◌^◌, ◌==◌, List, [], ◌∷◌, ◌++◌, Bool, true, Some, refl, sym, ap, ap₂, ◌∙◌, arith, append_assoc, length-append, eqb-true, eq-eqb, decimal, bytes_eq, ◌&&◌, not, rules}
use Rattle.std.specs.List.{list_all}
use Rattle.std.proofs.lemmas.Bool.{and_parts, and_from, or_cases, leb-true, ne_eqb, not_from_false}
use Rattle.std.proofs.lemmas.Fmt.{decimal_by_steps, decimal_injective}
use Rattle.std.proofs.lemmas.List.Folds.{list_all-append}
use Rattle.std.proofs.lemmas.Slice.Eq.{bytes_eq-Decides}
use Rattle.allotment.specs.Cells.{is_cell}
use Rattle.allotment.specs.Limits.{is_code, is_night}
use Rattle.allotment.specs.Nights.{two_digits, night_text, named_night}
use Rattle.allotment.specs.Texts.{row_text, cell_text, joined, kind_letter, kind_of_letter, slash, line_feed}
use Rattle.allotment.specs.declared.cells.Cell.{Cell}
use Rattle.allotment.specs.declared.cells.Row.{Row}
use Rattle.allotment.specs.declared.codes.Kind.{Kind}
use Rattle.allotment.proofs.NightLemmas.{night_named}
use Rattle.allotment.proofs.TestLemmas.{list_all_weaker}
use Rattle.ledger.specs.Ledger.{is_good_row}
use Rattle.ledger.specs.Replies.{are_same_rows}
use Rattle.ledger.proofs.Cells.{is_cell-same}
use Rattle.sql_model.specs.ExpectedRows.{batch_text}
use Rattle.sql_model.proofs.Changing.{same-self, row_of_cell}
use Rattle.sql_model.proofs.Wants.{same_test}

-- the byte is not this one
abbrev is_not : ℕ → ℕ → Bool
is_not sep byte = not (byte == sep)

-- the byte is neither a line feed nor a slash
is_plain : ℕ → Bool
is_plain byte = is_not line_feed byte && is_not slash byte

-- the first separator ends the first part
cut_at : (sep : ℕ) (a b xs ys : List ℕ) → list_all (is_not sep) a ≡ true → list_all (is_not sep) b ≡ true
    → a ++ sep ∷ xs ≡ b ++ sep ∷ ys → (a ≡ b) × (xs ≡ ys)
cut_at sep [] [] xs ys p q e = (refl, cc)
cut_at sep [] (y ∷ b) xs ys p q e = search (rules, arith, and_parts, eq-eqb)
cut_at sep (x ∷ a) [] xs ys p q e = search (rules, arith, and_parts, eq-eqb)
cut_at sep (x ∷ a) (y ∷ b) xs ys p q e = search (rules, arith, and_parts, cut_at sep a b xs ys)

-- The parts of a row are plain.

-- each byte from 48 on is plain
plain_above : (byte : ℕ) → 48 ≤ byte → is_plain byte ≡ true
unfolding is_plain
plain_above byte high = search (rules, arith, and_from, not_from_false, ne_eqb)

-- two plain texts are plain when appended
both : (p : ℕ → Bool) (xs ys : List ℕ) → list_all p xs ≡ true → list_all p ys ≡ true
    → list_all p (xs ++ ys) ≡ true
both p xs ys e f = search (rules, arith, list_all-append, and_from)

-- letters are plain
letter_plain : (k : Kind) → list_all is_plain (kind_letter k) ≡ true
unfolding is_plain
letter_plain k = search (rules, arith)

-- capitals and digits are plain
code_plain : (code : List ℕ) → is_code code ≡ true → list_all is_plain code ≡ true
code_plain code good = search (rules, arith, list_all_weaker, and_parts, or_cases, plain_above, leb-true)

-- two digits are plain
two_plain : (n : ℕ) → list_all is_plain (two_digits n) ≡ true
two_plain n = search (rules, arith, and_from, plain_above)

-- a dash is plain
dash_plain : (xs : List ℕ) → list_all is_plain xs ≡ true → list_all is_plain (45 ∷ xs) ≡ true
unfolding is_plain
dash_plain xs e = e

-- a date is plain: it is made of digits and dashes
night_plain : (n : ℕ) → list_all is_plain (night_text n) ≡ true
night_plain n = search (rules, arith, both, two_plain, dash_plain)

-- a number is plain
decimal_plain : (n : ℕ) → n < 2 ^ 64 → list_all is_plain (decimal n) ≡ true
decimal_plain =
    decimal_by_steps (λ n ds. list_all is_plain ds ≡ true) (λ n low. search (rules, arith, and_from, plain_above))
    (λ n ds high rest. both is_plain ds ((48 + n % 10) ∷ []) rest (search (rules, arith, and_from, plain_above)))

-- a plain text has no line feed, and no slash
without : (xs : List ℕ) → list_all is_plain xs ≡ true
    → (list_all (is_not line_feed) xs ≡ true) × (list_all (is_not slash) xs ≡ true)
unfolding is_plain
without xs e = search (rules, arith, list_all_weaker, and_parts)

-- the parts of a good row are plain, and its numbers keep their limits
record HasGoodParts (r : Row) : Type 0 where
  kind : list_all is_plain (kind_letter r.cell.kind) ≡ true
  supplier : list_all is_plain r.cell.supplier ≡ true
  product : list_all is_plain r.cell.product ≡ true
  date : list_all is_plain (night_text r.cell.night) ≡ true
  night : is_night r.cell.night ≡ true
  few : r.places < 2 ^ 64

good_parts : (r : Row) → is_good_row r ≡ true → HasGoodParts r
good_parts r good = search (rules, arith, and_parts, leb-true, letter_plain, code_plain, night_plain)

-- the text of a row is that of its parts
five_parts : (r : Row) → row_text r
    ≡ kind_letter r.cell.kind ++ slash ∷
    (r.cell.supplier ++ slash ∷
    (r.cell.product ++ slash ∷ (night_text r.cell.night ++ slash ∷ decimal r.places)))
five_parts r = simp append_assoc

-- the text of a good row is one line
own_line : (r : Row) → is_good_row r ≡ true → list_all (is_not line_feed) (row_text r) ≡ true
own_line r good =
    let g = good_parts r good in
    let last = (without (decimal r.places) (decimal_plain r.places g.few)).0 in
    let more = λ (text rest : List ℕ) (plain : list_all is_plain text ≡ true) (e : list_all (is_not line_feed) rest ≡ true).
    both (is_not line_feed) text (slash ∷ rest) (without text plain).0 e in
    rw (five_parts r) (more _ _ g.kind (more _ _ g.supplier (more _ _ g.product
    (more (night_text r.cell.night) (decimal r.places) g.date last))))

-- the letter of a kind is read back
letter_again : (k : Kind) → kind_of_letter (kind_letter k) ≡ Some k
letter_again k = search (rules, arith)

-- good rows with one text are equal
own_text : (r s : Row) → is_good_row r ≡ true → is_good_row s ≡ true → row_text r ≡ row_text s → r ≡ s
own_text r s good fine e =
    let g = good_parts r good in
    let f = good_parts s fine in
    let cut = λ (a b xs ys : List ℕ) (p : list_all is_plain a ≡ true) (q : list_all is_plain b ≡ true).
    cut_at slash a b xs ys (without a p).1 (without b q).1 in
    let one = cut _ _ _ _ g.kind f.kind (sym (five_parts r) ∙ e ∙ five_parts s) in
    let two = cut _ _ _ _ g.supplier f.supplier one.1 in
    let three = cut _ _ _ _ g.product f.product two.1 in
    let four = cut (night_text r.cell.night) (night_text s.cell.night) _ _ g.date f.date three.1 in
    let letters : Some r.cell.kind ≡ Some s.cell.kind =
    sym (letter_again r.cell.kind) ∙ ap kind_of_letter one.0 ∙ letter_again s.cell.kind in
    let kinds : r.cell.kind ≡ s.cell.kind = cc in
    let nights = sym (night_named r.cell.night g.night) ∙ ap named_night four.0 ∙ night_named s.cell.night f.night in
    let places = decimal_injective r.places s.places g.few f.few four.1 in
    λ i. record {
      cell = record { kind = kinds i; supplier = two.0 i; product = three.0 i; night = nights i };
      places = places i;
    }

-- Batches.

-- the text of a batch starts with the line of its first row
first_line : (r : Row) (rows : List Row) → batch_text (r ∷ rows) ≡ row_text r ++ line_feed ∷ batch_text rows
first_line r rows = append_assoc (row_text r) (line_feed ∷ []) (batch_text rows)

-- the text of a batch with a row is not empty
not_empty : (r : Row) (rows : List Row) → batch_text (r ∷ rows) ≡ [] → ⊥
not_empty r rows e = search (rules, arith, length-append, first_line)

-- the same rows have the same text
same_text : (rows known : List Row) → are_same_rows rows known ≡ true → batch_text rows ≡ batch_text known
same_text [] known e = search (rules, arith, arith)
same_text (r ∷ rows) [] e = cc
same_text (r ∷ rows) (s ∷ known) e =
    let both = and_parts (is_cell r.cell s.cell && (r.places == s.places)) (are_same_rows rows known) e in
    let one = and_parts (is_cell r.cell s.cell) (r.places == s.places) both.0 in
    let line : row_text r ≡ row_text s =
    ap₂ (λ (x : Cell) (n : ℕ). joined slash (cell_text x ∷ decimal n ∷ [])) (is_cell-same r.cell s.cell one.0)
    (eqb-true r.places s.places one.1) in
    ap₂ (λ a b. (a ++ line_feed ∷ []) ++ b) line (same_text rows known both.1)

-- batches with one text have the same rows
same_rows : (rows known : List Row) → list_all is_good_row rows ≡ true → list_all is_good_row known ≡ true
    → batch_text rows ≡ batch_text known → are_same_rows rows known ≡ true
same_rows [] known p q e = search (rules, arith, not_empty)
same_rows (r ∷ rows) [] p q e = absurd (not_empty r rows e)
same_rows (r ∷ rows) (s ∷ known) p q e =
    let mine = and_parts (is_good_row r) (list_all is_good_row rows) p in
    let other = and_parts (is_good_row s) (list_all is_good_row known) q in
    let cut =
    cut_at line_feed (row_text r) (row_text s) (batch_text rows) (batch_text known) (own_line r mine.0)
    (own_line s other.0)
    (sym (first_line r rows) ∙ e ∙ first_line s known) in
    let one = own_text r s mine.0 other.0 cut.0 in
    and_from (is_cell r.cell s.cell && (r.places == s.places)) (are_same_rows rows known)
    (and_from (is_cell r.cell s.cell) (r.places == s.places)
    (ap (λ (x : Row). is_cell r.cell x.cell) (sym one) ∙ same-self (row_of_cell r.cell))
    (eq-eqb r.places s.places (ap (λ (x : Row). x.places) one)))
    (same_rows rows known mine.1 other.1 cut.1)

-- good rows are those of a known batch exactly if they have its text
pub same_batch : (rows known : List Row) → list_all is_good_row rows ≡ true
    → list_all is_good_row known ≡ true
    → are_same_rows rows known ≡ bytes_eq (batch_text rows) (batch_text known)
same_batch rows known good fine = search (rules, arith, same_test, bytes_eq-Decides, same_text, same_rows)

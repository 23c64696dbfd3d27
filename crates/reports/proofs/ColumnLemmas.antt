-- A line whose columns are written over its blanks, one after another. For the line of a cell.
use Rattle.std.proofs.Common.{◌≡◌, ◌∙◌, ℕ, ◌+◌, ◌-◌, ◌≤◌, List, [], ◌∷◌, ◌++◌, length, replicate, take, drop, refl, sym, ap, append-nil, append_assoc, length-append, take-append-drop, suc, lit<, lit≤, leb-true, arith, ◌||◌, decimal, nat_le, IsTrue}
use Rattle.std.specs.List.{list_all}
use Rattle.std.proofs.lemmas.Bool.{and_parts}
use Rattle.std.proofs.lemmas.Fmt.{length-decimal-le}
use Rattle.std.proofs.lemmas.List.{take_at, drop_at, drop-replicate, take-replicate, length-replicate, replicate_more, replicate-append-replicate}
use Rattle.std.proofs.Math.Seq.{take-append-add, drop-append-add}
use borrow.Rule.Slice.PartMut.{put_mid}
use Rattle.allotment.specs.Limits.{is_between, is_capital, is_code, is_digit}
use Rattle.allotment.specs.Texts.{kind_word}
use Rattle.allotment.specs.declared.codes.Kind.{Kind}
use Rattle.allotment.specs.declared.codes.Kind.TheVariants.{Flight, Room, Transfer, Cover}
use Rattle.reports.specs.Columns.{left, right, PutsDigits, PutsText}
use Rattle.reports.specs.Layouts.{stock_columns}

-- a text over the first blanks of a line
pub text_over : (width at count : ℕ) (done text copied line : List ℕ)
    → line ≡ left width done → length done ≡ at → copied ≡ text → count ≡ length text
    → put_mid at count line copied ≡ left width (done ++ text)
text_over width at count done text copied line is here same long =
    let bare : List ℕ = replicate (width - length done) 32 in
    let before : take at (done ++ bare) ≡ done = take_at done bare at here in
    let after : drop count (drop at (done ++ bare)) ≡ replicate (width - length done - count) 32 =
    ap (drop count) (drop_at done bare at here) ∙ drop-replicate count (width - length done) 32 in
    let fewer : width - length done - count ≡ width - length (done ++ text) = omega (arith, long, length-append done text) in
    rw (is, same, before, after, fewer) (sym (append_assoc done text (replicate (width - length (done ++ text)) 32)))

-- digits over the last of the blanks before a place
pub digits_over : (width end start : ℕ) (done digits old new : List ℕ)
    → old ≡ left width done → start + length digits ≡ end → length done ≤ start → end ≤ width
    → drop start new ≡ digits ++ drop end old → take start new ≡ take start old
    → new ≡ left width (done ++ right (end - length done) digits)
digits_over width end start done digits old new is ends room within written same =
    let bare : List ℕ = replicate (width - length done) 32 in
    let few = start - length done in
    let from : start ≡ length done + few = omega arith in
    let to : end ≡ length done + (end - length done) = omega arith in
    let before : take start old ≡ done ++ replicate few 32 =
    ap (take start) is ∙ ap (λ k. take k (done ++ bare)) from ∙ take-append-add done bare few
    ∙ ap (λ l. done ++ l) (take-replicate few (width - length done) 32 (omega arith)) in
    let after : drop end old ≡ replicate (width - length done - (end - length done)) 32 =
    ap (drop end) is ∙ ap (λ k. drop k (done ++ bare)) to ∙ drop-append-add done bare (end - length done)
    ∙ drop-replicate (end - length done) (width - length done) 32 in
    let blanks : few ≡ end - length done - length digits = omega arith in
    let column : List ℕ = right (end - length done) digits in
    let fewer : width - length done - (end - length done) ≡ width - length (done ++ column) =
    omega (arith, length-append done column, length-append (replicate (end - length done - length digits) 32) digits, length-replicate {A = ℕ} (end - length done - length digits) 32) in
    sym (take-append-drop start new)
    ∙ ap (λ l. l ++ drop start new) (same ∙ before ∙ ap (λ k. done ++ replicate k 32) blanks)
    ∙ ap (λ l. (done ++ replicate (end - length done - length digits) 32) ++ l)
    (written ∙ ap (λ l. digits ++ l) (after ∙ ap (λ k. replicate k 32) fewer))
    ∙ simp append_assoc

-- the blanks after a text are those of its column too
pub column_padded : (width column : ℕ) (done text : List ℕ) → length text ≤ column → length done + column ≤ width
    → left width (done ++ text) ≡ left width (done ++ left column text)
column_padded width column done text short room =
    let more = column - length text in
    let padded : List ℕ = left column text in
    let others = width - length (done ++ padded) in
    let all : width - length (done ++ text) ≡ more + others =
    omega (arith, length-append done text, length-append done padded, length-append text (replicate more 32), length-replicate {A = ℕ} more 32) in
    ap (λ k. (done ++ text) ++ replicate k 32) all
    ∙ ap (λ l. (done ++ text) ++ l) (sym (replicate-append-replicate more others 32))
    ∙ simp append_assoc

-- a column is as long as its width
pub length-left : (width : ℕ) (text : List ℕ) → length text ≤ width → length (left width text) ≡ width
length-left width text short =
    omega (arith, length-append text (replicate (width - length text) 32), length-replicate {A = ℕ} (width - length text) 32)

pub length-right : (width : ℕ) (text : List ℕ) → length text ≤ width → length (right width text) ≡ width
length-right width text short =
    omega (arith, length-append (replicate (width - length text) 32) text, length-replicate {A = ℕ} (width - length text) 32)

-- a column that is one wider has one blank more
left_wider : (width : ℕ) (text : List ℕ) → length text ≤ width → left (width + 1) text ≡ left width text ++ 32 ∷ []
left_wider width text short =
    let more : width + 1 - length text ≡ (width - length text) + 1 = omega arith in
    ap (λ k. text ++ replicate k 32) more ∙ ap (λ l. text ++ l) (sym (replicate_more (width - length text) 32))
    ∙ sym (append_assoc text (replicate (width - length text) 32) (32 ∷ []))

right_wider : (width : ℕ) (text : List ℕ) → length text ≤ width → right (width + 1) text ≡ 32 ∷ right width text
right_wider width text short =
    let more : width + 1 - length text ≡ suc (width - length text) = omega arith in
    ap (λ k. replicate k 32 ++ text) more

-- a text of its column's width has no blank
left_full : (width : ℕ) (text : List ℕ) → length text ≡ width → text ≡ left width text
left_full width text long =
    let none : 0 ≡ width - length text = omega arith in
    sym (append-nil text) ∙ ap (λ k. text ++ replicate k 32) none

-- the columns of a cell with the blanks between them, and a line feed, are its line
pub line_of_columns : (kind supplier product night allot held free : List ℕ)
    → length kind ≤ 8 → length supplier ≤ 8 → length product ≤ 8 → length night ≡ 10
    → length allot ≤ 6 → length held ≤ 6 → length free ≤ 6
    → left 9 kind ++ left 9 supplier ++ left 9 product ++ night ++ right 7 allot ++ right 7 held ++ right 7 free ++ 10 ∷ []
    ≡ stock_columns kind supplier product night allot held free
line_of_columns kind supplier product night allot held free k s p n a h f =
    rw (left_wider 8 kind k, left_wider 8 supplier s, left_wider 8 product p, right_wider 6 allot a, right_wider 6 held h, right_wider 6 free f)
    (ap (λ l. (left 8 kind ++ 32 ∷ []) ++ (left 8 supplier ++ 32 ∷ []) ++ (left 8 product ++ 32 ∷ []) ++ l ++ (32 ∷ right 6 allot) ++ (32 ∷ right 6 held) ++ (32 ∷ right 6 free) ++ 10 ∷ []) (left_full 10 night n)
    ∙ simp append_assoc)

-- the columns that are written one after another over blanks make the line of a cell
pub columns_written : (kind supplier product night allot held free : List ℕ) (a b c d e f g h z : List ℕ)
    → length kind ≤ 8 → length supplier ≤ 8 → length product ≤ 8 → length night ≡ 10
    → length allot ≤ 6 → length held ≤ 6 → length free ≤ 6
    → a ≡ replicate 59 32
    → PutsText a b 0 kind → PutsText b c 9 supplier → PutsText c d 18 product → PutsText d e 27 night
    → PutsDigits e f 44 allot → PutsDigits f g 51 held → PutsDigits g h 58 free
    → PutsText h z 58 (10 ∷ [])
    → z ≡ stock_columns kind supplier product night allot held free
columns_written kind supplier product night allot held free a b c d e f g h z
    k_short s_short p_short n_long a_short h_short f_short bare
    put_kind put_supplier put_product put_night put_allot put_held put_free put_end =
    let k = left 9 kind in
    let ks = k ++ left 9 supplier in
    let ksp = ks ++ left 9 product in
    let cell = ksp ++ night in
    let cell_a = cell ++ right 7 allot in
    let cell_ah = cell_a ++ right 7 held in
    let cell_ahf = cell_ah ++ right 7 free in
    let at_9 : length k ≡ 9 = length-left 9 kind (omega arith) in
    let at_18 : length ks ≡ 18 = omega (arith, length-append k (left 9 supplier), at_9, length-left 9 supplier (omega arith)) in
    let at_27 : length ksp ≡ 27 = omega (arith, length-append ks (left 9 product), at_18, length-left 9 product (omega arith)) in
    let at_37 : length cell ≡ 37 = omega (arith, length-append ksp night, at_27) in
    let at_44 : length cell_a ≡ 44 = omega (arith, length-append cell (right 7 allot), at_37, length-right 7 allot (omega arith)) in
    let at_51 : length cell_ah ≡ 51 = omega (arith, length-append cell_a (right 7 held), at_44, length-right 7 held (omega arith)) in
    let at_58 : length cell_ahf ≡ 58 = omega (arith, length-append cell_ah (right 7 free), at_51, length-right 7 free (omega arith)) in
    let has_kind : b ≡ left 59 k = put_kind 59 [] bare refl ∙ column_padded 59 9 [] kind (omega arith) (omega arith) in
    let has_supplier : c ≡ left 59 ks = put_supplier 59 k has_kind at_9 ∙ column_padded 59 9 k supplier (omega arith) (omega arith) in
    let has_product : d ≡ left 59 ksp = put_product 59 ks has_supplier at_18 ∙ column_padded 59 9 ks product (omega arith) (omega arith) in
    let has_night : e ≡ left 59 cell = put_night 59 ksp has_product at_27 in
    let seven_1 : 44 - length cell ≡ 7 = omega arith in
    let has_allot : f ≡ left 59 cell_a =
    put_allot 59 cell has_night (omega arith) (omega arith) ∙ ap (λ n. left 59 (cell ++ right n allot)) seven_1 in
    let seven_2 : 51 - length cell_a ≡ 7 = omega arith in
    let has_held : g ≡ left 59 cell_ah =
    put_held 59 cell_a has_allot (omega arith) (omega arith) ∙ ap (λ n. left 59 (cell_a ++ right n held)) seven_2 in
    let seven_3 : 58 - length cell_ah ≡ 7 = omega arith in
    let has_free : h ≡ left 59 cell_ahf =
    put_free 59 cell_ah has_held (omega arith) (omega arith) ∙ ap (λ n. left 59 (cell_ah ++ right n free)) seven_3 in
    let ended : length (cell_ahf ++ 10 ∷ []) ≡ 59 = omega (arith, length-append cell_ahf (10 ∷ []), at_58) in
    put_end 59 cell_ahf has_free at_58 ∙ sym (left_full 59 (cell_ahf ++ 10 ∷ []) ended)
    ∙ line_of_columns kind supplier product night allot held free k_short s_short p_short n_long a_short h_short f_short

-- Texts that fit into their columns.

-- the word of a kind
pub kind_short : (kind : Kind) → length (kind_word kind) ≤ 8
kind_short Flight = lit≤ tt
kind_short Room = lit≤ tt
kind_short Transfer = lit≤ tt
kind_short Cover = lit≤ tt

-- a supplier or a product
pub code_short : (code : List ℕ) → IsTrue (is_code code) → length code ≤ 8
code_short code good =
    let word = and_parts (is_between 1 8 (length code)) (list_all (λ byte. is_capital byte || is_digit byte) code) good in
    let within = and_parts (nat_le 1 (length code)) (nat_le (length code) 8) word.0 in
    leb-true (length code) 8 within.1

-- the digits of a number of places
pub places_short : (places : ℕ) → places ≤ 100000 → length (decimal places) ≤ 6
places_short places few = length-decimal-le 6 places (lit< tt) (omega arith) (omega arith)

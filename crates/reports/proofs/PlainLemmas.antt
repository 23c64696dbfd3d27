-- Texts of digits, capitals and dashes, and words: JSON needs no escapes for them, and CSV no quotes. For the lines of cells.
use Rattle.std.proofs.Common.{◌≡◌, ◌∙◌, ℕ, ◌<◌, ◌&&◌, ◌||◌, Bool, true, false, not, List, [], ◌∷◌, ◌++◌, refl, sym, ap, ap₂, arith, append_assoc, bytes_eq, codes, decimal}
use Rattle.std.proofs.lemmas.Bool.{agree_below_at, and_parts}
use Rattle.std.proofs.lemmas.Bool.Decides.{nat_tests}
use Rattle.std.proofs.lemmas.Slice.Eq.{bytes_eq-Decides}
use Rattle.json.specs.Print.{escape, escape_byte}
use Rattle.csv.specs.Writing.{field_text, fields_text, is_blank, needs_byte, needs_quotes}
use Rattle.allotment.specs.Nights.{night_text}
use Rattle.allotment.specs.Places.{held_of}
use Rattle.allotment.specs.Texts.{kind_word}
use Rattle.allotment.specs.declared.cells.Cell.{Cell}
use Rattle.allotment.specs.declared.codes.Kind.{Kind}
use Rattle.allotment.specs.declared.codes.Kind.TheVariants.{Flight, Room, Transfer, Cover}
use Rattle.allotment.specs.declared.places.Held.{Held}
use Rattle.allotment.proofs.PlainLemmas.{is_plain, is_plain_byte}
use Rattle.reports.specs.Objects.{json_line, cell_data}
use Rattle.reports.specs.Records.{csv_line, cell_fields, rfc_4180}

-- Bytes: a table holds each that may be plain.

below_table : (b : ℕ) → is_plain_byte b ≡ true → b < 91
below_table b plain = grind (arith, nat_tests)

-- the byte needs an escape, or quotes
abbrev needs_care : ℕ → Bool
needs_care b = not (bytes_eq (escape_byte b) (b ∷ [])) || needs_byte rfc_4180 b

no_care : (b : ℕ) → is_plain_byte b ≡ true → needs_care b ≡ false
unfolding escape_byte
no_care b plain =
    ap (λ p. p && needs_care b) (sym plain)
    ∙ agree_below_at (λ c. is_plain_byte c && needs_care c) (λ _. false) 91 b refl (below_table b plain)

-- what each of two tests that both fail says
neither : (x y : Bool) → (not x || y) ≡ false → (x ≡ true) × (y ≡ false)
neither true false e = (refl, refl)
neither true true e = cc
neither false y e = cc

escape_byte_same : (b : ℕ) → is_plain_byte b ≡ true → escape_byte b ≡ b ∷ []
escape_byte_same b plain =
    (bytes_eq-Decides (escape_byte b) (b ∷ [])).0 (neither _ _ (no_care b plain)).0

-- Texts.

pub escape_same : (text : List ℕ) → is_plain text ≡ true → escape text ≡ text
escape_same [] plain = refl
escape_same (b ∷ text) plain =
    let both = and_parts (is_plain_byte b) (is_plain text) plain in
    ap₂ ◌++◌ (escape_byte_same b both.0) (escape_same text both.1)

unquoted : (text : List ℕ) → is_plain text ≡ true → needs_quotes rfc_4180 text ≡ false
unquoted [] plain = refl
unquoted (b ∷ text) plain =
    let both = and_parts (is_plain_byte b) (is_plain text) plain in
    ap₂ ◌||◌ (neither _ _ (no_care b both.0)).1 (unquoted text both.1)

pub field_same : (text : List ℕ) → is_plain text ≡ true → field_text rfc_4180 text ≡ text
field_same text plain = rw (unquoted text plain) refl

-- the word of a kind
pub escape_kind : (kind : Kind) → escape (kind_word kind) ≡ kind_word kind
unfolding escape_byte
escape_kind Flight = refl
escape_kind Room = refl
escape_kind Transfer = refl
escape_kind Cover = refl

pub field_kind : (kind : Kind) → field_text rfc_4180 (kind_word kind) ≡ kind_word kind
field_kind Flight = refl
field_kind Room = refl
field_kind Transfer = refl
field_kind Cover = refl

-- Lines.

-- seven pieces, each a fixed text and a text, and a last text, without the brackets in which they were appended
pieces : (c0 c1 c2 c3 c4 c5 c6 end a f h k n p s : List ℕ)
    → ((((((([] ++ (c0 ++ a)) ++ (c1 ++ f)) ++ (c2 ++ h)) ++ (c3 ++ k)) ++ (c4 ++ n)) ++ (c5 ++ p)) ++ (c6 ++ s)) ++ end
    ≡ c0 ++ (a ++ (c1 ++ (f ++ (c2 ++ (h ++ (c3 ++ (k ++ (c4 ++ (n ++ (c5 ++ (p ++ (c6 ++ (s ++ end)))))))))))))
pieces c0 c1 c2 c3 c4 c5 c6 end a f h k n p s = simp append_assoc

-- a name in quotes
abbrev in_quotes : List ℕ → List ℕ
in_quotes name = 34 ∷ (name ++ 34 ∷ [])

-- the last four members of an object, which are texts, and what follows it
texts_last : (u v w x k n p s end : List ℕ)
    → (44 ∷ (in_quotes u ++ 58 ∷ (in_quotes k ++ 44 ∷ (in_quotes v ++ 58 ∷ (in_quotes n
    ++ 44 ∷ (in_quotes w ++ 58 ∷ (in_quotes p ++ 44 ∷ (in_quotes x ++ 58 ∷ (in_quotes s ++ 125 ∷ [])))))))))
    ++ end
    ≡ (44 ∷ (in_quotes u ++ 58 ∷ 34 ∷ [])) ++ (k ++ ((34 ∷ 44 ∷ (in_quotes v ++ 58 ∷ 34 ∷ [])) ++ (n
    ++ ((34 ∷ 44 ∷ (in_quotes w ++ 58 ∷ 34 ∷ []))
    ++ (p ++ ((34 ∷ 44 ∷ (in_quotes x ++ 58 ∷ 34 ∷ [])) ++ (s ++ 34 ∷ 125 ∷ end)))))))
texts_last u v w x k n p s end = simp append_assoc

-- its first three members, which are numbers, and what follows them
numbers_first : (u v w a f h more end : List ℕ)
    → (123 ∷ (in_quotes u ++ 58 ∷ (a ++ 44 ∷ (in_quotes v ++ 58 ∷ (f ++ 44 ∷ (in_quotes w ++ 58 ∷ (h ++ more))))))) ++ end
    ≡ (123 ∷ (in_quotes u ++ 58 ∷ [])) ++ (a ++ ((44 ∷ (in_quotes v ++ 58 ∷ [])) ++ (f
    ++ ((44 ∷ (in_quotes w ++ 58 ∷ [])) ++ (h ++ (more ++ end))))))
numbers_first u v w a f h more end = simp append_assoc

-- the line of a cell as an object, in the pieces of which it is made
pub object_made : (row : Cell × Held) → is_plain (night_text row.0.night) ≡ true
    → is_plain row.0.product ≡ true → is_plain row.0.supplier ≡ true
    → ((((((([] ++ (codes "{\"allot\":" ++ decimal row.1.allot)) ++ (codes ",\"free\":" ++ decimal row.1.free))
    ++ (codes ",\"held\":" ++ decimal (held_of row.1))) ++ (codes ",\"kind\":\"" ++ kind_word row.0.kind))
    ++ (codes "\",\"night\":\"" ++ night_text row.0.night)) ++ (codes "\",\"product\":\"" ++ row.0.product))
    ++ (codes "\",\"supplier\":\"" ++ row.0.supplier)) ++ codes "\"}\n"
    ≡ json_line (cell_data row)
unfolding escape_byte
object_made row night product supplier =
    let k = kind_word row.0.kind in
    let n = night_text row.0.night in
    let p = row.0.product in
    let s = row.0.supplier in
    let a = decimal row.1.allot in
    let f = decimal row.1.free in
    let h = decimal (held_of row.1) in
    rw (escape_kind row.0.kind, escape_same n night, escape_same p product, escape_same s supplier)
    (pieces (codes "{\"allot\":") (codes ",\"free\":") (codes ",\"held\":") (codes ",\"kind\":\"") (codes "\",\"night\":\"")
    (codes "\",\"product\":\"") (codes "\",\"supplier\":\"") (codes "\"}\n") a f h k n p s
    ∙ sym (numbers_first (codes "allot") (codes "free") (codes "held") a f h _ (10 ∷ [])
    ∙ ap (λ (t : List ℕ). codes "{\"allot\":" ++ (a ++ (codes ",\"free\":" ++ (f ++ (codes ",\"held\":" ++ (h ++ t))))))
    (texts_last (codes "kind") (codes "night") (codes "product") (codes "supplier") k n p s (10 ∷ []))))

-- the record of a cell, in its pieces
pub record_made : (row : Cell × Held) → is_plain (night_text row.0.night) ≡ true
    → is_plain row.0.product ≡ true → is_plain row.0.supplier ≡ true
    → is_plain (decimal row.1.allot) ≡ true → is_plain (decimal (held_of row.1)) ≡ true → is_plain (decimal row.1.free) ≡ true
    → ((((((([] ++ (codes "" ++ kind_word row.0.kind)) ++ (codes "," ++ row.0.supplier)) ++ (codes "," ++ row.0.product))
    ++ (codes "," ++ night_text row.0.night)) ++ (codes "," ++ decimal row.1.allot))
    ++ (codes "," ++ decimal (held_of row.1))) ++ (codes "," ++ decimal row.1.free)) ++ codes "\r\n"
    ≡ csv_line (cell_fields row)
unfolding fields_text is_blank
record_made row night product supplier allot held free =
    rw (
      field_kind row.0.kind,
      field_same row.0.supplier supplier,
      field_same row.0.product product,
      field_same (night_text row.0.night) night,
      field_same (decimal row.1.allot) allot,
      field_same (decimal (held_of row.1)) held,
      field_same (decimal row.1.free) free,
    )
    (simp append_assoc)

-- a fixed text and a piece were appended, and what stood there before and what the piece shows are known
pub appended : {new old made text shown : List ℕ} (fixed : List ℕ) → new ≡ old ++ (fixed ++ text) → text ≡ shown → old ≡ made
    → new ≡ made ++ (fixed ++ shown)
appended fixed adds same before = adds ∙ ap₂ (λ (o t : List ℕ). o ++ (fixed ++ t)) before same

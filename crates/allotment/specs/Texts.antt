-- Words on texts, which are lists of bytes; and the texts of kinds, cells, rows and wants.
use Rattle.std.specs.Prelude.{◌≡◌, ℕ, ◌==◌, Bool, List, [], ◌∷◌, find, bytes_eq, codes, decimal, if◌then◌else◌, Option, Some, None, option_and_then}
use Rattle.std.specs.List.{slice_split, join_with_byte}
use Rattle.std.specs.Str.Parse.{digits_value}
use Rattle.allotment.specs.Want.{Wanted}
use Rattle.allotment.specs.Cells.{kind_number, the_cell}
use Rattle.allotment.specs.Limits.{is_between, is_good_cell, most_places}
use Rattle.allotment.specs.Nights.{night_text, night_in}
use Rattle.allotment.specs.declared.codes.Kind.{Kind}
use Rattle.allotment.specs.declared.codes.Kind.TheVariants.{Flight, Room, Transfer, Cover}
use Rattle.allotment.specs.declared.cells.Cell.{Cell}
use Rattle.allotment.specs.declared.cells.Row.{Row}

-- LF
abbrev pub line_feed : ℕ
line_feed = 10

-- one blank
abbrev pub blank : ℕ
blank = 32

-- `*`
abbrev pub star : ℕ
star = 42

-- `/`
abbrev pub slash : ℕ
slash = 47

-- `;`
abbrev pub semicolon : ℕ
semicolon = 59

-- `|`
abbrev pub bar : ℕ
bar = 124

-- the parts of a text between the bytes of this value, of which an empty one counts too
abbrev pub parts : ℕ → List ℕ → List (List ℕ)
parts between text = slice_split (λ byte. byte == between) text

-- the text has no `/`: it is its own one part
abbrev pub IsOnePart : List ℕ → Type 0
IsOnePart text = parts slash text ≡ text ∷ []

-- this is the first part of the text at `/`, and the other parts are the parts of the text after it
abbrev pub IsCut : List ℕ → List ℕ → List ℕ → Type 0
IsCut text front behind = parts slash text ≡ front ∷ parts slash behind

-- the texts with this byte between each two
abbrev pub joined : ℕ → List (List ℕ) → List ℕ
joined between texts = join_with_byte between texts

-- the value, if it passes
abbrev pub keep_if : {X : Type 0} → (X → Bool) → X → Option X
keep_if test x = if test x then Some x else None

-- the number that a text spells: in digits, without sign and without leading zeros
abbrev pub number_in : List ℕ → Option ℕ
number_in text = keep_if (λ n. bytes_eq (decimal n) text) (digits_value 10 text)

-- the number from low to high that a text spells
abbrev pub number_from : ℕ → ℕ → List ℕ → Option ℕ
number_from low high text = option_and_then (keep_if (is_between low high)) (number_in text)

-- the four kinds, in their order
abbrev pub kinds : List Kind
kinds = Flight ∷ Room ∷ Transfer ∷ Cover ∷ []

-- the letter of a kind
abbrev pub kind_letter : Kind → List ℕ
kind_letter Flight = codes "F"
kind_letter Room = codes "R"
kind_letter Transfer = codes "T"
kind_letter Cover = codes "C"

-- the word of a kind
abbrev pub kind_word : Kind → List ℕ
kind_word Flight = codes "flight"
kind_word Room = codes "room"
kind_word Transfer = codes "transfer"
kind_word Cover = codes "cover"

-- the kind with this number
abbrev pub kind_of_number : ℕ → Option Kind
kind_of_number n = find (λ kind. kind_number kind == n) kinds

-- the kind with this letter
abbrev pub kind_of_letter : List ℕ → Option Kind
kind_of_letter text = find (λ kind. bytes_eq (kind_letter kind) text) kinds

-- the kind with this word
abbrev pub kind_of_word : List ℕ → Option Kind
kind_of_word text = find (λ kind. bytes_eq (kind_word kind) text) kinds

-- a want: `KIND/SUPPLIER/PRODUCT/FIRST/NIGHTS/COUNT`
abbrev pub want_text : Wanted → List ℕ
want_text w =
    joined slash
    (kind_letter w.kind ∷ w.supplier ∷ w.product ∷ night_text w.first ∷ decimal w.nights ∷ decimal w.count ∷ [])

-- a cell: `KIND/SUPPLIER/PRODUCT/NIGHT`
abbrev pub cell_text : Cell → List ℕ
cell_text x = joined slash (kind_letter x.kind ∷ x.supplier ∷ x.product ∷ night_text x.night ∷ [])

-- a row: `KIND/SUPPLIER/PRODUCT/NIGHT/PLACES`
abbrev pub row_text : Row → List ℕ
row_text row = joined slash (cell_text row.cell ∷ decimal row.places ∷ [])

-- the cell of a kind, two codes and a night, where each is one
abbrev pub cell_from : Option Kind → List ℕ → List ℕ → Option ℕ → Option Cell
cell_from (Some kind) supplier product (Some night) = keep_if is_good_cell (the_cell kind supplier product night)
cell_from _ supplier product _ = None

-- the cell of the texts of its kind, codes and night
abbrev pub cell_in_four : List ℕ → List ℕ → List ℕ → List ℕ → Option Cell
cell_in_four kind supplier product night = cell_from (kind_of_letter kind) supplier product (night_in night)

-- the cell of four parts
abbrev pub cell_of_parts : List (List ℕ) → Option Cell
cell_of_parts (kind ∷ supplier ∷ product ∷ night ∷ []) = cell_in_four kind supplier product night
cell_of_parts _ = None

-- the cell whose text this is
abbrev pub cell_in : List ℕ → Option Cell
cell_in text = cell_of_parts (parts slash text)

-- the places of a row, 0 to 100,000, that a text spells
abbrev pub places_in : List ℕ → Option ℕ
places_in text = number_from 0 most_places text

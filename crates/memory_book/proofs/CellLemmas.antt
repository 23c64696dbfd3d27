-- Cells as keys, and places of cells that change one by one. For the stock of a book in memory.
use Rattle.std.proofs.Common.{◌≡◌, ℕ, zero, suc, ◌<◌, Bool, true, false, cond, List, [], ◌∷◌, refl, ap, ◌∙◌, map, arith, ◌&&◌, ◌||◌, not, if◌then◌else◌, Option, Some, option_map, sym, None}
use Rattle.std.specs.List.{list_any}
use Rattle.std.specs.BTreeMap as tree
use Rattle.std.proofs.lemmas.Bool.{and_parts, and_right, not-true, le-leb, ne_eqb}
use Rattle.allotment.specs.Want.{Wanted}
use Rattle.allotment.specs.Cells.{is_cell, cell_at, cells_of, numbers_from}
use Rattle.allotment.specs.declared.cells.Cell.{Cell}
use Rattle.allotment.specs.declared.places.Held.{Held}
pub use Rattle.commands.proofs.CellKeyLemmas.{key_of, is_eq-then, is_eq-texts, is_eq-cells, is_cell-swap}
use Rattle.ledger.proofs.Cells.{is_cell-same}
use Rattle.saga_core.specs.Views.{Places, places_said}
use Rattle.memory_book.specs.MemoryStock.{cell_key_cmp, stock_at, changed_by}
use Rattle.memory_book.specs.declared.stock.Change.{Change}
use Rattle.memory_book.specs.declared.stock.Stock.{Stock}

-- Places of cells.

-- a function of what is found, where one thing is tried before the others
pub map-found : {X Y : Type 0} (f : X → Y) (b : Bool) (x : X) (o : Option X)
    → option_map f (cond b (Some x) o) ≡ cond b (Some (f x)) (option_map f o)
map-found f b x o = grind arith

-- what is written at a key is found there, and other keys keep what they had
pub stock_at-put : (old new : Stock) (k : Cell) (held : Held)
    → tree.Updates cell_key_cmp old.places new.places (key_of k) (Some held)
    → (x : Cell)
    → stock_at new x ≡ (if is_cell x k then Some (places_said held) else stock_at old x)
stock_at-put old new k held updates x =
    ap (option_map places_said) (updates.0 (key_of x)) ∙ map-found places_said _ held _
    ∙ ap (λ b. cond b (Some (places_said held)) (stock_at old x)) (is_eq-cells k x ∙ is_cell-swap k x)

-- Cells that change one by one.

-- no cell occurs twice
abbrev pub are_apart : List Cell → Bool
are_apart [] = true
are_apart (x ∷ xs) = not (list_any (is_cell x) xs) && are_apart xs

-- the places of a cell after those of these cells have changed by n
abbrev pub changed : (ℕ → Places → Places) → ℕ → List Cell → (Cell → Option Places) → Cell
    → Option Places
changed change n cells places x =
    option_map (change (if list_any (is_cell x) cells then n else 0)) (places x)

-- the first cell is not among the others, none of which occurs twice
pub apart-parts : (k : Cell) (cells : List Cell) → are_apart (k ∷ cells) ≡ true
    → (list_any (is_cell k) cells ≡ false) × (are_apart cells ≡ true)
apart-parts k cells apart = grind (arith, and_parts, not-true)

-- a change by 0 changes nothing
pub none_changed : (by : Change) (p : Places) → changed_by by 0 p ≡ p
none_changed by p = grind (arith, le-leb)

-- after the first cell has changed, the others are still to change: the first cell does not change again, and its
-- change left the others the same
pub changed-step : (change : ℕ → Places → Places) → ((p : Places) → change 0 p ≡ p)
    → (n : ℕ) (k : Cell) (cells : List Cell) (old new : Cell → Option Places)
    → list_any (is_cell k) cells ≡ false
    → ((x : Cell) → new x ≡ (if is_cell x k then option_map (change n) (old k) else old x))
    → (x : Cell) → changed change n cells new x ≡ changed change n (k ∷ cells) old x
changed-step change none n k cells old new apart one x =
    ap (option_map (change (if list_any (is_cell x) cells then n else 0))) (one x)
    ∙ go (is_cell x k) refl
  where
    same : (o : Option Places) → option_map (change 0) o ≡ o
    same None = refl
    same (Some p) = ap (λ q. Some q) (none p)

    go : (b : Bool) → is_cell x k ≡ b
        → option_map (change (if list_any (is_cell x) cells then n else 0))
        (if b then option_map (change n) (old k) else old x)
        ≡ option_map (change (if b || list_any (is_cell x) cells then n else 0)) (old x)
    go true e =
        let is : x ≡ k = is_cell-same x k e in
        ap (λ b. option_map (change (if b then n else 0)) (option_map (change n) (old k)))
        (ap (λ y. list_any (is_cell y) cells) is ∙ apart)
        ∙ same (option_map (change n) (old k)) ∙ ap (λ y. option_map (change n) (old y)) (sym is)
    go false e = refl

-- The cells of a want.

-- the cell of a night is not among those of later nights
later_nights : (want : Wanted) (a b n : ℕ) → a < b
    → list_any (is_cell (cell_at want a)) (map (cell_at want) (numbers_from b n)) ≡ false
later_nights want a b zero less = refl
later_nights want a b (suc n) less = grind (arith, ne_eqb, and_right, later_nights want a (suc b) n (omega arith))

-- the cells of n nights are distinct
nights_apart : (want : Wanted) (first n : ℕ)
    → are_apart (map (cell_at want) (numbers_from first n)) ≡ true
nights_apart want first zero = refl
nights_apart want first (suc n) = grind (arith, later_nights, nights_apart want (suc first) n)

-- no cell of a want occurs twice
pub cells_of-apart : (want : Wanted) → are_apart (cells_of want) ≡ true
cells_of-apart want = nights_apart want want.first want.nights

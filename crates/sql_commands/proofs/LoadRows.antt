-- What is read of the rows of a batch, in order. For `content_of`, `cells_of` and LoadComes.
use Rattle.std.proofs.Common.{◌≡◌, ◌==◌, ◌≤◌, ℕ, zero, suc, ◌+◌, ◌<◌, List, [], ◌∷◌, ◌++◌, length, map, find, take, get_or, cond, Bool, true, false, Option, Some, None, inl, inr, refl, sym, ap, ap₂, subst, ◌∙◌, arith, eqb-true, eq-eqb, append_assoc, append-nil, position, not, nat_lt, option_map, Result, Ok, Err, IsOk, IsErrOf, unwrap_or, lt-ltb}
use Rattle.std.specs.List.{list_all, position_or_len}
use Rattle.std.proofs.lemmas.Bool.{and_parts, and_from}
use Rattle.std.proofs.lemmas.Bool.Decides.{nat_tests}
use Rattle.std.proofs.lemmas.List.{map-append}
use Rattle.std.proofs.lemmas.Grind.{flat_map-append}
use Rattle.std.proofs.lemmas.List.Folds.{list_all-append}
use Rattle.sqlite_rules.specs.Lists.{Has}
use Rattle.sqlite_rules.proofs.ListLemmas.{has_found}
use Rattle.sqlite_rules.proofs.ProbeLemmas.{has_mapped, mapped_has}
use Rattle.allotment.specs.Cells.{kind_number, the_cell, cell_at}
use Rattle.allotment.specs.Places.{held_of}
use Rattle.allotment.specs.Want.{Wanted}
use Rattle.allotment.specs.declared.codes.Kind.{Kind}
use Rattle.allotment.specs.Texts.{row_text, line_feed}
use Rattle.allotment.specs.declared.cells.Cell.{Cell}
use Rattle.allotment.specs.declared.cells.Row.{Row}
use Rattle.allotment.specs.declared.places.Held.{Held as HeldPlaces}
use Rattle.ledger.specs.Answer.{State}
use Rattle.ledger.specs.Ledger.{Event, IsLegal, held, is_not_below_held}
use Rattle.ledger.proofs.Cells.{kind_of, kind_of-number}
use Rattle.saga_core.specs.Views.{Places, night_said, places_of, places_said, places_shown}
use Rattle.desk_sql.specs.Rows.{StockRow}
use Rattle.commands.specs.declared.replies.Fault.{Fault}
use Rattle.commands.specs.declared.replies.Fault.TheVariants.{Store}
use Rattle.desk_sql.specs.Stock.{put}
use Rattle.sql_model.specs.ExpectedRows.{batch_text}
use Rattle.sql_model.specs.Reading.{stock_row_of}
use Rattle.sql_model.specs.Standing.{IsDesk}
use Rattle.sql_model.proofs.StockRows.{has_shown, shown_has}
use Rattle.sql_model.specs.Loading.{put_rows}
use Rattle.sql_model.proofs.Fitting.{held_told, held_untold}
use Rattle.sql_writes.specs.Loads.{put_each}
use Rattle.sql_writes.proofs.RunLemmas.{take-more}
use Rattle.sql_commands.specs.Loading.{GetsPlaces, HavePlaces, row_loaded}
use Rattle.sql_reads.specs.NightsRead.{AreRead, IsAmong, IsLater, held_at, nights_from}
use Rattle.sql_reads.specs.declared.nights_read.NightsRead.{NightsRead}

-- Places.

-- what passes the test is found
unfound : {X : Type 0} (p : X → Bool) (xs : List X) (x : X) → find p xs ≡ None → Has xs x → p x ≡ true → ⊥
unfound p [] x e h passes = absurd h
unfound p (y ∷ xs) x e h passes = go (p y) refl e h (unfound p xs x)
  where
    go : (b : Bool) → p y ≡ b → cond b (Some y) (find p xs) ≡ None → Has (y ∷ xs) x
        → (find p xs ≡ None → Has xs x → p x ≡ true → ⊥) → ⊥
    go true is e h later = cc
    go false is e (inl same) later = let bad : true ≡ false = sym passes ∙ ap p same ∙ is in cc
    go false is e (inr there) later = later e there passes

module _ (l : List Event) (legal : IsLegal l) (w : Wanted) where
  -- the places of a want's nights tell how many of each night are held
  held_listed : (nights : List (ℕ × HeldPlaces)) → map night_said nights ≡ places_shown l w → (n : ℕ) → w.first ≤ n
      → n < w.first + w.nights → held_at n nights ≡ held l (cell_at w n)
  held_listed nights shows n low high = go (find (λ (x : ℕ × HeldPlaces). x.0 == n) nights) refl
    where
      none : find (λ (x : ℕ × HeldPlaces). x.0 == n) nights ≡ None → (o : Option Places)
          → places_of l (cell_at w n) ≡ o → 0 ≡ held l (cell_at w n)
      none e None f = sym (held_untold l legal (cell_at w n) f)
      none e (Some p) f =
          let shown = has_shown l w w.first w.nights (n, p) low high f in
          let from = has_mapped night_said nights (n, p) (subst (λ ps. Has ps (n, p)) (sym shows) shown) in
          let night : n ≡ from.0.0 = ap (λ (q : ℕ × Places). q.0) from.2 in
          absurd (unfound (λ (x : ℕ × HeldPlaces). x.0 == n) nights from.0 e from.1 (eq-eqb from.0.0 n (sym night)))

      go : (o : Option (ℕ × HeldPlaces)) → find (λ (x : ℕ × HeldPlaces). x.0 == n) nights ≡ o
          → unwrap_or (option_map (λ (x : ℕ × HeldPlaces). held_of x.1) o) 0 ≡ held l (cell_at w n)
      go None e = none e (places_of l (cell_at w n)) refl
      go (Some x) e =
          let found = has_found (λ (y : ℕ × HeldPlaces). y.0 == n) nights x e in
          let there = subst (λ ps. Has ps (night_said x)) shows (mapped_has night_said nights x found.0) in
          let shown = shown_has l w w.first w.nights (night_said x) there in
          let night : x.0 ≡ n = eqb-true x.0 n found.1 in
          held_told l legal (cell_at w n) (places_said x.1) (ap (λ m. places_of l (cell_at w m)) (sym night) ∙ shown.2)

-- a cell among nights is the cell of their product at its night
cell_later : (first : Cell) (nights : ℕ) (x : Cell) → IsLater first nights x
    → the_cell first.kind first.supplier first.product x.night ≡ x
cell_later first nights x later =
    let kind : first.kind ≡ x.kind =
    sym (kind_of-number first.kind) ∙ ap kind_of (sym later.kind) ∙ kind_of-number x.kind in
    ap (λ (k : Kind). the_cell k first.supplier first.product x.night) kind
    ∙ ap (λ s. the_cell x.kind s first.product x.night) (sym later.supplier)
    ∙ ap (λ p. the_cell x.kind x.supplier p x.night) (sym later.product)

-- the nights that were read tell how many places of a cell among them are held
pub held_read : (s : State) → IsDesk s → (read : NightsRead) (x : Cell) → AreRead s read → IsAmong read x
    → held_at x.night read.places.items ≡ held s.ledger x
held_read s desk read x are among =
    let later = among.1 in
    let night = later.night in
    let before = among.2 in
    held_listed s.ledger desk.legal (nights_from read.first read.count) read.places.items are x.night (omega arith) (omega arith)
    ∙ ap (held s.ledger) (cell_later read.first among.0 x later)

-- the places that a row's cell gets are those of its row of stock
places_told : (r : Row) (s : State) (p : HeldPlaces) → GetsPlaces r s (Some p)
    → stock_row_of (r.cell, p) ≡ row_loaded s r
places_told r s p gets =
    ap₂
    (λ (a f : ℕ). record { kind = kind_number r.cell.kind; supplier = r.cell.supplier; product = r.cell.product; night = r.cell.night; allot = a; free = f })
    gets.1 gets.2

-- one more row has its places
pub have_more : (rows : List Row) (s : State) (cells : List (Cell × HeldPlaces)) (r : Row) (p : HeldPlaces)
    → HavePlaces rows s cells → GetsPlaces r s (Some p)
    → HavePlaces (rows ++ r ∷ []) s (cells ++ (r.cell, p) ∷ [])
have_more rows s cells r p have gets = record {
  above =
      list_all-append (is_not_below_held s.ledger) rows (r ∷ [])
      ∙ and_from (list_all (is_not_below_held s.ledger) rows) (list_all (is_not_below_held s.ledger) (r ∷ [])) have.above
      (and_from (is_not_below_held s.ledger r) true gets.0 refl);
  told =
      map-append stock_row_of cells ((r.cell, p) ∷ [])
      ∙ ap₂ (λ (a : List StockRow) (b : StockRow). a ++ b ∷ []) have.told (places_told r s p gets)
      ∙ sym (map-append (row_loaded s) rows (r ∷ []));
}

-- the cells get the places in their rows
pub put_told : (s : State) (rows : List Row) (cells : List (Cell × HeldPlaces)) (stock : List StockRow)
    → map stock_row_of cells ≡ map (row_loaded s) rows → put_each cells stock ≡ put_rows (held s.ledger) rows stock
put_told s [] [] stock e = refl
put_told s [] (c ∷ cells) stock e = let bad : stock_row_of c ∷ map stock_row_of cells ≡ [] = e in cc
put_told s (r ∷ rows) [] stock e = let bad : [] ≡ row_loaded s r ∷ map (row_loaded s) rows = e in cc
put_told s (r ∷ rows) (c ∷ cells) stock e =
    let both : stock_row_of c ∷ map stock_row_of cells ≡ row_loaded s r ∷ map (row_loaded s) rows = e in
    let first : stock_row_of c ≡ row_loaded s r = cc in
    let rest : map stock_row_of cells ≡ map (row_loaded s) rows = cc in
    put_told s rows cells (put (stock_row_of c) stock) rest ∙ ap (λ x. put_rows (held s.ledger) rows (put x stock)) first

-- Positions.

-- one more than equal numbers
one_more : (m n : ℕ) → m ≡ n → 1 + m ≡ suc n
one_more m n e = omega arith

-- if all rows pass, no row fails
pub none_below : (above : Row → Bool) (rows : List Row) → list_all above rows ≡ true
    → position (λ r. not (above r)) rows ≡ None
none_below above rows all =
    ap (λ (n : ℕ). cond (nat_lt n (length rows)) (Some n) None) (past rows all)
    ∙ ap (λ (b : Bool). cond b (Some (length rows)) None) (never (length rows))
  where
    never : (n : ℕ) → nat_lt n n ≡ false
    never n = grind (arith, nat_tests)

    past : (rs : List Row) → list_all above rs ≡ true → position_or_len (λ r. not (above r)) rs ≡ length rs
    past [] e = refl
    past (r ∷ rs) e =
        let both = and_parts (above r) (list_all above rs) e in
        ap (λ (b : Bool). cond (not (not b)) (1 + position_or_len (λ q. not (above q)) rs) 0) both.0
        ∙ one_more (position_or_len (λ q. not (above q)) rs) (length rs) (past rs both.1)

-- a row that fails, after rows that pass, is the first that fails
pub first_below : (above : Row → Bool) (rows : List Row) (i : ℕ) (r : Row) → i < length rows → r ≡ get_or rows i r
    → list_all above (take i rows) ≡ true → above r ≡ false → position (λ q. not (above q)) rows ≡ Some i
first_below above rows i r within is all fails =
    ap (λ (n : ℕ). cond (nat_lt n (length rows)) (Some n) None) (place rows i within is all)
    ∙ ap (λ (b : Bool). cond b (Some i) None) (lt-ltb i (length rows) within)
  where
    place : (rs : List Row) (j : ℕ) → j < length rs → r ≡ get_or rs j r → list_all above (take j rs) ≡ true
        → position_or_len (λ q. not (above q)) rs ≡ j
    place [] j low e before = absurd (omega arith)
    place (q ∷ rs) zero low e before =
        ap (λ (b : Bool). cond (not (not b)) (1 + position_or_len (λ x. not (above x)) rs) 0) (ap above (sym e) ∙ fails)
    place (q ∷ rs) (suc j) low e before =
        let both = and_parts (above q) (list_all above (take j rs)) before in
        ap (λ (b : Bool). cond (not (not b)) (1 + position_or_len (λ x. not (above x)) rs) 0) both.0
        ∙ one_more (position_or_len (λ x. not (above x)) rs) j (place rs j (omega arith) e both.1)

-- Texts.

-- the text of one more row has one more line
pub text_more : (rows : List Row) (i : ℕ) (r : Row) (text : List ℕ) → i < length rows → r ≡ get_or rows i r
    → text ≡ batch_text (take i rows) → (text ++ row_text r) ++ line_feed ∷ [] ≡ batch_text (take (i + 1) rows)
text_more rows i r text within is e =
    append_assoc text (row_text r) (line_feed ∷ [])
    ∙ ap (λ (t : List ℕ). t ++ (row_text r ++ line_feed ∷ [])) e
    ∙ ap (λ (t : List ℕ). batch_text (take i rows) ++ t) (sym (append-nil (row_text r ++ line_feed ∷ [])))
    ∙ sym (flat_map-append (λ (q : Row). row_text q ++ line_feed ∷ []) (take i rows) (r ∷ []))
    ∙ ap batch_text (sym (take-more rows i r within is))

-- Store only for a reason.

-- what succeeded did not fail
pub not_failed : {V : Type 0} (r : Result V Fault) → IsOk r → ¬ IsErrOf r Store
not_failed (Ok v) ok store = cc
not_failed (Err f) ok store = cc

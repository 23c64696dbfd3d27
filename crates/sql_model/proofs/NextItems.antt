-- The rows of items give the histories of journeys, whole or item by item, and the rows of save-points give which of them
-- stand. For Readings.
use Rattle.std.proofs.Common.{◌≡◌, ◌⊎◌, inl, inr, ℕ, zero, suc, ◌+◌, ◌<◌, ◌≤◌, length, length-append, ◌-◌, ◌==◌, List, [], ◌∷◌, ◌++◌, map, filter, find, take, drop, Bool, false, Option, Some, None, refl, sym, ap, subst, ◌∙◌, append-nil, arith, filter_map, ◌&&◌, ◌||◌, rules}
use Rattle.std.specs.List.{list_any}
use Rattle.std.specs.List.Sorted.{IsPermutation}
use Rattle.std.proofs.lemmas.Bool.{and_from, and_right, lt-ltb, le-ltb}
use Rattle.std.proofs.lemmas.Bool.Decides.{nat_tests}
use Rattle.std.proofs.lemmas.List.{take_all, take-append-le, take-append-drop}
use Rattle.std.proofs.lemmas.List.Elements.{filter_map-append}
use Rattle.std.proofs.lemmas.List.Sorted.{list_any-IsPermutation}
use Rattle.sqlite_rules.specs.Lists.{Has}
use Rattle.plan.specs.PlanModel.{Planned, numbered}
use Rattle.commands.specs.declared.items.Item.{Item}
use Rattle.ledger.specs.History.{is_taken}
use Rattle.ledger.specs.Ledger.{Event, Loaded, Began, Did, item_of, history, IsLegal}
use Rattle.ledger.proofs.Growing.{Keeps, induct, history-began}
use Rattle.ledger.proofs.Ledgers.{all_go}
use Rattle.ledger.proofs.Lists.{numbered-snoc}
use Rattle.desk_sql.specs.Lists.{IsLeastOf}
use Rattle.desk_sql.specs.Rows.{EntryRow, MarkRow}
use Rattle.desk_sql.specs.FoundRows.{is_item_after, is_mark_of, mark_at_pos}
use Rattle.sql_model.specs.ExpectedRows.{Begun, begun, counted_from, entry_row_of, entry_row_if, entries_called}
use Rattle.sql_model.specs.Standing.{MarksStand}
use Rattle.sql_model.specs.Reading.{item_in}
use Rattle.sql_model.proofs.EventRows.{begun-more}
use Rattle.sql_model.proofs.JourneyRows.{journey_at-begun}
use Rattle.sql_model.proofs.Numbering.{has_chosen, ascending-chosen, counted_stands, counted_rises, there_low}
use Rattle.sql_model.proofs.Orders.{Rises, one_order, least_is_first}

-- the item is read back from its row
item_back : (num journey : ℕ) (item : Item) → item_in (entry_row_of num journey item) ≡ Some item
item_back num journey item = search (rules, arith)

-- the row of an item has the number of its event and that of its journey
entry_num : (num journey : ℕ) (item : Item) → (entry_row_of num journey item).num ≡ num
entry_num num journey item = search (rules, arith)

entry_journey : (num journey : ℕ) (item : Item) → (entry_row_of num journey item).journey ≡ journey
entry_journey num journey item = search (rules, arith)

-- the rows of the items from this event on
abbrev entries_from : ℕ → List Event → List EntryRow
entries_from n l = filter_map (λ (e : ℕ × Event). entry_row_if e.0 e.1) (counted_from n l)

entry_told : (n : ℕ) (e : Event) (r : EntryRow) → entry_row_if n e ≡ Some r → r.num ≡ n
entry_told n e r is = search (rules, arith, entry_num)

-- the rows of items have the numbers of the events
pub entries_from-within : (n : ℕ) (l : List Event) (r : EntryRow) → Has (entries_from n l) r
    → (n ≤ r.num) × (r.num < n + length l)
entries_from-within n l r h = search (rules, arith, has_chosen, entry_told, counted_stands, there_low)

entries_from-rise : (n : ℕ) (l : List Event) → Rises (λ (e : EntryRow). e.num) (entries_from n l)
entries_from-rise n l =
    ascending-chosen (λ (e : ℕ × Event). entry_row_if e.0 e.1) (λ d e. d.num < e.num) (λ p q. p.0 < q.0)
    (λ p q d e low is also. let a = entry_told p.0 p.1 d is in let b = entry_told q.0 q.1 e also in omega arith)
    (counted_from n l) (counted_rises n l)

-- equality of numbers is symmetric
pub turned : (a b : ℕ) → (a == b) ≡ (b == a)
turned a b = grind (arith, nat_tests)

module _ (j after : ℕ) where
  -- the rows above the number are those of the items after so many events
  found_after : (n m : ℕ) (l : List Event) → m ≡ after + 1 - n
      → map item_in (filter (is_item_after j after) (entries_from n l)) ≡ map Some (history (drop m l) j)
  found_after n zero [] up = refl
  found_after n (suc m) [] up = refl
  found_after n zero (e ∷ l) up =
      search (rules, arith, entry_journey, entry_num, turned, item_back, lt-ltb, found_after (suc n) zero l (omega arith))
  found_after n (suc m) (e ∷ l) up =
      search (rules, arith, entry_num, and_right, le-ltb, found_after (suc n) m l (omega arith))

-- the rows found with a journey's number, in order of event, give its history, if the search starts
-- after events that are no items of the journey
pub items_found : (l : List Event) (rows : List EntryRow) (j after : ℕ)
    → history (take after l) j ≡ []
    → IsPermutation (entries_called l) rows → Rises (λ (e : EntryRow). e.num) rows
    → map item_in (filter (is_item_after j after) rows) ≡ map Some (history l j)
items_found l rows j after none same up =
    ap (λ es. map item_in (filter (is_item_after j after) es))
    (one_order (λ (e : EntryRow). e.num) (entries_called l) rows same (entries_from-rise 1 l) up)
    ∙ found_after j after 1 after l (omega arith)
    ∙ ap (λ h. map Some (h ++ history (drop after l) j)) (sym none)
    ∙ ap (map Some) (sym (filter_map-append (item_of j) (take after l) (drop after l)))
    ∙ ap (λ es. map Some (history es j)) (take-append-drop after l)

-- The first item.

-- among the events up to this number there is no item of the journey
record BeginsAt (l : List Event) (j num : ℕ) : Type 0 where
  low : num ≤ length l
  none : history (take num l) j ≡ []

-- the same holds after one more event
still : (l : List Event) (e : Event) (j num : ℕ) → BeginsAt l j num → BeginsAt (l ++ e ∷ []) j num
still l e j num was = search (rules, arith, length-append, take-append-le)

abbrev AllBegin : List Event → Type 0
AllBegin l = (j : ℕ) (b : Begun) → numbered (begun l) j ≡ Some b → BeginsAt l j b.num

-- a new journey has no item yet, and the others begin where they did
begins-began : (l : List Event) (agent : List ℕ) (plan : Planned) → IsLegal l → AllBegin l
    → AllBegin (l ++ Began agent plan ∷ [])
begins-began l agent plan legal all j b e =
    old_or_new (numbered-snoc (begun l) new j b (rw (begun-more l (Began agent plan)) at e))
  where
    new : Begun
    new = record { num = length l + 1; journey = record { agent = agent; plan = plan } }

    all_new : numbered (begun l) j ≡ None → BeginsAt (l ++ Began agent plan ∷ []) j (length l + 1)
    all_new none =
        let more = length-append l (Began agent plan ∷ []) in
        record {
          low = omega arith;
          none =
              ap (λ es. history es j) (take_all (length l + 1) (l ++ Began agent plan ∷ []) (omega arith))
              ∙ history-began l agent plan j ∙ (all_go l legal).none j (rw (journey_at-begun l j, none) refl);
        }

    old_or_new : (numbered (begun l) j ≡ Some b) ⊎ ((numbered (begun l) j ≡ None) × (new ≡ b))
        → BeginsAt (l ++ Began agent plan ∷ []) j b.num
    old_or_new (inl old) = still l (Began agent plan) j b.num (all j b old)
    old_or_new (inr now) =
        subst (λ (x : Begun). BeginsAt (l ++ Began agent plan ∷ []) j x.num) now.1 (all_new now.0)

begins-more : Keeps AllBegin
begins-more l (Began agent plan) legal may all j b e = begins-began l agent plan legal all j b e
begins-more l (Loaded name rows) legal may all j b e =
    still l (Loaded name rows) j b.num (all j b (rw (begun-more l (Loaded name rows), append-nil (begun l)) at e))
begins-more l (Did k item) legal may all j b e =
    still l (Did k item) j b.num (all j b (rw (begun-more l (Did k item), append-nil (begun l)) at e))

-- up to the event that began a journey, the journey has no item
pub no_item_before : (l : List Event) (j : ℕ) (b : Begun) → IsLegal l → numbered (begun l) j ≡ Some b
    → history (take b.num l) j ≡ []
no_item_before l j b legal e = (induct AllBegin none begins-more l legal j b e).none
  where
    none : (k : ℕ) (a : Begun) → numbered (begun []) k ≡ Some a → BeginsAt [] k a.num
    none k a f = search (rules, arith)

-- The next item.

-- the events are numbered from n: after the first `behind` of them, the row is that of the journey's
-- first item, and the later items come after its event
pub record TellsNext (j n behind : ℕ) (l : List Event) (e : EntryRow) : Type 0 where
  pub item : Item
  pub told : item_in e ≡ Some item
  pub past : ℕ
  pub number : n + past ≡ e.num + 1
  pub rest : history (drop behind l) j ≡ item ∷ history (drop past l) j

-- the row is that of the next item; no row means no item
abbrev pub TellsIfNext : ℕ → ℕ → ℕ → List Event → Option EntryRow → Type 0
TellsIfNext j n behind l None = history (drop behind l) j ≡ []
TellsIfNext j n behind l (Some e) = TellsNext j n behind l e

-- an event before the search changes nothing, and neither does one that is no item of the journey
shifted : (j n m k : ℕ) (d : Event) (l : List Event) (o : Option EntryRow) → history (drop k (d ∷ l)) j ≡ history (drop m l) j
    → TellsIfNext j (suc n) m l o → TellsIfNext j n k (d ∷ l) o
shifted j n m k d l None e none = e ∙ none
shifted j n m k d l (Some x) e tells = record {
  item = tells.item;
  told = tells.told;
  past = suc tells.past;
  number = (let number = tells.number in omega arith);
  rest = e ∙ tells.rest;
}

module _ (j after : ℕ) where
  -- among the rows above the number
  above : (n : ℕ) (l : List Event) → after < n
      → TellsIfNext j n 0 l (find (is_item_after j after) (entries_from n l))
  above n [] low = refl
  above n (Loaded name rows ∷ l) low = shifted j n 0 0 (Loaded name rows) l _ refl (above (suc n) l (omega arith))
  above n (Began agent plan ∷ l) low = shifted j n 0 0 (Began agent plan) l _ refl (above (suc n) l (omega arith))
  above n (Did k item ∷ l) low = go (j == k) refl (above (suc n) l (omega arith))
    where
      go : (v : Bool) → (j == k) ≡ v
          → TellsIfNext j (suc n) 0 l (find (is_item_after j after) (entries_from (suc n) l))
          → TellsIfNext j n 0 (Did k item ∷ l) (find (is_item_after j after) (entries_from n (Did k item ∷ l)))
      go v e rest =
          let past = λ (off : (j == k) ≡ false). shifted j n 0 0 (Did k item) l _ (rw off) rest in
          search (rules, arith, entry_journey, turned, entries_from, entry_num, and_from, lt-ltb, item_back, past)

  -- among all rows
  behind_all : (n m : ℕ) (l : List Event) → n + m ≡ after + 1
      → TellsIfNext j n m l (find (is_item_after j after) (entries_from n l))
  behind_all n zero l up = above n l (omega arith)
  behind_all n (suc m) [] up = refl
  behind_all n (suc m) (e ∷ l) up = search (rules, arith, entry_num, and_right, le-ltb, shifted, behind_all (suc n) m l)

-- the row with the least number found after so many events is that of the journey's next item
pub next_found : (l : List Event) (rows : List EntryRow) (j after : ℕ) (found : Option EntryRow)
    → IsPermutation (entries_called l) rows
    → IsLeastOf (λ (e : EntryRow). e.num) (filter (is_item_after j after) rows) found
    → TellsIfNext j 1 after l found
next_found l rows j after found same least =
    rw (least_is_first (λ (e : EntryRow). e.num) (is_item_after j after) (entries_called l) rows found (entries_from-rise 1 l) same
    least) at (behind_all j after 1 after l (omega arith))

-- Save-points.

-- a filtered list has an element that passes the second test exactly if the list has one that passes both
any-filter : {X : Type 0} (p q : X → Bool) (xs : List X)
    → list_any q (filter p xs) ≡ list_any (λ x. p x && q x) xs
any-filter p q [] = refl
any-filter p q (x ∷ xs) = search (rules, arith, any-filter p q xs)

pub any-map : {X Y : Type 0} (f : X → Y) (q : Y → Bool) (xs : List X)
    → list_any q (map f xs) ≡ list_any (λ x. q (f x)) xs
any-map f q [] = refl
any-map f q (x ∷ xs) = ap (λ v. q (f x) || v) (any-map f q xs)

-- the positions found with a journey's number contain each position at which a save-point
-- stands
pub marks_found : (l : List Event) (rows : List MarkRow) (found : List ℕ) (j p : ℕ)
    → MarksStand l rows → IsPermutation (filter (is_mark_of j) rows) (map (mark_at_pos j) found)
    → list_any (λ q. q == p) found ≡ is_taken (history l j) p
marks_found l rows found j p stand same =
    sym (any-map (mark_at_pos j) (λ (m : MarkRow). m.pos == p) found)
    ∙ sym
    (list_any-IsPermutation (λ (m : MarkRow). m.pos == p) (filter (is_mark_of j) rows) (map (mark_at_pos j) found) same)
    ∙ any-filter (is_mark_of j) (λ (m : MarkRow). m.pos == p) rows ∙ stand.each j p

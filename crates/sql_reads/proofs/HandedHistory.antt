-- The next item of a journey, and the items that then remain. For `history_rows`.
use Rattle.std.proofs.Common.{◌≡◌, ℕ, List, [], ◌∷◌, ◌++◌, drop, Bool, true, false, Option, None, Some, refl, sym, ap, subst, ◌∙◌, append_assoc}
use Rattle.sqlite.specs.Store.{Ghosts}
use Rattle.sqlite.specs.Held.{Held, state}
use Rattle.commands.specs.declared.items.Item.{Item}
use Rattle.ledger.specs.Answer.{State}
use Rattle.ledger.specs.Ledger.{journey_at, history}
use Rattle.desk_sql.specs.FoundRows.{item_of}
use Rattle.desk_sql.specs.declared.journeys.ItemFound.{ItemFound}
use Rattle.saga_core.specs.RowSources.{HandsFirst}
use Rattle.desk_sql.specs.declared.versions.Version.{Version}
use Rattle.sql_model.specs.Keeping.{KeepsEach, KeepsIn}
use Rattle.sql_model.specs.Reading.{item_in}
use Rattle.sql_model.specs.Standing.{IsDesk}
use Rattle.sql_reads.specs.Following.{GoesOnWith, next_position, finishes}
use Rattle.sql_reads.specs.RemainingRows.{AreBehind, ItemsLeft}
use Rattle.sql_reads.specs.ItemSearch.{TellsNext, IsNextOf}
use Rattle.sql_reads.specs.declared.item_search.Sought.{Sought}
use Rattle.sql_reads.proofs.GoingOn.{brings, goes_no_further}

module _ {S : Type 0} (g : Ghosts S) (tables : Version) (old new : Held S) (w : Sought) (pos : ℕ) where
  -- the items that remain of a journey that is not finished
  open_left : (was : Bool) (items : List Item) → was ≡ false → ItemsLeft g tables old w pos was items → AreBehind g tables old w pos items
  open_left was items e left = subst (λ v. ItemsLeft g tables old w pos v items) e left

  -- the result of a search, in each desk that the connection keeps
  abbrev pub IsNextFound : Option ItemFound → Type 0
  IsNextFound o = (s : State) → IsDesk s → KeepsIn tables (state g old) s → IsNextOf w s o

  -- the row is that of the first remaining item; if the item finishes the journey, none remains after it
  pub item_first : (v : Sought) (after : ℕ) (was finished : Bool) (i : ItemFound) (x : Item)
      → v.journey ≡ w.journey → v.after ≡ i.num → v.steps ≡ w.steps → KeepsEach g old new
      → IsNextFound (Some i) → Some x ≡ item_in (item_of 0 i)
      → after ≡ next_position pos x → finished ≡ finishes w.steps pos x → was ≡ false
      → (failed : Bool) (xs : List Item) → (failed ≡ false) × ItemsLeft g tables old w pos was xs
      → HandsFirst (λ zs. (false ≡ false) × ItemsLeft g tables new v after finished zs) (Some x) xs
  item_first v after was finished i x journey_is after_is steps_is kept next is moved ends open_yet failed xs rests =
      let left = open_left was xs open_yet rests.1 in
      let told = next left.desk left.is_desk left.keeps in
      go xs left told (sym left.behind ∙ told.rest)
    where
      goes_same : (y : Item) → y ≡ x → (later : List Item) → AreBehind g tables old w pos (y ∷ later) → GoesOnWith w.steps pos (x ∷ later)
      goes_same y same later left = record {
        ledger = left.desk.ledger;
        legal = left.is_desk.legal;
        id = w.journey;
        has_steps = left.has_steps;
        before = left.before;
        stands = left.stands;
        whole = left.whole ∙ ap (λ z. left.before ++ z ∷ later) same;
      }

      further : (f : Bool) (y : Item) → y ≡ x → f ≡ finishes w.steps pos x → (later : List Item)
          → (left : AreBehind g tables old w pos (y ∷ later))
          → history (drop i.num left.desk.ledger) w.journey ≡ later → ItemsLeft g tables new v after f later
      further true y same done later left behind =
          goes_no_further w.steps pos x later done (goes_same y same later left)
      further false y same open_still later left behind =
          record {
            desk = left.desk;
            is_desk = left.is_desk;
            keeps = kept tables left.desk left.keeps;
            has_steps = λ a at. left.has_steps a (sym (ap (journey_at left.desk.ledger) journey_is) ∙ at) ∙ sym steps_is;
            before = left.before ++ x ∷ [];
            stands = sym (moved ∙ brings w.steps pos x later (goes_same y same later left));
            whole =
                ap (history left.desk.ledger) journey_is ∙ left.whole ∙ ap (λ z. left.before ++ z ∷ later) same
                ∙ sym (append_assoc left.before (x ∷ []) later);
            behind =
                ap (λ n. history (drop n left.desk.ledger) v.journey) after_is
                ∙ ap (history (drop i.num left.desk.ledger)) journey_is ∙ behind;
          }

      go : (ys : List Item) (left : AreBehind g tables old w pos ys) (told : TellsNext w left.desk.ledger i)
          → ys ≡ told.item ∷ history (drop i.num left.desk.ledger) w.journey
          → HandsFirst (λ zs. (false ≡ false) × ItemsLeft g tables new v after finished zs) (Some x) ys
      go [] left told e = cc
      go (y ∷ later) left told e =
          let both : Some x ≡ Some told.item = is ∙ told.told in
          let same : y ≡ x = cc in
          let behind : later ≡ history (drop i.num left.desk.ledger) w.journey = cc in
          (ap Some (sym same), (refl, further finished y same ends later left (sym behind)))

  -- if there is no row, no item remains
  pub item_none : (was : Bool) → KeepsEach g old new → IsNextFound None → was ≡ false
      → (failed : Bool) (xs : List Item) → (failed ≡ false) × ItemsLeft g tables old w pos was xs
      → HandsFirst (λ zs. (false ≡ false) × ItemsLeft g tables new w pos was zs) None xs
  item_none was kept next open_yet failed xs rests =
      let left = open_left was xs open_yet rests.1 in
      go xs left (sym left.behind ∙ next left.desk left.is_desk left.keeps)
    where
      go : (ys : List Item) → AreBehind g tables old w pos ys → ys ≡ []
          → HandsFirst (λ zs. (false ≡ false) × ItemsLeft g tables new w pos was zs) None ys
      go [] left e = (
        refl,
        (
          refl,
          subst (λ v. ItemsLeft g tables new w pos v []) (sym open_yet) (record {
            desk = left.desk;
            is_desk = left.is_desk;
            keeps = kept tables left.desk left.keeps;
            has_steps = left.has_steps;
            before = left.before;
            stands = left.stands;
            whole = left.whole;
            behind = left.behind;
          }),
        ),
      )
      go (y ∷ later) left e = cc

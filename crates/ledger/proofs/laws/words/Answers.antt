-- Each legal ledger keeps room in its cells, its journeys read as up-and-down words, and those
-- without save-points are all or nothing.
use Rattle.ledger.proofs.Ledgers.{up_and_down}
use Rattle.ledger.proofs.Places.{no_cell_overfull}
use Rattle.ledger.proofs.laws.words.Goals as goal
use Rattle.std.proofs.Common.{ap, ◌∙◌, ◌≡◌, ℕ, ◌<◌, ◌⊎◌, List, [], ◌∷◌, ◌++◌, refl, sym, arith, append_assoc, append-nil, false}
use Rattle.std.proofs.lemmas.Bool.{or_parts, or_from, and_left}
use Rattle.std.proofs.lemmas.List.Folds.{list_any-append}
use Rattle.std.specs.List.{list_any}
use Rattle.plan.specs.PlanModel.{Planned, step_count, is_marked_at}
use Rattle.commands.specs.declared.items.Item.{Item}
use Rattle.commands.specs.declared.items.Item.TheVariants.{Save}
use Rattle.ledger.specs.History.{is_save, is_taken}
use Rattle.ledger.specs.Laws.{HasNoSavePoint, EachPlainJourneyIsAllOrNothing}
use Rattle.ledger.specs.Ledger.{Event, IsLegal}
use Rattle.ledger.specs.Word.{word, up, down, Returns, begins, goes_on, GoesToStart, EndsAtSave}
use Rattle.ledger.proofs.Numbers.{word-append, up-none, up-join, down-none}

-- where no save-point was taken, none stands
is_taken-none : (h : List Item) (p : ℕ) → list_any is_save h ≡ false → is_taken h p ≡ false
is_taken-none [] p none = refl
is_taken-none (Save q ∷ h) p none = cc
is_taken-none (_ ∷ h) p none = is_taken-none h p none

-- what a history did not take, its prefix did not take
untaken-front : (g rest : List Item) → list_any is_save (g ++ rest) ≡ false → list_any is_save g ≡ false
untaken-front g rest none = grind (arith, or_parts, list_any-append)

-- before its last run such a journey went up without a step down
returns-up : (plan : Planned) → ((i : ℕ) → is_marked_at plan i ≡ false)
    → (g : List Item) (pos : ℕ) → Returns plan g pos → list_any is_save g ≡ false → word g ≡ up 0 pos
returns-up plan unmarked _ _ begins untaken = sym (up-none 0)
returns-up plan unmarked _ _ (goes_on before part from top to r turn more end) untaken =
    go (returns-up plan unmarked before from r (untaken-front before part untaken)) end
  where
    go : word before ≡ up 0 from → (to ≡ top) ⊎ EndsAtSave plan before part to → word (before ++ part) ≡ up 0 to
    go earlier x = grind (arith, word-append, down-none, append-nil, up-join, or_from, and_left, is_taken-none)

-- one that goes to its start went up to a top, short of its end, and all the way down
plain-start : (plan : Planned) (h : List Item) → HasNoSavePoint plan h → GoesToStart plan h
    → (top : ℕ) × (top < step_count plan) × (word h ≡ up 0 top ++ down top 0)
plain-start plan h none g =
    let untaken = untaken-front g.before g.part (sym (ap (list_any is_save) g.whole) ∙ none.untaken) in
    let rises = returns-up plan none.unmarked g.before g.from g.returns untaken in
    let join = up-join 0 g.from g.top (omega arith) g.turns.rises in
    (g.top, g.turns.short, cc (word-append g.before g.part, append_assoc (up 0 g.from) (up g.from g.top) (down g.top 0)))

-- without save-points an ended journey did all its steps, and an undone one compensated what it did
all_or_nothing : (l : List Event) → IsLegal l → EachPlainJourneyIsAllOrNothing l
all_or_nothing l legal j a at none = grind (arith, up_and_down, untaken-front, word-append, returns-up, up-join, plain-start)

pub returns : goal.returns
returns c = record { places = no_cell_overfull; words = up_and_down; plain = all_or_nothing }

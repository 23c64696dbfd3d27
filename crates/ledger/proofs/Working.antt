-- How many more steps a journey may make at most, and all journeys of a ledger: each step leaves fewer, and with the turns of
-- recovery they are within the bound of the ledger. For the law of recovery.
use Rattle.std.proofs.Common.{◌≡◌, ℕ, zero, suc, ◌+◌, ◌*◌, ◌<◌, ◌≤◌, List, [], ◌∷◌, ◌++◌, length, map, refl, ap, ◌∙◌, arith, append-nil, eq-eqb, Bool, true, false, ◌&&◌, nat_le, nat_lt, Option, Some, None, option_map, filter, filter_map, if◌then◌else◌, IsTrue, sum_by, unwrap_or, ◌-◌, append_assoc, subst, sym}
use Rattle.std.proofs.lemmas.Bool.{and_from, cond_both, and_parts}
use Rattle.std.proofs.lemmas.Bool.Decides.{nat_tests}
use Rattle.std.proofs.lemmas.List.Elements.{filter_map-append}
use Rattle.allotment.specs.Cells.{numbers_from}
use Rattle.plan.specs.PlanModel.{Planned, step_count}
use Rattle.commands.specs.declared.items.Cause.TheVariants.{Stop, Refused}
use Rattle.commands.specs.declared.items.Item.{Item}
use Rattle.commands.specs.declared.items.Item.TheVariants.{Turn, Transaction, Compensation}
use Rattle.commands.specs.declared.items.Phase.{Phase}
use Rattle.commands.specs.declared.items.Phase.TheVariants.{Run, Back}
use Rattle.ledger.specs.History.{last_save, phase, refusals, is_running, is_open, may_come}
use Rattle.ledger.specs.Ledger.{Event, Did, Journey, journeys, journey_at, begun_by, history, item_of, is_in, is_allowed, AreAllowedAfter, IsLegal, numbers, is_item_allowed}
use Rattle.ledger.specs.Recovery.{last_save_of, stops, bound_of, bound, is_forward, are_items}
use Rattle.ledger.proofs.Growing.{AreAllowedAfter-join, IsLegal-append, item-journey, journeys-did}
use Rattle.ledger.proofs.Taking.{refusals-other}
use Rattle.ledger.specs.Cursors.{cursor_of}
use Rattle.ledger.proofs.Modes.{Goes, running-rises, position_of-most, phase-falling, going_back-falls}
use Rattle.ledger.proofs.Phases.{passing}
use Rattle.ledger.proofs.Standing.{position_of-turn}
use Rattle.std.proofs.lemmas.List.{length-map}
use Rattle.std.proofs.lemmas.List.Sums.{sum_by-cons}
use Rattle.ledger.proofs.Ledgers.{all_go}
use Rattle.std.proofs.Math.Nat.{mul-le-mul_left}
use Rattle.commands.specs.declared.items.Cursor.{Cursor}
use Rattle.std.specs.List.{list_all}
use Rattle.ledger.proofs.Coming.{step-comes, compensation-comes, refused-comes}
use Rattle.ledger.proofs.Events.{history-did_same, history-did_other}
use Rattle.ledger.proofs.Histories.{Follows, follows, may_come-allowed}
use Rattle.ledger.proofs.Items.{cursor_of-more}
use Rattle.ledger.proofs.Lists.{number-within}
use Rattle.ledger.proofs.Numbers.{numbers_from-append, sum_by-changed}
use Rattle.std.proofs.lemmas.List.Elements.{filter-append}
use Rattle.std.proofs.lemmas.List.{map-append}

-- twice the steps of the plan for each round that is left: one for each try that is left, and one more
pub way : Planned → ℕ → ℕ
way plan used = 2 * step_count plan * (plan.tries + 1 - used)

-- how many more steps a journey in this phase may make at most: a running journey has done the steps below its
-- position, and one that goes back has yet to compensate them
abbrev pub left_in : ℕ → ℕ → Phase → ℕ
left_in most pos Run = most - pos
left_in most pos (Back p) = most + pos
left_in most pos _ = 0

-- how many more steps a journey may make at most, by where it is
abbrev pub left_at : Planned → Cursor → ℕ
left_at plan c = left_in (way plan c.used) c.pos c.phase

-- in no phase are more left than on the way back
pub left_in-most : (most pos : ℕ) (p : Phase) → left_in most pos p ≤ most + pos
left_in-most most pos p = grind arith

-- with a try left a refusal takes one round, of twice the steps
way-refused : (plan : Planned) (used : ℕ) → used ≤ plan.tries
    → way plan used ≡ way plan (used + 1) + 2 * step_count plan
unfolding way
way-refused plan used within =
    let more : plan.tries + 1 - used ≡ plan.tries + 1 - (used + 1) + 1 = omega arith in rw more (omega arith)

-- there are no more rounds than tries, and one more
way-most : (plan : Planned) (used : ℕ) → way plan used + 2 * step_count plan ≤ 2 * step_count plan * (plan.tries + 2)
unfolding way
way-most plan used =
    let low : plan.tries + 1 - used ≤ plan.tries + 1 = omega arith in omega (arith, mul-le-mul_left (2 * step_count plan) low)

-- each step leaves fewer steps
fewer_left : (plan : Planned) (h : List Item) (fits : Bool) (x : Item) → Follows plan h → is_forward x ≡ true
    → may_come plan h fits x ≡ true → left_at plan (cursor_of plan (h ++ x ∷ [])) < left_at plan (cursor_of plan h)
fewer_left plan h fits (Transaction i c) f forward may =
    let up = running-rises plan h f.goes.mode (step-comes plan h fits i c may).running in
    grind (arith, cursor_of-more plan h fits (Transaction i c) f may, way-refused plan (refusals h) (f.goes.tries up.0.unturned))
fewer_left plan h fits (Compensation i c) f forward may =
    let back = going_back-falls plan h f.goes.mode (compensation-comes plan h fits i c may).back in
    grind (arith, cursor_of-more plan h fits (Compensation i c) f may, phase-falling plan h back)
fewer_left plan h fits (Turn p Refused) f forward may =
    let up = running-rises plan h f.goes.mode (refused-comes plan h fits p may).running in
    grind (arith, cursor_of-more plan h fits (Turn p Refused) f may, way-refused plan (refusals h) (f.goes.tries up.0.unturned))
fewer_left plan h fits _ f forward may = cc

-- All journeys.

-- how many more steps a journey, if there is one, may make with this history
abbrev pub left_to : List Item → Option Journey → ℕ
left_to h o = unwrap_or (option_map (λ (a : Journey). left_at a.plan (cursor_of a.plan h)) o) 0

-- how many more steps journey j may make
abbrev pub left_of : List Event → ℕ → ℕ
left_of l j = left_to (history l j) (journey_at l j)

-- an item of another journey leaves them
left_of-other : (l : List Event) (k : ℕ) (x : Item) (j : ℕ) → (j ≡ k → ⊥)
    → left_of (l ++ Did k x ∷ []) j ≡ left_of l j
left_of-other l k x j other = grind (arith, history-did_other l k x j other, journeys-did)

-- how many more steps all journeys of a ledger may make
abbrev pub work : List Event → ℕ
work l = sum_by (left_of l) (numbers l)

-- a step of one journey leaves fewer steps to all
pub work-fewer : (l : List Event) (k : ℕ) (x : Item) → IsLegal l → is_forward x ≡ true
    → is_item_allowed l k x ≡ true → work (l ++ Did k x ∷ []) < work l
work-fewer l k x legal forward may =
    let it = item-journey l k x may in
    let within = number-within (journeys l) k it.0 it.1 in
    let changed = sum_by-changed (left_of l) (left_of (l ++ Did k x ∷ [])) k 1 (length (journeys l)) (left_of-other l k x)
    within.0 within.1 in
    grind (arith, journeys-did, item-journey, history-did_same, fewer_left, follows, may_come-allowed)

-- there are no more steps than were left
pub steps-within : (p l : List Event) → IsLegal l → AreAllowedAfter l p
    → list_all (are_items is_forward) p ≡ true → length p + work (l ++ p) ≤ work l
steps-within [] l legal allowed items = grind (arith, append-nil)
steps-within (Did k x ∷ p) l legal allowed items =
    let both = and_parts (is_forward x) (list_all (are_items is_forward) p) items in
    let here = work-fewer l k x legal both.0 allowed.0 in
    let later = steps-within p (l ++ Did k x ∷ []) (IsLegal-append l (Did k x) legal allowed.0)
    allowed.1 both.1 in
    let same = ap work (append_assoc l (Did k x ∷ []) p) in
    omega arith
steps-within (_ ∷ p) l legal allowed items = cc

-- The turns of recovery.

-- the turn of this journey to its last save-point
abbrev pub stop_of : List Event → ℕ → Event
stop_of l j = Did j (Turn (last_save_of l j) Stop)

-- the turns of the running ones among the journeys up to this number
abbrev stops_to : List Event → ℕ → List Event
stops_to l n = map (stop_of l) (filter (is_in is_running l) (numbers_from 1 n))

-- turns begin no journey
no_stop-begins : (l : List Event) (ks : List ℕ) → filter_map begun_by (map (stop_of l) ks) ≡ []
no_stop-begins l [] = refl
no_stop-begins l (k ∷ ks) = no_stop-begins l ks

-- turns leave the journeys
journeys-stops : (l : List Event) (n : ℕ) → journeys (l ++ stops_to l n) ≡ journeys l
journeys-stops l n = grind (arith, filter_map-append, no_stop-begins, append-nil)

-- what the turns append to a history: one turn if the journey runs
abbrev pub stop_items : Bool → ℕ → List Item
stop_items runs p = if runs then Turn p Stop ∷ [] else []

-- what an item of each of these journeys that passes appends to the history of one: its item if it is among them and passes
items-at : (passes : ℕ → Bool) (x : ℕ → Item) (j n first : ℕ)
    → filter_map (item_of j) (map (λ k. Did k (x k)) (filter passes (numbers_from first n)))
    ≡ (if nat_le first j && nat_lt j (first + n) && passes j then x j ∷ [] else [])
items-at passes x j zero first = grind (arith, nat_tests)
items-at passes x j (suc n) first = let later = items-at passes x j n (suc first) in grind (arith, nat_tests)

-- the history of each journey after these turns
history-stops : (l : List Event) (n j : ℕ)
    → history (l ++ stops_to l n) j
    ≡ history l j ++ stop_items (nat_le 1 j && nat_lt j (1 + n) && is_in is_running l j) (last_save_of l j)
history-stops l n j =
    filter_map-append (item_of j) l (stops_to l n)
    ∙ ap (λ r. history l j ++ r) (items-at (is_in is_running l) (λ k. Turn (last_save_of l k) Stop) j n 1)

-- of a running journey the turn to its last save-point may come
stop-passes : (h g : List Item) (o : Option Journey) (fit : Journey → Bool) → g ≡ h → passing is_running h o ≡ true
    → unwrap_or (option_map (λ (a : Journey). may_come a.plan g (fit a)
    (Turn (unwrap_or (option_map (λ (b : Journey). last_save b.plan h) o) 0) Stop)) o) false ≡ true
stop-passes h g None fit same run = run
stop-passes h g (Some a) fit same run = grind (arith, and_from, eq-eqb)

-- a running journey may turn to its last save-point after the turns of those below it
stop-allowed : (l : List Event) (n : ℕ) → is_in is_running l (1 + n) ≡ true
    → IsTrue (is_allowed (l ++ stops_to l n) (stop_of l (1 + n)))
stop-allowed l n run =
    let past = history-stops l n (1 + n) in
    let same : history (l ++ stops_to l n) (1 + n) ≡ history l (1 + n) = grind (arith, nat_tests, append-nil) in
    let journeys_same = journeys-stops l n in
    grind (arith, stop-passes)

-- each turn is allowed, one after another
stops-allowed : (l : List Event) (n : ℕ) → AreAllowedAfter l (stops_to l n)
stops-allowed l zero = tt
stops-allowed l (suc n) =
    let next = ap (numbers_from 1) (let e : suc n ≡ n + 1 = omega arith in e) ∙ numbers_from-append 1 n 1 in
    let cut : stops_to l (suc n) ≡ stops_to l n ++ map (stop_of l) (filter (is_in is_running l) ((1 + n) ∷ [])) =
    ap (λ ks. map (stop_of l) (filter (is_in is_running l) ks)) next ∙ simp (filter-append, map-append) in
    subst (AreAllowedAfter l) (sym cut)
    (AreAllowedAfter-join l (stops_to l n) (map (stop_of l) (filter (is_in is_running l) ((1 + n) ∷ []))) (stops-allowed l n)
    (cond_both (is_in is_running l (1 + n)) _ _ (λ ks. AreAllowedAfter (l ++ stops_to l n) (map (stop_of l) ks))
    (λ run. (stop-allowed l n run, tt)) (λ e. tt)))

-- all turns of a ledger are allowed
pub stopped-legal : (l : List Event) → IsLegal l → IsLegal (l ++ stops l)
stopped-legal l legal = AreAllowedAfter-join [] l (stops l) legal (stops-allowed l (length (journeys l)))

-- What may come after them.

-- 1 for a journey that turns, else 0
abbrev pub turns_of : Bool → ℕ
turns_of runs = if runs then 1 else 0

-- what a journey in an open phase, or in another one, may need
abbrev pub need_of : Planned → Bool → ℕ
need_of plan is_open = if is_open then 2 * step_count plan * (plan.tries + 2) else 0

-- the turn of a journey, and the steps that are left after it, are within its bound
pub stop-within : (plan : Planned) (h : List Item) (p : ℕ) → Goes plan h
    → turns_of (is_running (phase plan h)) + left_at plan (cursor_of plan (h ++ stop_items (is_running (phase plan h)) p))
    ≤ need_of plan (is_open (phase plan h))
stop-within plan h p g = go (phase plan h) refl
  where
    go : (q : Phase) → phase plan h ≡ q
        → turns_of (is_running q) + left_at plan (cursor_of plan (h ++ stop_items (is_running q) p)) ≤ need_of plan (is_open q)
    go Run e = grind (arith, way-most, running-rises, position_of-turn, refusals-other, left_in-most)
    go (Back q) e = grind (arith, way-most, append-nil, position_of-most, left_in-most)
    go _ e = grind (arith, append-nil)

-- All turns.

-- where each of consecutive numbers needs no more than it may, one for a turn and what is left after it, they need no
-- more than those that may need something
turns-within : (turns may : ℕ → Bool) (left most : ℕ → ℕ) (n first : ℕ)
    → ((j : ℕ) → first ≤ j → j < first + n
    → turns_of (turns j) + left j ≤ (if may j then most j else 0))
    → length (filter turns (numbers_from first n)) + sum_by left (numbers_from first n)
    ≤ sum_by most (filter may (numbers_from first n))
turns-within turns may left most zero first each = omega arith
turns-within turns may left most (suc n) first each =
    let here = each first (omega arith) (omega arith) in
    let later = turns-within turns may left most n (suc first) (λ j low high. each j (omega arith) (omega arith)) in
    grind (arith, sum_by-cons)

-- so they are for a journey of a ledger, if there is one, by its history
option-within : (h : List Item) (o : Option Journey) (p : ℕ) → ((a : Journey) → o ≡ Some a → Goes a.plan h)
    → turns_of (passing is_running h o) + left_to (h ++ stop_items (passing is_running h o) p) o
    ≤ (if passing is_open h o
    then unwrap_or (option_map (λ (a : Journey). 2 * step_count a.plan * (a.plan.tries + 2)) o) 0 else 0)
option-within h None p goes = omega arith
option-within h (Some a) p goes = stop-within a.plan h p (goes a refl)

-- each journey needs no more than its bound, and nothing where it is finished
journey-within : (l : List Event) → IsLegal l → (j : ℕ) → 1 ≤ j → j < 1 + length (journeys l)
    → turns_of (is_in is_running l j) + left_of (l ++ stops l) j
    ≤ (if is_in is_open l j then bound_of l j else 0)
journey-within l legal j low high =
    let at = history-stops l (length (journeys l)) j in
    let past : history (l ++ stops l) j ≡ history l j ++ stop_items (is_in is_running l j) (last_save_of l j) =
    grind (arith, nat_tests) in
    rw (journeys-stops l (length (journeys l)), past)
    (option-within (history l j) (journey_at l j) (last_save_of l j) ((all_go l legal).go j))

-- the turns, and what is left after them, are within the bound
pub stops-within : (l : List Event) → IsLegal l
    → length (stops l) + work (l ++ stops l) ≤ bound l
stops-within l legal = grind (arith, turns-within, journey-within, journeys-stops l (length (journeys l)), length-map)

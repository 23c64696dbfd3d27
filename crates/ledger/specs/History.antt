-- The history of a journey: the items that it made, in order. What stands of it, where the journey is, and what may
-- come next. A rule on positions and counts alone is in the crate plan; here the position and the counts are read
-- off the items.
use Rattle.std.specs.Prelude.{ℕ, ◌+◌, ◌==◌, ◌&&◌, ◌||◌, not, Bool, true, false, List, [], ◌∷◌, length, reverse, nat_lt, if◌then◌else◌, count_by, Option, Some, None}
use Rattle.std.specs.List.{list_any}
use Rattle.allotment.specs.Want.{Wanted}
use Rattle.plan.specs.PlanModel.{Planned, step_count}
use Rattle.plan.specs.Rules as rules
use Rattle.commands.specs.declared.items.Cause.TheVariants.{Stop, Refused, Asked}
use Rattle.commands.specs.declared.items.Item.{Item}
use Rattle.commands.specs.declared.items.Item.TheVariants.{Transaction, Compensation, Turn, Save}
use Rattle.commands.specs.declared.items.Phase.{Phase}
use Rattle.commands.specs.declared.items.Phase.TheVariants.{Run, Back, Ended, Undone}

-- What an item is.

-- a step was done
abbrev pub is_transaction : Item → Bool
is_transaction (Transaction i c) = true
is_transaction _ = false

-- a step was compensated: its places were returned
abbrev pub is_compensation : Item → Bool
is_compensation (Compensation i c) = true
is_compensation _ = false

-- this step was compensated
abbrev pub is_compensation_of : ℕ → Item → Bool
is_compensation_of i (Compensation j c) = i == j
is_compensation_of i _ = false

-- the journey turned back to this position
abbrev pub is_turn_to : ℕ → Item → Bool
is_turn_to p (Turn q cause) = p == q
is_turn_to p _ = false

-- the journey turned back since the next want did not fit
abbrev pub is_refused_turn : Item → Bool
is_refused_turn (Turn p Refused) = true
is_refused_turn _ = false

-- a save-point was taken
abbrev pub is_save : Item → Bool
is_save (Save p) = true
is_save _ = false

-- What stands of a history.

-- the transactions that stand, each as step and option: those after which no compensation of
-- their step comes
abbrev pub net : List Item → List (ℕ × ℕ)
net [] = []
net (Transaction i c ∷ later) =
    if list_any (is_compensation_of i) later then net later
    else (i, c) ∷ net later
net (_ ∷ later) = net later

-- the position: how many transactions stand
abbrev pub position_of : List Item → ℕ
position_of h = length (net h)

-- how many times a step was refused
abbrev pub refusals : List Item → ℕ
refusals h = count_by is_refused_turn h

-- a save-point was taken at p, and no compensation of step p comes after it
abbrev pub is_taken : List Item → ℕ → Bool
is_taken [] p = false
is_taken (Save q ∷ later) p =
    (p == q && not (list_any (is_compensation_of p) later)) || is_taken later p
is_taken (_ ∷ later) p = is_taken later p

-- Save-points.

-- a save-point stands at p: a marked position at most the present one, or one that was taken
abbrev pub is_save_point : Planned → List Item → ℕ → Bool
is_save_point plan h p = rules.is_save_point plan (is_taken h) (position_of h) p

-- the last save-point, or 0 where there is none
abbrev pub last_save : Planned → List Item → ℕ
last_save plan h = rules.last_save plan (is_taken h) (position_of h)

-- The phase.

-- of items with the newest first: the target of the latest turn, if no transaction is newer
abbrev pub latest_turn : List Item → Option ℕ
latest_turn [] = None
latest_turn (Turn p cause ∷ earlier) = Some p
latest_turn (Transaction i c ∷ earlier) = None
latest_turn (_ ∷ earlier) = latest_turn earlier

-- the target of the last turn, if the journey has not gone forward since
abbrev pub going_to : List Item → Option ℕ
going_to h = latest_turn (reverse h)

-- the journey turned, at some time, to its start
abbrev pub has_turned_to_start : List Item → Bool
has_turned_to_start h = list_any (is_turn_to 0) h

-- above its target the journey goes back, else it runs
abbrev pub back_or_run : ℕ → Option ℕ → Phase
back_or_run pos None = Run
back_or_run pos (Some p) = if nat_lt p pos then Back p else Run

-- all n steps stand: ended; none stands and the journey turned to its start: undone; else it goes back or runs
abbrev pub phase_at : ℕ → ℕ → Bool → Option ℕ → Phase
phase_at n pos to_start going =
    if pos == n then Ended
    else if to_start && (pos == 0) then Undone
    else back_or_run pos going

-- the phase of a journey with this plan and history
abbrev pub phase : Planned → List Item → Phase
phase plan h = phase_at (step_count plan) (position_of h) (has_turned_to_start h) (going_to h)

-- the journey goes forward
abbrev pub is_running : Phase → Bool
is_running Run = true
is_running _ = false

-- the journey goes back
abbrev pub is_going_back : Phase → Bool
is_going_back (Back p) = true
is_going_back _ = false

-- the journey has ended or is undone, and nothing more comes
abbrev pub is_finished : Phase → Bool
is_finished Ended = true
is_finished Undone = true
is_finished _ = false

-- something more comes: the journey runs or goes back
abbrev pub is_open : Phase → Bool
is_open phase = not (is_finished phase)

-- What may come next.

-- the option that the next step takes
abbrev pub next_option : Planned → List Item → ℕ
next_option plan h = rules.next_option plan (position_of h) (refusals h)

-- the want that the next step takes
abbrev pub next_want : Planned → List Item → Option Wanted
next_want plan h = rules.next_want plan (position_of h) (refusals h)

-- where a refused step leads: to the last save-point while there are tries left, else to 0
abbrev pub refused_target : Planned → List Item → ℕ
refused_target plan h = rules.refused_target plan (is_taken h) (position_of h) (refusals h)

-- a caller may turn the journey back to p: to the start or a save-point, and below where it is going already
abbrev pub may_turn : Planned → List Item → Phase → ℕ → Bool
may_turn plan h Run p = rules.may_turn plan (is_taken h) (position_of h) None p
may_turn plan h (Back q) p = rules.may_turn plan (is_taken h) (position_of h) (Some q) p
may_turn plan h _ p = false

-- the last of a list, if it has one
abbrev pub last_of : {X : Type 0} → List X → Option X
last_of [] = None
last_of (x ∷ []) = Some x
last_of (x ∷ y ∷ ys) = last_of (y ∷ ys)

-- the step was done, with this option
abbrev pub is_done_with : Option (ℕ × ℕ) → ℕ → ℕ → Bool
is_done_with None i c = false
is_done_with (Some t) i c = (t.0 == i) && (t.1 == c)

-- this item may come next, where the next want fits or does not
abbrev pub may_come : Planned → List Item → Bool → Item → Bool
may_come plan h fits (Transaction i c) =
    is_running (phase plan h) && (i == position_of h + 1) && (c == next_option plan h) && fits
may_come plan h fits (Compensation i c) =
    is_going_back (phase plan h) && is_done_with (last_of (net h)) i c
may_come plan h fits (Turn p Stop) = is_running (phase plan h) && (p == last_save plan h)
may_come plan h fits (Turn p Refused) =
    is_running (phase plan h) && not fits && (p == refused_target plan h)
may_come plan h fits (Turn p Asked) = may_turn plan h (phase plan h) p
may_come plan h fits (Save p) =
    is_running (phase plan h) && (p == position_of h) && nat_lt 0 p && not (is_save_point plan h p)

-- What is read of a list up to one of its parts. For the readers of the options of a step and of the steps, and for the check of steps.
use Rattle.std.proofs.Common.{◌≡◌, ℕ, ◌+◌, ◌<◌, List, [], ◌∷◌, ◌++◌, map, length, take, drop, refl, true, arith, append-nil, get_or, Option, Some, None, Ok, Err, flat_map, take-append-drop}
use Rattle.std.specs.List.{enumerate_from}
use Rattle.std.proofs.Math.Seq.{drop-cons}
use Rattle.std.proofs.lemmas.List.{map-append}
use Rattle.std.proofs.lemmas.List.Concat.{flat_map-append}
use Rattle.std.proofs.lemmas.List.Elements.{filter_map-append}
use Rattle.allotment.specs.Want.{Wanted}
use Rattle.allotment.specs.Making.{first_fault}
use Rattle.plan.specs.declared.faults.BadPlan.{BadPlan}
use Rattle.plan.specs.PlanModel.{StepPlan}
use Rattle.plan.specs.Drafts.{OptionDraft, StepDraft, step_of, step_faults}
use Rattle.plan.proofs.PrintLemmas.{mapped_more, texts_many}
use Rattle.plan.specs.Levels.{judged_option, judged_options, judged_step, judged_steps}

-- the images of a list, cut before and after one of its elements
image_at : {X Y : Type 0} (f : X → Y) (xs : List X) (k : ℕ) (x : X) → k < length xs → x ≡ get_or xs k x
    → map f xs ≡ map f (take k xs) ++ f x ∷ map f (drop (k + 1) xs)
image_at f xs k x l e = grind (arith, take-append-drop k xs, drop-cons xs k x, map-append f (take k xs) (drop k xs))

-- one more value without a fault
first_more : {X F : Type 0} (xs done : List X) (x y : X) (fs gs : List F) → first_fault xs fs ≡ Ok done → first_fault x gs ≡ Ok y
    → first_fault (xs ++ x ∷ []) (fs ++ gs) ≡ Ok (done ++ y ∷ [])
first_more xs done x y fs gs so_far here = grind arith

-- the first fault after values without one
first_fails : {X Y F : Type 0} (xs done all : List X) (x : Y) (fs gs more : List F) (f : F) → first_fault xs fs ≡ Ok done → first_fault x gs ≡ Err f
    → first_fault all (fs ++ gs ++ more) ≡ Err f
first_fails xs done all x fs gs more f so_far here = grind arith

-- Options, by their drafts.

-- one more option
pub options_more : (i : ℕ) (os : List (Option OptionDraft)) (o : Option OptionDraft) (ws : List Wanted) (w : Wanted)
    → judged_options i os ≡ Ok ws → judged_option i o ≡ Ok w → judged_options i (os ++ o ∷ []) ≡ Ok (ws ++ w ∷ [])
unfolding judged_option judged_options
options_more i os None ws w so_far here = cc
options_more i os (Some o) ws w so_far here = grind (arith, filter_map-append, flat_map-append, first_more, append-nil)

-- an option with a fault
pub options_fail : (i : ℕ) (os later : List (Option OptionDraft)) (o : Option OptionDraft) (ws : List Wanted) (f : BadPlan)
    → judged_options i os ≡ Ok ws → judged_option i o ≡ Err f → judged_options i (os ++ o ∷ later) ≡ Err f
unfolding judged_option judged_options
options_fail i os later None ws f so_far here = grind (arith, flat_map-append, first_fails)
options_fail i os later (Some o) ws f so_far here = grind (arith, flat_map-append, first_fails)

-- the same of the parts up to one, where drafts are taken of parts
pub options_more_at : {A : Type 0} (draft : A → Option OptionDraft) (i k : ℕ) (ts : List A) (t : A) (ws : List Wanted) (w : Wanted)
    → k < length ts → t ≡ get_or ts k t → judged_options i (map draft (take k ts)) ≡ Ok ws → judged_option i (draft t) ≡ Ok w
    → judged_options i (map draft (take (k + 1) ts)) ≡ Ok (ws ++ w ∷ [])
options_more_at draft i k ts t ws w l e so_far here = grind (arith, mapped_more draft ts k t, options_more)

pub options_fail_at : {A : Type 0} (draft : A → Option OptionDraft) (i k : ℕ) (ts : List A) (t : A) (ws : List Wanted) (f : BadPlan)
    → k < length ts → t ≡ get_or ts k t → judged_options i (map draft (take k ts)) ≡ Ok ws → judged_option i (draft t) ≡ Err f
    → judged_options i (map draft ts) ≡ Err f
options_fail_at draft i k ts t ws f l e so_far here = grind (arith, image_at draft ts k t, options_fail)

-- no option
pub options_none : (i : ℕ) → judged_options i [] ≡ Ok []
unfolding judged_options
options_none i = refl

-- Steps, by their drafts.

-- the numbers of later ones
enumerate-append : {X : Type 0} (i : ℕ) (xs : List X) (y : X) (later : List X)
    → enumerate_from i (xs ++ y ∷ later) ≡ enumerate_from i xs ++ (i + length xs, y) ∷ enumerate_from (i + length xs + 1) later
enumerate-append i [] y later = grind arith
enumerate-append i (x ∷ xs) y later = grind (arith, enumerate-append (i + 1) xs y later)

-- a first fault after those without one, whatever the faults of each are
numbered_fails : {X Y Z F : Type 0} (faults : ℕ × X → List F) (xs later : List X) (x : X) (zs done all : List Z) (y : Y) (f : F)
    → first_fault zs (flat_map faults (enumerate_from 1 xs)) ≡ Ok done → first_fault y (faults (length xs + 1, x)) ≡ Err f
    → first_fault all (flat_map faults (enumerate_from 1 (xs ++ x ∷ later))) ≡ Err f
numbered_fails faults xs later x zs done all y f so_far here =
    grind (arith, enumerate-append 1 xs x later, flat_map-append faults (enumerate_from 1 xs), first_fails)

-- one more step
pub steps_more : (n i : ℕ) (ss : List (Option StepDraft)) (s : Option StepDraft) (ps : List StepPlan) (p : StepPlan)
    → i ≡ length ss + 1 → judged_steps n ss ≡ Ok ps → judged_step n i s ≡ Ok p → judged_steps n (ss ++ s ∷ []) ≡ Ok (ps ++ p ∷ [])
unfolding judged_step judged_steps
steps_more n i ss None ps p at so_far here = cc
steps_more n i ss (Some s) ps p at so_far here = grind (arith, enumerate-append, filter_map-append, flat_map-append, first_more, append-nil)

-- a step with a fault
pub steps_fail : (n i : ℕ) (ss later : List (Option StepDraft)) (s : Option StepDraft) (ps : List StepPlan) (f : BadPlan)
    → i ≡ length ss + 1 → judged_steps n ss ≡ Ok ps → judged_step n i s ≡ Err f → judged_steps n (ss ++ s ∷ later) ≡ Err f
unfolding judged_step judged_steps
steps_fail n i ss later None ps f at so_far here =
    let any : StepPlan = record { options = []; is_marked = true } in
    numbered_fails (step_faults n) ss later None _ ps _ any f so_far (rw (← at) here)
steps_fail n i ss later (Some s) ps f at so_far here =
    numbered_fails (step_faults n) ss later (Some s) _ ps _ (step_of s) f so_far (rw (← at) here)

-- the same of the parts up to one, where drafts are taken of parts
pub steps_more_at : {A : Type 0} (draft : A → Option StepDraft) (n k : ℕ) (ts : List A) (t : A) (ps : List StepPlan) (p : StepPlan)
    → k < length ts → t ≡ get_or ts k t → judged_steps n (map draft (take k ts)) ≡ Ok ps → judged_step n (k + 1) (draft t) ≡ Ok p
    → judged_steps n (map draft (take (k + 1) ts)) ≡ Ok (ps ++ p ∷ [])
steps_more_at draft n k ts t ps p l e so_far here = grind (arith, mapped_more draft ts k t, steps_more, texts_many draft ts k)

pub steps_fail_at : {A : Type 0} (draft : A → Option StepDraft) (n k : ℕ) (ts : List A) (t : A) (ps : List StepPlan) (f : BadPlan)
    → k < length ts → t ≡ get_or ts k t → judged_steps n (map draft (take k ts)) ≡ Ok ps → judged_step n (k + 1) (draft t) ≡ Err f
    → judged_steps n (map draft ts) ≡ Err f
steps_fail_at draft n k ts t ps f l e so_far here = grind (arith, image_at draft ts k t, steps_fail, texts_many draft ts k)

-- no step
pub steps_none : (n : ℕ) → judged_steps n [] ≡ Ok []
unfolding judged_steps
steps_none n = refl

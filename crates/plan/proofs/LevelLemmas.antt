-- What is read of a step, by its mark, the number of its options and what they are; and what faults say. For the readers.
use Rattle.std.proofs.Common.{◌≡◌, ◌≢◌, ℕ, Bool, true, false, not, ◌&&◌, ◌==◌, ◌⊎◌, List, ◌++◌, length, refl, sym, ap, ◌∙◌, Option, Some, None, Ok, Err, Result, arith, eqb-true}
use mathlib.Core.List.{map-map}
use Rattle.std.proofs.lemmas.List.{length-map}
use Rattle.serde_json.specs.View.{view}
use Rattle.serde_json.specs.declared.value.Value.{Value}
use Rattle.allotment.specs.Texts.{parts, bar}
use Rattle.plan.specs.PlanLine.{has_mark, without_mark, option_draft, step_draft}
use Rattle.plan.specs.PlanJson.{json_option, step_with}
use Rattle.allotment.specs.Want.{Wanted}
use Rattle.allotment.specs.Making.{unless, first_fault}
use Rattle.plan.specs.declared.causes.PlanCause.TheVariants as cause
use Rattle.plan.specs.declared.faults.BadPlan.{BadPlan}
use Rattle.plan.specs.declared.faults.PlanFault.{PlanFault}
use Rattle.plan.specs.PlanModel.{StepPlan}
use Rattle.plan.specs.Faults.{IfBad}
use Rattle.plan.specs.Drafts.{StepDraft, at}
use Rattle.plan.specs.Levels.{judged_options, judged_step, step_limits, options_spelled, options_shown, views}

-- what is read has the fault of one of its parts
pub fault_of_part : {Y W : Type 0} (read : Result Y BadPlan) (whole : Result W BadPlan) (fault : PlanFault)
    → ((b : BadPlan) → read ≡ Err b → whole ≡ Err b) → IfBad (λ b. read ≡ Err b) fault → IfBad (λ b. whole ≡ Err b) fault
fault_of_part read whole fault h given = grind arith

-- the step of these options, or their fault
abbrev pub with_mark : Bool → Result (List Wanted) BadPlan → Result StepPlan BadPlan
with_mark m (Ok ws) = Ok (record { options = ws; is_marked = m })
with_mark m (Err f) = Err f

-- the first fault of a step of these options is theirs
marked_so : (m : Bool) (ws : List Wanted) (fs : List BadPlan)
    → let s : StepPlan = record { options = ws; is_marked = m } in first_fault s fs ≡ with_mark m (first_fault ws fs)
marked_so m ws fs = grind arith

-- what is wrong with a step, by the tests of its mark and of the number of its options, and then this
abbrev pub with_limits : Bool → Bool → ℕ → List BadPlan → List BadPlan
with_limits a b i fs = unless a (at i cause.Save) ++ unless b (at i cause.Options) ++ fs

-- what the two tests report
abbrev pub limits_by : Bool → Bool → ℕ → Result (Unit {0}) BadPlan
limits_by a b i = first_fault tt (unless a (at i cause.Save) ++ unless b (at i cause.Options))

-- a limit that is not kept is reported
pub limits_fail : {X : Type 0} (a b : Bool) (i : ℕ) (x : X) (fs : List BadPlan) (f : BadPlan)
    → Err f ≡ limits_by a b i → first_fault x (with_limits a b i fs) ≡ Err f
limits_fail a b i x fs f e = grind arith

-- where both limits are kept, each test passes
pub limits_pass : (a b : Bool) (i : ℕ) → Ok tt ≡ limits_by a b i → (a ≡ true) × (b ≡ true)
limits_pass a b i e = grind arith

-- the mark of a step, or the number of its options, is wrong
pub step_refused : (n i k : ℕ) (s : StepDraft) (f : BadPlan) → length s.options ≡ k
    → Err f ≡ step_limits n i s.is_marked k → judged_step n i (Some s) ≡ Err f
unfolding judged_step
step_refused n i k s f many limits = grind (arith, limits_fail)

-- where mark and number are in order, the first fault of a step is that of its options
pub step_by_options : (n i k : ℕ) (s : StepDraft) (r : Result (List Wanted) BadPlan) → length s.options ≡ k
    → Ok tt ≡ step_limits n i s.is_marked k → judged_options i s.options ≡ r
    → judged_step n i (Some s) ≡ with_mark s.is_marked r
unfolding judged_step judged_options
step_by_options n i k s r many limits read = grind (arith, limits_pass, marked_so)

-- a step of another shape
pub step_unshaped : (n i : ℕ) → judged_step n i None ≡ Err (at i cause.Shape)
unfolding judged_step
step_unshaped n i = refl

-- A step of a line, which was cut into its options and its mark.

-- the draft of such a step is that of the text
draft_cut : (text rest : List ℕ) (m : Bool) → rest ≡ without_mark text → m ≡ has_mark text
    → step_draft text ≡ record { options = options_spelled rest; is_marked = m }
draft_cut text rest m cut mark = cc

-- its mark, or the number of its options, is wrong
pub cut_refused : (n i k : ℕ) (text rest : List ℕ) (m : Bool) (f : BadPlan)
    → rest ≡ without_mark text → m ≡ has_mark text → k ≡ length (parts bar rest)
    → Err f ≡ step_limits n i m k → judged_step n i (Some (step_draft text)) ≡ Err f
cut_refused n i k text rest m f cut mark many limits =
    rw (draft_cut text rest m cut mark) (step_refused n i k _ f (length-map (parts bar rest) option_draft ∙ sym many) limits)

-- where they are in order, its first fault is that of its options
pub cut_by_options : (n i k : ℕ) (text rest : List ℕ) (m : Bool) (r : Result (List Wanted) BadPlan)
    → rest ≡ without_mark text → m ≡ has_mark text → k ≡ length (parts bar rest)
    → Ok tt ≡ step_limits n i m k → judged_options i (options_spelled rest) ≡ r → judged_step n i (Some (step_draft text)) ≡ with_mark m r
cut_by_options n i k text rest m r cut mark many limits read =
    rw (draft_cut text rest m cut mark) (step_by_options n i k _ r (length-map (parts bar rest) option_draft ∙ sym many) limits read)

-- A step of JSON.

-- the options of a step that these values represent
step_shown : (vs : List Value) (m : Bool) → step_with (views vs) m ≡ record { options = options_shown vs; is_marked = m }
step_shown vs m = ap (λ z. record { options = z; is_marked = m }) (map-map json_option view vs)

-- its mark, or the number of its options, is wrong
pub shown_refused : (n i : ℕ) (d : Option StepDraft) (vs : List Value) (m : Bool) (f : BadPlan)
    → Some (step_with (views vs) m) ≡ d → Err f ≡ step_limits n i m (length vs) → judged_step n i d ≡ Err f
shown_refused n i d vs m f e limits =
    rw (← e, step_shown vs m) (step_refused n i (length vs) _ f (length-map vs (λ v. json_option (view v))) limits)

-- where they are in order, its first fault is that of its options
pub shown_by_options : (n i : ℕ) (d : Option StepDraft) (vs : List Value) (m : Bool) (r : Result (List Wanted) BadPlan)
    → Some (step_with (views vs) m) ≡ d → Ok tt ≡ step_limits n i m (length vs) → judged_options i (options_shown vs) ≡ r
    → judged_step n i d ≡ with_mark m r
shown_by_options n i d vs m r e limits read =
    rw (← e, step_shown vs m) (step_by_options n i (length vs) _ r (length-map vs (λ v. json_option (view v))) limits read)

-- Tests of a mark.

-- two different numbers compare as different
mark_by : (t : Bool) (i n : ℕ) → (i == n) ≡ t → i ≢ n → not t ≡ true
mark_by t i n e other = grind (arith, eqb-true)

-- a step has no mark, or is another than the last
pub mark_right : (m : Bool) (i n : ℕ) → (m ≡ false) ⊎ (i ≢ n) → not (m && i == n) ≡ true
mark_right m i n h = grind (arith, mark_by)

-- a conjunction fails where its second part does
pub and_false : (a b : Bool) → b ≡ false → (a && b) ≡ false
and_false a b e = grind arith

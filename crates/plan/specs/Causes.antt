-- The words of the causes.
use Rattle.std.specs.Prelude.{ℕ, List, codes}
use Rattle.plan.specs.declared.causes.PlanCause.{PlanCause}
use Rattle.plan.specs.declared.causes.PlanCause.TheVariants.{Tries, Steps, Save, Options, Shape, Kind, Code, Night, Nights, Count}

-- the word that a refusal shows
abbrev pub cause_word : PlanCause → List ℕ
cause_word Tries = codes "tries"
cause_word Steps = codes "steps"
cause_word Save = codes "save"
cause_word Options = codes "options"
cause_word Shape = codes "shape"
cause_word Kind = codes "kind"
cause_word Code = codes "code"
cause_word Night = codes "night"
cause_word Nights = codes "nights"
cause_word Count = codes "count"

-- What a fault says.
use Rattle.std.specs.Prelude.{◌≡◌, Result, Ok, Err}
use Rattle.plan.specs.declared.faults.BadPlan.{BadPlan}
use Rattle.plan.specs.declared.faults.PlanFault.{PlanFault}
use Rattle.plan.specs.declared.faults.PlanFault.TheVariants.{Bad, Memory}

-- a fault of the plan meets this; being out of memory says nothing
abbrev pub IfBad : (BadPlan → Type 0) → PlanFault → Type 0
IfBad So (Bad bad) = So bad
IfBad So Memory = Unit {0}

-- the fault is one of the plan, and meets this
abbrev pub IsBadAnd : (BadPlan → Type 0) → PlanFault → Type 0
IsBadAnd So (Bad bad) = So bad
IsBadAnd So Memory = ⊥

-- the result is what is read, in the words of the model, or its fault; being out of memory says nothing
abbrev pub Gives : {X Y : Type 0} → Result Y BadPlan → (X → Y) → Result X PlanFault → Type 0
Gives read said (Ok x) = read ≡ Ok (said x)
Gives read said (Err fault) = IfBad (λ bad. read ≡ Err bad) fault

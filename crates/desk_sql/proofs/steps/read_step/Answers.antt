-- The last column of an option is a number.
use Rattle.std.proofs.Common.{◌≡◌, ℕ, pos, refl, rules, arith}
use Rattle.sqlite.specs.declared.types.Value.{Value}
use Rattle.sqlite.specs.declared.types.Value.TheVariants.{Int}
use Rattle.desk_sql.specs.Causes.{IsMemory}
use Rattle.desk_sql.specs.Readable.{step_shown}
use Rattle.desk_sql.proofs.Causing.{column_memory}
use Rattle.desk_sql.proofs.steps.read_step.Goals as goal

pub returns-in_err-places-clause-reason : goal.returns-in_err-places-clause-reason
returns-in_err-places-clause-reason c x is texts =
    let memory : IsMemory c.in_err-places.field-0.0 =
    column_memory 9 c.args.row.now (step_shown x) c.in_err-places.field-0.0 (λ (v : Value). (n : ℕ) × (v ≡ Int (pos n))) is (omega arith)
    (x.places, refl) c.in_err-places.ensures.named c.in_err-places.ensures.kind in
    search rules

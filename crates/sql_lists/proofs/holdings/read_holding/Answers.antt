-- The cell of a row can be read, and its last column is a number.
use Rattle.std.proofs.Common.{◌≡◌, ℕ, pos, refl, rules, arith}
use Rattle.sqlite.specs.declared.types.Value.{Value}
use Rattle.sqlite.specs.declared.types.Value.TheVariants.{Int}
use Rattle.desk_sql.specs.Causes.{IsMemory}
use Rattle.desk_sql.proofs.Causing.{column_memory}
use Rattle.sql_lists.specs.HoldingLists.{holding_shown}
use Rattle.sql_lists.proofs.holdings.read_holding.Goals as goal

pub returns-in_err-cell-clause-reason : goal.returns-in_err-cell-clause-reason
returns-in_err-cell-clause-reason c x is texts =
    let memory : IsMemory c.in_err-cell.field-0.0 = c.in_err-cell.ensures.reason x is texts in
    search rules

pub returns-in_err-places-clause-reason : goal.returns-in_err-places-clause-reason
returns-in_err-places-clause-reason c x is texts =
    let memory : IsMemory c.in_err-places.field-0.0 =
    column_memory 9 c.args.row.now (holding_shown x) c.in_err-places.field-0.0 (λ (v : Value). (n : ℕ) × (v ≡ Int (pos n))) is (omega arith)
    (x.places, refl) c.in_err-places.ensures.named c.in_err-places.ensures.kind in
    search rules

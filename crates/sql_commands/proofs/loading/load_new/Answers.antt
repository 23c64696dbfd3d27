-- If no row is below what is held, the cells are loaded; else the batch is refused.
use Rattle.std.proofs.Common.{◌≡◌, sym, subst, rules, option_copied}
use Rattle.sql_commands.specs.Loading.{HavePlaces, TellsBelow}
use Rattle.sql_commands.proofs.Executing.{reads_alone, reads_fail, reads_then}
use Rattle.sql_commands.proofs.LoadComes.{below_comes}
use Rattle.sql_commands.proofs.loading.load_new.Goals as goal

pub returns-in-Ok-Err : goal.returns-in-Ok-Err
returns-in-Ok-Err g c =
    let b = c.args.batch.now in
    let why = c.in-Ok-Err.refusal in
    reads_alone (λ s is. is.desk) c.requires.outside (rw c.in-Ok-Err.field-0-is at c.in-Ok-Err.ensures) (λ s is told.
    below_comes s (option_copied c.args.ask) b.name b.rows c.args.numbers why is (subst (λ rows. TellsBelow rows s why) c.rows.ensures.rows told))

pub returns-in-Ok-Ok : goal.returns-in-Ok-Ok
returns-in-Ok-Ok g c =
    let cells = c.deref.result.now in
    let same : cells ≡ c.in-Ok-Ok.cells.items = search rules in
    reads_then (λ s is. is.desk) (rw c.in-Ok-Ok.field-0-is at c.in-Ok-Ok.ensures) c.load_cells.ensures (λ s is have. record {
      new_name = is;
      places = subst (λ rows. HavePlaces rows s cells) c.rows.ensures.rows (subst (HavePlaces c.rows.result.now s) (sym same) have);
    })

pub returns-in-Err : goal.returns-in-Err
returns-in-Err g c = reads_fail (λ s is. is.desk) (search rules) c.requires.outside c.in-Err.ensures (λ s is. tt)

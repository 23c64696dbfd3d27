-- A new desk has no row that takes a rowid.
use Rattle.tables.proofs.NewDesks.{new_desk_may_act}
use Rattle.tables.proofs.laws.new_desk_may_act.Goals as goal

pub returns : goal.returns
returns g c = record { law = new_desk_may_act g.S.Store c.args.book.now }

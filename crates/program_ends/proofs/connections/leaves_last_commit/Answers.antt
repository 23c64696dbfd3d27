-- The law of the store.
use Rattle.program_ends.proofs.connections.leaves_last_commit.Goals as goal

pub returns : goal.returns
returns g c = record { only = λ is_open db may. g.met.S.Store.settled c.args.conn.now.store db is_open may }

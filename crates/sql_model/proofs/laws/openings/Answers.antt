-- The trees determine the schema, so a connection opened over a desk's trees represents their state.
use Rattle.std.proofs.Common.{refl, arith, rules}
use Rattle.sqlite.specs.Held.{state}
use Rattle.sqlite.specs.State.{State as Connected}
use Rattle.desk_sql.specs.declared.versions.Version.{Version}
use Rattle.desk_sql.specs.Schema.{no_schema}
use Rattle.ledger.specs.Answer.{State}
use Rattle.sql_model.specs.Schemas.{OneSchema}
use Rattle.sql_model.specs.Keeping.{MeansIn, MeansNew, MeansOf, SeesOf, SeesNew, Sees}
use Rattle.sql_model.specs.Openings.{IsOpenedOver}
use Rattle.sql_model.proofs.laws.openings.Goals as goal

module _ (one : OneSchema) (v : Version) (c : Connected) (s : State) (it : IsOpenedOver v c s) where
  -- trees that list the desk's schema show the desk
  sees_of : (w : Version) → MeansIn w c.now.trees s → SeesOf w c s
  sees_of w means = search (rules, arith)

  -- the trees of a store without tables show no desk
  sees_new : MeansNew c.now.trees s → SeesNew c s
  sees_new means = record {
    schema = one no_schema c.now.schema c.now.trees refl means.of (it.live it.opens.is_open).0;
    committed = it.opens.clean;
    new = means.new;
  }

  sees : (w : Version) → MeansOf w c.now.trees s → Sees w c s
  sees w means = search (rules, arith, sees_of, sees_new)

pub returns : goal.returns
returns g c = record {
  stands = λ v s it clean.
      let seen = sees c.schemas.ensures.one v (state g.S.Store c.args.conn.now) s (it clean) in
      search (rules, arith, it clean, seen);
}

-- Which databases are recoverable after an opening. `finds` says of a database that it may be; `held` and `holds` are the bytes of the
-- writer.
use Rattle.std.specs.Prelude.{ℕ, List, Option}
use Rattle.sqlite.specs.Tree.{Trees}
use Rattle.desk_sql.specs.declared.versions.Version.{Version}
use Rattle.ledger.specs.Answer.{State, start}
use Rattle.ledger.specs.World.{Moment, after}
use Rattle.sql_model.specs.Keeping.{MeansOf}
use Rattle.desk_jobs.specs.Openings.{Input}
use Rattle.desk_jobs.specs.Worlds.{Reopens}

-- the database stands for this state, in tables of some version; one without tables stands for a new desk
abbrev pub StandsAs : Trees → State → Type 0
StandsAs db s = (v : Version) × MeansOf v db s

-- an opening over this input goes on from the world w, and this database stands for its end
pub record Leads (held holds : Option (List ℕ)) (input : Input) (w : List Moment) (db : Trees) : Type 0 where
  pub end : List Moment
  pub goes : Reopens held holds input w end
  pub stands : StandsAs db (after start end)

-- each recoverable database stands for the end of such a world
abbrev pub LeadsEach : (Trees → Type 0) → Option (List ℕ) → Option (List ℕ) → Input → List Moment → Type 0
LeadsEach finds held holds input w = (db : Trees) → finds db → Leads held holds input w db

-- The rows that the begin of a journey writes.
use Rattle.desk_sql.specs.Rows.{Tables}
use Rattle.sql_model.specs.Beginning.{with_journey}
use Rattle.sql_writes.specs.declared.events.Numbers.{Numbers}
use Rattle.sql_writes.specs.declared.events.JourneyBegun.{JourneyBegun}

-- the rows after the begin of the last journey
abbrev pub begin_rows : Numbers → JourneyBegun → Tables → Tables
begin_rows n b t = with_journey n.journeys n.num b.agent.now b.plan.now t

-- The cursor of a journey by its record, and the item that may come next.
use Rattle.std.specs.Prelude.{◌≡◌, ℕ, ◌<◌, ◌≤◌, ◌^◌, List, IsTrue, Option, Some}
use Rattle.plan.specs.PlanModel.{step_count}
use Rattle.commands.specs.declared.items.Cursor.{Cursor}
use Rattle.commands.specs.declared.items.Phase.TheVariants.{Back}
use Rattle.ledger.specs.History.{is_open}
use Rattle.ledger.specs.Ledger as l
use Rattle.ledger.specs.Ledger.{journey_at, history}
use Rattle.ledger.specs.Answer.{State}
use Rattle.ledger.specs.Replies.{seen_journey}
use Rattle.ledger.specs.Cursors.{cursor_of, marks_of}
use Rattle.saga_core.specs.declared.records.Record.{Record}
use Rattle.sql_reads.specs.declared.reads.Stand.{Stand}

-- An open journey is short of its last step, and above its target if it goes back; and no journey was refused more
-- often than a ledger may have events.
pub record IsPlacedIn (steps : ℕ) (c : Cursor) : Type 0 where
  pub within : c.pos ≤ steps
  pub short : IsTrue (is_open c.phase) → c.pos < steps
  pub above : (p : ℕ) → c.phase ≡ Back p → p < c.pos
  pub counted : c.used < 2 ^ 62

-- a journey as it was begun
abbrev pub begun_as : Record → l.Journey
begun_as r = record { agent = r.agent; plan = r.plan }

-- the record is that of the journey of this number, and the caller sees it
pub record IsSeen (s : State) (who : Option (List ℕ)) (id : ℕ) (r : Record) : Type 0 where
  pub at : journey_at s.ledger id ≡ Some (begun_as r)
  pub seen : seen_journey s.ledger who id ≡ Some (begun_as r)
  pub cursor : r.cursor ≡ cursor_of r.plan (history s.ledger id)
  pub marks : r.marks ≡ marks_of (history s.ledger id)

-- the journey of this number has this agent, these steps and this cursor
pub record StandsAt (id : ℕ) (stand : Stand) (s : State) : Type 0 where
  pub journey : l.Journey
  pub at : journey_at s.ledger id ≡ Some journey
  pub steps : stand.steps ≡ step_count journey.plan
  pub cursor : stand.cursor ≡ cursor_of journey.plan (history s.ledger id)

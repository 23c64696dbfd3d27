-- The rows that an event writes, and its preconditions on the rows before it.
use Rattle.std.specs.Prelude.{◌<◌, ◌^◌}
use Rattle.desk_sql.specs.Rows.{Tables}
use Rattle.desk_sql.specs.Changes.{AreItemsBelow, IsSmallCursor}
use Rattle.sql_model.specs.Moving.{cursor_written, with_transaction, with_compensation, with_turn, with_save}
use Rattle.sql_writes.specs.declared.events.Numbers.{Numbers}
use Rattle.sql_writes.specs.declared.events.StepMade.{StepMade}
use Rattle.sql_writes.specs.declared.events.TurnMade.{TurnMade}
use Rattle.sql_writes.specs.declared.events.SaveMade.{SaveMade}
use Rattle.sql_writes.specs.Writing.{HaveFreeFor, HaveRoomFor}

-- the numbers of a step fit the store's integers
pub record IsSmallStep (m : StepMade) : Type 0 where
  pub journey : m.journey < 2 ^ 63
  pub step : m.step < 2 ^ 63
  pub option : m.option < 2 ^ 63
  pub cursor : IsSmallCursor (cursor_written m.cursor)

-- the numbers of a turn fit the store's integers
pub record IsSmallTurn (m : TurnMade) : Type 0 where
  pub journey : m.journey < 2 ^ 63
  pub target : m.target < 2 ^ 63
  pub cursor : IsSmallCursor (cursor_written m.cursor)

-- the numbers of a save-point fit the store's integers
pub record IsSmallSave (m : SaveMade) : Type 0 where
  pub journey : m.journey < 2 ^ 63
  pub position : m.position < 2 ^ 63

-- each night of the step's want has its count of free places, and no item has the event's number yet
pub record MayTake (n : Numbers) (m : StepMade) (t : Tables) : Type 0 where
  pub free : HaveFreeFor m.want t
  pub below : AreItemsBelow n.num t

-- each night of the step's want has room for its count, and no item has the event's number yet
pub record MayGive (n : Numbers) (m : StepMade) (t : Tables) : Type 0 where
  pub room : HaveRoomFor m.want t
  pub below : AreItemsBelow n.num t

-- the rows after a step that is done
abbrev pub transaction_rows : Numbers → StepMade → Tables → Tables
transaction_rows n m t =
    with_transaction n.num n.journeys m.journey m.want m.step m.option m.cursor t

-- the rows after a step that is compensated
abbrev pub compensation_rows : Numbers → StepMade → Tables → Tables
compensation_rows n m t =
    with_compensation n.num n.journeys m.journey m.want m.step m.option m.cursor t

-- the rows after a turn
abbrev pub turn_rows : Numbers → TurnMade → Tables → Tables
turn_rows n m t = with_turn n.num n.journeys m.journey m.target m.cause m.cursor t

-- the rows after a save-point
abbrev pub save_rows : Numbers → SaveMade → Tables → Tables
save_rows n m t = with_save n.num n.journeys m.journey m.position t

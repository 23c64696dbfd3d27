-- Where a journey is, and the save-points that it took, by its history.
use Rattle.std.specs.Prelude.{List, filter}
use Rattle.std.specs.FinSet as set
use Rattle.std.specs.Ordering.{nat_cmp}
use Rattle.allotment.specs.Cells.{numbers_from}
use Rattle.plan.specs.PlanModel.{Planned}
use Rattle.plan.specs.Marks.{last_mark}
use Rattle.commands.specs.declared.items.Item.{Item}
use Rattle.commands.specs.declared.items.Cursor.{Cursor}
use Rattle.ledger.specs.History.{position_of, phase, refusals, is_taken}

-- where a journey is
abbrev pub cursor_of : Planned → List Item → Cursor
cursor_of plan h = record { pos = position_of h; phase = phase plan h; used = refusals h }

-- the positions at which save-points were taken that stand
abbrev pub marks_of : List Item → set.FinSet nat_cmp
marks_of h = set.from_list (filter (is_taken h) (numbers_from 1 last_mark))

-- The parts in which a report is written: its head, the text of each row, and its ending.
use Rattle.std.specs.Prelude.{ℕ, List, ◌∷◌, ◌++◌, length, codes}
use Rattle.std.specs.List.{flat_map}
use Rattle.allotment.specs.Texts.{blank, line_feed}
use Rattle.commands.specs.Texts.{item_text}
use Rattle.commands.specs.declared.items.Cursor.{Cursor}
use Rattle.commands.specs.declared.items.Item.{Item}
use Rattle.saga_core.specs.declared.records.Record.{Record}
use Rattle.reports.specs.Layouts.{count_line, history_heading, history_ending}
use Rattle.reports.specs.declared.endings.Ending.{Ending}
use Rattle.reports.specs.declared.endings.Ending.TheVariants.{Count, Text}

-- the text of an item in a history: the item after one blank
abbrev pub item_word : Item → List ℕ
item_word item = blank ∷ item_text item

-- the text before the items of a history
abbrev pub history_head : ℕ → Record → List ℕ
history_head id journey = history_heading id journey ++ codes "items"

-- the text after the items of a history
abbrev pub history_tail : Cursor → List ℕ
history_tail cursor = line_feed ∷ history_ending cursor

-- the text of an ending after so many rows
abbrev pub ending_text : Ending → ℕ → List ℕ
ending_text (Count what) count = count_line what.now count
ending_text (Text text) count = text.now

-- a report in its parts
abbrev pub whole_report : {T : Type 0} → (T → List ℕ) → List ℕ → Ending → List T → List ℕ
whole_report shown head ending rows =
    head ++ flat_map shown rows ++ ending_text ending (length rows)

-- The history of a journey in the parts in which it is written. For writing it.
use Rattle.std.proofs.Common.{◌≡◌, ◌∙◌, ap, sym, ℕ, List, [], ◌∷◌, ◌++◌, append-nil, append_assoc, map, codes}
use Rattle.std.specs.List.{flat_map}
use Rattle.commands.specs.Texts.{item_text, sentence}
use Rattle.commands.specs.declared.items.Item.{Item}
use Rattle.saga_core.specs.declared.records.Record.{Record}
use Rattle.reports.specs.Layouts.{history_ending, history_heading, history_report}
use Rattle.reports.specs.Parts.{history_head, history_tail, item_word}

-- a word and the items with one blank between each two are the word, and each item after one blank
items_behind : (word : List ℕ) (items : List Item)
    → sentence (word ∷ map item_text items) ≡ word ++ flat_map item_word items
items_behind word [] = sym (append-nil word)
items_behind word (item ∷ items) =
    ap (λ later. word ++ 32 ∷ later) (items_behind (item_text item) items)

-- the line feed after the items ends their line
line_fed : (front word items back : List ℕ)
    → front ++ word ++ items ++ (10 ∷ back) ≡ front ++ (word ++ items ++ 10 ∷ []) ++ back
line_fed front word items back = simp append_assoc

-- the parts of a history make the history
in_parts : (id : ℕ) (journey : Record) (items : List Item)
    → history_head id journey ++ flat_map item_word items ++ history_tail journey.cursor
    ≡ history_report id journey items
in_parts id journey items =
    line_fed (history_heading id journey) (codes "items") (flat_map item_word items) (history_ending journey.cursor)
    ∙ ap (λ line. history_heading id journey ++ (line ++ 10 ∷ []) ++ history_ending journey.cursor)
    (sym (items_behind (codes "items") items))

-- the text of the head, the items and the text of the ending make the history
pub history_in_parts : (id : ℕ) (journey : Record) (items : List Item) (head tail : List ℕ)
    → head ≡ history_head id journey
    → tail ≡ history_tail journey.cursor
    → head ++ flat_map item_word items ++ tail ≡ history_report id journey items
history_in_parts id journey items head tail is_head is_tail = rw (is_head, is_tail) (in_parts id journey items)

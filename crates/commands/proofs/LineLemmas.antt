-- A line is the line of the reply whose words it has. For the reader of lines.
use Rattle.std.proofs.Common.{◌∙◌, ap, ◌≡◌, ℕ, List, Option, Some, None, IsTrue, arith}
use Rattle.std.proofs.lemmas.List.Splits.{join_with_byte-slice_split}
use Rattle.allotment.specs.Texts.{parts, joined, blank}
use Rattle.commands.specs.declared.replies.Reply.{Reply}
use Rattle.commands.specs.declared.replies.Reply.TheVariants.{Loaded, Begun, Moved, Refused}
use Rattle.commands.specs.Texts.{is_accepted, reply_line, FindsReply}
use Rattle.commands.specs.Readings.{Finds, reply_words}
use Rattle.commands.proofs.BlankLemmas.{words_no_blank, parts_joined}

-- a reply's line is its words, with a blank between each two
pub line_joined : (reply : Reply) → reply_line reply ≡ joined blank (reply_words reply)
line_joined reply = grind arith

-- an accepted reply's line is cut at its blanks into its words
pub parts_line : (reply : Reply)
    → IsTrue (is_accepted reply) → parts blank (reply_line reply) ≡ reply_words reply
parts_line (Loaded name rows) good = parts_joined _ _ (words_no_blank (Loaded name rows) good)
parts_line (Begun id) good = parts_joined _ _ (words_no_blank (Begun id) good)
parts_line (Moved id item pos phase) good =
    ap (parts blank) (line_joined (Moved id item pos phase))
    ∙ parts_joined _ _ (words_no_blank (Moved id item pos phase) good)
parts_line (Refused refusal) good = cc

-- what is found by the words of a line is found by the line
pub found_by_words : (text : List ℕ) (texts : List (List ℕ)) (r : Option Reply)
    → texts ≡ parts blank text → Finds is_accepted reply_words texts r → FindsReply text r
found_by_words text texts None cut none = grind (arith, parts_line)
found_by_words text texts (Some reply) cut found = grind (arith, join_with_byte-slice_split blank text)

-- The words are the line cut at its blanks, so a reply that is found by the words is found by the line.
use Rattle.std.proofs.Common.{arith}
use Rattle.std.proofs.lemmas.Iterator.Consumers.{map_from_collect}
use Rattle.std.proofs.lemmas.Iterator.Splits.{YieldsList-from_str_split}
use Rattle.std.proofs.lemmas.Result.{IfOk-at_ok}
use Rattle.commands.specs.Readings.{texts_of}
use Rattle.commands.proofs.LineLemmas.{found_by_words}
use Rattle.commands.proofs.OneLineLemmas.{found_is_read}
use Rattle.commands.proofs.replies.Reply.from_line.Goals as goal

-- the words are the parts of the line
pub returns : goal.returns
returns c =
    let text = c.args.text.now in
    let words = c.in_ok-words.words.items in
    let split = c.split.ensures in
    let yields =
    YieldsList-from_str_split 32 text (omega arith) split.text split.has_more split.pattern in
    let collected = map_from_collect _ c.collect.ensures.ran yields in
    let told = rw c.deref.ensures.value at c.reply_in.ensures.found in
    let found = found_by_words text (texts_of words) c.reply_in.result (IfOk-at_ok _ c.in_ok-words.was collected) told in
    record { found = found; reads = found_is_read text c.reply_in.result found }

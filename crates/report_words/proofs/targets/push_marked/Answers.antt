-- One more word follows its mark.
use Rattle.std.proofs.Common.{◌<◌, ◌+◌, map, drop, length, string_bytes, arith}
use Rattle.report_words.proofs.TargetLemmas.{one_marked}
use Rattle.command_line.proofs.AskingLemmas.{texts_from}
use Rattle.report_words.proofs.targets.push_marked.Goals as goal

pub loop-word-preserved : goal.loop-word-preserved
loop-word-preserved c =
    let words = c.args.words.now in
    let i = c.loop-word.word-index in
    let word = c.word-item.result in
    let within : i < length words = omega (arith, c.loop-word-test.true) in
    one_marked (string_bytes c.loop-word.target) _ (string_bytes word) _ _ _ _ (map string_bytes (drop (i + 1) words))
    c.in_ok-push_str.ensures.bytes c.in_ok-push_str-2.ensures.bytes c.as_str.ensures.value
    (texts_from words i word within c.word-item.is) c.loop-word.invariant

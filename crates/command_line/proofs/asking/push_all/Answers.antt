-- One more word is added behind those so far.
use Rattle.std.proofs.Common.{◌≡◌, ◌∷◌, ◌++◌, [], arith, rules}
use Rattle.command_line.proofs.AskingLemmas.{word_added}
use Rattle.command_line.proofs.asking.push_all.Goals as goal

pub loop-word-preserved : goal.loop-word-preserved
loop-word-preserved c =
    let pushed : c.push.new.self.items ≡ c.loop-word.list.items ++ c.in_ok-copy.copy ∷ [] = search rules in
    word_added c.args.words.now c.loop-word.list.items c.push.new.self.items c.args.list.now.items c.loop-word.word-index
    c.word-item.result c.in_ok-copy.copy (omega (arith, c.loop-word-test.true)) c.word-item.is c.in_ok-copy.ensures.cases pushed
    c.loop-word.invariant

use Rattle.std.proofs.Common.{◌≡◌, ◌++◌, codes, drop, map, string_bytes}
use Rattle.report_words.specs.Targets.{marked}
use Rattle.report_words.proofs.targets.push_marked.Given as goal

-- with the words that are left, all are there
abbrev pub invariant-loop-word : goal.invariant-loop-word
invariant-loop-word l = string_bytes l.target ++ marked (codes "&") (map string_bytes (drop l.word-index l.words))
    ≡ string_bytes l.initial.target ++ marked (codes "&") (map string_bytes l.words)

use Rattle.std.proofs.Common.{◌≡◌, ◌++◌, take, map, string_bytes}
use Rattle.command_line.proofs.asking.push_all.Given as goal

-- the words so far follow those that the list had
abbrev pub invariant-loop-word : goal.invariant-loop-word
invariant-loop-word l = map string_bytes l.list.items ≡ map string_bytes l.initial.list.items ++ map string_bytes (take l.word-index l.words)

-- What the words before this one were made.
use Rattle.std.proofs.Common.{◌≡◌, ◌++◌, map, take, drop}
use Rattle.std.specs.List.{list_any}
use Rattle.std.specs.String.{string_bytes}
use Rattle.command_line.specs.Timing.{is_timed, plain_word}
use Rattle.command_line.proofs.timing.plain_words.Given as goal

abbrev pub invariant-loop-at : goal.invariant-loop-at
invariant-loop-at l = record {
  words : map string_bytes l.words
      ≡ map plain_word (take l.at (map string_bytes l.initial.words)) ++ drop l.at (map string_bytes l.initial.words);
  times : l.times ≡ list_any is_timed (take l.at (map string_bytes l.initial.words));
}

use Rattle.std.proofs.Common.{◌≡◌, ◌∷◌, ◌++◌, drop, map}
use Rattle.std.specs.String.{string_bytes}
use Rattle.commands.specs.Readings.{texts_of}
use Rattle.report_words.proofs.targets.called.Given as goal

-- the words so far, and those that are left, are those of the call
abbrev pub invariant-loop-other : goal.invariant-loop-other
invariant-loop-other l =
    map string_bytes l.words.items ++ texts_of (drop l.other-index l.others) ≡ l.name ∷ texts_of l.others

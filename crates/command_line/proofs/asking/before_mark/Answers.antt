-- The place that was found is the first; where none was, no word is a mark.
use Rattle.command_line.specs.Asking.{is_mark}
use Rattle.command_line.proofs.AskingLemmas.{found_at, found_none}
use Rattle.command_line.proofs.asking.before_mark.Goals as goal

pub returns-in-Some : goal.returns-in-Some
returns-in-Some c =
    let found = found_at is_mark c.args.words.now c.in-Some.place c.in-Some.ensures.place in record { count = found.0; within = found.1 }

pub returns-in-None-clause-count : goal.returns-in-None-clause-count
returns-in-None-clause-count c = found_none is_mark c.args.words.now c.in-None.ensures.place

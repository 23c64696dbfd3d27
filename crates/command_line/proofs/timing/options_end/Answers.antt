-- The place that was found is the first; where none was, all words may be options.
use Rattle.std.proofs.Common.{bytes_eq}
use Rattle.command_line.specs.Timing.{no_more_options}
use Rattle.command_line.proofs.AskingLemmas.{found_at, found_none}
use Rattle.command_line.proofs.timing.options_end.Goals as goal

pub returns-in-Some : goal.returns-in-Some
returns-in-Some c =
    let found = found_at (λ word. bytes_eq word no_more_options) c.args.words.now c.in-Some.place c.in-Some.ensures.place in
    record { count = found.0; within = found.1 }

pub returns-in-None-clause-count : goal.returns-in-None-clause-count
returns-in-None-clause-count c = found_none (λ word. bytes_eq word no_more_options) c.args.words.now c.in-None.ensures.place

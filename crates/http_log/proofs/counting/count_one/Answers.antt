-- One more was changed, until none is left.
use Rattle.std.proofs.Common.{rules}
use Rattle.std.proofs.lemmas.List.{take_all, drop_all}
use Rattle.std.proofs.lemmas.List.Edits.{map_over_more}
use Rattle.http_log.specs.Counting.{counted}
use Rattle.http_log.proofs.counting.count_one.Goals as goal

pub loop-at-preserved : goal.loop-at-preserved
loop-at-preserved c = search (rules, map_over_more (counted c.args.word.now))

pub returns : goal.returns
returns c = search (rules, take_all, drop_all)

-- Without a method, or a decided prefix, nothing is read.
use Rattle.std.proofs.Common.{arith}
use Rattle.http_messages.proofs.WideFirstLemmas.{open_without_front, takes_no_method}
use Rattle.http_messages.proofs.wide_messages.first_wide_message.Goals as goal

pub returns-then-has_no_method : goal.returns-then-has_no_method
returns-then-has_no_method c = grind (arith, takes_no_method)

pub returns-in-None : goal.returns-in-None
returns-in-None c = grind (arith, open_without_front)

use Rattle.std.proofs.Common.{lit<}
use Rattle.allotment.proofs.CutLemmas.{cut_parts}
use Rattle.allotment.proofs.cells.cut.Goals as goal

-- `/` is one byte
pub returns : goal.returns
returns c = cut_parts 47 c.args.text.now c.split_once.result c.split_once.ensures.cases (lit< tt)

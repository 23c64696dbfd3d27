-- The piece that comes at a place is the one that the split has there.
use Rattle.std.proofs.Common.{arith}
use Rattle.std.proofs.lemmas.Iterator.Consumers.{nth_from_yields_List}
use Rattle.std.proofs.lemmas.Iterator.Splits.{YieldsList-from_str_split}
use Rattle.http_pages.proofs.routes.piece.Goals as goal

-- `/` is one byte
pub returns : goal.returns
returns c =
    let split = c.split.ensures in
    let yields =
    YieldsList-from_str_split 47 c.args.target.now (omega arith) split.text split.has_more split.pattern in
    record { piece = nth_from_yields_List _ _ c.args.place c.nth.ensures.ran yields }

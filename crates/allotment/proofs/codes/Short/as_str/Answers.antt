use Rattle.allotment.proofs.ShortLemmas.{is_utf8}
use Rattle.allotment.proofs.codes.Short.as_str.Goals as goal

-- the text is ASCII, so it is UTF-8
pub from_utf8_unchecked-requires : goal.from_utf8_unchecked-requires
from_utf8_unchecked-requires g c = is_utf8 _ c.self.invariant.ascii

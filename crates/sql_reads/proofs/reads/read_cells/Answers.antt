-- The nights of the want are those of its product from its first night on.
use Rattle.std.proofs.Common.{◌≡◌, refl, map, subst, filter_map, option_map, arith}
use Rattle.allotment.specs.Cells.{cells_of}
use Rattle.saga_core.specs.Views.{at_night, night_said, places_of}
use Rattle.sql_model.proofs.Plans.{want-nights}
use Rattle.sql_reads.specs.NightsRead.{nights_from}
use Rattle.sql_reads.proofs.ReadLemmas.{read_less}
use Rattle.sql_reads.proofs.reads.read_cells.Goals as goal

pub read_places-requires : goal.read_places-requires
read_places-requires g c = let some = want-nights c.args.want.now c.nights.ensures.limits in omega (arith, some)

pub returns : goal.returns
returns g c =
    let same : cells_of (nights_from c.new-first.result c.from.result) ≡ cells_of c.args.want.now =
    rw (c.new-first.ensures, c.kind.ensures.kind, c.supplier.ensures, c.product.ensures, c.first.ensures, c.from.ensures, c.nights.ensures.nights) refl in
    read_less c.read_places.ensures (λ s places shown.
    subst (λ cells. map night_said places.items ≡ filter_map (λ x. option_map (at_night x) (places_of s.ledger x)) cells) same shown)

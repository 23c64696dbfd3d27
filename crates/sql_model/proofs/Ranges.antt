-- The range of nights that a statement takes is that of a want. For the functions that write a want.
use Rattle.std.proofs.Common.{◌≡◌, arith, rules}
use Rattle.allotment.specs.Want.{Wanted}
use Rattle.desk_sql.specs.Rows.{Tables, StockRow}
use Rattle.desk_sql.specs.Stock.{is_within, takes_nights, gives_nights}
use Rattle.desk_sql.specs.declared.stock.NightRange.{NightRange}
use Rattle.sql_model.specs.Reading.{IsRangeOf, is_wanted_row}
use Rattle.sql_model.specs.Moving.{takes_want, gives_want}

-- a row is in the range exactly if it is wanted
pub range_row : (r : NightRange) (w : Wanted) → IsRangeOf r w → (s : StockRow)
    → is_within r s ≡ is_wanted_row w s
range_row r w is s = search (rules, arith)

-- the statement takes just the want
pub takes_range : (r : NightRange) (w : Wanted) (t : Tables) → IsRangeOf r w
    → takes_nights r w.count t ≡ takes_want w t
takes_range r w t is = search (rules, arith, range_row)

-- the statement gives back just the want
pub gives_range : (r : NightRange) (w : Wanted) (t : Tables) → IsRangeOf r w
    → gives_nights r w.count t ≡ gives_want w t
gives_range r w t is = search (rules, arith, range_row)

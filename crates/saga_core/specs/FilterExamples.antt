-- Filters and what they let through, worked by hand.
use Rattle.std.specs.Prelude.{◌≡◌, codes, true, false, None, Some, refl}
use Rattle.allotment.specs.declared.cells.Cell.{Cell}
use Rattle.allotment.specs.declared.codes.Kind.TheVariants.{Flight, Room}
use Rattle.saga_core.specs.CellFilters.{is_cell_asked}
use Rattle.saga_core.specs.declared.cell_filters.CellFilter.{CellFilter}

-- the room INN/X of 2030-06-01, which is day 22066
abbrev room : Cell
room = record { kind = Room; supplier = codes "INN"; product = codes "X"; night = 22066 }

-- the first week of June 2030 of the supplier INN
abbrev week : CellFilter
week = record { kind = None; supplier = Some (codes "INN"); product = None; from = Some 22066; to = Some 22072 }

lets_the_first_night : is_cell_asked week room ≡ true
lets_the_first_night = refl

lets_the_last_night : is_cell_asked week (record room { night = 22072 }) ≡ true
lets_the_last_night = refl

stops_the_night_after : is_cell_asked week (record room { night = 22073 }) ≡ false
stops_the_night_after = refl

stops_another_supplier : is_cell_asked week (record room { supplier = codes "IN" }) ≡ false
stops_another_supplier = refl

stops_another_kind : is_cell_asked (record week { kind = Some Flight }) room ≡ false
stops_another_kind = refl

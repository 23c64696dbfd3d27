-- Worked examples of a part of the stock: the cells that are asked for, their page, and who sees it.
use Rattle.std.specs.Prelude.{◌≡◌, List, [], ◌∷◌, ◌++◌, codes, None, Some, Ok, Err, refl}
use Rattle.std.specs.Fmt.{digits}
use Rattle.allotment.specs.declared.cells.Cell.{Cell}
use Rattle.allotment.specs.declared.codes.Kind.TheVariants.{Flight, Room}
use Rattle.allotment.specs.declared.places.Held.{Held}
use Rattle.commands.specs.declared.replies.Refusal.TheVariants.{NoAgent}
use Rattle.saga_core.specs.declared.cell_filters.CellFilter.{CellFilter}
use Rattle.http_pages.specs.Admitting.{plain}
use Rattle.http_pages.specs.Pages.{Paged, report_page}
use Rattle.http_pages.specs.declared.routes.Route.TheVariants.{ShowCells}
use Rattle.ledger.specs.Ledger.{Event}
use Rattle.report_kinds.specs.Texts.{asked_cells}
use Rattle.reports.specs.Examples.{flight, ten_places}
use Rattle.saga_core.specs.Views.{IsStock}
use Rattle.desk_http.specs.Demands.{SeeCells, Sender, asked_by_nobody, demanded}
use Rattle.desk_http.specs.Pages.{ShowsCells, command_by}

-- the flight of 2030-06-01, which is day 22066, and that of the next night: ten places each, of which one is held
abbrev two_nights : List (Cell × Held)
two_nights = (flight, ten_places) ∷ (record flight { night = 22067 }, ten_places) ∷ []

-- the flights of the second night alone
abbrev second_night : CellFilter
second_night = record { kind = Some Flight; supplier = None; product = None; from = Some 22067; to = Some 22067 }

-- the page has the heading, the one line that the stock report has for such a cell, and how many lines these are
part_is_one_line : (l : List Event) (page : Paged) → IsStock l two_nights → ShowsCells second_night l page
    → page ≡ report_page (codes "kind     supplier product  night       allot   held   free\n"
    ++ codes "flight   AL       A1       2030-06-02     10      1      9\n" ++ codes "cells 1\n")
unfolding digits
part_is_one_line l page stock shows = shows two_nights stock

-- from the first night to the second: the last night is shown too
last_night_is_shown : asked_cells (record second_night { from = Some 22066 }) two_nights ≡ two_nights
last_night_is_shown = refl

-- no cell is of another kind, and none is from a night to one before it
other_kind_is_empty : asked_cells (record second_night { kind = Some Room }) two_nights ≡ []
other_kind_is_empty = refl

no_night_is_empty : asked_cells (record second_night { to = Some 22066 }) two_nights ≡ []
no_night_is_empty = refl

-- an agent sees it, and the house; it makes no command
is_shown : (sender : Sender) → demanded (ShowCells second_night) sender ≡ Ok (SeeCells second_night)
is_shown sender = refl

is_no_command : command_by (Ok (SeeCells second_night)) ≡ None
is_no_command = refl

-- without an agent it is refused at the port
is_not_shown_to_nobody : asked_by_nobody (ShowCells second_night) ≡ Err (plain NoAgent)
is_not_shown_to_nobody = refl

-- Worked examples of reports: each is computed by the definitions.
use Rattle.std.specs.Prelude.{◌≡◌, false, [], ◌∷◌, ◌++◌, codes, refl}
use Rattle.std.specs.Fmt.{digits}
use Rattle.std.proofs.Common.{lit≤}
use Rattle.std.specs.FinSet as set
use Rattle.allotment.specs.Want.{Wanted, wanted}
use Rattle.allotment.specs.declared.cells.Cell.{Cell}
use Rattle.allotment.specs.declared.codes.Kind.TheVariants.{Flight}
use Rattle.allotment.specs.declared.places.Held.{Held}
use Rattle.commands.specs.declared.items.Cause.TheVariants as cause
use Rattle.commands.specs.declared.items.Item.TheVariants.{Turn}
use Rattle.commands.specs.declared.items.Phase.TheVariants.{Run, Undone}
use Rattle.plan.specs.PlanModel.{Planned}
use Rattle.saga_core.specs.declared.records.Brief.{Brief}
use Rattle.saga_core.specs.declared.records.Record.{Record}
use Rattle.reports.specs.Layouts.{stock_heading, stock_line, stock_report, unfinished_report, history_report}

-- a flight on 2030-06-01
abbrev pub flight : Cell
flight = record { kind = Flight; supplier = codes "AL"; product = codes "A1"; night = 22066 }

-- ten places, of which nine are free
abbrev pub ten_places : Held
ten_places = record { allot = 10; free = 9; within = lit≤ tt; bounded = lit≤ tt }

-- the heading of the stock report
pub names_the_columns :
    stock_heading ≡ codes "kind     supplier product  night       allot   held   free\n"
names_the_columns = refl

-- a cell with ten places, one of which is held
pub shows_the_places_of_a_cell :
    stock_line (flight, ten_places)
    ≡ codes "flight   AL       A1       2030-06-01     10      1      9\n"
unfolding digits
shows_the_places_of_a_cell = refl

-- a report of one cell
pub shows_one_cell :
    stock_report ((flight, ten_places) ∷ [])
    ≡ codes "kind     supplier product  night       allot   held   free\n"
    ++ codes "flight   AL       A1       2030-06-01     10      1      9\n" ++ codes "cells 1\n"
unfolding digits
shows_one_cell = refl

-- no cell
pub shows_no_cell :
    stock_report [] ≡ codes "kind     supplier product  night       allot   held   free\ncells 0\n"
unfolding digits
shows_no_cell = refl

-- a journey of the house, after its first step
abbrev pub second : Brief
second = record { id = 2; agent = codes "desk"; cursor = record { pos = 1; phase = Run; used = 0 } }

-- one unfinished journey
pub shows_an_unfinished_journey :
    unfinished_report (second ∷ []) ≡ codes "           2 desk             run 1\nunfinished 1\n"
unfolding digits
shows_an_unfinished_journey = refl

-- no journey
pub shows_no_journey : unfinished_report [] ≡ codes "unfinished 0\n"
unfolding digits
shows_no_journey = refl

-- one place of that flight
abbrev pub one_place : Wanted
one_place = wanted Flight (codes "AL") (codes "A1") 22066 1 1

-- a plan with this one step, and no second try
abbrev pub one_flight : Planned
one_flight =
    record { steps = record { options = one_place ∷ []; is_marked = false } ∷ []; tries = 0 }

-- a journey of the house that was stopped before its first step, and is undone
abbrev pub stopped : Record
stopped =
    record {
      agent = codes "desk";
      plan = one_flight;
      cursor = record { pos = 0; phase = Undone; used = 0 };
      marks = set.empty;
    }

-- its history
pub shows_a_history :
    history_report 1 stopped (Turn 0 cause.Stop ∷ [])
    ≡ codes "journey 1 agent desk\nplan F/AL/A1/2030-06-01/1/1!0\nitems B0s\nstate undone 0\n"
unfolding digits
shows_a_history = refl

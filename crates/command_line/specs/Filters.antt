-- The values that ask for cells and journeys, by their names: for those of a filter, or for one.
use Rattle.std.specs.Prelude.{◌≡◌, ◌||◌, ℕ, Bool, is_none, is_some, if◌then◌else◌, List, codes, Option, None, Some, option_map}
use Rattle.std.specs.Option.{option_and_then}
use Rattle.allotment.specs.Limits.{is_code}
use Rattle.allotment.specs.Nights.{night_in}
use Rattle.allotment.specs.Texts.{cell_in, keep_if, kind_of_word, number_from}
use Rattle.allotment.specs.declared.cells.Cell.{Cell}
use Rattle.clap.specs.Words.{Text}
use Rattle.commands.specs.Limits.{most_events}
use Rattle.commands.specs.Names.{is_agent}
use Rattle.saga_core.specs.JourneyFilters.{state_named}
use Rattle.saga_core.specs.declared.cell_filters.CellFilter.{CellFilter}
use Rattle.saga_core.specs.declared.journey_filters.JourneyFilter.{JourneyFilter}
use Rattle.saga_core.specs.declared.journey_filters.JourneyState.{JourneyState}
use Rattle.saga_core.specs.declared.journey_filters.JourneyState.TheVariants.{Run, Back}
use Rattle.saga_core.specs.declared.journey_filters.Phases.{Phases}
use Rattle.saga_core.specs.declared.journey_filters.Phases.TheVariants.{All, Unfinished, Only}

-- the value that a word spells, if a word is given; nothing if the word spells none
abbrev pub spelled : {X : Type 0} → (Text → Option X) → Option Text → Option (Option X)
spelled reads None = Some None
spelled reads (Some word) = option_map Some (reads word)

-- a supplier or a product, and an agent
abbrev pub code_named : Text → Option (List ℕ)
code_named word = keep_if is_code word

abbrev pub agent_named : Text → Option (List ℕ)
agent_named word = keep_if is_agent word

-- the values that ask for cells are those of the filter
pub record HasCells (value : Text → Option Text) (f : CellFilter) : Type 0 where
  pub kind : spelled kind_of_word (value (codes "KIND")) ≡ Some f.kind
  pub supplier : spelled code_named (value (codes "SUPPLIER")) ≡ Some f.supplier
  pub product : spelled code_named (value (codes "PRODUCT")) ≡ Some f.product
  pub from : spelled night_in (value (codes "FROM")) ≡ Some f.from
  pub to : spelled night_in (value (codes "TO")) ≡ Some f.to

-- one of the values that ask for cells spells nothing
abbrev pub has_bad_cells : (Text → Option Text) → Bool
has_bad_cells value =
    is_none (spelled kind_of_word (value (codes "KIND")))
    || (is_none (spelled code_named (value (codes "SUPPLIER")))
    || (is_none (spelled code_named (value (codes "PRODUCT")))
    || (is_none (spelled night_in (value (codes "FROM"))) || is_none (spelled night_in (value (codes "TO"))))))

-- one of the values that ask for cells is given
abbrev pub asks_for_cells : (Text → Option Text) → Bool
asks_for_cells value =
    is_some (value (codes "KIND"))
    || (is_some (value (codes "SUPPLIER"))
    || (is_some (value (codes "PRODUCT")) || (is_some (value (codes "FROM")) || is_some (value (codes "TO")))))

-- the phases in which journeys are asked for: of a state, or of all journeys
abbrev pub only : Option JourneyState → Phases
only None = All
only (Some state) = Only state

abbrev pub phases_in : Option Text → Option Phases
phases_in word = option_map only (spelled state_named word)

-- the same of unfinished journeys, which have two states
abbrev pub unfinished_named : Option JourneyState → Option Phases
unfinished_named (Some Run) = Some (Only Run)
unfinished_named (Some Back) = Some (Only Back)
unfinished_named _ = None

abbrev pub unfinished_in : Option Text → Option Phases
unfinished_in None = Some Unfinished
unfinished_in (Some word) = unfinished_named (state_named word)

-- the values that ask for journeys are those of the filter, whose phases are read so
pub record HasJourneys (reads : Option Text → Option Phases) (value : Text → Option Text) (f : JourneyFilter) : Type 0 where
  pub agent : spelled agent_named (value (codes "AGENT")) ≡ Some f.agent
  pub phases : reads (value (codes "STATE")) ≡ Some f.phases

-- one of the values that ask for journeys spells nothing
abbrev pub has_bad_journeys : (Option Text → Option Phases) → (Text → Option Text) → Bool
has_bad_journeys reads value =
    is_none (spelled agent_named (value (codes "AGENT"))) || is_none (reads (value (codes "STATE")))

-- the one cell that is asked for, by its text
abbrev pub cell_asked : (Text → Option Text) → Option Cell
cell_asked value = option_and_then cell_in (value (codes "CELL"))

-- one cell is given: it spells none, or values that ask for cells are given too; else one of those spells nothing
abbrev pub has_bad_holders : (Text → Option Text) → Bool
has_bad_holders value =
    if is_some (value (codes "CELL")) then is_none (cell_asked value) || asks_for_cells value else has_bad_cells value

-- the one journey that is asked for, by its number, from 1 on
abbrev pub journey_asked : (Text → Option Text) → Option ℕ
journey_asked value = option_and_then (number_from 1 most_events) (value (codes "ID"))

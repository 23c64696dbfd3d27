-- Each text means under the desk's schema what the definitions say, and takes its parameters. For the statements.
use Rattle.std.proofs.Common.{ℕ, List, [], ◌∷◌, Bool, true, false, Option, None, Some, refl}
use Rattle.sqlite.specs.declared.types.Value.TheVariants.{Text}
use Rattle.sqlite.specs.Order.{Row}
use Rattle.sqlite.specs.Listing.{understood}
use Rattle.sqlite.specs.Term.{col}
use Rattle.sqlite_tied.specs.Compute.{everything}
use Rattle.desk_sql.specs.declared.versions.Version.{Version}
use Rattle.desk_sql.specs.declared.versions.Version.TheVariants.{One, Two}
use Rattle.desk_sql.specs.Meanings.{find_stock_names, find_stock_query, journey_names, journey_project, rising}
use Rattle.desk_sql.specs.Rows.{whole}
use Rattle.desk_sql.proofs.Causing.{Takes, one_table}
use Rattle.desk_sql.proofs.Meaning.{MeansEach}
use Rattle.sql_lists.specs.CellLists.{cell_list, cell_list_query, cell_list_tests, cell_list_text, stock_text}
use Rattle.sql_lists.specs.JourneyLists.{JourneyList, UnfinishedAbove, OwnedAbove, InPhases, journey_list, journey_list_query, journey_list_tests, journey_list_text}
use Rattle.sql_lists.proofs.HandedRows.{IsMeant}

cell_list_means : (s : Option (Bool × Bool)) → MeansEach (cell_list_text s) (cell_list_query s) find_stock_names
unfolding understood everything
cell_list_means None One extra = record { is = refl; plain = (refl, refl); unlisted = refl; selects = refl }
cell_list_means None Two extra = record { is = refl; plain = (refl, refl); unlisted = refl; selects = refl }
cell_list_means (Some (false, false)) One extra = record { is = refl; plain = (refl, refl); unlisted = refl; selects = refl }
cell_list_means (Some (false, false)) Two extra = record { is = refl; plain = (refl, refl); unlisted = refl; selects = refl }
cell_list_means (Some (true, false)) One extra = record { is = refl; plain = (refl, refl); unlisted = refl; selects = refl }
cell_list_means (Some (true, false)) Two extra = record { is = refl; plain = (refl, refl); unlisted = refl; selects = refl }
cell_list_means (Some (false, true)) One extra = record { is = refl; plain = (refl, refl); unlisted = refl; selects = refl }
cell_list_means (Some (false, true)) Two extra = record { is = refl; plain = (refl, refl); unlisted = refl; selects = refl }
cell_list_means (Some (true, true)) One extra = record { is = refl; plain = (refl, refl); unlisted = refl; selects = refl }
cell_list_means (Some (true, true)) Two extra = record { is = refl; plain = (refl, refl); unlisted = refl; selects = refl }

-- the statements of cells read one table
pub cells_meant : IsMeant cell_list
cells_meant = record {
  names = find_stock_names;
  means = cell_list_means;
  sure = λ s. one_table 1 (cell_list_tests s) find_stock_query.project find_stock_query.order;
}

pub stock_takes : (v : Version) → Takes v stock_text find_stock_query []
unfolding understood everything
stock_takes One extra = record { whole = refl; typed = refl }
stock_takes Two extra = record { whole = refl; typed = refl }

journey_list_means : (s : JourneyList) → MeansEach (journey_list_text s) (journey_list_query s) journey_names
unfolding understood everything
journey_list_means UnfinishedAbove One extra = record { is = refl; plain = (refl, refl); unlisted = refl; selects = refl }
journey_list_means UnfinishedAbove Two extra = record { is = refl; plain = (refl, refl); unlisted = refl; selects = refl }
journey_list_means OwnedAbove One extra = record { is = refl; plain = (refl, refl); unlisted = refl; selects = refl }
journey_list_means OwnedAbove Two extra = record { is = refl; plain = (refl, refl); unlisted = refl; selects = refl }
journey_list_means (InPhases false) One extra = record { is = refl; plain = (refl, refl); unlisted = refl; selects = refl }
journey_list_means (InPhases false) Two extra = record { is = refl; plain = (refl, refl); unlisted = refl; selects = refl }
journey_list_means (InPhases true) One extra = record { is = refl; plain = (refl, refl); unlisted = refl; selects = refl }
journey_list_means (InPhases true) Two extra = record { is = refl; plain = (refl, refl); unlisted = refl; selects = refl }

-- so do those of journeys
pub journeys_meant : IsMeant journey_list
journeys_meant = record {
  names = journey_names;
  means = journey_list_means;
  sure = λ s. one_table 6 (journey_list_tests s) journey_project ((col 1 0, rising) ∷ []);
}

-- each journey list takes its parameters
abbrev pub TakesEach : JourneyList → Row → Type 0
TakesEach s params = (v : Version) → Takes v (journey_list_text s) (journey_list_query s) params

pub unfinished_takes : (after : ℕ) → TakesEach UnfinishedAbove (whole after ∷ [])
unfolding understood everything
unfinished_takes after One extra = record { whole = refl; typed = refl }
unfinished_takes after Two extra = record { whole = refl; typed = refl }

pub owned_takes : (agent : List ℕ) (after : ℕ) → TakesEach OwnedAbove (whole after ∷ Text agent ∷ [])
unfolding understood everything
owned_takes agent after One extra = record { whole = refl; typed = refl }
owned_takes agent after Two extra = record { whole = refl; typed = refl }

-- Lists of journeys above a number, whose rows are taken. For `brief_lists`.
use Rattle.std.proofs.Common.{◌≡◌, ℕ, List, filter, take, Bool, refl, filter_map, Result, Vec, IfOk, IsErrOf}
use Rattle.sqlite.specs.Store.{Ghosts}
use Rattle.sqlite.specs.Held.{Held, state}
use Rattle.sqlite.specs.State.{HasCleanDisk}
use Rattle.commands.specs.declared.replies.Fault.{Fault}
use Rattle.commands.specs.declared.replies.Fault.TheVariants.{Store}
use Rattle.ledger.specs.Ledger.{Event, numbers}
use Rattle.saga_core.specs.Views.{brief_of, is_owned_above}
use Rattle.saga_core.specs.declared.records.Brief.{Brief}
use Rattle.desk_sql.specs.FoundRows.{is_owned_after}
use Rattle.desk_sql.specs.Calls.{Quiet}
use Rattle.desk_sql.specs.Causes.{HasFaulted, IsUp}
use Rattle.desk_sql.specs.Lists.{IsListed}
use Rattle.desk_sql.specs.RemainingRows.{IsByNumber, Starts}
use Rattle.desk_sql.specs.Rows.{JourneyRow}
use Rattle.desk_sql.specs.declared.versions.Version.TheVariants.{Two}
use Rattle.desk_sql.proofs.Quieting.{quiet_start}
use Rattle.sql_lists.specs.JourneyLists.{JourneysRest}
use Rattle.sql_lists.specs.ListedRows.{AreGoodBriefsRest, BriefsRest}
use Rattle.sql_model.proofs.BriefRows.{Agree}
use Rattle.sql_reads.specs.Reads.{AnyDesk, ReadIn}
use Rattle.report_writers.proofs.HandedBriefs.{briefs_begin, good_begin}
use Rattle.tables.proofs.Taken.{list_read}

-- briefs that pass a test are read, where the rows that remain are taken
pub briefs_read : {S Z : Type 0} {g : Ghosts S} {old mid new end : Held S} {result : Result (Vec Brief Z) Fault} (most : ℕ)
    (test : JourneyRow → Bool) (passes : Brief → Bool) → ((l : List Event) → Agree test passes l) → end ≡ new
    → Starts g old mid (λ t later. IsListed IsByNumber (filter test t.journey) later) (JourneysRest g) → Quiet g mid new
    → (HasCleanDisk (state g new) → (all : List Brief) → BriefsRest g mid all → IfOk result (λ briefs. briefs.items ≡ take most all))
    → (HasCleanDisk (state g new) → AreGoodBriefsRest g mid → IsUp (state g mid) → IsErrOf result Store
    → HasFaulted (state g mid) (state g new))
    → ReadIn g old end Two result AnyDesk
    (λ s briefs. briefs.items ≡ take most (filter passes (filter_map (brief_of s.ledger) (numbers s.ledger))))
briefs_read {g = g} {old = old} {mid = mid} most test passes agree same started quiet taken fails =
    list_read same (quiet_start g old mid _ _ started) quiet
    (λ clean began s desk keeps. taken clean _ (briefs_begin g test passes agree old mid started began s keeps))
    (λ clean began s desk spelled keeps up store. fails clean (good_begin g test passes agree old mid started began s keeps spelled) up store)

-- the test of rows is that of briefs
pub owned_agree : (agent : List ℕ) (after : ℕ) (l : List Event) → Agree (is_owned_after agent after) (is_owned_above agent after) l
owned_agree agent after l n b = refl

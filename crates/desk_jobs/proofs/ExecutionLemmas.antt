-- How a world goes on with one opening, from how the desk came up and what it answered. For the jobs.
use Rattle.std.proofs.Common.{ℕ, List, Option, sym, subst, arith}
use Rattle.sqlite.specs.Tree.{Trees}
use Rattle.sqlite.specs.Store.{Ghosts}
use Rattle.sqlite.specs.Held.{Held, state}
use Rattle.sqlite.specs.State.{HasCleanDisk}
use Rattle.ledger.specs.Answer.{State, start}
use Rattle.ledger.specs.World.{Moment, after, IsWorld}
use Rattle.saga_core.specs.Chains.{reopened}
use Rattle.saga_core.specs.Worlds.{StandsAtEnd}
use Rattle.recovery.specs.Recovers.{HasOneRecovery}
use Rattle.desk_jobs.specs.Openings.{Input, HasNoExchange, recovered}
use Rattle.desk_jobs.specs.Chains.{StandsAs}
use Rattle.desk_jobs.specs.Executions.{EachMayReopen, HasComeUp, HasNotComeUp, LeavesAnswered, LeavesOpened, StandsAnswered, StandsOpened}
use Rattle.desk_jobs.specs.Stages.{LeavesRecovering, Stood}
use Rattle.desk_jobs.proofs.OpeningLemmas.{answering_leads, answering_opens, recovering_leads}
use Rattle.desk_jobs.proofs.StageLemmas.{not_begun}

-- where the connection stands for a state, so does each recoverable state
pub stands_found : {S : Type 0} (g : Ghosts S) (h : Held S) (s : State) → HasCleanDisk (state g h) → Stood (state g h) s
    → (db : Trees) → (state g h).may_leave db → StandsAs db s
stands_found g h s clean stood db may = (stood.0, (stood.1 clean).leaves db may)

module _ (law : EachMayReopen) where
  -- a reopened world at whose end the book stands
  pub stands_reopened : (stands : State → Type 0) (w : List Moment) → IsWorld w → stands (after start w)
      → StandsAtEnd stands (reopened w)
  stands_reopened stands w world there = grind arith

  -- recovery did not begin
  pub not_begun_after : (finds : Trees → Type 0) (w : List Moment) → IsWorld w
      → ((db : Trees) → finds db → StandsAs db (after start w)) → LeavesRecovering finds (reopened w)
  not_begun_after finds w world means =
      let again = (law w world).again in
      not_begun (reopened w) finds again.world
      (subst (λ (s : State). HasOneRecovery s) (sym again.same) (law w world).one)
      (λ db may. subst (StandsAs db) (sym again.same) (means db may))

  module _ {S : Type 0} (g : Ghosts S) (old new : Held S) where
    -- the desk was not opened, and the connection stands for what it stood for
    pub not_opened : HasCleanDisk (state g new)
        → ((s : State) → Stood (state g old) s → Stood (state g new) s) → HasNotComeUp g old new
    not_opened clean stays w world stood =
        not_begun_after (state g new).may_leave w world
        (λ db may. stands_found g new (after start w) clean (stays (after start w) stood) db may)

    -- it was not recovered, and answered nobody
    pub leaves_unanswered : (held : Option (List ℕ)) (input : Input) → HasNoExchange input → HasNotComeUp g old new
        → LeavesOpened g old new held held input
    leaves_unanswered held input unserved left w world stood =
        recovering_leads law w world (state g new).may_leave held input unserved (left w world stood)

    module _ (stands : State → Type 0) (up : HasComeUp g old stands) (held holds : Option (List ℕ)) (input : Input) where
      -- it was recovered, and answered
      pub leaves_answered : LeavesAnswered g stands new held holds input → LeavesOpened g old new held holds input
      leaves_answered left w world stood =
          let r = up w world stood in
          answering_leads law w world stands (state g new).may_leave held holds input r
          (left (recovered w r.events) r.ends)

      pub stands_answered : StandsAnswered g stands new held holds input → StandsOpened g old new held holds input
      stands_answered there w world stood =
          let r = up w world stood in
          answering_opens law w world stands held holds input (Stood (state g new)) r
          (there (recovered w r.events) r.ends)

-- where the connection stands for the end, so does each recoverable state
pub stands_leaves : {S : Type 0} (g : Ghosts S) (stands : State → Type 0) (new : Held S) (held holds : Option (List ℕ))
    (input : Input) → HasCleanDisk (state g new) → StandsAnswered g stands new held holds input
    → LeavesAnswered g stands new held holds input
stands_leaves g stands new held holds input clean there w here db may = grind (arith, stands_found, there)

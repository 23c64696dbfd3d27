-- Why a command fails with a fault of the store, and how many of the rowids that the store may choose it takes.
use Rattle.std.specs.Prelude.{◌≡◌, ◌⊎◌, ◌+◌, ◌^◌, ◌≤◌, ⊤, ℕ, suc, true, length, sum_by, Option, Some, None, Result, IsErrOf}
use Rattle.sqlite.specs.Store.{Ghosts}
use Rattle.sqlite.specs.Held.{Held, state}
use Rattle.sqlite.specs.State.{HasCleanDisk}
use Rattle.sqlite.specs.Steps.{FailsToCommit}
use Rattle.sqlite.specs.declared.error.Error.TheVariants.{SqliteFailure}
use Rattle.sqlite.specs.declared.error.ErrorCode.TheVariants.{OutOfMemory}
use Rattle.plan.specs.PlanModel.{Planned, StepPlan}
use Rattle.commands.specs.Asks.{Asked}
use Rattle.commands.specs.Request.{Request, Load, Begin}
use Rattle.commands.specs.declared.replies.Fault.{Fault}
use Rattle.commands.specs.declared.replies.Fault.TheVariants.{Store}
use Rattle.desk_sql.specs.Calls.{Makes}
use Rattle.desk_sql.specs.Causes.{IsUp, HasFaulted}
use Rattle.desk_sql.specs.Rows.{Tables}
use Rattle.desk_sql.specs.Writable.{HasRowids}
use Rattle.ledger.specs.Answer.{State, kept_for, outcome}
use Rattle.sql_model.specs.Keeping.{Keeps}
use Rattle.sql_model.specs.Spelling.{IsSpelled}
use Rattle.sql_model.specs.Standing.{IsDesk, StandsFor}
use Rattle.sql_commands.specs.Moving.{IsUnfit}
use Rattle.sql_commands.specs.declared.moves.Motion.{Motion}

-- the text of an ask, if there is one, has at most ten million bytes
abbrev pub HasShortText : Option Asked → Type 0
HasShortText None = ⊤
HasShortText (Some ask) = length ask.text ≤ 10 ^ 7

-- how many options a plan has
abbrev pub options_in : Planned → ℕ
options_in plan = sum_by (λ (s : StepPlan). length s.options) plan.steps

-- how many rowids the store chooses at most for the rows of a request: one for a batch and for each of its cells, one for each
-- option of a plan, and one for a save-point
abbrev pub request_rowids : Request → ℕ
request_rowids (Load name rows) = suc (length rows)
request_rowids (Begin plan) = options_in plan
request_rowids _ = 1

-- and one for the reply that is kept with it
abbrev pub asked_rowids : Option Asked → Request → ℕ
asked_rowids None asked = request_rowids asked
asked_rowids (Some ask) asked = suc (request_rowids asked)

module _ {S : Type 0} (g : Ghosts S) (new : Held S) where
  -- a transaction led from rows of this state to rows of the next one, and its commit ran out of memory
  pub record RanOutOf (s next : State) : Type 0 where
    pub before : Tables
    pub stands : StandsFor before s
    pub after : Tables
    pub reaches : StandsFor after next
    pub early : Held S
    pub late : Held S
    pub wrote : Makes (state g (record early { in_transaction = true })) (state g late) after
    pub failed : FailsToCommit (state g late) (state g new) (SqliteFailure OutOfMemory)

module _ {S : Type 0} (g : Ghosts S) (old new : Held S) (ask : Option Asked) (asked : Request) where
  -- why a request failed: the disk failed or refused meanwhile, or the commit of its rows ran out of memory
  abbrev pub HasReason : State → Type 0
  HasReason s = HasFaulted (state g old) (state g new) ⊎ RanOutOf g new s (outcome s ask asked).state

  -- On a state that is kept and due, in a store that is up: where the text of the ask is short and enough rowids are left, the
  -- fault `Store` has a reason. A look at the rows never is one.
  abbrev pub FailsFor : (State → Type 0) → {V : Type 0} → Result V Fault → Type 0
  FailsFor IsDueIn result =
      HasCleanDisk (state g new) → (s : State) → IsSpelled s.ledger → Keeps (state g old) s → IsDueIn s → HasShortText ask
      → HasRowids (asked_rowids ask asked) (state g old).now.trees → IsUp (state g old)
      → IsErrOf result Store → HasReason s

  -- unless the disk fails or refuses, the request takes at most its rowids, whether it is carried out or not
  abbrev pub LeavesRowidsFor : (State → Type 0) → Type 0
  LeavesRowidsFor IsDueIn =
      HasCleanDisk (state g new) → (s : State) → Keeps (state g old) s → IsDueIn s
      → (m : ℕ) → HasRowids (asked_rowids ask asked + m) (state g old).now.trees → IsUp (state g old)
      → HasRowids m (state g new).now.trees ⊎ HasFaulted (state g old) (state g new)

-- a desk on which no reply is kept for the ask
pub record IsNewTo (ask : Option Asked) (s : State) : Type 0 where
  pub desk : IsDesk s
  pub new : kept_for s ask ≡ None

-- a move for which no reply is kept is due: if it is that of a refused step, the journey runs, and its next want does not fit
pub record IsNewMove (ask : Option Asked) (id : ℕ) (why : Motion) (s : State) : Type 0 where
  pub here : IsNewTo ask s
  pub unfit : IsUnfit id why s

-- Recovery and what follows it. Where nothing follows, only the states of the book are spoken of; where asks follow, of a book that
-- began as the first one, it is said too that the book may act for them afterwards, and of a failed store that it had a reason.
use Rattle.std.specs.Prelude.{⊤, Bool, true, false, Option, Some, None}
use Rattle.commands.specs.declared.replies.Fault.{Fault}
use Rattle.commands.specs.declared.replies.Fault.TheVariants.{Memory, Store}
use Rattle.ledger.specs.Answer.{State}
use Rattle.recovery.specs.Growing.{LeavesAt}
use Rattle.recovery.specs.Reasons.{MayActThen, MayRecover}
use Rattle.recovery.specs.declared.passes.Came.{Came}
use Rattle.recovery.specs.declared.passes.Came.TheVariants.{Through, Full}
use Rattle.saga_core.specs.Runs.{Asks}

module _ {B : Type 0} (stands : B → State → Type 0) (may : B → B → State → Asks → Type 0) where
  -- the book represents the state, and recovery may go on with it
  abbrev pub MayGoOn : Option (B × Asks) → B → State → Type 0
  MayGoOn None b = stands b
  MayGoOn (Some follows) b = MayRecover (stands b) (may follows.0 b) follows.1

  -- the book represents the state, and recovery is over
  abbrev pub HasCome : Option (B × Asks) → B → State → Type 0
  HasCome None b = stands b
  HasCome (Some follows) b = MayActThen (stands b) (may follows.0 b) follows.1

  -- after a move that was made recovery may go on; after one that found the ledger full it is over
  abbrev pub AfterMove : Option (B × Asks) → B → Bool → State → Type 0
  AfterMove following b true = MayGoOn following b
  AfterMove following b false = HasCome following b

  -- the same of a pass
  abbrev pub AfterPass : Option (B × Asks) → B → Came → State → Type 0
  AfterPass following b (Through made) = MayGoOn following b
  AfterPass following b (Full made) = HasCome following b

module _ {B : Type 0} (stands : B → State → Type 0) (leaves : B → State → State → Type 0) (reason : B → B → State → State → Type 0) where
  -- what is left at a fault between two states, or why the store failed between them
  abbrev pub LeftAt : Option (B × Asks) → B → Fault → State → State → Type 0
  LeftAt None b fault s t = LeavesAt fault (stands b) (leaves b) s t
  LeftAt (Some follows) b Memory s t = ⊤
  LeftAt (Some follows) b Store s t = reason follows.0 b s t

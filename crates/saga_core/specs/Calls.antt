-- What a call leaves of a book, in the terms of the book: one record for every read, and one for a command.
use Rattle.std.specs.Prelude.{◌↔◌, Bool, Option, Result, IsErrOf, IsTrue}
use Rattle.commands.specs.Asks.{Asked}
use Rattle.commands.specs.Request.{Request}
use Rattle.commands.specs.declared.replies.Fault.{Fault}
use Rattle.commands.specs.declared.replies.Fault.TheVariants.{Store}
use Rattle.commands.specs.declared.replies.Reply.{Reply}
use Rattle.saga_core.specs.Books.{Keeps, LeavesNoMore, Replies, MovesOn, KeepsAtMemory, LeavesAtStore}
use Rattle.saga_core.specs.Reasons.{ActsOn, ReadsOn}
use Rattle.ledger.specs.Answer.{State}
use Rattle.saga_core.specs.Runs.{Asks}

module _ {B : Type 0} (is_sound : B → Type 0) (stands : B → State → Type 0) (leaves : B → State → State → Type 0) (has_failed : B → Bool)
    (may : B → B → State → Asks → Type 0) (reason : B → B → State → State → Type 0) (old new : B) where
  -- a read leaves the book as it was, or the book has failed
  pub record Reads {T : Type 0} (result : Result T Fault) : Type 0 where
    pub same : is_sound new → Keeps (stands old) (stands new) result
    pub stop : is_sound new → LeavesNoMore (leaves old) (leaves new)
    pub fails : IsErrOf result Store ↔ IsTrue (has_failed new)
    pub stays_failed : IsTrue (has_failed old) → IsTrue (has_failed new)
    pub stays_left : IsTrue (has_failed old) → LeavesNoMore (leaves old) (leaves new)
    pub may_act : is_sound new → (first : B)
        → ReadsOn (may first old) (may first new) (reason first new) result
    pub sound : is_sound new → is_sound old

  -- a command moves the book on, or leaves it as it was, or the book has failed
  pub record Acts (ask : Option Asked) (asked : Request) (result : Result Reply Fault) : Type 0 where
    pub reply : is_sound new → Replies (stands old) ask asked result
    pub after : is_sound new → MovesOn (stands old) (stands new) ask asked result
    pub memory : is_sound new → KeepsAtMemory (stands old) (stands new) result
    pub store : is_sound new → LeavesAtStore (stands old) (leaves new) ask asked result
    pub fails : IsErrOf result Store ↔ IsTrue (has_failed new)
    pub stays_failed : IsTrue (has_failed old) → IsTrue (has_failed new)
    pub stays_left : IsTrue (has_failed old) → LeavesNoMore (leaves old) (leaves new)
    pub may_act : is_sound new → (first : B)
        → ActsOn (may first old) (may first new) (reason first new) ask asked result
    pub sound : is_sound new → is_sound old

-- What a call leaves of a book that has failed.

module _ {B : Type 0} (is_sound : B → Type 0) (leaves : B → State → State → Type 0) (has_failed : B → Bool) (old new : B) where
  -- a book that has failed stays failed, a crash leaves no more of it than before, and no book becomes sound
  pub record Stays : Type 0 where
    pub stays_failed : IsTrue (has_failed old) → IsTrue (has_failed new)
    pub stays_left : IsTrue (has_failed old) → LeavesNoMore (leaves old) (leaves new)
    pub sound : is_sound new → is_sound old

  -- the same of a call whose fault of the store is this one: after it the book has failed
  pub record Serves {T E : Type 0} (fault : E) (result : Result T E) : Type 0 where
    pub failed : IsErrOf result fault → IsTrue (has_failed new)
    pub stays_failed : IsTrue (has_failed old) → IsTrue (has_failed new)
    pub stays_left : IsTrue (has_failed old) → LeavesNoMore (leaves old) (leaves new)
    pub sound : is_sound new → is_sound old

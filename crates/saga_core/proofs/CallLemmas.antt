-- What calls one after another leave of a book that has failed. For the loops over a book.
use Rattle.std.proofs.Common.{arith, Bool, Option, Result}
use Rattle.commands.specs.Asks.{Asked}
use Rattle.commands.specs.Request.{Request}
use Rattle.commands.specs.declared.replies.Fault.{Fault}
use Rattle.commands.specs.declared.replies.Reply.{Reply}
use Rattle.ledger.specs.Answer.{State}
use Rattle.saga_core.specs.Calls.{Acts, Reads, Serves, Stays}
use Rattle.saga_core.specs.Runs.{Asks}

module _ {B : Type 0} {is_sound : B → Type 0} {leaves : B → State → State → Type 0} {has_failed : B → Bool} where
  -- where there was no call, the book is the same
  pub stays_alone : (b : B) → Stays is_sound leaves has_failed b b
  stays_alone b = grind arith

  -- one call after another leaves what both leave
  pub stays_twice : {a b c : B} → Stays is_sound leaves has_failed a b → Stays is_sound leaves has_failed b c
      → Stays is_sound leaves has_failed a c
  stays_twice one two = grind arith

  -- a call that serves leaves the book so
  pub stays_served : {a b : B} {T E : Type 0} {fault : E} {result : Result T E} → Serves is_sound leaves has_failed a b fault result
      → Stays is_sound leaves has_failed a b
  stays_served call = record { stays_failed = call.stays_failed; stays_left = call.stays_left; sound = call.sound }

  module _ {stands : B → State → Type 0} {may : B → B → State → Asks → Type 0} {reason : B → B → State → State → Type 0} {a b : B} where
    -- and so does a read
    pub stays_read : {T : Type 0} {result : Result T Fault} → Reads is_sound stands leaves has_failed may reason a b result
        → Stays is_sound leaves has_failed a b
    stays_read call = record { stays_failed = call.stays_failed; stays_left = call.stays_left; sound = call.sound }

    -- and a command
    pub stays_acted : {ask : Option Asked} {asked : Request} {result : Result Reply Fault}
        → Acts is_sound stands leaves has_failed may reason a b ask asked result → Stays is_sound leaves has_failed a b
    stays_acted call = record { stays_failed = call.stays_failed; stays_left = call.stays_left; sound = call.sound }

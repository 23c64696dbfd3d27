-- A book of which something is read, or that may act for the command of a message. For what is shown, and for who lays out pages.
use Rattle.std.proofs.Common.{◌≡◌, sym, subst, inl, inr, Bool, Option, None, Result, Ok, Err, IfErr}
use Rattle.ledger.specs.Answer.{State}
use Rattle.saga_core.specs.declared.serve_faults.ServeFault.{ServeFault}
use Rattle.saga_core.specs.declared.serve_faults.ServeFault.TheVariants.{Memory, Read, Store, Write}
use Rattle.saga_core.specs.Calls.{Reads}
use Rattle.saga_core.specs.Runs.{Asks}
use Rattle.desk_http.specs.Pages.{Command}
use Rattle.desk_http.specs.Reasons.{GoesOn, Views, ViewsOn}

module _ (could can : State → Asks → Type 0) (reason : State → State → Type 0) where
  -- a view makes no command
  pub view_goes_on : {T : Type 0} (result : Result T ServeFault) → ViewsOn could can reason result → GoesOn could can reason None result
  view_goes_on (Ok shown) views = views
  view_goes_on (Err Memory) views = inl views
  view_goes_on (Err Store) views = views
  view_goes_on (Err Read) views = views
  view_goes_on (Err Write) views = views

  -- of what was made more is made, or memory runs out
  pub made_goes_on : {R T : Type 0} (command : Option Command) (made : R) (result : Result T ServeFault)
      → GoesOn could can reason command (Ok made) → IfErr result (λ fault. fault ≡ Memory) → GoesOn could can reason command result
  made_goes_on command made (Ok page) goes memory = goes
  made_goes_on {T = T} command made (Err came) goes memory =
      subst (λ f. GoesOn {T = T} could can reason command (Err f)) (sym memory) (inr (λ s later may. inr (goes s later may)))

-- What is made of one read of a book shows what the read does.
module _ {B : Type 0} {is_sound : B → Type 0} {stands : B → State → Type 0} {leaves : B → State → State → Type 0} {has_failed : B → Bool}
    {may : B → B → State → Asks → Type 0} {reason : B → B → State → State → Type 0} {old new : B} where
  pub read_views : {R T : Type 0} {So : State → T → Type 0} {read : R} {made : T}
      → Reads is_sound stands leaves has_failed may reason old new (Ok read)
      → (is_sound new → (s : State) → stands old s → So s made)
      → Views is_sound stands leaves has_failed may reason old new So (Ok made)
  read_views reads shown = record {
    shows = λ sound s stood. (shown sound s stood, reads.same sound s stood);
    serves = record {
      failed = λ fault. cc;
      stays_failed = reads.stays_failed;
      stays_left = reads.stays_left;
      sound = reads.sound;
    };
    may_act = reads.may_act;
  }

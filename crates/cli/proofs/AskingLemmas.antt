-- What was received is the page of the answer that was read. For `tell_asked`.
use Rattle.std.proofs.Common.{◌≡◌, ℕ, Global, List, Option, Vec, refl, subst}
use Rattle.std.specs.Io.KnownBytes.{Appends}
use Rattle.commands.specs.declared.replies.Refusal.TheVariants as refusal
use Rattle.http_pages.specs.Answers.{IsAnswer}
use Rattle.http_pages.specs.Exchanges.{Received}
use Rattle.http_pages.specs.declared.answer_pages.Answer.{Answer}
use Rattle.http_pages.specs.declared.answer_pages.Answer.TheVariants.{Report, NoJourney}
use Rattle.cli.specs.Asking.{RefusesAsked, TellsAsked}

module _ (before after : Option (List ℕ)) (answer : Answer) (got : Received before after (λ came. IsAnswer came answer)) where
  -- a report, whose text was written
  pub told_asked : (held holds : Option (List ℕ)) (text : Vec ℕ Global) → answer ≡ Report text → Appends held holds text.items
      → TellsAsked before after held holds
  told_asked held holds text is tells = record {
    came = got.came;
    read = got.read;
    ended = got.ended;
    so = (text.items, subst (λ a. IsAnswer got.came a) is got.so, tells);
  }

  -- the refusal of an absent journey
  pub refused_asked : answer ≡ NoJourney → RefusesAsked before after refusal.NoJourney
  refused_asked is = (
    refl,
    record {
      came = got.came;
      read = got.read;
      ended = got.ended;
      so = subst (λ a. IsAnswer got.came a) is got.so;
    },
  )

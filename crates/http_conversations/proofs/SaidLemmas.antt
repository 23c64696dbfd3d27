-- The first message of a stream is the one that is said first. For the law.
use Rattle.std.proofs.Common.{◌≡◌, ◌∙◌, ap, subst, refl, ℕ, false, List, ◌∷◌, ◌++◌}
use Rattle.http_messages.specs.Wide as wide
use Rattle.http_messages.specs.Wide.{Wide, WideMessages, ends_with}
use Rattle.http_messages.proofs.WideLemmas.{one_first}
use Rattle.http_messages.specs.WideReading.{rest_of}
use Rattle.http_conversations.specs.Modes.{IsWideText}

-- only a request has something after it
after_request : (w : Wide) (more : List ℕ) → ends_with w ≡ false → rest_of w more ≡ more
after_request wide.NoMethod more on = cc
after_request wide.NoHead more on = cc
after_request (wide.Unread h why) more on = cc
after_request (wide.BadBody h) more on = cc
after_request (wide.Asks h body) more on = refl

pub said_is_first : (bytes more : List ℕ) (w m : Wide) (later : List Wide) → IsWideText bytes w → WideMessages (bytes ++ more) (m ∷ later)
    → (m ≡ w) × (ends_with w ≡ false → WideMessages more later)
said_is_first bytes more w m later is are =
    let first = one_first (bytes ++ more) m w are.0 (rest_of w more) are.1 (is more) in (
      first.0,
      λ on. subst (λ z. WideMessages z later) (first.1 ∙ after_request w more on) (are.3 (ap ends_with first.0 ∙ on)),
    )

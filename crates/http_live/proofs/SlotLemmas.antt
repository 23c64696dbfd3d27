-- A slot of which something changed, and the others.
use Rattle.std.proofs.Common.{◌≡◌, ◌<◌, ◌∙◌, Bor, ℕ, zero, suc, Bool, true, false, List, [], ◌∷◌, ap, arith, codes, if◌then◌else◌, is_some, length, refl, slice_get, slice_set, Option, Some, None}
use Rattle.std.proofs.lemmas.Option.{slice_get_within}
use Rattle.std.specs.Option.{option_copied, option_map_or}
use Rattle.http_log.specs.declared.counting.Metrics.{Metrics}
use Rattle.http_log.specs.declared.endings.Why.{Why}
use Rattle.http_conversations.specs.declared.modes.Arrived.{Arrived}
use Rattle.http_live.specs.Ends.{counted_end, is_taken, why_of}
use Rattle.http_live.specs.Seen.{counted_answer, counted_over, with_answer, with_slot}
use Rattle.http_live.specs.declared.known.Known.{Known}

-- what is put at a place is there
pub slice_get-set_same : {X : Type 0} (xs : List X) (at : ℕ) (x : X) → at < length xs → slice_get (slice_set xs at x) at ≡ Some x
slice_get-set_same [] at x within = absurd (omega arith)
slice_get-set_same (y ∷ xs) zero x within = refl
slice_get-set_same (y ∷ xs) (suc at) x within = slice_get-set_same xs at x (omega arith)

-- whoever is at a slot is there after an answer too
pub is_taken-with_answer : (slots : List Known) (at : ℕ) → is_taken (with_slot with_answer at slots) at ≡ is_taken slots at
is_taken-with_answer slots at = still (slice_get slots at) refl
  where
    still : (found : Option Known) → slice_get slots at ≡ found
        → option_map_or (λ (known : Known). known.is_here)
        (slice_get (option_map_or (λ (known : Known). slice_set slots at (with_answer known)) found slots) at) false
        ≡ option_map_or (λ (known : Known). known.is_here) found false
    still None is = ap (λ (o : Option Known). option_map_or (λ (known : Known). known.is_here) o false) is
    still (Some known) is =
        ap (λ (o : Option Known). option_map_or (λ (known : Known). known.is_here) o false)
        (slice_get-set_same slots at (with_answer known) (slice_get_within slots at known is))

-- a value behind a reference is there if the reference is
pub copied_is_some : (seen : Option (Bor Arrived)) → is_some (option_copied seen) ≡ is_some seen
copied_is_some None = refl
copied_is_some (Some arrived) = refl

-- the end of a connection is counted after the message whose page is lost
pub counted_over_at_end : (slots after : List Known) (at : ℕ) (known : Known) (seen : Option Arrived) (micros : ℕ)
    (metrics counted ended : Metrics) (why : Why)
    → slice_get slots at ≡ Some known → why ≡ why_of (is_some seen) known
    → after ≡ (if is_some seen then with_slot with_answer at slots else slots)
    → counted ≡ counted_answer (slice_get slots at) seen (codes "lost") micros metrics → ended ≡ counted_end after at why counted
    → ended ≡ counted_over (slice_get slots at) seen micros metrics
counted_over_at_end slots after at known seen micros metrics counted ended why here because kept so_far is =
    let taken : is_taken after at ≡ known.is_here =
    ap (λ (s : List Known). is_taken s at) kept
    ∙ (same (is_some seen) ∙ ap (λ (o : Option Known). option_map_or (λ (known : Known). known.is_here) o false) here) in
    rw here (is ∙ (rw taken (rw because (rw so_far (rw here refl)))))
  where
    same : (was_seen : Bool) → is_taken (if was_seen then with_slot with_answer at slots else slots) at ≡ is_taken slots at
    same true = is_taken-with_answer slots at
    same false = refl

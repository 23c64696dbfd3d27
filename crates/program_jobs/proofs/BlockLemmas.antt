-- What reached a writer to which bytes are passed on in blocks. For `blocks` and `showing`.
use Rattle.std.proofs.Common.{◌≡◌, ◌≤◌, ◌+◌, ◌-◌, ◌∙◌, ap, sym, subst, arith, ℕ, List, [], ◌∷◌, ◌++◌, length, take, drop, append-nil, append_assoc, length-append, length-take, drop_of_length-le, min, Option, Some, None}
use Rattle.std.proofs.lemmas.List.{take-append-drop, take-append-le, take-take, take_rest, drop-drop, drop-append-le}
use Rattle.std.proofs.Math.Seq.{take-append-add, take-length}
use Rattle.std.specs.Io.KnownBytes.{Appends, Keeps}
use Rattle.saga_core.specs.Written.{WroteFront}
use Rattle.saga_core.proofs.ByteLemmas.{rest_from}
use Rattle.program_jobs.specs.Blocks.{blocks_known}

-- so many bytes of those that were not passed on were
passes_some : (name passed count : ℕ) (unsent : List ℕ) (before after : Option (List ℕ)) → count ≤ length unsent
    → Appends before after (take count unsent)
    → Keeps (blocks_known name passed unsent before) (blocks_known name (passed + count) (drop count unsent) after)
passes_some name passed count unsent None after within sent = tt
passes_some name passed count unsent (Some xs) None within sent = absurd sent
passes_some name passed count unsent (Some xs) (Some ys) within sent =
    let some : length (take count unsent) ≡ count = length-take count unsent ∙ (omega (arith, within)) in
    let long : length ys ≡ length xs + count =
    ap length sent ∙ length-append xs (take count unsent) ∙ ap (λ n. length xs + n) some in
    let had : length ys - (passed + count) ≡ length xs - passed = omega (arith, long) in
    let all : ys ++ drop count unsent ≡ xs ++ unsent =
    ap (λ l. l ++ drop count unsent) sent ∙ append_assoc xs (take count unsent) (drop count unsent)
    ∙ ap (λ l. xs ++ l) (take-append-drop count unsent) in
    ap (λ n. name ∷ n ∷ ys ++ drop count unsent) had ∙ ap (λ l. name ∷ (length xs - passed) ∷ l) all

pub passes : (name passed count at : ℕ) (items : List ℕ) (before after : Option (List ℕ)) → count ≤ length (rest_from at items)
    → Appends before after (take count (rest_from at items))
    → Keeps (blocks_known name passed (drop at items) before) (blocks_known name (passed + count) (drop (at + count) items) after)
passes name passed count at items before after within sent =
    let rest = take_rest items at in
    subst (λ l. Keeps (blocks_known name passed (drop at items) before) (blocks_known name (passed + count) l after)) (drop-drop count at items)
    (passes_some name passed count (drop at items) before after (subst (λ l. count ≤ length l) rest within)
    (subst (λ l. Appends before after (take count l)) rest sent))

-- more bytes were gathered
pub gathers : (name passed at : ℕ) (items bytes : List ℕ) (held : Option (List ℕ)) → at ≤ length items
    → Appends (blocks_known name passed (drop at items) held) (blocks_known name passed (drop at (items ++ bytes)) held) bytes
gathers name passed at items bytes None within = tt
gathers name passed at items bytes (Some xs) within =
    ap (λ l. name ∷ (length xs - passed) ∷ l)
    (ap (λ l. xs ++ l) (drop-append-le at items bytes within) ∙ sym (append_assoc xs (drop at items) bytes))

-- what was kept twice
pub keeps_then : (x y z : Option (List ℕ)) → Keeps x y → Keeps y z → Keeps x z
keeps_then x y z first second = grind arith

-- all was passed on
pub emptied : (name passed at : ℕ) (items : List ℕ) (held : Option (List ℕ)) → length items ≤ at
    → Keeps (blocks_known name passed (drop at items) held) (blocks_known name passed [] held)
emptied name passed at items None all = tt
emptied name passed at items (Some xs) all = ap (λ l. name ∷ (length xs - passed) ∷ xs ++ l) (sym (drop_of_length-le items all))

-- the writer was flushed
pub flushes : (name passed : ℕ) (unsent : List ℕ) (before after : Option (List ℕ)) → Keeps before after
    → Keeps (blocks_known name passed unsent before) (blocks_known name passed unsent after)
flushes name passed unsent before after kept = grind arith

-- the first of the bytes, and the second
abbrev first_of : List ℕ → ℕ
first_of [] = 0
first_of (x ∷ later) = x

abbrev second_of : List ℕ → ℕ
second_of [] = 0
second_of (x ∷ []) = 0
second_of (x ∷ y ∷ later) = y

-- By the reference `name` it was written to a writer that had `held`, and by the reference `now` to one that has `here` at last.
-- What the first writer has at last is `there`: the same, if the references are.
module _ (name now passed : ℕ) (begun unsent bytes : List ℕ) (there : Option (List ℕ)) (none : begun ≡ []) where
  -- where all was passed on, just the bytes that were written reached it
  pub reached : (held here : Option (List ℕ)) → (now ≡ name → there ≡ here) → unsent ≡ []
      → Appends (blocks_known name 0 begun held) (blocks_known now passed unsent here) bytes → Appends held there bytes
  reached None here is sent wrote = tt
  reached (Some xs) None is sent wrote = absurd wrote
  reached (Some xs) (Some ys) is sent wrote =
      let all : ys ++ unsent ≡ (xs ++ begun) ++ bytes = ap (drop 2) wrote in
      let got : ys ≡ xs ++ bytes =
      sym (append-nil ys) ∙ ap (λ l. ys ++ l) (sym sent) ∙ all ∙ ap (λ l. (xs ++ l) ++ bytes) none ∙ ap (λ l. l ++ bytes) (append-nil xs) in
      subst (λ z. Appends (Some xs) z bytes) (sym (is (ap first_of wrote))) got

-- in any case a prefix of them did
pub reached_front : (name now passed part : ℕ) (begun unsent text : List ℕ) (there : Option (List ℕ)) → begun ≡ []
    → (held here : Option (List ℕ)) → (now ≡ name → there ≡ here)
    → Appends (blocks_known name 0 begun held) (blocks_known now passed unsent here) (take part text) → WroteFront held there text
reached_front name now passed part begun unsent text there none None here is wrote = (0, tt)
reached_front name now passed part begun unsent text there none (Some xs) None is wrote = absurd wrote
reached_front name now passed part begun unsent text there none (Some xs) (Some ys) is wrote =
    let told = take part text in
    let all : ys ++ unsent ≡ xs ++ told =
    ap (drop 2) wrote ∙ ap (λ l. (xs ++ l) ++ told) none ∙ ap (λ l. l ++ told) (append-nil xs) in
    let had : length ys - passed ≡ length xs = ap second_of wrote ∙ (omega arith) in
    let k = length ys - length xs in
    let long : length ys + length unsent ≡ length xs + min part (length text) =
    sym (length-append ys unsent) ∙ ap length all ∙ length-append xs told ∙ ap (λ n. length xs + n) (length-take part text) in
    let sum : length ys ≡ length xs + k = omega (arith, had) in
    let few : k ≤ part = omega (arith, long, had) in
    let got : ys ≡ xs ++ take k text =
    sym (take-append-le (length ys) ys unsent (omega arith) ∙ take-length ys) ∙ ap (take (length ys)) all
    ∙ ap (λ n. take n (xs ++ told)) sum ∙ take-append-add xs told k ∙ ap (λ l. xs ++ l) (take-take k part text few) in
    (k, subst (λ z. Appends (Some xs) z (take k text)) (sym (is (ap first_of wrote))) got)

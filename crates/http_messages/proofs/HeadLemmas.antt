-- What httparse reads of a decided prefix. For Head::read and first_message.
use Rattle.std.proofs.Common.{◌≡◌, ◌∙◌, ap, sym, ℕ, ◌≤◌, List, [], ◌++◌, length, take, drop, take-append-drop, append-nil, append_assoc, arith, Some, true, inl, inr, length-append, ◌==◌}
use Rattle.std.proofs.lemmas.Bool.{cases_lt, or_right}
use Rattle.std.proofs.lemmas.List.{length-take-le, take_all, take-take, length-take, length-map}
use Rattle.httparse.specs.declared.spans.HeaderSpan.{HeaderSpan}
use Rattle.httparse.specs.declared.spans.RequestSpans.{RequestSpans}
use Rattle.httparse.specs.Grammar.{RequestHead, print_request}
use Rattle.httparse.specs.Spans.{IsRequestAt}
use Rattle.http_messages.specs.Heads.{IsHead, most_fields, most_head_bytes}
use Rattle.http_messages.specs.Messages.{ends_in_empty_line, first_told, is_told}
use Rattle.http_messages.specs.Places.{IsToldAt}
use Rattle.http_messages.specs.Fields.{IsHeadWith, parts_at}
use Rattle.http_messages.proofs.ToldLemmas.{find_front, head_is_told}

-- the shortest decided prefix is the first one, whatever follows
pub first_of_told : (bytes more : List ℕ) (end : ℕ)
    → IsToldAt bytes end
    → first_told (bytes ++ more) ≡ Some (take end bytes)
first_of_told bytes more end at =
    let count = length-take-le end bytes at.within in
    let whole : bytes ++ more ≡ take end bytes ++ (drop end bytes ++ more) =
    ap (λ all. all ++ more) (sym (take-append-drop end bytes)) ∙ append_assoc (take end bytes) (drop end bytes) more in
    ap first_told whole
    ∙ find_front is_told (take end bytes) (drop end bytes ++ more) at.told
    (λ k less. ap is_told (take-take k end bytes (omega arith)) ∙ at.first k (omega arith))

-- so it is of the bytes themselves
pub told_here : (bytes : List ℕ) (end : ℕ) → IsToldAt bytes end → first_told bytes ≡ Some (take end bytes)
told_here bytes end at = rw (append-nil bytes) at (first_of_told bytes [] end at)

-- a prefix that is as long as a head may be is decided
told_at_most : (bytes : List ℕ) → length bytes ≡ most_head_bytes → is_told bytes ≡ true
told_at_most bytes full = or_right (ends_in_empty_line bytes) _ (ap (λ n. n == most_head_bytes) full)

-- the first decided prefix has no more bytes than a head may have
pub told_is_short : (bytes : List ℕ) (end : ℕ) → IsToldAt bytes end → end ≤ most_head_bytes
told_is_short bytes end at = elim (cases_lt most_head_bytes end) [
  | inl past ↦
      let sooner = at.first most_head_bytes past in
      let there = told_at_most (take most_head_bytes bytes) (length-take-le most_head_bytes bytes (omega (arith, at.within))) in
      cc
  | inr inside ↦ inside
]

module _ (front : List ℕ) (fields : List HeaderSpan) (line : RequestSpans) (told : IsToldAt front (length front))
    (room : length fields ≡ most_fields) (h : RequestHead) (at : IsRequestAt front fields line h) where
  -- the head has no more fields than there is room for
  few_fields : length h.fields ≤ most_fields
  few_fields = grind (arith, length-take, length-map)

  -- what was read of the prefix is a head
  read_head : IsHead (print_request h) h
  read_head = grind (arith, append-nil, told_is_short, length-append, few_fields)

  -- the head is the whole prefix, which is not decided before
  whole_front : print_request h ≡ front
  whole_front =
      cc (
        ap first_told at.reads.1 ∙ head_is_told (print_request h) (drop line.len front) h read_head,
        told_here front (length front) told ∙ ap Some (take_all (length front) front (omega arith)),
      )

  -- the prefix is that head, and its parts stand where they were found
  pub is_head_with : IsHeadWith front (parts_at front fields line)
  is_head_with = (h, grind (arith, whole_front, read_head), cc (at.method, at.path, at.version, at.fields))

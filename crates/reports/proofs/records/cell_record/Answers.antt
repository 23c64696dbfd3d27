-- The pieces that were appended make the record.
use Rattle.std.proofs.Common.{◌∙◌, refl, ap, arith, List, ℕ, ◌++◌, codes, decimal}
use Rattle.allotment.specs.Places.{held_of}
use Rattle.allotment.proofs.PlainLemmas.{code_plain, decimal_plain, night_plain}
use Rattle.reports.proofs.PlainLemmas.{appended, record_made}
use Rattle.reports.proofs.records.cell_record.Goals as goal

pub returns : goal.returns
returns c =
    let cell = c.args.cell.now in
    let places = c.args.places.now in
    let held = c.held.ensures in
    let made =
    appended (codes ",") c.in_ok-put_count-3.ensures.adds refl
    (appended (codes ",") c.in_ok-put_count-2.ensures.adds (ap decimal held.held)
    (appended (codes ",") c.in_ok-put_count.ensures.adds refl
    (appended (codes ",") c.in_ok-put_piece-4.ensures.adds c.night_digits.ensures.text
    (appended (codes ",") c.in_ok-put_piece-3.ensures.adds (c.as_bytes-3.ensures.value ∙ c.as_str-2.ensures.text)
    (appended (codes ",") c.in_ok-put_piece-2.ensures.adds (c.as_bytes-2.ensures.value ∙ c.as_str.ensures.text)
    (appended (codes "") c.in_ok-put_piece.ensures.adds (c.as_bytes.ensures.value ∙ c.word.ensures) c.in_ok-line.ensures.items)))))) in
    record {
      fields = c.in_ok-extend_from_slice.ensures.items ∙ ap (λ (t : List ℕ). t ++ codes "\r\n") made
          ∙ record_made (cell, places) (night_plain cell.night c.night_digits.ensures.limits)
          (code_plain cell.product c.as_str-2.ensures.limits) (code_plain cell.supplier c.as_str.ensures.limits)
          (decimal_plain places.allot (omega (arith, held.bounded)))
          (decimal_plain (held_of places) (omega (arith, held.held, held.within, held.bounded)))
          (decimal_plain places.free (omega (arith, held.within, held.bounded)));
    }

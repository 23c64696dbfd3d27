-- The pieces that were appended make the line.
use Rattle.std.proofs.Common.{◌∙◌, refl, ap, List, ℕ, ◌++◌, codes, decimal}
use Rattle.allotment.proofs.PlainLemmas.{code_plain, night_plain}
use Rattle.reports.proofs.PlainLemmas.{appended, object_made}
use Rattle.reports.proofs.objects.cell_object.Goals as goal

pub returns : goal.returns
returns c =
    let cell = c.args.cell.now in
    let made =
    appended (codes "\",\"supplier\":\"") c.in_ok-put_piece-4.ensures.adds (c.as_bytes-3.ensures.value ∙ c.as_str-2.ensures.text)
    (appended (codes "\",\"product\":\"") c.in_ok-put_piece-3.ensures.adds (c.as_bytes-2.ensures.value ∙ c.as_str.ensures.text)
    (appended (codes "\",\"night\":\"") c.in_ok-put_piece-2.ensures.adds c.night_digits.ensures.text
    (appended (codes ",\"kind\":\"") c.in_ok-put_piece.ensures.adds (c.as_bytes.ensures.value ∙ c.word.ensures)
    (appended (codes ",\"held\":") c.in_ok-put_count-3.ensures.adds (ap decimal c.held.ensures.held)
    (appended (codes ",\"free\":") c.in_ok-put_count-2.ensures.adds refl
    (appended (codes "{\"allot\":") c.in_ok-put_count.ensures.adds refl c.in_ok-line.ensures.items)))))) in
    record {
      line = c.in_ok-extend_from_slice.ensures.items ∙ ap (λ (t : List ℕ). t ++ codes "\"}\n") made
          ∙ object_made (cell, c.args.places.now) (night_plain cell.night c.night_digits.ensures.limits)
          (code_plain cell.product c.as_str.ensures.limits) (code_plain cell.supplier c.as_str-2.ensures.limits);
    }

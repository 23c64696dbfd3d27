-- The columns, one after another, make the line.
use Rattle.std.proofs.Common.{◌∙◌, ◌≤◌, ℕ, List, refl, subst, arith, replicate, decimal}
use Rattle.allotment.specs.Nights.{night_text}
use Rattle.allotment.specs.Places.{held_of}
use Rattle.allotment.specs.Texts.{kind_word}
use Rattle.reports.specs.Columns.{PutsDigits, PutsText}
use Rattle.reports.proofs.ColumnLemmas.{code_short, columns_written, kind_short, places_short}
use Rattle.reports.proofs.lines.stock_line.Goals as goal

-- each number of places has at most six digits
pub put_number-requires-clause-room : goal.put_number-requires-clause-room
put_number-requires-clause-room c = omega (arith, places_short c.args.places.now.allot c.held-held.ensures.bounded)

pub put_number-requires-2-clause-room : goal.put_number-requires-2-clause-room
put_number-requires-2-clause-room c =
    let held = c.held-held.ensures in
    let held_few : c.held-held.result ≤ 100000 = omega (arith, held.held, held.within, held.bounded) in
    omega (arith, places_short c.held-held.result held_few)

pub put_number-requires-3-clause-room : goal.put_number-requires-3-clause-room
put_number-requires-3-clause-room c =
    let held = c.held-held.ensures in
    let held_few : c.held-held.result ≤ 100000 = omega (arith, held.held, held.within, held.bounded) in
    let free_few : c.args.places.now.free ≤ 100000 = omega (arith, held.within, held.bounded) in
    omega (arith, places_short c.held-held.result held_few, places_short c.args.places.now.free free_few)

pub returns : goal.returns
returns c =
    let cell = c.args.cell.now in
    let places = c.args.places.now in
    let held = c.held-held.ensures in
    let held_few : held_of places ≤ 100000 = omega (arith, held.within, held.bounded) in
    let free_few : places.free ≤ 100000 = omega (arith, held.within, held.bounded) in
    let bare : List ℕ = replicate 59 32 in
    record {
      line = columns_written (kind_word cell.kind) cell.supplier cell.product (night_text cell.night)
          (decimal places.allot) (decimal (held_of places)) (decimal places.free)
          bare c.put_text.new.line c.put_text-2.new.line c.put_text-3.new.line c.put_text-4.new.line
          c.put_number.new.line c.put_number-2.new.line c.put_number-3.new.line c.put_text-5.new.line
          (kind_short cell.kind) (code_short cell.supplier c.as_str.ensures.limits) (code_short cell.product c.as_str-2.ensures.limits) refl
          (places_short places.allot held.bounded) (places_short (held_of places) held_few) (places_short places.free free_few)
          refl
          (subst (PutsText bare c.put_text.new.line 0) (c.as_bytes.ensures.value ∙ c.word.ensures) c.put_text.ensures.text)
          (subst (PutsText c.put_text.new.line c.put_text-2.new.line 9) (c.as_bytes-2.ensures.value ∙ c.as_str.ensures.text) c.put_text-2.ensures.text)
          (subst (PutsText c.put_text-2.new.line c.put_text-3.new.line 18) (c.as_bytes-3.ensures.value ∙ c.as_str-2.ensures.text) c.put_text-3.ensures.text)
          (subst (PutsText c.put_text-3.new.line c.put_text-4.new.line 27) c.night_digits.ensures.text c.put_text-4.ensures.text)
          c.put_number.ensures.number
          (subst (λ n. PutsDigits c.put_number.new.line c.put_number-2.new.line 51 (decimal n)) held.held c.put_number-2.ensures.number)
          c.put_number-3.ensures.number c.put_text-5.ensures.text;
    }

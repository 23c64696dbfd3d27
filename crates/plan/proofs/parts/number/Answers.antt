use Rattle.std.proofs.Common.{◌≡◌, ap, sym, ◌∙◌, Some, arith}
use Rattle.std.specs.List.{slice_get}
use Rattle.std.proofs.lemmas.Result.{MatchResult-at_ok, MatchResult-at_err}
use Rattle.plan.proofs.NumberLemmas.{small_number, small_number_other, small_number_parsed}
use Rattle.plan.proofs.parts.number.Goals as goal
use Rattle.plan.proofs.parts.number.Goals.{then-first-lt49-via-then-first-lt49, then-first-lt49-via-else-first-lt49+then-first-gt57}

-- the first byte is none of 1 to 9
pub returns-then-first-lt49 : goal.returns-then-first-lt49
returns-then-first-lt49 c =
    grind (arith, then-first-lt49-via-then-first-lt49, small_number_other, then-first-lt49-via-else-first-lt49+then-first-gt57)

-- the parser reads digits alone, where the first byte is one
pub returns-in-Ok : goal.returns-in-Ok
returns-in-Ok c =
    let first : slice_get c.args.text.now 0 ≡ Some c.in-Some.first.now =
    ap (λ z. slice_get z 0) (sym c.as_bytes.ensures.value) ∙ sym c.in-Some.ensures.value in
    let read = small_number_parsed c.args.text.now c.parse.result c.in-Some.first.now first
    c.if-first-lt49.false c.if-first-gt57.false c.parse.ensures.value.0 in
    record {
      number = c.from.ensures
          ∙ sym (MatchResult-at_ok (λ n. small_number c.args.text.now ≡ n) _ c.in-Ok.number c.in-Ok.is read);
    }

-- what the parser refuses is no number up to 255
pub returns-in-Err : goal.returns-in-Err
returns-in-Err c =
    let first : slice_get c.args.text.now 0 ≡ Some c.in-Some.first.now =
    ap (λ z. slice_get z 0) (sym c.as_bytes.ensures.value) ∙ sym c.in-Some.ensures.value in
    let read = small_number_parsed c.args.text.now c.parse.result c.in-Some.first.now first
    c.if-first-lt49.false c.if-first-gt57.false c.parse.ensures.value.0 in
    record {
      number = sym (MatchResult-at_err _ (λ _. small_number c.args.text.now ≡ 0) c.in-Err.field-0 c.in-Err.is read);
    }

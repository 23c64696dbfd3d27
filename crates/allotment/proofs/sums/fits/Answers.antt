use Rattle.std.proofs.Common.{◌≡◌, ◌+◌, ◌∙◌, ap, arith, rules, tests, ℕ, zero, suc, ◌∷◌, refl, add-one}
use Rattle.std.specs.List.{list_all, range_with_len}
use Rattle.std.proofs.lemmas.Iterator.{YieldsList-from_range}
use Rattle.std.proofs.lemmas.Iterator.Search.{all_from_yields_List}
use Rattle.allotment.specs.Places.{has_free}
use Rattle.allotment.proofs.sums.fits.Goals as goal
use Rattle.allotment.specs.Cells.{numbers_from}

-- so many consecutive numbers are those that a range goes through
range_with_len-numbers_from : (first n : ℕ) → range_with_len first n ≡ numbers_from first n
range_with_len-numbers_from first zero = refl
range_with_len-numbers_from first (suc n) =
    ap (λ next. first ∷ range_with_len next n) (add-one first)
    ∙ ap (λ later. first ∷ later) (range_with_len-numbers_from (suc first) n)

-- the range goes through the nights of the want
pub returns : goal.returns
returns c =
    let rows = c.args.rows.now in
    let want = c.args.want.now in
    let end = c.day-first.result + c.from.result in
    let count : c.from-count.result ≡ want.count = cc in
    let first : c.day-first.result ≡ want.first = cc in
    all_from_yields_List (has_free rows c.from-count.result) _ _ c.all.result c.all.ensures.ran
    (YieldsList-from_range c.day-first.result end want.nights (cc) (omega arith)) (λ x b q k. search (rules, tests))
    ∙ ap (λ n. list_all (has_free rows n) (range_with_len c.day-first.result want.nights)) count
    ∙ ap (λ day. list_all (has_free rows want.count) (range_with_len day want.nights)) first
    ∙ ap (list_all (has_free rows want.count)) (range_with_len-numbers_from want.first want.nights)

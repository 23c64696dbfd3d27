use Rattle.std.proofs.Common.{◌∙◌, sym, ap, Ok, Err}
use Rattle.std.proofs.lemmas.Result.{err_from_is_err_and}
use Rattle.allotment.proofs.MakingLemmas.{both_codes, night_read, no_night, made_no_night, made_no_nights, made_no_count, made_whole, parts_same}
use Rattle.allotment.proofs.wants.Want.new.Goals as goal

-- both codes were read, and there is no first night
pub returns-in_err-first : goal.returns-in_err-first
returns-in_err-first c =
    let codes = both_codes c.args.supplier.now c.args.product.now c.parse.ensures c.in_ok-supplier.ensures.value c.parse-2.ensures c.in_ok-product.ensures.value in
    let none = no_night _ _ c.in_err-first.ensures in
    let told = err_from_is_err_and c.from_residual-in_err-first.result c.from_residual-in_err-first.ensures.1 in
    told.1 ∙ ap Err (told.2 ∙ none.1) ∙ sym (made_no_night c.args.kind c.args.supplier.now c.args.product.now c.args.first.now c.args.nights c.args.count codes.both none.0)

-- the first night was read too, but not so many from it on
pub returns-then-not-are_nights : goal.returns-then-not-are_nights
returns-then-not-are_nights c =
    let codes = both_codes c.args.supplier.now c.args.product.now c.parse.ensures c.in_ok-supplier.ensures.value c.parse-2.ensures c.in_ok-product.ensures.value in
    let night = night_read _ _ c.in_ok-first.ensures in
    sym (made_no_nights c.args.kind c.args.supplier.now c.args.product.now c.args.first.now c.args.nights c.args.count codes.both _ night (sym c.are_nights.ensures ∙ c.if-not-are_nights.true))

-- only the count is wrong
pub returns-then-not-is_count : goal.returns-then-not-is_count
returns-then-not-is_count c =
    let codes = both_codes c.args.supplier.now c.args.product.now c.parse.ensures c.in_ok-supplier.ensures.value c.parse-2.ensures c.in_ok-product.ensures.value in
    let night = night_read _ _ c.in_ok-first.ensures in
    sym (made_no_count c.args.kind c.args.supplier.now c.args.product.now c.args.first.now c.args.nights c.args.count codes.both _ night
    (sym c.are_nights.ensures ∙ c.if-not-are_nights.false) (sym c.is_count.ensures ∙ c.if-not-is_count.true))

-- nothing is wrong, and the want says what was read
pub returns : goal.returns
returns c =
    let codes = both_codes c.args.supplier.now c.args.product.now c.parse.ensures c.in_ok-supplier.ensures.value c.parse-2.ensures c.in_ok-product.ensures.value in
    let night = night_read _ _ c.in_ok-first.ensures in
    ap Ok (parts_same c.args.kind codes.supplier codes.product c.in_ok-first.first c.args.nights c.args.count)
    ∙ sym (made_whole c.args.kind c.args.supplier.now c.args.product.now c.args.first.now c.args.nights c.args.count codes.both _ night
    (sym c.are_nights.ensures ∙ c.if-not-are_nights.false) (sym c.is_count.ensures ∙ c.if-not-is_count.false))

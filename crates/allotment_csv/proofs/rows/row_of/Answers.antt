use Rattle.std.proofs.Common.{sym, ◌∙◌}
use Rattle.allotment_csv.proofs.RowLemmas.{no_kind, no_supplier, no_product, no_night, no_places, found_nothing, found_value}
use Rattle.allotment.specs.Nights.{night_in}
use Rattle.allotment.specs.declared.wants.Bad.TheVariants as bad
use Rattle.allotment_csv.proofs.rows.row_of.Goals as goal

-- the first text is no kind
pub returns-in_default : goal.returns-in_default
returns-in_default c =
    no_kind c.args.fields.now.kind.now c.args.fields.now.supplier.now c.args.fields.now.product.now c.args.fields.now.night.now c.args.fields.now.places.now (sym c.in_default.ensures)

-- the supplier is no code
pub returns-in_default-parse : goal.returns-in_default-parse
returns-in_default-parse c =
    no_supplier c.args.fields.now.kind.now c.args.fields.now.supplier.now c.args.fields.now.product.now c.args.fields.now.night.now c.args.fields.now.places.now
    c.in-Some.kind (sym c.in-Some.ensures) (sym c.in_default-parse.ensures)

-- the product is no code
pub returns-in_default-parse-2 : goal.returns-in_default-parse-2
returns-in_default-parse-2 c =
    no_product c.args.fields.now.kind.now c.args.fields.now.supplier.now c.args.fields.now.product.now c.args.fields.now.night.now c.args.fields.now.places.now
    c.in-Some.kind (sym c.in-Some.ensures) (sym c.in_default-parse-2.ensures)

-- the text is no night
pub returns-in_default-parse-3 : goal.returns-in_default-parse-3
returns-in_default-parse-3 c =
    no_night c.args.fields.now.kind.now c.args.fields.now.supplier.now c.args.fields.now.product.now c.args.fields.now.night.now c.args.fields.now.places.now
    c.in-Some.kind c.in-Some-parse.supplier c.in-Some-parse-2.product (sym c.in-Some.ensures)
    (sym c.in-Some-parse.ensures) (sym c.in-Some-parse-2.ensures)
    (found_nothing (night_in c.args.fields.now.night.now) bad.Night c.in_default-parse-3.field-0
    (sym c.in_default-parse-3.is ∙ c.parse-3.ensures))

-- the text is no number of places
pub returns-in_default-places_of : goal.returns-in_default-places_of
returns-in_default-places_of c =
    no_places c.args.fields.now.kind.now c.args.fields.now.supplier.now c.args.fields.now.product.now c.args.fields.now.night.now c.args.fields.now.places.now
    c.in-Some.kind c.in-Some-parse.supplier c.in-Some-parse-2.product c.in-Ok.night (sym c.in-Some.ensures)
    (sym c.in-Some-parse.ensures) (sym c.in-Some-parse-2.ensures)
    (found_value (night_in c.args.fields.now.night.now) bad.Night c.in-Ok.night c.in-Ok.ensures) (sym c.in_default-places_of.ensures.places)

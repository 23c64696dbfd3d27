use Rattle.std.proofs.Common.{◌∙◌, sym, ap, arith, option_map}
use Rattle.csv.specs.Records.{fields_of}
use Rattle.allotment_csv.specs.Fields.{texts}
use Rattle.allotment_csv.proofs.FieldLemmas.{no_shape_at, has_texts}
use Rattle.allotment_csv.proofs.fields.fields_in.Goals as goal

-- the field 0 is no text
pub returns-in_err-kind : goal.returns-in_err-kind
returns-in_err-kind c =
    ap (option_map texts) c.from_residual.ensures
    ∙ sym (no_shape_at (fields_of c.args.record.now) 0 (omega arith) (sym c.len.ensures ∙ c.if-len-ne5.false)
    (sym c.in_err-kind.ensures))

-- the field 1 is no text
pub returns-in_err-supplier : goal.returns-in_err-supplier
returns-in_err-supplier c =
    ap (option_map texts) c.from_residual-in_err-supplier.ensures
    ∙ sym (no_shape_at (fields_of c.args.record.now) 1 (omega arith) (sym c.len.ensures ∙ c.if-len-ne5.false)
    (sym c.in_err-supplier.ensures))

-- the field 2 is no text
pub returns-in_err-product : goal.returns-in_err-product
returns-in_err-product c =
    ap (option_map texts) c.from_residual-in_err-product.ensures
    ∙ sym (no_shape_at (fields_of c.args.record.now) 2 (omega arith) (sym c.len.ensures ∙ c.if-len-ne5.false)
    (sym c.in_err-product.ensures))

-- the field 3 is no text
pub returns-in_err-night : goal.returns-in_err-night
returns-in_err-night c =
    ap (option_map texts) c.from_residual-in_err-night.ensures
    ∙ sym (no_shape_at (fields_of c.args.record.now) 3 (omega arith) (sym c.len.ensures ∙ c.if-len-ne5.false)
    (sym c.in_err-night.ensures))

-- the field 4 is no text
pub returns-in_err-places : goal.returns-in_err-places
returns-in_err-places c =
    ap (option_map texts) c.from_residual-in_err-places.ensures
    ∙ sym (no_shape_at (fields_of c.args.record.now) 4 (omega arith) (sym c.len.ensures ∙ c.if-len-ne5.false)
    (sym c.in_err-places.ensures))

-- all five fields are text
pub returns : goal.returns
returns c =
    sym (has_texts (fields_of c.args.record.now) c.in_ok-kind.kind.now c.in_ok-supplier.supplier.now
    c.in_ok-product.product.now c.in_ok-night.night.now c.in_ok-places.places.now
    (sym c.len.ensures ∙ c.if-len-ne5.false) (sym c.in_ok-kind.ensures) (sym c.in_ok-supplier.ensures)
    (sym c.in_ok-product.ensures) (sym c.in_ok-night.ensures) (sym c.in_ok-places.ensures))

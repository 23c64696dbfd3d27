use Rattle.std.proofs.Common.{sym, ◌≡◌, ◌∙◌, ap, ℕ, Bool, true, List, [], ◌∷◌, ◌++◌, Option, Some, None, slice_get, is_some}
use Rattle.allotment_csv.proofs.wrong_fields.wrong_of.Goals as goal
use Rattle.allotment.specs.Limits.{is_code}
use Rattle.allotment.specs.Making.{unless}
use Rattle.allotment.specs.Nights.{night_in}
use Rattle.allotment.specs.Texts.{keep_if, kind_of_word, places_in}
use Rattle.allotment.specs.declared.codes.Kind.{Kind}
use Rattle.allotment.proofs.TestLemmas.{keep_if_none}
use Rattle.allotment_csv.specs.WrongFields.{FieldText, wrong_fields}
use Rattle.allotment_csv.specs.declared.wrong_fields.Column.TheVariants as column

-- the first wrong field, by whether the kind and the supplier are what their columns hold
abbrev first_by : (kind supplier product night places : List ℕ) → Bool → Bool → Option FieldText
first_by kind supplier product night places a b =
    slice_get (unless a (column.Kind, kind) ++ unless b (column.Supplier, supplier)
    ++ unless (is_code product) (column.Product, product) ++ unless (is_some (night_in night)) (column.Night, night)
    ++ unless (is_some (places_in places)) (column.Places, places)) 0

-- the kind is one, and the supplier is no code
wrong_supplier : (kind supplier product night places : List ℕ) (k : Kind) → kind_of_word kind ≡ Some k
    → keep_if is_code supplier ≡ None
    → slice_get (wrong_fields (kind ∷ supplier ∷ product ∷ night ∷ places ∷ [])) 0 ≡ Some (column.Supplier, supplier)
wrong_supplier kind supplier product night places k is none =
    ap (λ b. first_by kind supplier product night places b (is_code supplier)) (ap is_some is)
    ∙ ap (λ b. first_by kind supplier product night places true b) (keep_if_none is_code supplier none)

-- the kind is one, and the supplier is no code
pub returns-in_default-parse : goal.returns-in_default-parse
returns-in_default-parse c =
    sym (wrong_supplier c.args.fields.now.kind.now c.args.fields.now.supplier.now c.args.fields.now.product.now
    c.args.fields.now.night.now c.args.fields.now.places.now c.in-Some._kind (sym c.in-Some.ensures)
    (sym c.in_default-parse.ensures))

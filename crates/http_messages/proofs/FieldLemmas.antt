-- The values of the fields of a name, one field after another. For find and closes.
use Rattle.std.proofs.Common.{◌≡◌, ◌∙◌, ap, sym, refl, ℕ, ◌+◌, ◌<◌, Bool, true, false, List, ◌∷◌, map, length, drop, get_or}
use Rattle.std.proofs.lemmas.List.{at_drop_more}
use Rattle.httparse.specs.declared.spans.HeaderSpan.{HeaderSpan}
use Rattle.httparse.specs.Spans.{header_bytes, span_bytes}
use Rattle.http_messages.specs.Heads.{Named, is_alike, values_named}

-- the values of this name in these fields
abbrev pub values_in : List ℕ → List ℕ → List HeaderSpan → List (List ℕ)
values_in front name fields = values_named name (map (header_bytes front) fields)

-- the values of one more field
abbrev values_and : Bool → List ℕ → List (List ℕ) → List (List ℕ)
values_and true value values = value ∷ values
values_and false value values = values

values_cons : (b : Bool) (name : List ℕ) (f : Named) (later : List Named) → is_alike f.0 name ≡ b
    → values_named name (f ∷ later) ≡ values_and b f.1 (values_named name later)
values_cons true name f later is = rw is refl
values_cons false name f later is = rw is refl

-- a field of this name has the first value of those that are left, and another field none of them
pub values_from : (front name : List ℕ) (fields : List HeaderSpan) (i : ℕ) (d : HeaderSpan) (b : Bool) (said : List ℕ) → i < length fields
    → said ≡ span_bytes front (get_or fields i d).name → b ≡ is_alike said name
    → values_in front name (drop i fields) ≡ values_and b (span_bytes front (get_or fields i d).value) (values_in front name (drop (i + 1) fields))
values_from front name fields i d b said inside is alike =
    at_drop_more (values_in front name) fields i d inside
    ∙ values_cons b name (header_bytes front (get_or fields i d)) (map (header_bytes front) (drop (i + 1) fields))
    (ap (λ z. is_alike z name) (sym is) ∙ sym alike)

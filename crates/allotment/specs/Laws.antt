-- How values and their texts correspond.
use Rattle.std.specs.Prelude.{◌≡◌, ◌↔◌, Bool, true, IsTrue, Option, Some}

-- every value, of a type whose invariant keeps all limits
abbrev pub each_one : {X : Type 0} → X → Bool
each_one x = true

-- a text is read as a value exactly if the value keeps the limits and this is its text
abbrev pub HasOneText : {X T : Type 0} → (X → Bool) → (X → T) → (T → Option X) → Type 0
HasOneText {X} {T} is_good text_of value_in =
    (text : T) (x : X) → (value_in text ≡ Some x) ↔ (IsTrue (is_good x) × (text ≡ text_of x))

-- two different values that keep the limits have different texts
abbrev pub HasTextOfItsOwn : {X T : Type 0} → (X → Bool) → (X → T) → Type 0
HasTextOfItsOwn {X} {T} is_good text_of =
    (x y : X) → IsTrue (is_good x) → IsTrue (is_good y) → text_of x ≡ text_of y → x ≡ y

-- One more text is appended to those that were printed. For the printers of options and of steps.
use Rattle.std.proofs.Common.{◌≡◌, ℕ, ◌+◌, ◌<◌, ◌≤◌, List, [], ◌∷◌, ◌++◌, map, length, take, refl, ◌∙◌, arith, append_assoc, get_or, length-take-le}
use Rattle.std.proofs.Math.Seq.{take-suc}
use Rattle.std.proofs.lemmas.List.{length-map, map-append}
use Rattle.allotment.specs.Texts.{joined}

-- one more text is joined after the separator
joined_more : (c : ℕ) (ts : List (List ℕ)) (t : List ℕ) → 1 ≤ length ts → joined c (ts ++ t ∷ []) ≡ joined c ts ++ c ∷ t
joined_more c [] t some = absurd (omega arith)
joined_more c (x ∷ []) t some = refl
joined_more c (x ∷ y ∷ ts) t some = grind (arith, append_assoc, joined_more c (y ∷ ts) t)

-- the images up to an index, and one more
pub mapped_more : {X Y : Type 0} (f : X → Y) (xs : List X) (k : ℕ) (x : X) → k < length xs → x ≡ get_or xs k x
    → map f (take (k + 1) xs) ≡ map f (take k xs) ++ f x ∷ []
mapped_more f xs k x l e = grind (arith, take-suc xs k x, map-append f (take k xs) (get_or xs k x ∷ []))

-- there are as many images as the index says
pub texts_many : {X Y : Type 0} (f : X → Y) (xs : List X) (k : ℕ) → k ≤ length xs → length (map f (take k xs)) ≡ k
texts_many f xs k l = length-map (take k xs) f ∙ length-take-le k xs l

-- one more text was printed after the separator, where the first one and the later ones are printed apart
pub printed_more : {X : Type 0} (print : X → List ℕ) (c k : ℕ) (old before now after : List ℕ) (xs later : List X) (first x : X)
    → xs ≡ first ∷ later → before ≡ old ++ joined c (map print (take (k + 1) xs)) → now ≡ before ++ c ∷ []
    → k < length later → x ≡ get_or later k x → after ≡ now ++ print x → after ≡ old ++ joined c (map print (take (k + 1 + 1) xs))
printed_more print c k old before now after xs later first x split so_far parted l e printed =
    grind (arith, append_assoc, split, mapped_more print xs (k + 1) x, joined_more c (map print (take (k + 1) xs)), texts_many print xs (k + 1))

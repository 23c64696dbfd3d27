-- A head is decided where it ends, and not before.
use Rattle.std.proofs.Common.{◌≡◌, ℕ, zero, suc, ◌-◌, ◌<◌, ◌≤◌, Bool, true, false, not, ◌&&◌, ◌||◌, ◌==◌, List, [], ◌∷◌, ◌++◌, map, length, take, drop, refl, sym, ap, subst, ◌∙◌, arith, append_assoc, flat_map, find, nat_eq, bytes_eq, if◌then◌else◌, IsTrue, Some, None, take-append-drop, length-append, append-nil}
use Rattle.allotment.proofs.TestLemmas.{bytes_eq_self, same_bytes}
use Rattle.std.proofs.Math.Seq.{drop-append_seam}
use Rattle.http_messages.specs.Heads.{IsHead, most_head_bytes}
use Rattle.std.specs.List.{list_any, list_all, ends_with, AllByRecursion}
use Rattle.std.proofs.lemmas.Bool.{eqb-true, or_right, or_left, or_from, not-true, and_parts, and_from}
use Rattle.std.proofs.lemmas.List.Elements.{recursion_from_All}
use Rattle.std.proofs.lemmas.List.{length-take-le}
use Rattle.std.proofs.lemmas.List.Folds.{list_any-append}
use Rattle.std.specs.Prelude.{option_map}
use Rattle.httparse.specs.Grammar.{RequestHead, Field, IsField, LineEnd, crlf, lf, print_end, print_blank, print_field, print_version, print_request, is_token_byte, is_uri_byte, is_value_byte, IsRequestHead}
use Rattle.http_messages.specs.Messages.{ends_in_empty_line, is_newline, fronts, is_told, first_told}
use Rattle.http_messages.specs.Places.{is_told_place, next_place, walk}
use Rattle.http_messages.specs.declared.places.Place.{Place}
use Rattle.http_messages.specs.declared.places.Place.TheVariants.{Before, Within, AfterLf, AfterCr, Told}

-- not decided before the end
abbrev calm : Place → List ℕ → Bool
calm s [] = true
calm s (b ∷ bs) = not (is_told_place s) && calm (next_place s b) bs

pub walk_append : (s : Place) (x y : List ℕ) → walk s (x ++ y) ≡ walk (walk s x) y
walk_append s [] y = refl
walk_append s (b ∷ x) y = walk_append (next_place s b) x y

calm_append : (s : Place) (x y : List ℕ) → calm s x ≡ true → calm (walk s x) y ≡ true → calm s (x ++ y) ≡ true
calm_append s [] y e f = f
calm_append s (b ∷ x) y e f =
    let both = and_parts (not (is_told_place s)) (calm (next_place s b) x) e in and_from _ _ both.0 (calm_append (next_place s b) x y both.1 f)

-- Where a piece of a head leads.
record Leads (s : Place) (x : List ℕ) (t : Place) : Type 0 where
  pub is_calm : calm s x ≡ true
  pub ends : walk s x ≡ t

in_turn : (s t u : Place) (x y : List ℕ) → Leads s x t → Leads t y u → Leads s (x ++ y) u
in_turn s t u x y a b = grind (arith, calm_append, walk_append)

abbrev is_quiet : ℕ → Bool
is_quiet b = not (is_newline b)

quiet_cases : (r l : Bool) → not (r || l) ≡ true → ((r || l) ≡ false) × (l ≡ false) × (r ≡ false)
quiet_cases r l e = grind arith

pub quiet_byte : (b : ℕ) → is_quiet b ≡ true → (is_newline b ≡ false) × ((b == 10) ≡ false) × ((b == 13) ≡ false)
quiet_byte b e = quiet_cases (b == 13) (b == 10) e

within_run : (x : List ℕ) → list_all is_quiet x ≡ true → Leads Within x Within
within_run [] e = record { is_calm = refl; ends = refl }
within_run (b ∷ x) e =
    let both = and_parts (is_quiet b) (list_all is_quiet x) e in
    let later = within_run x both.1 in
    let step : next_place Within b ≡ Within = ap (λ z. if z then AfterLf else Within) (quiet_byte b both.0).1 in
    record { is_calm = ap (λ z. calm z x) step ∙ later.is_calm; ends = ap (λ z. walk z x) step ∙ later.ends }

first_step : (s : Place) (b : ℕ) → is_quiet b ≡ true → next_place s b ≡ Within
first_step s b e = grind (arith, quiet_byte)

-- a word begins a line
word_run : (s : Place) (x : List ℕ) → is_told_place s ≡ false → 0 < length x → list_all is_quiet x ≡ true → Leads s x Within
word_run s [] t l e = absurd (omega arith)
word_run s (b ∷ x) t l e =
    let both = and_parts (is_quiet b) (list_all is_quiet x) e in
    let later = within_run x both.1 in
    let step = first_step s b both.0 in
    record { is_calm = and_from _ _ (ap not t) (ap (λ z. calm z x) step ∙ later.is_calm); ends = ap (λ z. walk z x) step ∙ later.ends }

blank_run : (ends : List LineEnd) → Leads Before (print_blank ends) Before
blank_run [] = record { is_calm = refl; ends = refl }
blank_run (crlf ∷ ends) = let later = blank_run ends in record { is_calm = later.is_calm; ends = later.ends }
blank_run (lf ∷ ends) = let later = blank_run ends in record { is_calm = later.is_calm; ends = later.ends }

end_run : (e : LineEnd) → Leads Within (print_end e) AfterLf
end_run crlf = record { is_calm = refl; ends = refl }
end_run lf = record { is_calm = refl; ends = refl }

last_run : (e : LineEnd) → Leads AfterLf (print_end e) Told
last_run crlf = record { is_calm = refl; ends = refl }
last_run lf = record { is_calm = refl; ends = refl }

-- The pieces of a head.

kept_out : (test : ℕ → Bool) (b c : ℕ) (t : Bool) → (b == c) ≡ t → test c ≡ false → test b ≡ true → t ≡ false
kept_out test b c t e none some = grind (arith, eqb-true)

pub quiet_of : (test : ℕ → Bool) → test 13 ≡ false → test 10 ≡ false → (b : ℕ) → test b ≡ true → is_quiet b ≡ true
quiet_of test cr line b e = cc (kept_out test b 13 (b == 13) refl cr e, kept_out test b 10 (b == 10) refl line e)

all_quiet : (test : ℕ → Bool) → test 13 ≡ false → test 10 ≡ false → (x : List ℕ) → AllByRecursion (λ b. IsTrue (test b)) x → list_all is_quiet x ≡ true
all_quiet test cr line [] e = refl
all_quiet test cr line (b ∷ x) e = and_from _ _ (quiet_of test cr line b e.0) (all_quiet test cr line x e.1)

token_quiet : (x : List ℕ) → AllByRecursion (λ b. IsTrue (is_token_byte b)) x → list_all is_quiet x ≡ true
token_quiet x e = all_quiet is_token_byte (unfold is_token_byte in refl) (unfold is_token_byte in refl) x e

field_run : (f : Field) → IsField f → Leads AfterLf (print_field f) AfterLf
field_run f g =
    let name = token_quiet f.name (recursion_from_All (λ b. IsTrue (is_token_byte b)) f.name g.name.1) in
    let raw = all_quiet is_value_byte refl refl f.raw (recursion_from_All (λ b. IsTrue (is_value_byte b)) f.raw g.raw) in
    in_turn AfterLf Within AfterLf (f.name ++ 58 ∷ f.raw) (print_end f.end)
    (in_turn AfterLf Within Within f.name (58 ∷ f.raw) (word_run AfterLf f.name refl g.name.0 name) (within_run (58 ∷ f.raw) (and_from _ _ refl raw)))
    (end_run f.end)

fields_run : (fs : List Field) → AllByRecursion IsField fs → Leads AfterLf (flat_map print_field fs) AfterLf
fields_run [] g = record { is_calm = refl; ends = refl }
fields_run (f ∷ fs) g = in_turn AfterLf AfterLf AfterLf (print_field f) (flat_map print_field fs) (field_run f g.0) (fields_run fs g.1)

version_quiet : (m : ℕ) → m ≤ 1 → list_all is_quiet (32 ∷ print_version m) ≡ true
version_quiet m l = grind arith

head_run : (h : RequestHead) → IsRequestHead h → Leads Before (print_request h) Told
unfolding print_request
head_run h g =
    let method = token_quiet h.method (recursion_from_All (λ b. IsTrue (is_token_byte b)) h.method g.method.1) in
    let target = all_quiet is_uri_byte refl refl h.target (recursion_from_All (λ b. IsTrue (is_uri_byte b)) h.target g.target.1) in
    let fields = fields_run h.fields (recursion_from_All IsField h.fields g.fields) in
    in_turn Before AfterLf Told _ _
    (in_turn Before Within AfterLf _ _
    (in_turn Before Within Within _ _
    (in_turn Before Within Within _ _
    (in_turn Before Before Within (print_blank h.blank) h.method (blank_run h.blank) (word_run Before h.method refl g.method.0 method))
    (within_run (32 ∷ h.target) (and_from _ _ refl target)))
    (within_run (32 ∷ print_version h.minor) (version_quiet h.minor g.minor)))
    (end_run h.line_end))
    (in_turn AfterLf AfterLf Told (flat_map print_field h.fields) (print_end h.last) fields (last_run h.last))

-- No proper prefix of a head is decided.

calm_front : (s : Place) (x : List ℕ) (k : ℕ) → calm s x ≡ true → k < length x → is_told_place (walk s (take k x)) ≡ false
calm_front s [] k e l = absurd (omega arith)
calm_front s (b ∷ x) zero e l = not-true _ (and_parts (not (is_told_place s)) (calm (next_place s b) x) e).0
calm_front s (b ∷ x) (suc k) e l = calm_front (next_place s b) x k (and_parts (not (is_told_place s)) (calm (next_place s b) x) e).1 (omega arith)

abbrev is_before : Place → Bool
is_before Before = true
is_before _ = false

if_other : (t : Bool) (a b : Place) → is_before a ≡ false → is_before b ≡ false → is_before (if t then a else b) ≡ false
if_other t a b e f = grind arith

goes_on : (s : Place) (b : ℕ) → is_before s ≡ false → is_before (next_place s b) ≡ false
goes_on s b e = grind (arith, if_other)

stays_on : (s : Place) (x : List ℕ) → is_before s ≡ false → is_before (walk s x) ≡ false
stays_on s [] e = e
stays_on s (b ∷ x) e = stays_on (next_place s b) x (goes_on s b e)

seen_by : (b : ℕ) (x : List ℕ) (t : Bool) → is_newline b ≡ t → (list_any is_quiet x ≡ true → is_before (walk Before x) ≡ false)
    → (not t || list_any is_quiet x) ≡ true → is_before (walk (if t then Before else Within) x) ≡ false
seen_by b x t n h e = grind (arith, stays_on)

seen : (x : List ℕ) → list_any is_quiet x ≡ true → is_before (walk Before x) ≡ false
seen [] e = cc
seen (b ∷ x) e = seen_by b x (is_newline b) refl (seen x) e

two_ends : (s : Place) → is_before s ≡ false → walk s (10 ∷ 10 ∷ []) ≡ Told
two_ends s e = grind arith

three_ends : (s : Place) → is_before s ≡ false → walk s (10 ∷ 13 ∷ 10 ∷ []) ≡ Told
three_ends s e = grind arith

any_append : (x y : List ℕ) → list_any is_quiet y ≡ false → list_any is_quiet (x ++ y) ≡ true → list_any is_quiet x ≡ true
any_append x y f e = grind (arith, list_any-append)

told_after : (t n : List ℕ) → ends_with nat_eq t n ≡ true → list_any is_quiet n ≡ false → list_any is_quiet t ≡ true
    → ((s : Place) → is_before s ≡ false → walk s n ≡ Told) → walk Before t ≡ Told
told_after t n e f v h =
    let k = length t - length n in
    let cut : take k t ++ n ≡ t = ap (λ z. take k t ++ z) (same_bytes n (drop k t) e) ∙ take-append-drop k t in
    let visible : list_any is_quiet (take k t ++ n) ≡ true = ap (list_any is_quiet) cut ∙ v in
    ap (walk Before) (sym cut) ∙ walk_append Before (take k t) n ∙ h (walk Before (take k t)) (seen (take k t) (any_append (take k t) n f visible))

told_by : (t : List ℕ) (a b : Bool) → ends_with nat_eq t (10 ∷ 10 ∷ []) ≡ a → ends_with nat_eq t (10 ∷ 13 ∷ 10 ∷ []) ≡ b → (a || b) ≡ true → list_any is_quiet t ≡ true → walk Before t ≡ Told
told_by t true b e f g v = told_after t (10 ∷ 10 ∷ []) e refl v two_ends
told_by t false true e f g v = told_after t (10 ∷ 13 ∷ 10 ∷ []) f refl v three_ends
told_by t false false e f g v = cc

told_there : (t : List ℕ) → ends_in_empty_line t ≡ true → walk Before t ≡ Told
told_there t e = grind (arith, and_parts, told_by)

-- A head is decided where it ends.

pub any_left : (x y : List ℕ) → list_any is_quiet x ≡ true → list_any is_quiet (x ++ y) ≡ true
any_left x y e = grind (arith, list_any-append)

any_last : (x : List ℕ) (b : ℕ) → is_quiet b ≡ true → list_any is_quiet (x ++ b ∷ []) ≡ true
any_last x b e = grind (arith, list_any-append)

ends_so : (w n : List ℕ) → ends_with nat_eq (w ++ n) n ≡ true
ends_so w n =
    ap (bytes_eq n) (ap (λ z. drop z (w ++ n)) (omega (arith, length-append w n)) ∙ drop-append_seam w n) ∙ bytes_eq_self n

two_told : (u w : List ℕ) → u ≡ w ++ 10 ∷ 10 ∷ [] → list_any is_quiet u ≡ true → ends_in_empty_line u ≡ true
two_told u w e v = and_from _ _ (or_left _ _ (ap (λ z. ends_with nat_eq z (10 ∷ 10 ∷ [])) e ∙ ends_so w (10 ∷ 10 ∷ []))) v

three_told : (u w : List ℕ) → u ≡ w ++ 10 ∷ 13 ∷ 10 ∷ [] → list_any is_quiet u ≡ true → ends_in_empty_line u ≡ true
three_told u w e v = and_from _ _ (or_right _ _ (ap (λ z. ends_with nat_eq z (10 ∷ 13 ∷ 10 ∷ [])) e ∙ ends_so w (10 ∷ 13 ∷ 10 ∷ []))) v

record EndsWith (n u : List ℕ) : Type 0 where
  pub front : List ℕ
  pub whole : u ≡ front ++ n
  pub visible : list_any is_quiet u ≡ true

-- what the place says of the text so far
abbrev Fits : Place → List ℕ → Type 0
Fits Before u = Unit {0}
Fits Within u = list_any is_quiet u ≡ true
Fits AfterLf u = EndsWith (10 ∷ []) u
Fits AfterCr u = EndsWith (10 ∷ 13 ∷ []) u
Fits Told u = EndsWith (10 ∷ []) u × (ends_in_empty_line u ≡ true)

-- one more byte
longer : (n u : List ℕ) (b : ℕ) (e : EndsWith n u) → u ++ b ∷ [] ≡ e.front ++ (n ++ b ∷ [])
longer n u b e = ap (λ z. z ++ b ∷ []) e.whole ∙ append_assoc e.front n (b ∷ [])

new_line : (u : List ℕ) (b : ℕ) → (b == 10) ≡ true → list_any is_quiet u ≡ true → EndsWith (10 ∷ []) (u ++ b ∷ [])
new_line u b e v = record { front = u; whole = ap (λ z. u ++ z ∷ []) (eqb-true b 10 e); visible = any_left u (b ∷ []) v }

after_lf : (u : List ℕ) (b : ℕ) (l r : Bool) → (b == 10) ≡ l → (b == 13) ≡ r → EndsWith (10 ∷ []) u
    → Fits (if l then Told else if r then AfterCr else Within) (u ++ b ∷ [])
after_lf u b true r e f h =
    (new_line u b e h.visible, two_told (u ++ b ∷ []) h.front (longer (10 ∷ []) u b h ∙ ap (λ z. h.front ++ 10 ∷ z ∷ []) (eqb-true b 10 e)) (any_left u (b ∷ []) h.visible))
after_lf u b false true e f h =
    record { front = h.front; whole = longer (10 ∷ []) u b h ∙ ap (λ z. h.front ++ 10 ∷ z ∷ []) (eqb-true b 13 f); visible = any_left u (b ∷ []) h.visible }
after_lf u b false false e f h = any_left u (b ∷ []) h.visible

after_cr : (u : List ℕ) (b : ℕ) (l : Bool) → (b == 10) ≡ l → EndsWith (10 ∷ 13 ∷ []) u → Fits (if l then Told else Within) (u ++ b ∷ [])
after_cr u b true e h =
    (new_line u b e h.visible, three_told (u ++ b ∷ []) h.front (longer (10 ∷ 13 ∷ []) u b h ∙ ap (λ z. h.front ++ 10 ∷ 13 ∷ z ∷ []) (eqb-true b 10 e)) (any_left u (b ∷ []) h.visible))
after_cr u b false e h = any_left u (b ∷ []) h.visible

at_first : (u : List ℕ) (b : ℕ) (t : Bool) → is_newline b ≡ t → Fits (if t then Before else Within) (u ++ b ∷ [])
at_first u b t e = grind (arith, any_last)

in_line : (u : List ℕ) (b : ℕ) (l : Bool) → (b == 10) ≡ l → list_any is_quiet u ≡ true → Fits (if l then AfterLf else Within) (u ++ b ∷ [])
in_line u b l e v = grind (arith, new_line, any_left)

fits_next : (s : Place) (b : ℕ) (u : List ℕ) → Fits s u → Fits (next_place s b) (u ++ b ∷ [])
fits_next s b u h = grind (arith, at_first, in_line, after_lf, after_cr)

fits_run : (s : Place) (u x : List ℕ) → Fits s u → Fits (walk s x) (u ++ x)
fits_run s u [] h = subst (λ z. Fits s z) (sym (append-nil u)) h
fits_run s u (b ∷ x) h = subst (λ z. Fits (walk (next_place s b) x) z) (append_assoc u (b ∷ []) x) (fits_run (next_place s b) (u ++ b ∷ []) x (fits_next s b u h))

pub told_at_end : (x : List ℕ) → walk Before x ≡ Told → ends_in_empty_line x ≡ true
told_at_end x e = (subst (λ z. Fits z x) e (fits_run Before [] x tt)).1

-- The first decided prefix.

-- of lists that all begin with the same byte, the first that passes is the one whose suffix is the first to pass
pub find_map : (test : List ℕ → Bool) (b : ℕ) (fs : List (List ℕ))
    → find test (map (λ x. b ∷ x) fs) ≡ option_map (λ x. b ∷ x) (find (λ x. test (b ∷ x)) fs)
find_map test b [] = refl
find_map test b (g ∷ fs) = grind (arith, find_map test b fs)

pub find_front : (test : List ℕ → Bool) (front rest : List ℕ) → test front ≡ true → ((k : ℕ) → k < length front → test (take k front) ≡ false) → find test (fronts (front ++ rest)) ≡ Some front
find_front test [] [] e h = ap (λ z. if z then Some [] else None) e
find_front test [] (c ∷ rest) e h = ap (λ z. if z then Some [] else find test (map (λ x. c ∷ x) (fronts rest))) e
find_front test (b ∷ front) rest e h =
    ap (λ z. if z then Some [] else find test (map (λ x. b ∷ x) (fronts (front ++ rest)))) (h 0 (omega arith))
    ∙ find_map test b (fronts (front ++ rest)) ∙ ap (option_map (λ x. b ∷ x)) (find_front (λ x. test (b ∷ x)) front rest e (λ k l. h (suc k) (omega arith)))

pub not_empty_line : (t : List ℕ) (a : Bool) → ends_in_empty_line t ≡ a → is_told_place (walk Before t) ≡ false → a ≡ false
not_empty_line t a e h = grind (arith, told_there)

pub not_long : (n : ℕ) (b : Bool) → (n == most_head_bytes) ≡ b → n < most_head_bytes → b ≡ false
not_long n b e l = grind (arith, eqb-true)

pub head_is_told : (front rest : List ℕ) (h : RequestHead) → IsHead front h → first_told (front ++ rest) ≡ Some front
head_is_told front rest h g =
    let leads = subst (λ z. Leads Before z Told) (sym (g.reads.1 ∙ append-nil (print_request h))) (head_run h g.reads.0) in
    find_front is_told front rest (or_left _ _ (told_at_end front leads.ends))
    (λ k l.
    let short : length (take k front) ≡ k = length-take-le k front (omega arith) in
    or_from _ _ (not_empty_line (take k front) _ refl (calm_front Before front k leads.is_calm l))
    (not_long (length (take k front)) _ refl (omega (arith, g.short))))

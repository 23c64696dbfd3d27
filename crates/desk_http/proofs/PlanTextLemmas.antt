-- What is read of a JSON text as a plan is the value of the text. For the readers of plans in texts.
use Rattle.std.proofs.Common.{◌≡◌, ℕ, ◌+◌, ◌^◌, ◌<◌, Bool, false, List, [], ◌∷◌, ◌++◌, map, length, take, get_or, refl, sym, ap, subst, ◌∙◌, arith, ◌≤◌, Option, Some, None, Ok, Err, Vec, decimal, if◌then◌else◌, bytes_eq, codes, nat_le, option_map, option_and_then, IfSome}
use Rattle.std.specs.Borrow.{Bor}
use Rattle.std.proofs.lemmas.List.{map-append, take_more}
use Rattle.json.specs.Lex.{tokens}
use Rattle.json.specs.Find.{as_bool, as_number, as_str}
use Rattle.json.specs.Json as json
use Rattle.json.specs.Value.{value_view, items_view, members_view}
use Rattle.json.specs.declared.value.Value.{Value, Array, Object}
use Rattle.json.proofs.Trees.{view-Array, view-Object}
use Rattle.serde_json.specs.Data.{Data, number, unsigned, string, boolean, array, object, item, Members, no_members, member}
use Rattle.serde_json.specs.Read.{read, of_json, of_items, of_members, number_of}
use Rattle.serde_json.specs.View.{items_of}
use Rattle.serde_json.proofs.Numbers.{number_of-decimal}
use Rattle.allotment.specs.Want.{Wanted}
use Rattle.allotment.specs.Making.{want_made, want_of_parts}
use Rattle.allotment.specs.Nights.{night_in, night_text}
use Rattle.allotment.specs.Texts.{kinds, kind_word, kind_of_word}
use Rattle.allotment.specs.declared.codes.Kind.{Kind}
use Rattle.std.proofs.lemmas.Bool.{leb-true}
use Rattle.allotment.specs.Limits.{is_between}
use Rattle.allotment.proofs.TestLemmas.{and_both, same_bytes}
use Rattle.commands.specs.Readings.{Finds}
use Rattle.plan.specs.PlanData.{step_data, want_data}
use Rattle.plan.specs.PlanModel.{step_said}
use Rattle.plan.specs.declared.steps.PlanStep.{PlanStep}
use Rattle.plan.proofs.ListFacts.{append_none, unless_none, first_fault_ok, find_passes}
use Rattle.plan.proofs.ReadLemmas.{night_read}
use Rattle.std.specs.Str.{IsUtf8, is_utf8}
use Rattle.std.proofs.lemmas.Str.{is_utf8-from_IsUtf8}
use Rattle.commands.specs.declared.replies.Refusal.TheVariants.{BadBody}
use Rattle.http_pages.specs.Admitting.{plain}
use Rattle.desk_http.specs.Demands.{begin_by, denied_by, value_in}
use Rattle.desk_http.specs.DemandValues.{AsksFor}
use Rattle.desk_http.specs.declared.demands.Unmet.{Unmet}
use Rattle.desk_http.specs.declared.demands.Unmet.TheVariants.{Refused}
use Rattle.desk_http.specs.PlanTexts.{IsData, AreData, parts_data}
use Rattle.desk_http.specs.declared.plan_texts.Parts.{Parts}

-- what holds of a value that is there, where a stronger fact does
pub some_weaker : {X : Type 0} (r : Option X) (P Q : X → Type 0) → ((x : X) → P x → Q x) → IfSome r P → IfSome r Q
some_weaker None P Q h p = tt
some_weaker (Some x) P Q h p = h x p

-- The text.

-- a text whose tokens are one value is read as it
pub read_whole : (text : List ℕ) (j : json.Json) → json.value 127 (tokens text) ≡ Some (j, []) → read text ≡ of_json j
read_whole text j e = ap (λ o. option_and_then of_json (option_and_then (λ p. json.if_last p.0 p.1) o)) e

-- Lists.

-- one after another, they are read as the list
items_are : {A : Type 0} (values : List (Value A)) (ds : List Data) → AreData values ds
    → of_items (items_view values) ≡ Some (items_of ds)
items_are [] [] e = refl
items_are [] (d ∷ ds) e = cc
items_are (v ∷ values) [] e = cc
items_are (v ∷ values) (d ∷ ds) e =
    let first : of_json (value_view v) ≡ Some d = cc in
    let later : map (λ v. of_json (value_view v)) values ≡ map Some ds = cc in
    ap (λ o. option_and_then (λ d. option_map (item d) (of_items (items_view values))) o) first
    ∙ ap (option_map (item d)) (items_are values ds later)

module _ {A X : Type 0} (h : X → Data) (vs : List (Value A)) (k : ℕ) (v : Value A) (old new : List X) (x : X) where
  -- one more value is read
  pub one_more : k < length vs → v ≡ get_or vs k v → IsData v (h x) → new ≡ old ++ x ∷ []
      → AreData (take k vs) (map h old) → AreData (take (k + 1) vs) (map h new)
  one_more within is read pushed so_far =
      let f : Value A → Option Data = λ v. of_json (value_view v) in
      ap (map f) (take_more vs k v within ∙ ap (λ y. take k vs ++ y ∷ []) (sym is))
      ∙ map-append f (take k vs) (v ∷ [])
      ∙ ap (λ z. z ++ f v ∷ []) so_far
      ∙ ap (λ z. map Some (map h old) ++ z ∷ []) read
      ∙ sym (map-append Some (map h old) (h x ∷ []))
      ∙ ap (map Some) (sym (map-append h old (x ∷ [])) ∙ ap (map h) (sym pushed))

-- a list of values is read as the list of what they are
pub array_is : {A : Type 0} (values : Vec (Value A) A) (vs : List (Value A)) (ds : List Data) → vs ≡ values.items → AreData vs ds
    → IsData (Array values) (array (items_of ds))
array_is values vs ds same e =
    ap of_json (view-Array values)
    ∙ ap (λ z. option_map array (of_items (items_view z))) (sym same)
    ∙ ap (option_map array) (items_are vs ds e)

-- what the steps of a program say, as data
pub steps_said : (steps : List PlanStep) → map (λ step. step_data (step_said step)) steps ≡ map step_data (map step_said steps)
steps_said [] = refl
steps_said (s ∷ steps) = ap (λ z. step_data (step_said s) ∷ z) (steps_said steps)

-- The parts of a want.

-- a number in digits is read as the number
number_is : (text : List ℕ) (n : ℕ) → n < 2 ^ 64 → text ≡ decimal n → of_json (json.number text) ≡ Some (number (unsigned n))
number_is text n small e = ap (λ t. option_map number (number_of t)) e ∙ ap (option_map number) (number_of-decimal n small)

-- the number that is found in the text of a number
found_number : (text : List ℕ) (r : Option ℕ) → Finds (is_between 0 255) decimal text r
    → IfSome r (λ n. of_json (json.number text) ≡ Some (number (unsigned n)))
found_number text None found = tt
found_number text (Some n) found =
    let both = and_both (nat_le 0 n) (nat_le n 255) found.0 in
    let few : n ≤ 255 = leb-true n 255 both.1 in
    number_is text n (omega arith) found.1

-- a number is read as the number that is found in its text
pub number_found : (j : json.Json) (text : List ℕ) (r : Option ℕ) → Some text ≡ as_number j
    → Finds (is_between 0 255) decimal text r → IfSome r (λ n. of_json j ≡ Some (number (unsigned n)))
number_found (json.number s) text r e found =
    let same : text ≡ s = cc in
    subst (λ z. IfSome r (λ n. of_json (json.number z) ≡ Some (number (unsigned n)))) same (found_number text r found)
number_found _ text r e found = cc

-- a text is read as itself
pub text_found : (j : json.Json) (text : List ℕ) → Some text ≡ as_str j → of_json j ≡ Some (string text)
text_found (json.string s) text e = let same : text ≡ s = cc in ap (λ z. Some (string z)) (sym same)
text_found _ text e = cc

-- an answer is read as it
pub answer_found : (j : json.Json) (b : Bool) → Some b ≡ as_bool j → of_json j ≡ Some (boolean b)
answer_found (json.boolean x) b e = let same : b ≡ x = cc in ap (λ z. Some (boolean z)) (sym same)
answer_found _ b e = cc

-- an object is read as what its members are
pub object_is : {A : Type 0} (members : Vec (Bor (List ℕ) × Value A) A) (ms : List (Bor (List ℕ) × Value A)) (known : Members)
    (d : Data) → ms ≡ members.items → of_members (members_view ms) no_members ≡ Some known → object known ≡ d
    → IsData (Object members) d
object_is members ms known d same read is =
    ap of_json (view-Object members)
    ∙ ap (λ z. option_map object (of_members (members_view z) no_members)) (sym same)
    ∙ ap (option_map object) read
    ∙ ap Some is

-- where all parts are known, each has its member
pub parts_known : (parts : Parts) (k s p f : Bor (List ℕ)) (n c : ℕ) → parts.kind ≡ Some k → parts.supplier ≡ Some s
    → parts.product ≡ Some p → parts.first ≡ Some f → parts.nights ≡ Some n → parts.count ≡ Some c
    → object (parts_data parts)
    ≡ object (member (codes "count") (number (unsigned c)) (member (codes "first") (string f.now) (member (codes "kind") (string k.now)
    (member (codes "nights") (number (unsigned n)) (member (codes "product") (string p.now)
    (member (codes "supplier") (string s.now) no_members))))))
parts_known parts k s p f n c ek es ep ef en ec = rw (ek, es, ep, ef, en, ec) refl

-- the want that was made has these parts
pub want_parts : (kind : Kind) (k s p f : List ℕ) (n c : ℕ) (w : Wanted) → Some kind ≡ kind_of_word k
    → Ok w ≡ want_made kind s p f n c
    → object (member (codes "count") (number (unsigned c)) (member (codes "first") (string f) (member (codes "kind") (string k)
    (member (codes "nights") (number (unsigned n)) (member (codes "product") (string p)
    (member (codes "supplier") (string s) no_members)))))) ≡ want_data w
want_parts kind k s p f n c w is made =
    let right = first_fault_ok (want_of_parts kind s p (night_in f) n c) w _ (sym made) in
    let last = append_none _ _ right.0 in
    let third = append_none _ _ last.0 in
    let second = append_none _ _ third.0 in
    let night = night_read f (unless_none _ _ second.1) in
    let word = same_bytes (kind_word kind) k (find_passes (λ kind. bytes_eq (kind_word kind) k) kinds kind (sym is)) in
    ap (λ z. object (member (codes "count") (number (unsigned c)) (member (codes "first") (string z) (member (codes "kind") (string k)
    (member (codes "nights") (number (unsigned n)) (member (codes "product") (string p)
    (member (codes "supplier") (string s) no_members))))))) (sym night.1)
    ∙ ap (λ z. object (member (codes "count") (number (unsigned c)) (member (codes "first") (string (night_text (want_of_parts kind s p (night_in f) n c).first))
    (member (codes "kind") (string z) (member (codes "nights") (number (unsigned n)) (member (codes "product") (string p)
    (member (codes "supplier") (string s) no_members))))))) (sym word)
    ∙ ap want_data right.1

-- The body.

-- a body that is not UTF-8 has no value, and is refused
pub no_value : (body : List ℕ) (unmet : Unmet) → is_utf8 body ≡ false → unmet ≡ Refused (plain BadBody)
    → AsksFor (begin_by (value_in body)) (Err unmet)
no_value body unmet none gave =
    let refused : denied_by (begin_by (value_in body)) ≡ Err (plain BadBody) =
    ap (λ (b : Bool). denied_by (begin_by (if b then read body else None))) none in
    subst (λ z. AsksFor (begin_by (value_in body)) (Err z)) (sym gave) refused

-- the value of a body that is UTF-8 is that of its text
pub value_of_text : (body text : List ℕ) → IsUtf8 body → text ≡ body → value_in body ≡ read text
value_of_text body text utf8 same =
    ap (λ (b : Bool). if b then read body else None) (is_utf8-from_IsUtf8 body utf8) ∙ ap read (sym same)

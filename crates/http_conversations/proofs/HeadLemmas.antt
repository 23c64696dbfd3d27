-- Some head has the parts that the profile would have of a wide request. For first_wide.
use Rattle.std.proofs.Common.{◌≡◌, ◌∙◌, ap, ap₂, refl, ℕ, Bool, true, false, List, [], ◌∷◌, ◌++◌, map, length, reverse, arith, ◌&&◌, ◌==◌, codes, filter, not, if◌then◌else◌, slice_range, slice_index}
use Rattle.std.proofs.lemmas.Bool.{and_parts}
use Rattle.std.specs.Prelude.{⊤}
use Rattle.std.specs.Char.{is_ascii_hexdigit}
use Rattle.std.proofs.lemmas.Bool.Decides.{nat_tests}
use Rattle.std.proofs.lemmas.List.Elements.{All-drop, All-head, All-take}
use Rattle.std.proofs.lemmas.List.Sums.{AllPass-from_list_all}
use Rattle.httparse.specs.Grammar.{AllPass, Field, RequestHead, crlf, is_ows, is_uri_byte, skip_ows, trim_ows}
use Rattle.httparse.specs.Spans.{name_and_value}
use Rattle.httparse.proofs.TrimLemmas.{AllPass-reverse, trim_ows_space}
use Rattle.http1.specs.Head.{starts_visible}
use Rattle.http1.specs.Text.{numeral}
use Rattle.http1.proofs.NumeralLemmas.{decimal_is_trimmed}
use Rattle.http_messages.specs.Heads.{Named, host_of, is_alike, meant_agents, parts_of, the_text, values_named}
use Rattle.http_messages.specs.Wide.{ends_after}
use Rattle.http_messages.specs.Plain.{after_scheme, are_digits, authority_length, authority_of, close_if, fields_of, host_for, is_absolute, is_uuid, plain_fields, plain_key, plain_method, plain_parts, plain_target, uuid_digits}

-- a value that a field may have: some bytes, without the white space at their ends
record IsTrimmed (value : List ℕ) : Type 0 where
  raw : List ℕ
  trims : trim_ows raw ≡ value

abbrev AreTrimmed : List (List ℕ) → Type 0
AreTrimmed [] = ⊤
AreTrimmed (value ∷ later) = IsTrimmed value × AreTrimmed later

-- fields of such values
abbrev AreFields : List Named → Type 0
AreFields [] = ⊤
AreFields (f ∷ later) = IsTrimmed f.1 × AreFields later

-- they stand in some head
with_fields : (fs : List Named) → AreFields fs → (gs : List Field) × (map name_and_value gs ≡ fs)
with_fields [] all = ([], refl)
with_fields (f ∷ later) all =
    let rest = with_fields later all.1 in
    (record { name = f.0; raw = all.0.raw; end = crlf } ∷ rest.0, ap₂ (λ x xs. x ∷ xs) (ap (λ value. (f.0, value)) all.0.trims) rest.1)

-- Values of a head.

values_trimmed : (name : List ℕ) (fs : List Field) → AreTrimmed (values_named name (map name_and_value fs))
values_trimmed name [] = tt
values_trimmed name (f ∷ later) = by_test (values_trimmed name later) (is_alike f.name name)
  where
    by_test : AreTrimmed (values_named name (map name_and_value later)) → (t : Bool)
        → AreTrimmed (map (λ (g : Named). g.1) (if t then name_and_value f ∷ filter (λ (g : Named). is_alike g.0 name) (map name_and_value later) else filter (λ (g : Named). is_alike g.0 name) (map name_and_value later)))
    by_test rest true = (record { raw = f.raw; trims = refl }, rest)
    by_test rest false = rest

empty_trimmed : IsTrimmed []
unfolding trim_ows
empty_trimmed = record { raw = []; trims = refl }

close_trimmed : IsTrimmed (codes "close")
unfolding trim_ows
close_trimmed = record { raw = codes " close"; trims = refl }

text_trimmed : (values : List (List ℕ)) → AreTrimmed values → IsTrimmed (the_text values)
text_trimmed [] all = empty_trimmed
text_trimmed (value ∷ []) all = all.0
text_trimmed (value ∷ other ∷ later) all = empty_trimmed

-- Digits.

skip_visible : (text : List ℕ) → starts_visible text ≡ true → skip_ows text ≡ text
skip_visible [] visible = refl
skip_visible (b ∷ later) visible = grind (arith, visible)

visible_trimmed : (text : List ℕ) → starts_visible text ≡ true → starts_visible (reverse text) ≡ true → IsTrimmed text
visible_trimmed text front back =
    record { raw = 32 ∷ text; trims = trim_ows_space text (skip_visible text front) (skip_visible (reverse text) back) }

numeral_trimmed : (n : ℕ) → IsTrimmed (numeral 10 n)
numeral_trimmed n =
    let ends = and_parts (starts_visible (numeral 10 n)) _ (decimal_is_trimmed n) in
    visible_trimmed (numeral 10 n) ends.0 (and_parts (starts_visible (reverse (numeral 10 n))) _ ends.1).0

digit_visible : (c : ℕ) → is_ascii_hexdigit c ≡ true → not (is_ows c) ≡ true
digit_visible c digit = grind (arith, nat_tests)

digits_visible : (text : List ℕ) → AllPass is_ascii_hexdigit text → starts_visible text ≡ true
digits_visible [] all = refl
digits_visible (c ∷ later) all = digit_visible c (All-head (λ b. is_ascii_hexdigit b ≡ true) c later all)

digits_trimmed : (text : List ℕ) → are_digits text ≡ true → IsTrimmed text
digits_trimmed text digits =
    let all = AllPass-from_list_all is_ascii_hexdigit text digits in
    visible_trimmed text (digits_visible text all) (digits_visible (reverse text) (AllPass-reverse is_ascii_hexdigit text all))

digits_append : (a b : List ℕ) → are_digits a ≡ true → are_digits b ≡ true → are_digits (a ++ b) ≡ true
digits_append [] b one other = other
digits_append (c ∷ a) b one other =
    let parts = and_parts (is_ascii_hexdigit c) (are_digits a) one in
    ap (λ t. t && are_digits (a ++ b)) parts.0 ∙ digits_append a b parts.1 other

-- a UUID has digits alone, but for its hyphens
uuid_is_digits : (key : List ℕ) → is_uuid key ≡ true → are_digits (uuid_digits key) ≡ true
uuid_is_digits key is =
    let q1 = and_parts _ (are_digits (slice_range key 24 36)) is in
    let q2 = and_parts _ (slice_index key 23 == 45) q1.0 in
    let q3 = and_parts _ (are_digits (slice_range key 19 23)) q2.0 in
    let q4 = and_parts _ (slice_index key 18 == 45) q3.0 in
    let q5 = and_parts _ (are_digits (slice_range key 14 18)) q4.0 in
    let q6 = and_parts _ (slice_index key 13 == 45) q5.0 in
    let q7 = and_parts _ (are_digits (slice_range key 9 13)) q6.0 in
    let q8 = and_parts _ (slice_index key 8 == 45) q7.0 in
    let q9 = and_parts (length key == 36) (are_digits (slice_range key 0 8)) q8.0 in
    digits_append (((slice_range key 0 8 ++ slice_range key 9 13) ++ slice_range key 14 18) ++ slice_range key 19 23) (slice_range key 24 36)
    (digits_append ((slice_range key 0 8 ++ slice_range key 9 13) ++ slice_range key 14 18) (slice_range key 19 23)
    (digits_append (slice_range key 0 8 ++ slice_range key 9 13) (slice_range key 14 18)
    (digits_append (slice_range key 0 8) (slice_range key 9 13) q9.1 q7.1) q5.1) q3.1) q1.1

uri_visible : (c : ℕ) → is_uri_byte c ≡ true → not (is_ows c) ≡ true
uri_visible c byte = grind (arith, nat_tests)

text_visible : (text : List ℕ) → AllPass is_uri_byte text → starts_visible text ≡ true
text_visible [] all = refl
text_visible (c ∷ later) all = uri_visible c (All-head (λ b. is_uri_byte b ≡ true) c later all)

-- a part of a target has no white space at its ends
uri_trimmed : (text : List ℕ) → AllPass is_uri_byte text → IsTrimmed text
uri_trimmed text all =
    visible_trimmed text (text_visible text all) (text_visible (reverse text) (AllPass-reverse is_uri_byte text all))

-- the host that is meant, by that of the field
host_trimmed : (target host : List ℕ) → AllPass is_uri_byte target → IsTrimmed host → IsTrimmed (host_for target host)
host_trimmed target host all is = by_test (is_absolute target)
  where
    by_test : (t : Bool) → IsTrimmed (if t then authority_of target else host)
    by_test true =
        uri_trimmed (authority_of target)
        (All-take (λ b. is_uri_byte b ≡ true) (authority_length (after_scheme target)) (after_scheme target) (All-drop (λ b. is_uri_byte b ≡ true) 7 target all))
    by_test false = is

key_trimmed : (key : List ℕ) → IsTrimmed key → IsTrimmed (plain_key key)
key_trimmed key is = by_test (is_uuid key) refl
  where
    by_test : (t : Bool) → is_uuid key ≡ t → IsTrimmed (if t then uuid_digits key else key)
    by_test true uuid = digits_trimmed (uuid_digits key) (uuid_is_digits key uuid)
    by_test false other = is

keys_trimmed : (keys : List (List ℕ)) → AreTrimmed keys → AreTrimmed (map plain_key keys)
keys_trimmed [] all = tt
keys_trimmed (key ∷ later) all = (key_trimmed key all.0, keys_trimmed later all.1)

-- Fields.

named_fields : (name : List ℕ) (values : List (List ℕ)) (rest : List Named) → AreTrimmed values → AreFields rest
    → AreFields (fields_of name values ++ rest)
named_fields name [] rest all others = others
named_fields name (value ∷ later) rest all others = (all.0, named_fields name later rest all.1 others)

close_fields : (ends : Bool) → AreFields (close_if ends)
close_fields true = (close_trimmed, tt)
close_fields false = tt

plain_are_fields : (h : RequestHead) (body : List ℕ) → AllPass is_uri_byte h.target → AreFields (plain_fields (parts_of h) body)
plain_are_fields h body all =
    let asked = parts_of h in
    let agents = values_trimmed (codes "desk-agent") h.fields in
    let meant = values_trimmed (codes "desk-for") h.fields in
    let keys = keys_trimmed (values_named (codes "desk-key") asked.fields) (values_trimmed (codes "desk-key") h.fields) in (
      host_trimmed h.target (host_of asked) all (text_trimmed (values_named (codes "host") asked.fields) (values_trimmed (codes "host") h.fields)),
      named_fields (codes "Desk-Agent") (values_named (codes "desk-agent") asked.fields) _ agents
          (named_fields (codes "Desk-For") (meant_agents asked) _ meant
          (named_fields (codes "Desk-Key") (map plain_key (values_named (codes "desk-key") asked.fields)) _ keys
          (numeral_trimmed (length body), close_fields (ends_after asked)))),
    )

-- a head of the profile with the same meaning
pub some_head : (h : RequestHead) (body : List ℕ) → AllPass is_uri_byte h.target → (plain : RequestHead) × (parts_of plain ≡ plain_parts (parts_of h) body)
some_head h body all =
    let asked = parts_of h in
    let fields = with_fields (plain_fields asked body) (plain_are_fields h body all) in (
      record {
        blank = [];
        method = plain_method asked.method;
        target = plain_target asked.target;
        minor = 1;
        line_end = crlf;
        fields = fields.0;
        last = crlf;
      },
      ap (λ fs. record { method = plain_method asked.method; target = plain_target asked.target; minor = 1; fields = fs }) fields.1,
    )

-- What the profile reads in the fields of a plain request. For Head::request.
use Rattle.std.proofs.Common.{◌≡◌, ◌∙◌, ap, sym, refl, ℕ, ◌≤◌, Bool, true, false, ◌&&◌, ◌==◌, List, [], ◌∷◌, ◌++◌, map, length, append-nil, arith, None, bytes_eq, codes, if◌then◌else◌, option_and_then}
use Rattle.std.specs.List.{list_all, list_any}
use Rattle.std.specs.Str.Parse.{AllDigits}
use Rattle.std.proofs.lemmas.Bool.{le-leb, or_right, and_from}
use Rattle.std.proofs.lemmas.Bool.Decides.{nat_tests}
use Rattle.std.proofs.lemmas.Int.Digits.{length-digits_of-le}
use Rattle.std.proofs.lemmas.List.{length-map}
use Rattle.http1.specs.Text.{numeral}
use Rattle.http1.proofs.NumeralLemmas.{numeral_reads_back}
use Rattle.allotment.specs.Limits.{is_digit}
use Rattle.allotment.specs.Texts.{keep_if}
use Rattle.commands.specs.Limits.{most_bytes}
use Rattle.commands.specs.Names.{is_agent, is_key}
use Rattle.http_messages.specs.Heads.{Named, Parts, asks_to_close, complaint_of, is_alike, is_length, is_meant, meant_agents, the_one, the_text, values_named}
use Rattle.http_messages.specs.Requests.{IsRequest}
use Rattle.http_messages.specs.declared.requests.Request.{Request}
use Rattle.http_messages.specs.Wide.{ends_after}
use Rattle.http_messages.specs.Plain.{SaysPlainly, close_if, fields_of, plain_fields, plain_host, plain_key, plain_parts}

-- Fields of one name, before others.

module _ (name other : List ℕ) (rest : List Named) where
  -- the values of this name come first
  named_first : is_alike other name ≡ true → (values : List (List ℕ))
      → values_named name (fields_of other values ++ rest) ≡ values ++ values_named name rest
  named_first alike [] = refl
  named_first alike (value ∷ values) = rw alike (ap (λ z. value ∷ z) (named_first alike values))

  -- those of another name do not count
  named_past : is_alike other name ≡ false → (values : List (List ℕ))
      → values_named name (fields_of other values ++ rest) ≡ values_named name rest
  named_past alike [] = refl
  named_past alike (value ∷ values) = rw alike (named_past alike values)

module _ (asked : Parts) (body : List ℕ) where
  abbrev pub agents : List (List ℕ)
  agents = values_named (codes "desk-agent") asked.fields

  abbrev pub meant : List (List ℕ)
  meant = meant_agents asked

  abbrev pub keys : List (List ℕ)
  keys = map plain_key (values_named (codes "desk-key") asked.fields)

  -- the length, and whether the connection ends
  abbrev pub last_fields : Bool → List Named
  last_fields ends = (codes "Content-Length", numeral 10 (length body)) ∷ close_if ends

  abbrev pub key_fields : List Named
  key_fields = fields_of (codes "Desk-Key") keys ++ last_fields (ends_after asked)

  abbrev pub meant_fields : List Named
  meant_fields = fields_of (codes "Desk-For") meant ++ key_fields

  -- what comes after the agents, those who are meant, and the keys
  after_all : (name : List ℕ) → is_alike (codes "Desk-Agent") name ≡ false → is_alike (codes "Desk-For") name ≡ false
      → is_alike (codes "Desk-Key") name ≡ false
      → values_named name (fields_of (codes "Desk-Agent") agents ++ meant_fields) ≡ values_named name (last_fields (ends_after asked))
  after_all name agent whom key = grind (arith, named_past)

  no_host : (ends : Bool) → values_named (codes "host") (last_fields ends) ≡ []
  no_host ends = grind arith

  no_agent : (ends : Bool) → values_named (codes "desk-agent") (last_fields ends) ≡ []
  no_agent ends = grind arith

  no_meant : (ends : Bool) → values_named (codes "desk-for") (last_fields ends) ≡ []
  no_meant ends = grind arith

  no_key : (ends : Bool) → values_named (codes "desk-key") (last_fields ends) ≡ []
  no_key ends = grind arith

  no_coding : (ends : Bool) → values_named (codes "transfer-encoding") (last_fields ends) ≡ []
  no_coding ends = grind arith

  one_length : (ends : Bool) → values_named (codes "content-length") (last_fields ends) ≡ numeral 10 (length body) ∷ []
  one_length ends = grind arith

  closing : (ends : Bool) → list_any (λ value. is_alike value (codes "close")) (values_named (codes "connection") (last_fields ends)) ≡ ends
  closing ends = grind arith

  abbrev pub fields : List Named
  fields = plain_fields asked body

  pub host_is : values_named (codes "host") fields ≡ plain_host asked ∷ []
  host_is = ap (λ z. plain_host asked ∷ z) (after_all (codes "host") refl refl refl ∙ no_host (ends_after asked))

  pub agents_are : values_named (codes "desk-agent") fields ≡ agents
  agents_are = grind (arith, named_first, named_past, no_agent, append-nil)

  pub meant_are : values_named (codes "desk-for") fields ≡ meant
  meant_are = grind (arith, named_past, named_first, no_meant, append-nil)

  pub keys_are : values_named (codes "desk-key") fields ≡ keys
  keys_are = grind (arith, named_past, named_first, no_key, append-nil)

  pub no_coding_is : values_named (codes "transfer-encoding") fields ≡ []
  no_coding_is = after_all (codes "transfer-encoding") refl refl refl ∙ no_coding (ends_after asked)

  pub length_is : values_named (codes "content-length") fields ≡ numeral 10 (length body) ∷ []
  length_is = after_all (codes "content-length") refl refl refl ∙ one_length (ends_after asked)

  pub closes_is : asks_to_close (plain_parts asked body) ≡ ends_after asked
  closes_is = grind (arith, after_all, closing)

-- what follows from who is named and who is meant is the same
by_both : {X : Type 0} (asked : Parts) (body : List ℕ) (of : List (List ℕ) → List (List ℕ) → X)
    → of (values_named (codes "desk-agent") (plain_fields asked body)) (values_named (codes "desk-for") (plain_fields asked body))
    ≡ of (agents asked body) (meant asked body)
by_both asked body of = grind (arith, agents_are, meant_are)

-- The length of a body.

digits_are : (text : List ℕ) → AllDigits 10 text → list_all is_digit text ≡ true
digits_are [] all = refl
digits_are (digit ∷ later) all = grind (arith, and_from, nat_tests, digits_are later)

few_digits : (n : ℕ) → n ≤ most_bytes → length (numeral 10 n) ≤ 9
unfolding numeral
few_digits n short = grind (arith, length-map, length-digits_of-le)

is_good_length : (n : ℕ) → n ≤ most_bytes → is_length (numeral 10 n) ≡ true
is_good_length n short = grind (arith, numeral_reads_back, and_from, le-leb, few_digits, digits_are)

-- The whole head.

-- it asks for no page without a body
not_head : (t : Bool) (method : List ℕ) → bytes_eq method (codes "HEAD") ≡ t
    → bytes_eq (if t then codes "GET" else method) (codes "HEAD") ≡ false
not_head t method is = grind arith

-- nothing is wrong with it
no_complaint : (asked : Parts) (body : List ℕ) → length body ≤ most_bytes → complaint_of (plain_parts asked body) ≡ None
no_complaint asked body short =
    grind (arith, host_is, no_coding_is, length_is, is_good_length, numeral_reads_back, le-leb, or_right)

-- what a request says plainly is what the profile reads in the plain head
pub as_request : (r : Request) (asked : Parts) (body : List ℕ) → length body ≤ most_bytes → SaysPlainly r asked body
    → IsRequest r (plain_parts asked body) body
as_request r asked body short says = record {
  method = says.method;
  target = says.target;
  host = says.host ∙ sym (ap the_text (host_is asked body));
  agent = says.agent ∙ sym (by_both asked body (λ named whom. option_and_then (keep_if (is_meant whom)) (option_and_then (keep_if is_agent) (the_one named))));
  is_unnamed = says.is_unnamed ∙ sym (by_both asked body (λ named whom. (length named == 0) && (length whom == 0)));
  key = says.key ∙ sym (ap (λ z. option_and_then (keep_if is_key) (the_one z)) (keys_are asked body));
  body = says.body;
  closes = says.closes ∙ sym (closes_is asked body);
  complaint = says.complaint ∙ sym (no_complaint asked body short);
  is_head = says.is_head ∙ sym (not_head (bytes_eq asked.method (codes "HEAD")) asked.method refl);
}

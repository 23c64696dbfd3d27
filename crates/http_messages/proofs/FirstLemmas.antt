-- The first message of bytes that are in memory. For first_message, decided_front and messages_stay.
use Rattle.std.proofs.Common.{◌≡◌, ◌∙◌, ap, sym, subst, refl, ℕ, suc, ◌+◌, ◌<◌, ◌≤◌, Bool, false, List, [], ◌∷◌, ◌++◌, map, length, take, drop, take-append-drop, append-nil, append_assoc, arith, length-append, length-drop, find, if◌then◌else◌, None, Some}
use Rattle.std.specs.List.{concat}
use Rattle.std.proofs.lemmas.List.{drop-take, length-take, length-take-le, take-take}
use Rattle.std.proofs.lemmas.Grind.{common_steps}
use Rattle.httparse.specs.Grammar.{RequestHead}
use Rattle.httparse.proofs.GrammarLemmas.{request_unique}
use Rattle.http_messages.specs.Messages as sent
use Rattle.http_messages.specs.Messages.{AreEach, BeginsWith, BeginsWithAll, HasNoMessage, first_told, fronts, is_told}
use Rattle.http_messages.specs.Heads.{IsHead, IsNoHead, Parts, body_length, parts_of}
use Rattle.http_messages.specs.Places.{IsToldAt, WentThrough}
use Rattle.http_messages.specs.Requests.{IsRequest}
use Rattle.http_messages.specs.Fields.{IsHeadWith}
use Rattle.http_messages.specs.Reading.{IsFirstOf}
use Rattle.http_messages.specs.declared.places.Place.{Place}
use Rattle.http_messages.specs.declared.requests.Request.{Request}
use Rattle.http_messages.specs.declared.requests.Message.TheVariants as taken
use Rattle.http_messages.proofs.HeadLemmas.{first_of_told}
use Rattle.http_messages.proofs.ToldLemmas.{find_map}
use Rattle.std.specs.Prelude.{option_map}

-- Prefixes.

-- of the prefixes, none passes where none of each length does
find_none : (test : List ℕ → Bool) (xs : List ℕ)
    → ((k : ℕ) → k ≤ length xs → test (take k xs) ≡ false)
    → find test (fronts xs) ≡ None
find_none test [] none = ap (λ z. if z then Some [] else None) (none 0 (omega arith))
find_none test (b ∷ xs) none =
    ap (λ z. if z then Some [] else find test (map (λ x. b ∷ x) (fronts xs))) (none 0 (omega arith))
    ∙ find_map test b (fronts xs) ∙ ap (option_map (λ x. b ∷ x)) (find_none (λ x. test (b ∷ x)) xs (λ k within. none (suc k) (omega arith)))

-- where the walk went through all bytes, none of their prefixes is decided
pub none_told : (place : Place) (bytes : List ℕ) → WentThrough bytes (length bytes) place → first_told bytes ≡ None
none_told place bytes went = find_none is_told bytes went.calm

-- Messages.

-- where no prefix is decided, there is no message
pub no_front_none : (stream : List ℕ) → first_told stream ≡ None → HasNoMessage stream
no_front_none stream none x rest begins = grind arith

module _ (stream behind : List ℕ) (bytes : List ℕ) (end : ℕ) (whole : stream ≡ bytes ++ behind) (told : IsToldAt bytes end) where
  -- the decided prefix
  abbrev pub front : List ℕ
  front = take end bytes

  -- the prefix is the first decided one of the stream
  first_is : first_told stream ≡ Some front
  first_is = ap first_told whole ∙ first_of_told bytes behind end told

  -- the stream is the prefix and what follows
  cut_at : stream ≡ front ++ (drop end bytes ++ behind)
  cut_at =
      whole ∙ ap (λ all. all ++ behind) (sym (take-append-drop end bytes)) ∙ append_assoc front (drop end bytes) behind

  -- a prefix that is no head is a message
  pub begins_without_head : (rest : List ℕ) → rest ≡ drop end bytes → IsNoHead front → BeginsWith stream sent.NoHead (rest ++ behind)
  begins_without_head rest is none = grind (arith, first_is, cut_at)

  module _ (h : RequestHead) (is_head : IsHead front h) where
    -- a head, followed by as many bytes as its length says, is a message
    pub begins_with_request : (body rest : List ℕ)
        → length body ≡ body_length (parts_of h)
        → drop end bytes ≡ body ++ rest
        → BeginsWith stream (sent.Asks h body) (rest ++ behind)
    begins_with_request body rest long is = grind (arith, first_is, cut_at, append_assoc)

    -- a message that begins with a head has as many bytes as its length says
    pub is_whole : (m : sent.Message) (rest : List ℕ) → BeginsWith stream m rest → end + body_length (parts_of h) ≤ length stream
    is_whole sent.NoHead rest begins = grind (arith, first_is)
    is_whole (sent.Asks k body) rest begins =
        let same : begins.front ≡ front = let first = begins.first in let here = first_is in cc in
        let k_here : IsHead front k = subst (λ text. IsHead text k) same begins.is_head in
        let heads : k ≡ h = (request_unique front k h [] [] k_here.reads is_head.reads).0 in
        let long : length body ≡ body_length (parts_of h) = begins.is_long ∙ ap (λ z. body_length (parts_of z)) heads in
        let count : length begins.front ≡ end = ap length same ∙ length-take-le end bytes told.within in
        omega (arith, long, count, ap length begins.whole, length-append begins.front (body ++ rest), length-append body rest)

-- What is taken.

-- a prefix is decided in as many bytes as contain it
told_within : (bytes : List ℕ) (end count : ℕ) → end ≤ count → IsToldAt bytes end → IsToldAt (take count bytes) end
told_within bytes end count room at = grind (arith, length-take, take-take)

-- behind as many bytes as there are, nothing is left
nothing_left : (bytes : List ℕ) (end : ℕ) → [] ≡ drop end (take end bytes)
nothing_left bytes end = grind (arith, common_steps)

-- a decided prefix that is no head is a message
pub no_head_first : (bytes : List ℕ) (end : ℕ) → IsToldAt bytes end → IsNoHead (take end bytes) → IsFirstOf bytes taken.NoHead end
no_head_first bytes end at none =
    let front = take end bytes in
    record {
      message = sent.NoHead;
      is_taken = tt;
      within = at.within;
      is_message = λ rest. begins_without_head (front ++ rest) rest front end refl (told_within bytes end end (omega arith) at) [] (nothing_left bytes end)
          (subst IsNoHead (sym (take-take end end bytes (omega arith))) none);
    }

module _ (bytes : List ℕ) (end count : ℕ) (parts : Parts) (at : IsToldAt bytes end) (is : IsHeadWith (take end bytes) parts)
    (long : count ≡ body_length parts) where
  -- the head gives this length
  long_as : count ≡ body_length (parts_of is.0)
  long_as = long ∙ ap body_length is.2

  -- fewer bytes have no whole message
  pub none_whole : length bytes < end + count → HasNoMessage bytes
  none_whole few = grind (arith, is_whole bytes [] bytes end (sym (append-nil bytes)))

  -- as many bytes have
  pub request_first : (r : Request) → end + count ≤ length bytes
      → IsRequest r parts (take count (drop end bytes))
      → IsFirstOf bytes (taken.Asks r) (end + count)
  request_first r enough asks =
      let body = take count (drop end bytes) in
      let all = take (end + count) bytes in
      let same : take end all ≡ take end bytes = take-take end (end + count) bytes (omega arith) in
      let left : drop end all ≡ body ++ [] = drop-take end count bytes ∙ sym (append-nil body) in
      let full : length body ≡ body_length (parts_of is.0) =
      length-take-le count (drop end bytes) (omega (arith, enough, length-drop end bytes)) ∙ long_as in
      record {
        message = sent.Asks is.0 body;
        is_taken = subst (λ z. IsRequest r z body) is.2 asks;
        within = enough;
        is_message = λ rest. begins_with_request (all ++ rest) rest all end refl (told_within bytes end (end + count) (omega arith) at) is.0
            (subst (λ text. IsHead text is.0) (sym same) is.1) body [] full left;
      }

-- messages one after another are the first of what they begin
pub messages_stay : (texts : List (List ℕ)) (ms : List sent.Message) (rest : List ℕ) → AreEach texts ms
    → BeginsWithAll (concat texts ++ rest) ms rest
messages_stay [] ms rest are = subst (λ (all : List sent.Message). BeginsWithAll rest all rest) (sym are) refl
messages_stay (text ∷ texts) [] rest are = absurd are
messages_stay (text ∷ texts) (m ∷ ms) rest are = grind (arith, append_assoc, messages_stay texts ms rest are.1)

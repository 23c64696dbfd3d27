-- The text of an ask is the target of its message, a line feed and the body, and a message of a stream has short ones. For the law,
-- and for that of both ways of HTTP.
use Rattle.std.proofs.Common.{◌≡◌, ◌≤◌, ◌+◌, ap, refl, ℕ, suc, List, [], ◌∷◌, ◌++◌, Bool, true, false, length, arith, length-append, Some, None, nat_le}
use Rattle.std.proofs.lemmas.Bool.{leb-true}
use Rattle.httparse.specs.Grammar.{RequestHead, print_blank, print_end, print_request, print_section, print_version}
use Rattle.allotment.specs.Making.{unless}
use Rattle.allotment.specs.Texts.{line_feed}
use Rattle.commands.specs.Asks.{Asked}
use Rattle.commands.specs.Limits.{most_bytes}
use Rattle.commands.specs.Request.{Request}
use Rattle.commands.specs.declared.replies.Refusal.TheVariants.{BadHead, TooLarge, NoLength}
use Rattle.http_messages.specs.Heads.{IsHead, Parts, body_length, first_of, is_plain, length_in, length_unless, lengths, most_head_bytes, parts_of, tells_length}
use Rattle.http_messages.specs.Messages.{Message, NoHead, Asks, BeginsWith}
use Rattle.desk_http.specs.Laws.{HasShortAsk}
use Rattle.desk_http.specs.Pages.{command_in}
use Rattle.desk_http.specs.declared.doors.Door.{Door}
use Rattle.desk_http.proofs.RequestLemmas.{command_of}

-- How long both are.

-- a body that is not refused is within the limit
body_short : (parts : Parts) → body_length parts ≤ most_bytes
body_short parts = go (is_plain parts) (nat_le (length_in (lengths parts)) most_bytes) (tells_length parts) refl
  where
    go : (plain few told : Bool) → nat_le (length_in (lengths parts)) most_bytes ≡ few
        → length_unless (first_of (unless plain BadHead ++ unless few TooLarge ++ unless told NoLength)) (length_in (lengths parts)) ≤ most_bytes
    go false few told is = omega arith
    go true false told is = omega arith
    go true true false is = omega arith
    go true true true is = leb-true (length_in (lengths parts)) most_bytes is

-- a head is longer than its target
pub target_short : (text : List ℕ) (h : RequestHead) → IsHead text h → length h.target + 1 ≤ most_head_bytes
unfolding print_request
target_short text h is =
    let first = print_blank h.blank ++ h.method in
    let asked = first ++ 32 ∷ h.target in
    let versioned = asked ++ 32 ∷ print_version h.minor in
    let line = versioned ++ print_end h.line_end in
    let whole : length text ≡ length (print_request h ++ []) = ap length is.reads.1 in
    let all : length (print_request h ++ []) ≡ length (print_request h) + 0 = length-append (print_request h) [] in
    let section : length (print_request h) ≡ length line + length (print_section h.fields h.last) =
    length-append line (print_section h.fields h.last) in
    let ended = length-append versioned (print_end h.line_end) in
    let version = length-append asked (32 ∷ print_version h.minor) in
    let target : length asked ≡ length first + suc (length h.target) = length-append first (32 ∷ h.target) in
    omega (arith, whole, all, section, ended, version, target, is.short)

-- the text of an ask is the target of its message, a line feed and the body
pub ask_length : (door : Door) (h : RequestHead) (body : List ℕ) (asked : Request) (ask : Asked)
    → command_in door (Asks h body) ≡ Some (asked, Some ask) → length ask.text ≡ length h.target + 1 + length body
ask_length door h body asked ask makes =
    let text : ask.text ≡ h.target ++ line_feed ∷ body = (command_of door h body (asked, Some ask) makes).asks.1 in
    let long : length ask.text ≡ length (h.target ++ line_feed ∷ body) = ap length text in
    let sum = length-append h.target (line_feed ∷ body) in
    omega (arith, long, sum)

pub asks_are_short : (door : Door) (stream rest : List ℕ) (m : Message) → BeginsWith stream m rest → HasShortAsk door m
asks_are_short door stream rest NoHead begins asked ask makes = let bad : None ≡ Some (asked, Some ask) = makes in cc
asks_are_short door stream rest (Asks h body) begins asked ask makes =
    let long = ask_length door h body asked ask makes in
    let few = body_short (parts_of h) in
    let target = target_short begins.front h begins.is_head in
    let said = begins.is_long in
    omega (arith, long, few, target, said)

-- The text of an ask that bytes make in a mode is no longer than a head and a body. For the law.
use Rattle.std.proofs.Common.{◌≡◌, ◌≤◌, ◌∙◌, ap, sym, ℕ, List, [], ◌++◌, Bool, true, false, length, arith, inl, inr, Some, None, take, ◌-◌, if◌then◌else◌}
use Rattle.std.proofs.lemmas.List.{length-drop, length-take}
use Rattle.http_messages.specs.Heads.{Parts}
use Rattle.http_messages.specs.Messages as sent
use Rattle.http_messages.specs.Wide as wide
use Rattle.http_messages.specs.Wide.{Wide}
use Rattle.http_messages.specs.Plain.{after_authority, after_scheme, authority_length, has_empty_query, is_absolute, path_of, plain_target, without_empty_query}
use Rattle.desk_http.specs.Laws.{HasShortAsk}
use Rattle.desk_http.specs.Pages.{command_in}
use Rattle.desk_http.specs.declared.doors.Door.{Door}
use Rattle.desk_http.proofs.AskLemmas as profile
use Rattle.desk_http.proofs.AskLemmas.{ask_length, target_short}
use Rattle.http_conversations.specs.Modes.{Means, Said, Says, unread}
use Rattle.http_conversations.specs.declared.modes.Layout.{Layout}
use Rattle.http_conversations.specs.declared.modes.Mode.{Mode}
use Rattle.http_conversations.specs.declared.modes.Mode.TheVariants as mode

-- Targets.

path_shorter : (target : List ℕ) → length (path_of target) ≤ length target
path_shorter target = go (is_absolute target)
  where
    go : (absolute : Bool) → length (if absolute then after_authority target else target) ≤ length target
    go true =
        let one = length-drop 7 target in
        let all = length-drop (authority_length (after_scheme target)) (after_scheme target) in
        omega (arith, one, all)
    go false = omega arith

query_shorter : (path : List ℕ) → length (without_empty_query path) ≤ length path
query_shorter path = go (has_empty_query path)
  where
    go : (empty : Bool) → length (if empty then take (length path - 1) path else path) ≤ length path
    go true = let some = length-take (length path - 1) path in omega (arith, some)
    go false = omega arith

-- the target that is meant is no longer than the one that was sent
plain_shorter : (target : List ℕ) → length (plain_target target) ≤ length target
plain_shorter target =
    let path = path_shorter target in
    let query = query_shorter (path_of target) in
    omega (arith, path, query)

-- Messages.

-- what is not read asks for nothing
unread_asks : (door : Door) (l : Layout) (x : Said) → x ≡ unread l → HasShortAsk door x.meant
unread_asks door l x is asked ask makes =
    let none : command_in door x.meant ≡ None = ap (λ (y : Said). command_in door y.meant) is in
    let bad : None ≡ Some (asked, Some ask) = sym none ∙ makes in
    cc

meant_short : (door : Door) (bytes : List ℕ) (w : Wide) (x : Said) (more rest : List ℕ) → wide.BeginsWith (bytes ++ more) w rest
    → Means bytes w x → HasShortAsk door x.meant
meant_short door bytes wide.NoMethod x more rest begins means = unread_asks door _ x means
meant_short door bytes wide.NoHead x more rest begins means = unread_asks door _ x means.2
meant_short door bytes (wide.Unread h why) x more rest begins means = unread_asks door _ x means.2
meant_short door bytes (wide.BadBody h) x more rest begins means = unread_asks door _ x means.2
meant_short door bytes (wide.Asks h body) x more rest begins means = λ asked ask makes.
    let here : command_in door (sent.Asks means.plain body) ≡ Some (asked, Some ask) = sym (ap (command_in door) means.meant) ∙ makes in
    let text = ask_length door means.plain body asked ask here in
    let same : length means.plain.target ≡ length (plain_target h.target) =
    ap (λ (p : Parts). length p.target) means.parts in
    let shorter = plain_shorter h.target in
    let head = target_short begins.2.front h begins.2.is_head in
    let few = begins.3.short in
    omega (arith, text, same, shorter, head, few)

pub asks_are_short : (mode : Mode) (door : Door) (bytes : List ℕ) (x : Said) → Says mode bytes x → HasShortAsk door x.meant
asks_are_short mode.Strict door bytes x says = profile.asks_are_short door (bytes ++ []) [] x.meant (says.0 [])
asks_are_short mode.Lenient door bytes x (inl says) = meant_short door bytes says.0 x [] _ (says.1 []) says.2
asks_are_short mode.Lenient door bytes x (inr long) = unread_asks door _ x long.denied

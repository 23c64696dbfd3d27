-- A message that made an event is answered again with the kept reply. For the law.
use Rattle.std.proofs.Common.{◌≡◌, ◌∙◌, ap, sym, subst, refl, ℕ, List, [], ◌∷◌, Bool, true, false, ◌&&◌, if◌then◌else◌, Option, Some, None, Result, Ok, bytes_eq, codes, is_some, IsTrue}
use Rattle.std.proofs.lemmas.Bool.{and_parts}
use Rattle.std.proofs.lemmas.Slice.Eq.{bytes_eq-Decides}
use Rattle.allotment.proofs.TestLemmas.{bytes_eq_self}
use Rattle.commands.specs.Asks.{Asked}
use Rattle.commands.specs.Request.{Request}
use Rattle.commands.specs.declared.replies.Refusal.{Refusal}
use Rattle.commands.specs.declared.replies.Reply.{Reply}
use Rattle.commands.specs.declared.replies.Reply.TheVariants as reply
use Rattle.commands.specs.declared.replies.Refusal.TheVariants.{KeyReused}
use Rattle.ledger.specs.Answer.{State, Kept, KeptReply, answer, asker, keep, kept_for, outcome, outcome_for, state_with}
use Rattle.ledger.specs.Ledger.{Event}
use Rattle.ledger.specs.World.{Moment, Done, Cut, Reopened, after}
use Rattle.http_messages.specs.Heads.{is_method, parts_of}
use Rattle.http_messages.specs.Messages.{Message, NoHead, Asks}
use Rattle.http_pages.specs.Pages.{page_text, reply_page}
use Rattle.http_pages.specs.declared.routes.Denied.{Denied}
use Rattle.desk_http.specs.Demands.{Demand, Carry, demand_of}
use Rattle.desk_http.specs.declared.doors.Door.{Door}
use Rattle.desk_http.specs.Hosts.{refusal_at}
use Rattle.desk_http.specs.Laws.{AnswersAgain, MakesEvent, later}
use Rattle.desk_http.specs.Pages.{Command, IsPage, Says, SaysUnless, closes, command_in, command_unless, state_after, state_by}

-- Kept replies.

-- keeping one more reply, under a key that was free, leaves the other kept replies the same
keep-other : (kept : Kept) (ask : Asked) (answered : Reply) (agent key : List ℕ) (k : KeptReply)
    → kept ask.agent ask.key ≡ None → kept agent key ≡ Some k → keep kept ask answered agent key ≡ Some k
keep-other kept ask answered agent key k free is = go (bytes_eq agent ask.agent && bytes_eq key ask.key) refl
  where
    go : (v : Bool) → (bytes_eq agent ask.agent && bytes_eq key ask.key) ≡ v
        → (if v then Some (record { text = ask.text; reply = answered }) else kept agent key) ≡ Some k
    go false at = is
    go true at =
        let both = and_parts (bytes_eq agent ask.agent) (bytes_eq key ask.key) at in
        let same_agent : agent ≡ ask.agent = (bytes_eq-Decides agent ask.agent).0 both.0 in
        let same_key : key ≡ ask.key = (bytes_eq-Decides key ask.key).0 both.1 in
        let there : kept ask.agent ask.key ≡ Some k = subst (λ x. kept ask.agent x ≡ Some k) same_key (subst (λ x. kept x key ≡ Some k) same_agent is) in
        let bad : None ≡ Some k = sym free ∙ there in cc

-- an answer leaves the other kept replies the same
kept-with : (s : State) (ask : Option Asked) (answered : Reply) (e : Option Event) (agent key : List ℕ) (k : KeptReply)
    → kept_for s ask ≡ None → s.kept agent key ≡ Some k → (state_with s ask answered e).kept agent key ≡ Some k
kept-with s ask answered None agent key k free is = is
kept-with s None answered (Some e) agent key k free is = is
kept-with s (Some ask) answered (Some e) agent key k free is = keep-other s.kept ask answered agent key k free is

-- a kept reply stays kept after a request
outcome-same : (s : State) (ask : Option Asked) (asked : Request) (agent key : List ℕ) (k : KeptReply)
    → s.kept agent key ≡ Some k → (outcome s ask asked).state.kept agent key ≡ Some k
outcome-same s ask asked agent key k is = go (kept_for s ask) refl
  where
    go : (o : Option KeptReply) → kept_for s ask ≡ o → (outcome_for s ask asked o).state.kept agent key ≡ Some k
    go (Some r) at = is
    go None at =
        kept-with s ask (answer s.ledger (asker ask) asked).reply (answer s.ledger (asker ask) asked).event agent key k at is

-- a kept reply stays kept in every execution
after-same : (s : State) (w : List Moment) (agent key : List ℕ) (k : KeptReply)
    → s.kept agent key ≡ Some k → (after s w).kept agent key ≡ Some k
after-same s [] agent key k is = is
after-same s (Done asked ask answered ∷ w) agent key k is =
    after-same (outcome s ask asked).state w agent key k (outcome-same s ask asked agent key k is)
after-same s (Cut asked ask true ∷ w) agent key k is =
    after-same (outcome s ask asked).state w agent key k (outcome-same s ask asked agent key k is)
after-same s (Cut asked ask false ∷ w) agent key k is = after-same s w agent key k is
after-same s (Reopened ∷ w) agent key k is = after-same s w agent key k is

-- a command of an agent with its ask
abbrev Sent : Type 0
Sent = Request × Asked

-- the kept reply of a command
abbrev kept_of : State → Sent → KeptReply
kept_of s c = record { text = c.1.text; reply = (outcome s (Some c.1) c.0).reply }

-- a command that made an event is kept with its reply
made-kept : (s : State) (c : Sent) → IsTrue (is_some (outcome s (Some c.1) c.0).event)
    → (outcome s (Some c.1) c.0).state.kept c.1.agent c.1.key ≡ Some (kept_of s c)
made-kept s c made = go (s.kept c.1.agent c.1.key) refl made
  where
    free : (e : Option Event) → IsTrue (is_some e)
        → (state_with s (Some c.1) (answer s.ledger (Some c.1.agent) c.0).reply e).kept c.1.agent c.1.key
        ≡ Some (record { text = c.1.text; reply = (answer s.ledger (Some c.1.agent) c.0).reply })
    free None = λ some. cc
    free (Some e) = λ some.
        ap (λ v. if v && bytes_eq c.1.key c.1.key then Some (record { text = c.1.text; reply = (answer s.ledger (Some c.1.agent) c.0).reply })
        else s.kept c.1.agent c.1.key) (bytes_eq_self c.1.agent)
        ∙ ap (λ v. if v then Some (record { text = c.1.text; reply = (answer s.ledger (Some c.1.agent) c.0).reply })
        else s.kept c.1.agent c.1.key) (bytes_eq_self c.1.key)

    go : (o : Option KeptReply) → s.kept c.1.agent c.1.key ≡ o → IsTrue (is_some (outcome_for s (Some c.1) c.0 o).event)
        → (outcome_for s (Some c.1) c.0 o).state.kept c.1.agent c.1.key
        ≡ Some (record { text = c.1.text; reply = (outcome_for s (Some c.1) c.0 o).reply })
    go (Some r) at = λ some. cc
    go None at = free (answer s.ledger (Some c.1.agent) c.0).event

-- a command whose reply is kept gets it again, and nothing changes
kept-again : (t : State) (c : Sent) (k : KeptReply) → k.text ≡ c.1.text → t.kept c.1.agent c.1.key ≡ Some k
    → ((outcome t (Some c.1) c.0).reply ≡ k.reply) × ((outcome t (Some c.1) c.0).state ≡ t)
kept-again t c k text is = (
  ap (λ o. (outcome_for t (Some c.1) c.0 o).reply) is
      ∙ ap (λ v. if v then k.reply else reply.Refused KeyReused) (ap (λ x. bytes_eq x c.1.text) text ∙ bytes_eq_self c.1.text),
  ap (λ o. (outcome_for t (Some c.1) c.0 o).state) is,
)

-- Messages.

-- a message that makes a command has a head without complaint, and the demand to execute that command
pub carry_of : (o : Option Refusal) (d : Result Demand Denied) (c : Command) → command_unless o d ≡ Some c
    → (o ≡ None) × (d ≡ Ok (Carry c.0 c.1))
carry_of (Some why) d c = λ is. cc
carry_of None (Ok (Carry asked ask)) c = λ is. let e : (asked, ask) ≡ c = cc in (refl, ap (λ (x : Command). Ok (Carry x.0 x.1)) e)
carry_of None _ c = λ is. cc

-- the message's page has no body
abbrev is_head_in : Message → Bool
is_head_in NoHead = false
is_head_in (Asks h body) = is_method (codes "HEAD") (parts_of h)

-- the page of an agent's command that is executed
carried_page : (door : Door) (s : State) (m : Message) (c : Sent) (bytes : List ℕ)
    → command_in door m ≡ Some (c.0, Some c.1) → IsPage door s m bytes
    → bytes ≡ page_text (is_head_in m) (closes door m) (reply_page (outcome s (Some c.1) c.0).reply)
carried_page door s NoHead c bytes asks page = let bad : None ≡ Some (c.0, Some c.1) = asks in cc
carried_page door s (Asks h body) c bytes asks page =
    let parts = parts_of h in
    let of = carry_of (refusal_at door parts) (demand_of door parts body) (c.0, Some c.1) asks in
    let says : Says s (demand_of door parts body) page.page =
    subst (λ o. SaysUnless o door s parts body page.page) of.0 page.says in
    let said : Says s (Ok (Carry c.0 (Some c.1))) page.page = subst (λ d. Says s d page.page) of.1 says in
    page.text ∙ ap (page_text (is_method (codes "HEAD") parts) (closes door (Asks h body))) said

-- a message that made an event gets the same page again, and nothing changes
pub answered_as_before : (door : Door) (s : State) (m : Message) (between : List Moment) → MakesEvent door s m
    → AnswersAgain door s m between
answered_as_before door s m between event =
    let c : Sent = (event.asked, event.ask) in
    let t = later door s m between in
    let there : state_after door s m ≡ (outcome s (Some c.1) c.0).state = ap (state_by s) event.asks in
    let kept : (state_after door s m).kept c.1.agent c.1.key ≡ Some (kept_of s c) =
    ap (λ (x : State). x.kept c.1.agent c.1.key) there ∙ made-kept s c event.made in
    let again = kept-again t c (kept_of s c) refl (after-same (state_after door s m) between c.1.agent c.1.key (kept_of s c) kept) in
    record {
      page = λ first second one two.
          carried_page door t m c second event.asks two ∙ ap (λ r. page_text (is_head_in m) (closes door m) (reply_page r)) again.0
          ∙ sym (carried_page door s m c first event.asks one);
      state = ap (state_by t) event.asks ∙ again.1;
    }

-- The page of what is said in a mode.
use Rattle.std.specs.Prelude.{◌≡◌, ℕ, ◌||◌, Bool, true, false, List, [], bytes_eq, codes, if◌then◌else◌, Option, Some, None, is_some, Result, Err}
use Rattle.ledger.specs.Answer.{State}
use Rattle.http_messages.specs.Heads.{parts_of}
use Rattle.http_messages.specs.Messages as sent
use Rattle.http_pages.specs.Routes.{route_of}
use Rattle.http_pages.specs.Verbs.{verb_text}
use Rattle.http_pages.specs.declared.routes.Route.{Route}
use Rattle.http_pages.specs.declared.routes.Unrouted.{Unrouted}
use Rattle.http_pages.specs.declared.routes.Unrouted.TheVariants.{WrongMethod}
use Rattle.http_pages.specs.declared.routes.Verb.{Verb}
use Rattle.http_pages.specs.declared.routes.Verb.TheVariants as verb
use Rattle.report_words.specs.Targets.{asks_for_report}
use Rattle.desk_http.specs.Answering.{Comes}
use Rattle.desk_http.specs.Hosts.{refusal_at}
use Rattle.desk_http.specs.Pages.{IsPage, closes, state_after}
use Rattle.desk_http.specs.declared.answering.Answer.{Answer}
use Rattle.desk_http.specs.declared.doors.Door.{Door}
use Rattle.desk_http.specs.declared.doors.Door.TheVariants as doors
use Rattle.http_messages.specs.declared.asked.AskedKind.{AskedKind}
use Rattle.http_messages.specs.declared.asked.AskedKind.TheVariants.{Head, Options}
use Rattle.http_conversations.specs.PageTexts.{IsDateLine, denial_text, not_allowed_text, options_text, wide_text}
use Rattle.saga_core.specs.declared.serve_faults.ServeFault.{ServeFault}
use Rattle.http_conversations.specs.Modes.{Said}
use Rattle.http_conversations.specs.declared.showing.Shown.{Shown}
use Rattle.http_conversations.specs.declared.showing.Shown.TheVariants as shown
use Rattle.http_conversations.specs.declared.modes.Layout.{Layout}
use Rattle.http_conversations.specs.declared.modes.Layout.TheVariants as layout

-- What is shown.

-- the method of a path that was asked for by another
abbrev pub other_verb : Result Route Unrouted → Option Verb
other_verb (Err (WrongMethod verb)) = Some verb
other_verb _ = None

-- the method that a path has, which was asked for by another
abbrev pub verb_of_path : List ℕ → List ℕ → Option Verb
verb_of_path method target = other_verb (route_of method target)

-- this method, where another was asked for
abbrev pub unless_asked : Verb → List ℕ → Option Verb
unless_asked verb method = if bytes_eq method (verb_text verb) then None else Some verb

-- the method of a path that a door has of its own: the house's has `/stop`, `/metrics` and the reports, and that with a
-- page has `/`
abbrev pub own_verb : Door → List ℕ → Option Verb
own_verb doors.Port target = None
own_verb doors.House target =
    if bytes_eq target (codes "/stop") then Some verb.Post
    else if bytes_eq target (codes "/metrics") || asks_for_report target then Some verb.Get
    else None
own_verb (doors.Page site) target = if bytes_eq target (codes "/") then Some verb.Get else None

-- the method that a path has at a door, which was asked for by another: that of the door's own path, or else of any path
abbrev pub verb_by : Option Verb → List ℕ → List ℕ → Option Verb
verb_by (Some verb) method target = unless_asked verb method
verb_by None method target = verb_of_path method target

abbrev pub verb_at : Door → List ℕ → List ℕ → Option Verb
verb_at door method target = verb_by (own_verb door target) method target

-- the page of the profile; for HEAD without its body
abbrev pub page_for : AskedKind → Shown
page_for Head = shown.PageOfHead
page_for _ = shown.Page

-- it is HEAD
abbrev pub is_head : AskedKind → Bool
is_head Head = true
is_head _ = false

-- a path that is known shows what it allows
abbrev pub options_of : Option Verb → Shown
options_of (Some verb) = shown.Options (Some verb)
options_of None = shown.Page

-- a path that is known does not allow other methods
abbrev pub not_allowed_of : AskedKind → Option Verb → Shown
not_allowed_of kind (Some verb) = shown.NotAllowed verb (is_head kind)
not_allowed_of kind None = page_for kind

-- what is shown at a door for a request that asks for this
abbrev pub shown_at : Door → AskedKind → List ℕ → List ℕ → Shown
shown_at door Options method target =
    if bytes_eq target (codes "*") then shown.Options None else options_of (verb_at door method target)
shown_at door kind method target = not_allowed_of kind (verb_at door method target)

-- the same for the message that is meant; a head that is refused at the door, as one with another host, gets its refusal
abbrev pub shown_for : Door → AskedKind → sent.Message → Shown
shown_for door kind sent.NoHead = shown.Page
shown_for door kind (sent.Asks h body) =
    if is_some (refusal_at door (parts_of h)) then page_for kind else shown_at door kind h.method h.target

-- the bytes of what is shown, with this date line, where the profile has this page
abbrev pub shown_text : Shown → Bool → (date page : List ℕ) → List ℕ
shown_text shown.Page closing date page = wide_text false date page
shown_text shown.PageOfHead closing date page = wide_text true date page
shown_text (shown.Options verb) closing date page = options_text verb closing date
shown_text (shown.NotAllowed verb is_head) closing date page = not_allowed_text verb is_head closing date

-- Pages.

-- the page of what is said at a door, with this date line, where the profile has this page
abbrev pub laid_out : Layout → Door → sent.Message → Bool → (date page : List ℕ) → List ℕ
laid_out layout.Profile door m closing date page = page
laid_out (layout.Wide kind) door m closing date page = shown_text (shown_for door kind m) closing date page
laid_out (layout.Denied why) door m closing date page = denial_text why date
laid_out layout.Nothing door m closing date page = []

-- these bytes are a page of the profile, laid out, where the clock shows this second
pub record LaysOut (door : Door) (second : Option ℕ) (x : Said) (closing : Bool) (page bytes : List ℕ) : Type 0 where
  pub date : List ℕ
  pub is_date : IsDateLine second date
  pub laid : bytes ≡ laid_out x.layout door x.meant closing date page

-- these are the bytes of the page of what was said at a door, where the clock shows this second: those of the profile's
-- page, laid out
pub record IsPageAt (door : Door) (second : Option ℕ) (s : State) (x : Said) (bytes : List ℕ) : Type 0 where
  pub page : List ℕ
  pub is_page : IsPage door s x.meant page
  pub laid : LaysOut door second x (closes door x.meant) page bytes

-- the same, whatever the clock showed
abbrev pub IsPageBy : Door → State → Said → List ℕ → Type 0
IsPageBy door s x bytes = (second : Option ℕ) × IsPageAt door second s x bytes

module _ (stands : State → Type 0) (leaves : State → State → Type 0) (s : State) where
  -- these are the bytes of the page of what was said at a door, where the clock shows this second
  abbrev pub AnswersAt : Door → Option ℕ → Said → Result Answer ServeFault → Type 0
  AnswersAt door second x result =
      Comes stands leaves s (state_after door s x.meant)
      (λ answer. IsPageAt door second s x answer.bytes.items × (answer.closes ≡ closes door x.meant)) result

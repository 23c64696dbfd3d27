-- The outcome of messages and demands. For the answer to one message.
use Rattle.std.proofs.Common.{◌≡◌, ◌∙◌, ap, sym, subst, refl, inl, inr, ℕ, List, Bool, true, false, ◌&&◌, ◌||◌, Option, None, Result, Ok, Err, is_some, not, codes}
use Rattle.ledger.specs.Answer.{State}
use Rattle.http_messages.specs.Requests.{IsRequest, IsTaken}
use Rattle.http_messages.specs.Heads.{Parts, is_method, is_unnamed, parts_of}
use Rattle.http_messages.specs.Messages as sent
use Rattle.http_messages.specs.declared.requests.Message.TheVariants as taken
use Rattle.http_messages.specs.declared.requests.Request.{Request}
use Rattle.commands.specs.declared.replies.Refusal.{Refusal}
use Rattle.commands.specs.declared.replies.Refusal.TheVariants.{BadHead}
use Rattle.http_log.specs.declared.counting.Metrics.{Metrics}
use Rattle.http_pages.specs.Pages.{denied_page, page_said, page_text, refused_page}
use Rattle.http_pages.specs.declared.routes.Denied.{Denied}
use Rattle.http_pages.specs.declared.answers.Page as shown
use Rattle.desk_http.specs.Answering.{LaidOut}
use Rattle.desk_http.specs.Demands.{Demand, asks_to_stop, demand_of}
use Rattle.desk_http.specs.Hosts.{refusal_at}
use Rattle.desk_http.specs.Pages.{IsPage, closes, command_in, stops}
use Rattle.desk_http.specs.Reasons.{Meets, Obeys, Tells, Views}
use Rattle.desk_http.specs.Monitored.{AsksForMetrics, GetsCounted, ShowsCounted}
use Rattle.desk_http.specs.declared.answering.Answer.{Answer}
use Rattle.desk_http.specs.declared.doors.Door.{Door}
use Rattle.desk_http.specs.declared.doors.Door.TheVariants.{Port, House, Page}
use Rattle.saga_core.specs.declared.serve_faults.ServeFault.{ServeFault}
use Rattle.saga_core.specs.declared.serve_faults.ServeFault.TheVariants.{Memory}
use Rattle.saga_core.specs.Runs.{Asks}
use Rattle.desk_http.proofs.ReasonLemmas.{view_goes_on}

-- this is what the head of a request is refused for at a door
abbrev pub IsRefusedAt : Door → Request → Option Refusal → Type 0
IsRefusedAt door r why =
    (parts : Parts) (body : List ℕ) → IsRequest r parts body → why ≡ refusal_at door parts

-- Whether a page closes.

-- bytes that are no head close
pub no_head_closes : (door : Door) (m : sent.Message) → IsTaken taken.NoHead m → true ≡ closes door m
no_head_closes door sent.NoHead is = refl
no_head_closes door (sent.Asks h body) is = absurd is

-- a request closes where its head is refused, or where it asks to close
pub request_closes : (door : Door) (r : Request) (why : Option Refusal) (c : Bool) → IsRefusedAt door r why
    → c ≡ (is_some why || r.closes) → (m : sent.Message) → IsTaken (taken.Asks r) m → c ≡ closes door m
request_closes door r why c refused ends sent.NoHead is = absurd is
request_closes door r why c refused ends (sent.Asks h body) is =
    ends ∙ ap (λ w. is_some w || r.closes) (refused (parts_of h) body is)
    ∙ ap (λ w. is_some (refusal_at door (parts_of h)) || w) is.closes

-- What a message gets.

-- these are the bytes of the page of a message, and whether it closes
abbrev pub IsAnswer : Door → sent.Message → State → Answer → Type 0
IsAnswer door m s answer = IsPage door s m answer.bytes.items × (answer.closes ≡ closes door m)

module _ {B : Type 0} {is_sound : B → Type 0} {stands : B → State → Type 0} {leaves : B → State → State → Type 0}
    {may : B → B → State → Asks → Type 0} {reason : B → B → State → State → Type 0} {old new : B} where
  -- a view executes no command
  pub view_obeys : {has_failed : B → Bool} {T : Type 0} {So : State → T → Type 0} {result : Result T ServeFault}
      → Views is_sound stands leaves has_failed may reason old new So result
      → Obeys is_sound stands leaves may reason old new None So result
  view_obeys {result = result} views = record {
    comes = views.shows;
    may_act = λ sound first. view_goes_on (may first old) (may first new) (reason first new) result (views.may_act sound first);
  }

  -- a request whose head is not refused gets the outcome of its demand
  pub met_tells : {result : Result shown.Page ServeFault} (door : Door) (parts : Parts) (body : List ℕ) (demand : Demand)
      → refusal_at door parts ≡ None → demand_of door parts body ≡ Ok demand
      → Meets is_sound stands leaves may reason old new demand result
      → Tells is_sound stands leaves may reason old new door parts body result
  met_tells door parts body demand none is met = record {
    comes = λ sound s stood. rw (none, is) (met.comes sound s stood);
    may_act = λ sound first. rw (none, is) (met.may_act sound first);
  }

  -- a request gets the page that reports its outcome
  pub request_obeys : (door : Door) (r : Request) (why : Option Refusal) (m : sent.Message) (result : Result Answer ServeFault)
      (page : shown.Page) (ends stopped : Bool) → IsTaken (taken.Asks r) m → IsRefusedAt door r why
      → ((parts : Parts) (body : List ℕ) → IsRequest r parts body → why ≡ refusal_at door parts
      → Tells is_sound stands leaves may reason old new door parts body (Ok page))
      → ends ≡ (is_some why || r.closes) → LaidOut result (page_said page) r.is_head ends stopped
      → Obeys is_sound stands leaves may reason old new (command_in door m) (IsAnswer door m) result
  request_obeys door r why sent.NoHead result page ends stopped is refused tells closing out = absurd is
  request_obeys door r why (sent.Asks h body) (Ok answer) page ends stopped is refused tells closing out =
      let parts = parts_of h in
      let told = tells parts body is (refused parts body is) in
      let so = request_closes door r why ends refused closing (sent.Asks h body) is in
      record {
        comes = λ sound s stood.
            let came = told.comes sound s stood in (
              (
                record {
                  page = page_said page;
                  says = came.0;
                  text = out.bytes ∙ ap (λ head. page_text head ends (page_said page)) is.is_head
                      ∙ ap (λ c. page_text (is_method (codes "HEAD") parts) c (page_said page)) so;
                },
                out.closes ∙ so,
              ),
              came.1,
            );
        may_act = told.may_act;
      }
  request_obeys door r why (sent.Asks h body) (Err fault) page ends stopped is refused tells closing out =
      let told = tells (parts_of h) body is (refused (parts_of h) body is) in
      subst (λ f. Obeys is_sound stands leaves may reason old new (command_in door (sent.Asks h body)) (IsAnswer door (sent.Asks h body)) (Err f))
      (sym out.memory)
      (record {
        comes = λ sound s stood. inr (told.comes sound s stood).1;
        may_act = λ sound first. inr (λ s later could. inr (told.may_act sound first s later could));
      })

  -- a request that met a fault leaves the states of that fault
  pub request_fails : (door : Door) (r : Request) (why : Option Refusal) (m : sent.Message) (fault : ServeFault)
      → IsTaken (taken.Asks r) m → IsRefusedAt door r why
      → ((parts : Parts) (body : List ℕ) → IsRequest r parts body → why ≡ refusal_at door parts
      → Tells is_sound stands leaves may reason old new door parts body (Err fault))
      → Obeys is_sound stands leaves may reason old new (command_in door m) (IsAnswer door m) (Err fault)
  request_fails door r why sent.NoHead fault is refused tells = absurd is
  request_fails door r why (sent.Asks h body) Memory is refused tells =
      let told = tells (parts_of h) body is (refused (parts_of h) body is) in
      record { comes = told.comes; may_act = told.may_act }
  request_fails door r why (sent.Asks h body) _ is refused tells =
      let told = tells (parts_of h) body is (refused (parts_of h) body is) in
      record { comes = told.comes; may_act = told.may_act }

module _ {B : Type 0} {is_sound : B → Type 0} {stands : B → State → Type 0} {leaves : B → State → State → Type 0}
    {may : B → B → State → Asks → Type 0} {reason : B → B → State → State → Type 0} {book : B} where
  -- a denied request changes nothing
  pub denied_tells : (door : Door) (parts : Parts) (body : List ℕ) (denied : Denied) (page : shown.Page)
      → refusal_at door parts ≡ None → demand_of door parts body ≡ Err denied
      → page_said page ≡ denied_page denied.refusal denied.allow
      → Tells is_sound stands leaves may reason book book door parts body (Ok page)
  denied_tells door parts body denied page none is said = record {
    comes = λ sound s stood. rw (none, is) (said, stood);
    may_act = λ sound first. rw (none, is) (λ s later could. could);
  }

  -- a message without a head gets the page that says so
  pub no_head_obeys : (door : Door) (m : sent.Message) (result : Result Answer ServeFault) (page : shown.Page)
      → IsTaken taken.NoHead m → page_said page ≡ refused_page BadHead → LaidOut result (page_said page) false true false
      → Obeys is_sound stands leaves may reason book book (command_in door m) (IsAnswer door m) result
  no_head_obeys door sent.NoHead (Ok answer) page is said out = record {
    comes = λ sound s stood. ((out.bytes ∙ ap (page_text false true) said, out.closes), stood);
    may_act = λ sound first s later could. could;
  }
  no_head_obeys door sent.NoHead (Err fault) page is said out =
      subst (λ f. Obeys is_sound stands leaves may reason book book None (IsAnswer door sent.NoHead) (Err f)) (sym out.memory)
      (record { comes = λ sound s stood. inl stood; may_act = λ sound first. inl (λ s asks could. could) })
  no_head_obeys door (sent.Asks h body) result page is said out = absurd is

-- Whether the desk is asked to stop.

-- bytes that are no head ask nothing
pub no_head_stops : (door : Door) (m : sent.Message) → IsTaken taken.NoHead m → false ≡ stops door m
no_head_stops Port m is = refl
no_head_stops (Page site) m is = refl
no_head_stops House sent.NoHead is = refl
no_head_stops House (sent.Asks h body) is = absurd is

-- a request at the administrator's socket stops it where it names nobody and asks for that, with a head that is not refused
pub house_stops : (r : Request) (asked refused c : Bool)
    → ((parts : Parts) (body : List ℕ) → IsRequest r parts body → asked ≡ asks_to_stop parts)
    → refused ≡ is_some r.complaint → c ≡ (r.is_unnamed && asked && not refused)
    → (m : sent.Message) → IsTaken (taken.Asks r) m → c ≡ stops House m
house_stops r asked refused c asks why is sent.NoHead it = absurd it
house_stops r asked refused c asks why is (sent.Asks h body) it =
    let parts = parts_of h in
    is ∙ ap (λ u. u && asked && not refused) it.is_unnamed
    ∙ ap (λ a. is_unnamed parts && a && not refused) (asks parts body it)
    ∙ ap (λ w. is_unnamed parts && asks_to_stop parts && not w) (why ∙ ap is_some it.complaint)

-- What a monitor reads.

-- bytes that are no head ask for no metrics
pub no_head_counted : (counted : Metrics) (door : Door) (m : sent.Message) (bytes : List ℕ) → IsTaken taken.NoHead m
    → GetsCounted counted door m bytes
no_head_counted counted door sent.NoHead bytes is = tt
no_head_counted counted door (sent.Asks h body) bytes is = absurd is

-- a request that asks for metrics gets the page of what was counted
pub request_counted : (counted : Metrics) (door : Door) (r : Request) (why : Option Refusal) (m : sent.Message) (page : shown.Page)
    (ends : Bool) (bytes : List ℕ) → IsTaken (taken.Asks r) m → IsRefusedAt door r why → ends ≡ (is_some why || r.closes)
    → bytes ≡ page_text r.is_head ends (page_said page)
    → ((parts : Parts) (body : List ℕ) → IsRequest r parts body → why ≡ None → AsksForMetrics (demand_of door parts body)
    → ShowsCounted counted (page_said page))
    → GetsCounted counted door m bytes
request_counted counted door r why sent.NoHead page ends bytes is refused closing laid shows = absurd is
request_counted counted door r why (sent.Asks h body) page ends bytes is refused closing laid shows = λ none asks. record {
  page = page_said page;
  shows = shows (parts_of h) body is (refused (parts_of h) body is ∙ none) asks;
  text = laid ∙ ap (λ head. page_text head ends (page_said page)) is.is_head
      ∙ ap (λ c. page_text (is_method (codes "HEAD") (parts_of h)) c (page_said page))
      (request_closes door r why ends refused closing (sent.Asks h body) is);
}

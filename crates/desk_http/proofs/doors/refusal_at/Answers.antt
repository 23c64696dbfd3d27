-- The refusal is that of the door.
use Rattle.std.proofs.Common.{◌∙◌, ap, if◌then◌else◌, Some}
use Rattle.commands.specs.declared.replies.Refusal.TheVariants.{BadHead}
use Rattle.http_messages.specs.Heads.{host_of}
use Rattle.desk_http.specs.Hosts.{is_own_host}
use Rattle.desk_http.proofs.doors.refusal_at.Goals as goal

-- at the port
pub returns-in-Port : goal.returns-in-Port
returns-in-Port c = record { refusal = λ parts body is. rw c.in-Port.is is.complaint }

-- at the administrator's socket
pub returns-in-House : goal.returns-in-House
returns-in-House c = record { refusal = λ parts body is. rw c.in-House.is is.complaint }

-- at the door with a page, first for another host
pub returns-in_ok-own-in-Page : goal.returns-in_ok-own-in-Page
returns-in_ok-own-in-Page c =
    let r = c.args.request.now in
    let port = c.in-Page.site.port in
    record {
      refusal = λ parts body is.
          rw c.in-Page.is
          (c.refusal_of.ensures.refusal
          ∙ ap (λ own. if own then r.complaint else Some BadHead) (c.in_ok-own-in-Page.ensures.own ∙ ap (is_own_host port) (c.deref.ensures.value ∙ is.host))
          ∙ ap (λ why. if is_own_host port (host_of parts) then why else Some BadHead) is.complaint);
    }

-- How sockets serve: whom, with which page, and with which log.
use Rattle.std.specs.Prelude.{◌≡◌, ℕ, Option, Some, None}
use Rattle.desk_http.specs.declared.doors.Site.{Site}
use Rattle.http_live.specs.Logging.{log_of}
use Rattle.http_log.specs.declared.forms.LogForm.{LogForm}
use Rattle.http_pages.specs.declared.answers.HtmlPage.{HtmlPage}
use Rattle.http_sockets.specs.declared.limits.Limits.{Limits}
use Rattle.http_sockets.specs.declared.sockets.Sockets.{Sockets}
use Rattle.http_conversations.specs.declared.modes.Mode.{Mode}
use Rattle.http_conversations.specs.declared.modes.Mode.TheVariants.{Strict}

-- how many peers may still come, if that is limited
abbrev pub still_to_come : Sockets → Option ℕ
still_to_come sockets = sockets.to_come

-- the page that who comes to the port is served too
abbrev pub page_at_port : Sockets → Option Site
page_at_port sockets = sockets.page

-- the mode in which who comes from now on is read
abbrev pub mode_to_come : Sockets → Mode
mode_to_come sockets = sockets.mode

-- how many may still come; for how many ticks a peer may owe something; the page at the port; in which mode who comes is read;
-- and in which form the log is written, if it is
pub record Options : Type 0 where
  pub connections : Option ℕ
  pub patience : ℕ
  pub page : Option Site
  pub mode : Mode
  pub log : Option LogForm

abbrev pub options_of : Sockets → Options
options_of sockets = record {
  connections = still_to_come sockets;
  patience = sockets.patience;
  page = page_at_port sockets;
  mode = mode_to_come sockets;
  log = log_of sockets.journal;
}

-- those of new sockets within these limits: no page, no log, and strict mode
abbrev pub options_within : Limits → Options
options_within limits =
    record { connections = limits.connections; patience = limits.patience; page = None; mode = Strict; log = None }

-- the same options, and this page at some port
abbrev pub AddsPage : HtmlPage → Options → Options → Type 0
AddsPage page old new = (port : ℕ) × (new ≡ record old { page = Some (record { port = port; page = page }) })

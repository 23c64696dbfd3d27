-- How the sockets serve that are listened at: as the words of a job ask.
use Rattle.std.specs.Prelude.{◌≡◌, Bool, true, false, Option, Some, None, if◌then◌else◌}
use Rattle.agents_page.specs.declared.page.TheConstants.{PAGE, POLICY}
use Rattle.command_line.specs.declared.jobs.Job.{Job}
use Rattle.desk_http.specs.declared.doors.Site.{Site}
use Rattle.http_log.specs.declared.forms.LogForm.{LogForm}
use Rattle.http_pages.specs.declared.answers.HtmlPage.{HtmlPage}
use Rattle.http_sockets.specs.Options.{AddsPage, Options, options_of}
use Rattle.http_sockets.specs.declared.limits.TheConstants.{PATIENCE}
use Rattle.http_sockets.specs.declared.sockets.Sockets.{Sockets}
use Rattle.http_conversations.specs.declared.modes.Mode.{Mode}
use Rattle.http_conversations.specs.declared.modes.Mode.TheVariants.{Strict, Lenient}
use Rattle.cli.specs.Actions.{IsServedAs}
use Rattle.cli.specs.declared.actions.Served.{Served}

-- the page for browsers, with its policy
abbrev pub IsForBrowsers : HtmlPage → Type 0
IsForBrowsers page = (page.text.now ≡ PAGE.now) × (page.policy.now ≡ POLICY.now)

-- it is served at some port, if it is asked for
abbrev pub IsSite : (asked : Bool) → Option Site → Type 0
IsSite true (Some site) = IsForBrowsers site.page
IsSite true None = ⊥
IsSite false site = site ≡ None

-- the mode of libraries, proxies and pools, or the strict one
abbrev pub mode_of : (wide : Bool) → Mode
mode_of wide = if wide then Lenient else Strict

-- Sockets serve so: as many connections as are asked for, with the patience of this desk, the page, the mode and the log.
pub record ServesAs (served : Served) (options : Options) : Type 0 where
  pub connections : options.connections ≡ served.connections
  pub patience : options.patience ≡ PATIENCE
  pub page : IsSite served.page options.page
  pub mode : options.mode ≡ mode_of served.wide
  pub log : options.log ≡ served.log

-- sockets serve as their job asks
pub record ServesJob (job : Job) (sockets : Sockets) : Type 0 where
  pub served : Served
  pub asked : IsServedAs job served
  pub serves : ServesAs served (options_of sockets)

-- The options of sockets after one more was chosen, or was not.

-- the mode of libraries, proxies and pools, if it is asked for
abbrev pub widened : Bool → Options → Options
widened wide old = record old { mode = if wide then Lenient else old.mode }

-- a log in this form, if one is asked for
abbrev pub logged : Option LogForm → Options → Options
logged (Some form) old = record old { log = Some form }
logged None old = old

-- the page for browsers at some port, if it is asked for
abbrev pub ShowsPage : Bool → Options → Options → Type 0
ShowsPage true old new = (page : HtmlPage) × IsForBrowsers page × AddsPage page old new
ShowsPage false old new = new ≡ old

-- What was done at the file; this host listened for the job of the call.
use Rattle.std.proofs.Common.{◌≡◌, ℕ, List, Bool, Option, subst}
use Rattle.std.specs.declared.io.traits.Read as Read
use Rattle.std.specs.declared.io.traits.Write as Write
use Rattle.sqlite.specs.Store.{Ghosts}
use Rattle.command_line.specs.declared.jobs.Job.{Job}
use Rattle.http_live.specs.declared.serving.Turns as Turns
use Rattle.http_sockets.specs.declared.sockets.Sockets.{Sockets}
use Rattle.program_ends.specs.declared.ended.Ended.{Ended}
use Rattle.program_jobs.specs.Serving.{CameFrom}
use Rattle.program_jobs.specs.Streams.{Streams}
use Rattle.cli.specs.Doing.{DidAction}
use Rattle.cli.specs.Listening.{ServesJob}
use Rattle.cli.specs.declared.actions.Action.{Action}
use Rattle.cli.proofs.programs.do_here.Goals as goal

module _ {S R W : Type 0} (g : Ghosts S) (files : List ℕ → Option (List ℕ)) (r : Read.Ghosts R) (w : Write.Ghosts W)
    (turns : Turns.Ghosts Sockets R W) (has_failed : Sockets → Bool) (t : Streams) (ended : Ended) (a : Action) where
  abbrev DidFor : Job → Type 0
  DidFor job = DidAction g files (CameFrom r w turns has_failed (ServesJob job)) t ended a

  did_for : (host job : Job) → host ≡ job → DidFor host → DidFor job
  did_for host job same = subst DidFor same

pub returns : goal.returns
returns g c =
    let it = c.do_at_file-ended in
    record { did = did_for _ _ _ _ _ _ _ it.result c.args.action.now _ _ c.new-host.ensures.job it.ensures.did; ends = it.ensures.ends }

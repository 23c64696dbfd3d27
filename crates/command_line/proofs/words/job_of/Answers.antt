-- Clap refused nothing, and the values that it read are those of its matches: so what is said of these is said of those.
use Rattle.std.proofs.Common.{◌≡◌, ◌∙◌, Bool, Err, Result, false, ap, subst, sym, ◌||◌}
use Rattle.std.proofs.lemmas.Bool.{or_left, or_right}
use Rattle.std.proofs.lemmas.Result.{err_from_is_err_and}
use Rattle.command_line.specs.Jobs.{has_bad_value, has_socket, IsJobWith, Reads}
use Rattle.command_line.specs.declared.jobs.Job.{Job}
use Rattle.command_line.specs.declared.jobs.JobFault.{JobFault}
use Rattle.command_line.proofs.words.job_of.Goals as goal

-- something else that is not bad
nor_bad : (Fits : Job → Type 0) (other is_bad : Bool) (result : Result Job JobFault) → other ≡ false → Reads Fits is_bad result
    → Reads Fits (other || is_bad) result
nor_bad Fits other is_bad result none reads = subst (λ it. Reads Fits (it || is_bad) result) (sym none) reads

pub returns : goal.returns
returns c =
    let s = c.args.subcommand in
    let clap = c.in_ok-matches.ensures.reads in
    let result = c.job_in.result in record {
      reads = nor_bad _ _ _ result clap.1
          (subst (λ value. Reads (IsJobWith s value) (has_socket s value || has_bad_value s value) result) clap.0
          (nor_bad _ _ _ result c.in_ok-no_socket_in.ensures.reads.1 c.job_in.ensures.reads));
    }

-- a socket stands beside the file
pub returns-in_err-no_socket_in : goal.returns-in_err-no_socket_in
returns-in_err-no_socket_in c =
    let failed = err_from_is_err_and c.from_residual-in_err-no_socket_in.result c.from_residual-in_err-no_socket_in.ensures.1 in record {
      reads = subst (Reads _ _) (sym (failed.1 ∙ ap Err failed.2)) (λ text. or_right _ _ (or_left _ _
          (ap (has_socket c.args.subcommand) (sym c.in_ok-matches.ensures.reads.0) ∙ c.in_err-no_socket_in.ensures.reads text)));
    }

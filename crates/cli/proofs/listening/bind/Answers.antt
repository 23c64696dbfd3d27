-- What is chosen of the options of new sockets, one after another, is what is asked for.
use Rattle.std.proofs.Common.{refl, sym, subst, ℕ, List, Bool, true, false, Option, Some, None}
use Rattle.std.proofs.lemmas.Result.{IfOk-weaker}
use Rattle.std.specs.Borrow.{Bor}
use Rattle.http_log.specs.declared.forms.LogForm.{LogForm}
use Rattle.http_sockets.specs.Options.{Options, options_of, options_within}
use Rattle.http_sockets.specs.declared.limits.TheConstants.{PATIENCE}
use Rattle.cli.specs.Listening.{ServesAs, ShowsPage, logged, widened}
use Rattle.cli.specs.declared.actions.Served.{Served}
use Rattle.cli.proofs.listening.bind.Goals as goal

module _ (connections : Option ℕ) (house : Option (Bor (List ℕ))) (wide : Bool) where
  abbrev as_asked : Bool → Option LogForm → Served
  as_asked page log = record { connections = connections; house = house; page = page; log = log; wide = wide }

  abbrev fresh : Options
  fresh = widened wide (options_within (record { connections = connections; patience = PATIENCE }))

  chosen : (page : Bool) (log : Option LogForm) (options : Options) → ShowsPage page (logged log fresh) options
      → ServesAs (as_asked page log) options
  chosen true (Some form) options (page, is, shown) =
      subst (ServesAs (as_asked true (Some form))) (sym shown.1) (record { connections = refl; patience = refl; page = is; mode = refl; log = refl })
  chosen true None options (page, is, shown) =
      subst (ServesAs (as_asked true None)) (sym shown.1) (record { connections = refl; patience = refl; page = is; mode = refl; log = refl })
  chosen false (Some form) options same =
      subst (ServesAs (as_asked false (Some form))) (sym same) (record { connections = refl; patience = refl; page = refl; mode = refl; log = refl })
  chosen false None options same =
      subst (ServesAs (as_asked false None)) (sym same) (record { connections = refl; patience = refl; page = refl; mode = refl; log = refl })

pub returns-in-Ok-clause-serves : goal.returns-in-Ok-clause-serves
returns-in-Ok-clause-serves c =
    let served = c.args.served in
    IfOk-weaker _ _ _ (λ equipped shown. chosen served.connections served.house served.wide served.page served.log (options_of equipped)
    (subst (λ first. ShowsPage served.page (logged served.log (widened served.wide first)) (options_of equipped)) c.in-Ok.ensures.options shown))
    c.equipped.ensures.options

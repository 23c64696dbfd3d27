-- Worked examples: an absent file is a new desk, and a report over it leaves the execution as it was; so do two reports.
use Rattle.std.specs.Prelude.{List, [], ◌∷◌, None, Some, refl}
use Rattle.std.proofs.Common.{inr}
use Rattle.sqlite_wal.specs.Recovery.{Image}
use Rattle.ledger.specs.World.{Moment}
use Rattle.program_jobs.specs.Invocations.{GoesOnInAll, Invocation, Ran, StandsIn}

-- no log, and no file
abbrev pub absent : Image
absent = record { log = []; db = [] }

-- a report that wrote a line feed
abbrev pub report : Invocation
report = record { input = None; held = Some []; holds = Some (10 ∷ []) }

pub absent_is_a_new_desk : StandsIn absent []
absent_is_a_new_desk = inr (refl, refl)

pub reports_stand_still : (w : List Moment) → GoesOnInAll (report ∷ report ∷ []) w w
reports_stand_still w = (w, refl, (w, refl, refl))

-- each execution for whose end an image stands goes on by a report that leaves the same image
pub report_ran : (image : Image) → Ran report image image
report_ran image w world stands = ∣ record { end = w; goes = refl; world = world; there = stands } ∣₁

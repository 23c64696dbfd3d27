-- What a report that was written in blocks wrote to the writer behind them. For `showing`.
use Rattle.std.proofs.Common.{◌≡◌, ap, arith, sym, subst, ℕ, List, [], take, append-nil, Option, None, Some}
use Rattle.std.proofs.Math.Seq.{take-nil}
use Rattle.std.specs.Io.KnownBytes.{Appends, Keeps}
use Rattle.saga_core.specs.Written.{WroteFront}
use Rattle.saga_core.proofs.ByteLemmas.{appends_before, appends_none}
use Rattle.program_ends.specs.Ends.{end_of_both}
use Rattle.desk_jobs.proofs.RecoveredLemmas.{done_as}
use Rattle.program_ends.specs.declared.ends.End.{End}
use Rattle.program_ends.specs.declared.ends.End.TheVariants as finish
use Rattle.program_ends.specs.declared.faults.ProgramFault.TheVariants as fault
use Rattle.program_jobs.specs.Blocks.{blocks_contents, blocks_known, unsent}
use Rattle.program_jobs.specs.Reporting.{ReportsIfThere}
use Rattle.program_jobs.specs.declared.blocks.Blocks.{Blocks}
use Rattle.program_jobs.proofs.BlockLemmas.{reached, reached_front}

-- where no byte was written, the bytes are kept
kept_of : (x y : Option (List ℕ)) → Appends x y [] → Keeps x y
kept_of x y wrote = grind (arith, append-nil)

-- `before` and `after` are the contents of the blocks, and `held` and `holds` those of the writer behind them
module _ (before after held holds : Option (List ℕ)) where
  -- all that was written reached it
  module _ (all : (bytes : List ℕ) → Appends before after bytes → Appends held holds bytes) where
    kept_all : Keeps before after → Keeps held holds
    kept_all kept = kept_of held holds (all [] (appends_none before after kept))

    pub shown_all : (text : Option (List ℕ)) (e : End) → ReportsIfThere before after text e → ReportsIfThere held holds text e
    shown_all None e told = grind (arith, kept_all)
    shown_all (Some text) e told = (
      told.0,
      record {
        whole = done_as e (all text) told.1.whole;
        front = (told.1.front.0, all (take told.1.front.0 text) told.1.front.1);
      },
    )

  -- a prefix of it did, and then the output failed
  module _ (some : (text : List ℕ) → WroteFront before after text → WroteFront held holds text) where
    kept_some : Keeps before after → Keeps held holds
    kept_some kept =
        let front = some [] (0, appends_none before after kept) in
        kept_of held holds (subst (Appends held holds) (take-nil front.0) front.1)

    pub shown_some : (text : Option (List ℕ)) (e : End) → ReportsIfThere before after text e
        → ReportsIfThere held holds text (end_of_both e (finish.Fault fault.Write))
    shown_some None e told = grind (arith, kept_some)
    shown_some (Some text) finish.Done told = (tt, record { whole = tt; front = some text told.1.front })
    shown_some (Some text) (finish.Refused why) told = absurd told.0
    shown_some (Some text) (finish.Fault f) told = (tt, record { whole = tt; front = some text told.1.front })
    shown_some (Some text) (finish.Usage usage) told = (tt, record { whole = tt; front = some text told.1.front })

-- A report was written by the reference `name` to a writer that was as `held`. `between` are the blocks after the report, and `now` after they
-- were passed on; what the writer is at last is `there`.
module _ {W : Type 0} (contents : W → Option (List ℕ)) (name : ℕ) (begun : List ℕ) (held there : W) (between now : Blocks W) (none : begun ≡ [])
    (kept : Keeps (blocks_contents contents between) (blocks_contents contents now)) (text : Option (List ℕ)) (e : End)
    (told : ReportsIfThere (blocks_known name 0 begun (contents held)) (blocks_contents contents between) text e) where
  -- all was passed on
  pub report_reached : unsent now ≡ [] → (name ≡ now.writer.ghost_name → there ≡ now.writer.now)
      → ReportsIfThere (contents held) (contents there) text e
  report_reached sent is =
      shown_all (blocks_known name 0 begun (contents held)) (blocks_contents contents between) (contents held) (contents there)
      (λ bytes wrote. reached name now.writer.ghost_name now.passed begun (unsent now) bytes (contents there) none (contents held)
      (contents now.writer.now) (λ same. ap contents (is (sym same))) sent
      (appends_before (blocks_known name 0 begun (contents held)) (blocks_contents contents between) (blocks_contents contents now) bytes wrote kept))
      text e told

  -- the output failed
  pub report_cut : (name ≡ now.writer.ghost_name → there ≡ now.writer.now)
      → ReportsIfThere (contents held) (contents there) text (end_of_both e (finish.Fault fault.Write))
  report_cut is =
      shown_some (blocks_known name 0 begun (contents held)) (blocks_contents contents between) (contents held) (contents there)
      (λ bytes wrote. reached_front name now.writer.ghost_name now.passed wrote.0 begun (unsent now) bytes (contents there) none (contents held)
      (contents now.writer.now) (λ same. ap contents (is (sym same)))
      (appends_before (blocks_known name 0 begun (contents held)) (blocks_contents contents between) (blocks_contents contents now)
      (take wrote.0 bytes) wrote.1 kept))
      text e told

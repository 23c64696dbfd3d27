-- How an execution goes on by invocations, one after another. For the law.
use Rattle.std.proofs.Common.{List, [], ◌∷◌, refl, sym, subst, inr}
use Rattle.std.proofs.Math.Logic.{∥∥₁_elim, ∥∥₁_map}
use Rattle.sqlite_wal.specs.Recovery.{Image}
use Rattle.ledger.specs.World.{Moment, IsWorld}
use Rattle.program_jobs.specs.Invocations.{GoesOnInAll, Invocation, Invocations, StandsIn}
use Rattle.program_jobs.specs.Headline.{Headline, IsEndOf}
use Rattle.program_jobs.specs.Promises.{IsKeptPromise}

-- by all of them, to an end for which the last image stands
record Reached (its : List Invocation) (w : List Moment) (last : Image) : Type 0 where
  pub end : List Moment
  pub goes : GoesOnInAll its w end
  pub world : IsWorld end
  pub stands : StandsIn last end

reached : (its : List Invocation) (first last : Image) (w : List Moment) → IsWorld w → StandsIn first w
    → Invocations its first last → ∥ Reached its w last ∥₁
reached [] first last w world stands same =
    ∣ record { end = w; goes = refl; world = world; stands = subst (λ (i : Image). StandsIn i w) (sym same) stands } ∣₁
reached (it ∷ later) first last w world stands ran =
    ∥∥₁_elim (ran.1 w world stands) squash₁ (λ one.
    ∥∥₁_map (reached later ran.0 last one.end one.world one.there ran.2) (λ rest.
    let r : Reached (it ∷ later) w last = record {
      end = rest.end;
      goes = (one.end, one.goes, rest.goes);
      world = rest.world;
      stands = rest.stands;
    } in r))

pub headline : ((w : List Moment) → IsWorld w → IsKeptPromise w) → Headline
headline promises its first last none ran =
    ∥∥₁_map (reached its first last [] tt (inr (none, refl)) ran) (λ all.
    let r : IsEndOf its last =
    record {
      end = all.end;
      goes = all.goes;
      stands = all.stands;
      world = all.world;
      promise = promises all.end all.world;
    } in r)

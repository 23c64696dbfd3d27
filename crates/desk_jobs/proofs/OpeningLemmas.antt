-- How a world goes on with one opening of the store. For the jobs.
use Rattle.std.proofs.Common.{◌≡◌, ℕ, List, [], refl, subst, inl, inr, Option}
use Rattle.std.proofs.KnownBytes.{Appends-nil}
use Rattle.sqlite.specs.Tree.{Trees}
use Rattle.ledger.specs.Answer.{State, start}
use Rattle.ledger.specs.Ledger.{Event}
use Rattle.ledger.specs.World.{Moment, after, IsWorld}
use Rattle.saga_core.specs.Chains.{reopened}
use Rattle.recovery.specs.Recovers.{IsRecovery}
use Rattle.desk_jobs.specs.Openings.{Input, HasNoExchange, recovered}
use Rattle.desk_jobs.specs.Chains.{StandsAs, LeadsEach}
use Rattle.desk_jobs.specs.Executions.{EachMayReopen}
use Rattle.desk_jobs.specs.Stages.{HasRecovered, LeavesRecovering, Answering, LeavesAnswering, HasOpened}

module _ (law : EachMayReopen) (w : List Moment) (world : IsWorld w) where
  -- a reopening changes nothing
  same_state : after start (reopened w) ≡ after start w
  same_state = (law w world).again.same

  same_recovery : (events : List Event) → IsRecovery (after start (reopened w)) events
      → IsRecovery (after start w) events
  same_recovery events is = subst (λ (s : State). IsRecovery s events) same_state is

  -- it stopped before it was recovered
  pub recovering_leads : (finds : Trees → Type 0) (held : Option (List ℕ)) (input : Input) → HasNoExchange input
      → LeavesRecovering finds (reopened w) → LeadsEach finds held held input w
  recovering_leads finds held input unserved left db may =
      let r = left db may in
      record {
        end = r.end;
        goes = record {
          told = [];
          wrote = Appends-nil held;
          goes = inl (record {
            events = r.events;
            is = same_recovery r.events r.is;
            goes = r.goes;
            unserved = unserved;
            silent = refl;
          });
          world = r.world;
        };
        stands = r.stands;
      }

  -- it recovered, and then answered
  pub answering_opens : (stands : State → Type 0) (held holds : Option (List ℕ)) (input : Input)
      (IsThere : State → Type 0) (r : HasRecovered stands (reopened w))
      → Answering held holds (recovered w r.events) input IsThere → HasOpened held holds w input IsThere
  answering_opens stands held holds input IsThere r a = record {
    end = a.end;
    goes = record {
      told = a.told;
      wrote = a.wrote;
      goes = inr (record { events = r.events; is = same_recovery r.events r.is; answers = a.answers });
      world = a.world;
    };
    there = a.there;
  }

  pub answering_leads : (stands : State → Type 0) (finds : Trees → Type 0) (held holds : Option (List ℕ)) (input : Input)
      (r : HasRecovered stands (reopened w)) → LeavesAnswering finds held holds (recovered w r.events) input
      → LeadsEach finds held holds input w
  answering_leads stands finds held holds input r left db may =
      let o = answering_opens stands held holds input (StandsAs db) r (left db may) in
      record { end = o.end; goes = o.goes; stands = o.there }

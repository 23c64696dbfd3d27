-- A job between an opening and a closing of its files. For the invocations, whatever the job.
use Rattle.std.proofs.Common.{ℕ, List, [], Option, Some, None, refl, sym, subst, ◌∙◌, inl, inr, IfSome}
use Rattle.std.proofs.Math.Logic.{∥∥₁_map}
use Rattle.std.proofs.KnownBytes.{Appends-nil}
use Rattle.sqlite_disk.specs.declared.Disk as disk
use Rattle.sqlite_trees.specs.Tree.{Trees}
use Rattle.sqlite_store.specs.declared.store.FileStore.{FileStore}
use Rattle.sqlite_wal.specs.Recovery.{Image}
use Rattle.sqlite_value.specs.Order.{Row}
use Rattle.sqlite_catalog.specs.Listing.{Lists}
use Rattle.sqlite.specs.Files.{file_state, over_files, IsEmpty}
use Rattle.sqlite.specs.Held.{Held, state}
use Rattle.sqlite.specs.State.{HasCleanDisk}
use Rattle.sqlite.specs.Store.{Ghosts}
use Rattle.desk_sql.specs.declared.versions.Version.{Version}
use Rattle.desk_sql.specs.declared.versions.Version.TheVariants.{Two}
use Rattle.desk_sql.specs.Schema.{no_schema}
use Rattle.sql_model.specs.Examples.{no_trees_are_a_database}
use Rattle.sql_model.specs.Keeping.{MeansOf}
use Rattle.sql_model.specs.Openings.{StandsAsOpened}
use Rattle.ledger.specs.Answer.{State, start}
use Rattle.ledger.specs.World.{Moment, after, IsWorld}
use Rattle.recovery.specs.Worlds.{orders_of}
use Rattle.saga_core.specs.Chains.{reopened}
use Rattle.program_ends.specs.Images.{Closes, KeepsFound, LeavesAsFound, OpensOver}
use Rattle.program_ends.specs.declared.closing.Left.{Left}
use Rattle.desk_jobs.specs.Chains.{StandsAs}
use Rattle.desk_jobs.specs.Executions.{EachMayReopen, LeavesOpened, StandsStill}
use Rattle.desk_jobs.specs.Openings.{Input, HasNoExchange}
use Rattle.desk_jobs.specs.Stages.{Stood}
use Rattle.desk_jobs.specs.Worlds.{Reopens}
use Rattle.desk_jobs.proofs.ExecutionLemmas.{stands_found}
use Rattle.desk_jobs.proofs.StageLemmas.{goes_nowhere}
use Rattle.desk_jobs.specs.Connections.{RepresentsIn, StillRepresents}
use Rattle.program_jobs.specs.Invocations.{asked, unasked, GoesOnOver, Invocation, RanTo, Reaches, StandsIn}

-- What a job did, as an invocation.

module _ {S : Type 0} (g : Ghosts S) (old new : Held S) (held holds : Option (List ℕ)) where
  -- one that answered an input
  pub opened_over : (input : Input) → LeavesOpened g old new held holds input
      → GoesOnOver g old new (asked input held holds)
  opened_over input left w world stood db may =
      let leads = left w world stood db may in
      record { end = leads.end; goes = leads.goes; world = leads.goes.world; there = leads.stands }

  -- one that nobody asked anything of
  pub still_over : StandsStill g old new → GoesOnOver g old new (unasked held holds)
  still_over still w world stood db may = record { end = w; goes = refl; world = world; there = still w world stood db may }

  -- one that showed the desk
  pub shown_over : EachMayReopen → HasCleanDisk (state g new)
      → ((v : Version) (s : State) → RepresentsIn g old v s → StillRepresents g new s) → GoesOnOver g old new (unasked held holds)
  shown_over law clean same w world stood db may =
      let again = same stood.0 (after start w) (record { desk = (law w world).desk; stood = stood.1 }) in
      record {
        end = w;
        goes = refl;
        world = world;
        there = stands_found g new (after start w) clean (again.0, again.1.stood) db may;
      }

-- Openings that did not begin.

-- an image that keeps what the files held stands for the same
stands_kept : (first image : Image) (w : List Moment) → KeepsFound first image → StandsIn first w → ∥ StandsIn image w ∥₁
stands_kept first image w (inl same) stands = ∣ subst (λ (i : Image). StandsIn i w) (sym same) stands ∣₁
stands_kept first image w (inr (some, held)) (inl (db, here, means)) =
    ∥∥₁_map (held db here) (λ now. let r : StandsIn image w = inl (db, now, means) in r)
stands_kept first image w (inr (some, held)) (inr (none, new)) = absurd (some none)

pub ran_still : {D : Type 0} {g : disk.Ghosts D} (first : Image) (rest : Left D g) (held holds : Option (List ℕ))
    → LeavesAsFound first rest → RanTo (unasked held holds) first rest
ran_still first rest held holds same sound tell image may w world stands =
    ∥∥₁_map (stands_kept first image w (same sound tell image may) stands) (λ there.
    let r : Reaches (unasked held holds) w (StandsIn image) = record { end = w; goes = refl; world = world; there = there } in r)

module _ (law : EachMayReopen) where
  goes_late : (held : Option (List ℕ)) (input : Input) (w : List Moment) → HasNoExchange input → IsWorld w
      → Reopens held held input w (reopened w)
  goes_late held input w unserved world = record {
    told = [];
    wrote = Appends-nil held;
    goes = inl (record {
      events = (law w world).one.events;
      is = (law w world).one.is;
      goes = goes_nowhere (reopened w) (orders_of (law w world).one.events);
      unserved = unserved;
      silent = refl;
    });
    world = (law w world).again.world;
  }

  stands_late : (image : Image) (w : List Moment) → IsWorld w → StandsIn image w → StandsIn image (reopened w)
  stands_late image w world (inl it) = inl (it.0, it.1, subst (StandsAs it.0) (sym (law w world).again.same) it.2)
  stands_late image w world (inr new) = inr (new.0, (law w world).again.same ∙ new.1)

  ran_late : {D : Type 0} {g : disk.Ghosts D} (first : Image) (rest : Left D g) (held : Option (List ℕ)) (input : Input)
      → HasNoExchange input → LeavesAsFound first rest → RanTo (asked input held held) first rest
  ran_late first rest held input unserved same sound tell image may w world stands =
      ∥∥₁_map (stands_kept first image w (same sound tell image may) stands) (λ there.
      let r : Reaches (asked input held held) w (StandsIn image) = record {
        end = reopened w;
        goes = goes_late held input w unserved world;
        world = (law w world).again.world;
        there = stands_late image w world there;
      } in r)

  -- of an input that may be known
  pub late_ran : {D : Type 0} {g : disk.Ghosts D} (first : Image) (rest : Left D g) (held : Option (List ℕ))
      (input : Option Input) → IfSome input HasNoExchange → LeavesAsFound first rest
      → IfSome input (λ i. RanTo (asked i held held) first rest)
  late_ran first rest held None unserved same = tt
  late_ran first rest held (Some i) unserved same = ran_late first rest held i unserved same

-- an empty database represents a new desk
empty_means_new : (db : Trees) → IsEmpty db → MeansOf Two db start
empty_means_new db empty = inr (record {
  of = record {
    lists = subst (λ (rows : List Row). Lists rows no_schema) (sym empty.1) no_trees_are_a_database.lists;
    obeys = record { rules = λ rule. tt; indexed = tt };
  };
  new = refl;
})

-- A job over a connection that was opened over an image and closed.
module _ {D : Type 0} {g : disk.Ghosts D} (first : Image) (old : Held (FileStore D g)) (openings : StandsAsOpened over_files old) (opens : HasCleanDisk (file_state old) → OpensOver first old) where
  -- the connection stands for what its trees mean
  stands_now : HasCleanDisk (file_state old) → (v : Version) (s : State) → MeansOf v (file_state old).now.trees s → Stood (file_state old) s
  stands_now clean v s means =
      let at = opens clean in (v, openings v s (λ _. record { opens = at.opens; live = at.live; means = means; only = at.only }))

  -- which is what the files held
  stood_over : HasCleanDisk (file_state old) → (w : List Moment) → StandsIn first w → Stood (file_state old) (after start w)
  stood_over clean w (inl (db, held, means)) =
      stands_now clean means.0 (after start w)
      (subst (λ (t : Trees). MeansOf means.0 t (after start w)) (sym ((opens clean).holds db held)) means.1)
  stood_over clean w (inr (none, same)) =
      stands_now clean Two (after start w)
      (subst (MeansOf Two (file_state old).now.trees) (sym same) (empty_means_new _ ((opens clean).new none)))

  pub ran_over : (new : Held (FileStore D g)) (rest : Left D g) (it : Invocation)
      → (HasCleanDisk (file_state new) → HasCleanDisk (file_state old))
      → (HasCleanDisk (file_state new) → GoesOnOver over_files old new it) → Closes new rest → RanTo it first rest
  ran_over new rest it clean job closes sound tell image may w world stands =
      let late = closes.was_clean sound in
      ∥∥₁_map (closes.holds first sound tell image may) (λ found.
      let one = job late w world (stood_over (clean late) w stands) found.0 found.2 in
      let r : Reaches it w (StandsIn image) = record {
        end = one.end;
        goes = one.goes;
        world = one.world;
        there = inl (found.0, found.1, one.there);
      } in r)

  -- what it answered, where that is known
  pub follows_ran : (new : Held (FileStore D g)) (rest : Left D g) (input : Option Input) (held holds : Option (List ℕ))
      → (HasCleanDisk (file_state new) → HasCleanDisk (file_state old))
      → (HasCleanDisk (file_state new) → IfSome input (LeavesOpened over_files old new held holds)) → Closes new rest
      → IfSome input (λ i. RanTo (asked i held holds) first rest)
  follows_ran new rest None held holds clean left closes = tt
  follows_ran new rest (Some i) held holds clean left closes =
      ran_over new rest (asked i held holds) clean (λ late. opened_over over_files old new held holds i (left late)) closes

-- What an event and its reply commit, why they fail, and what a crash then leaves. For the functions that commit.
use Rattle.std.proofs.Common.{◌≡◌, ℕ, List, refl, Option, ◌⊎◌, ◌+◌, inl, inr, Result, Ok, true, false, IsTrue, sym, subst, ◌∙◌, arith, Err, MutBor, rules}
use Rattle.commands.specs.Asks.{Asked}
use Rattle.desk_sql.specs.Rows.{Tables, AnswerRow}
use Rattle.desk_sql.specs.Writable.{MayKeep, HasRowids}
use Rattle.sql_writes.specs.declared.events.Numbers.{Numbers}
use Rattle.sql_writes.specs.declared.events.Event.{Event}
use Rattle.sql_writes.specs.declared.events.Event.TheVariants.{Begin, Transaction, Compensation, Load}
use Rattle.sql_writes.specs.Kinds.{Fits, rows_after, LeadsTo, event_rows}
use Rattle.sql_writes.specs.Permits.{Permits, PermitsEvent, event_rowids}
use Rattle.sql_writes.proofs.Permitting.{have_room}
use Rattle.sqlite.specs.Tree.{Trees}
use Rattle.sqlite.specs.Store.{Ghosts}
use Rattle.sqlite.specs.Effect.{Database}
use Rattle.sqlite.specs.State.{HasCleanDisk, KeepsCommit, Survives, Shows as Sees2, State as Connected, IsRolledBack}
use Rattle.sqlite.specs.Held.{Held, state}
use Rattle.sqlite.specs.declared.error.Error.{Error}
use Rattle.desk_sql.specs.Calls.{MayRun, Makes}
use Rattle.ledger.specs.Answer.{State}
use Rattle.sql_model.specs.Standing.{StandsFor}
use Rattle.sql_model.specs.Keeping.{IsKept, Keeps, SeesDesk, Means, MeansDesk, MayLeave}
use Rattle.sql_model.proofs.KeepLemmas.{is_database, left_before}
use Rattle.sql_writes.specs.Did.{Did}
use Rattle.sqlite.specs.Steps.{FailsToCommit}
use Rattle.commands.specs.declared.replies.Fault.{Fault}
use Rattle.commands.specs.declared.replies.Fault.TheVariants.{Memory, Store}
use Rattle.desk_sql.specs.Causes.{IsUp, HasFaulted}
use Rattle.desk_sql.proofs.Quieting.{survives_twice}
use Rattle.desk_sql.proofs.Rowids.{rowids_fewer}
use Rattle.sql_model.proofs.Staying.{commit_why, faulted_later, stays_begun, stays_committing, stays_twice, stays_up}
use Rattle.sql_writes.specs.Commits.{RanOut, LeavesEvent, LeavesRowids, CommitsEvent}

-- Where the rows permit an event, they fit it, and permit its reply after it.

pub permits_fits : (n : Numbers) (e : Event) (t : Tables) → Permits n e t → Fits n e t
permits_fits n (Begin b) t it = it.journey.below
permits_fits n (Transaction m) t it = record { free = it.free; below = it.move.item.below }
permits_fits n (Compensation m) t it = record { room = have_room m.want t it.held; below = it.move.item.below }
permits_fits n (Load b) t it = it.apart
permits_fits n _ t it = it.item.below

pub event_fits : (n : Numbers) (e : Event) (ask : Option Asked) (line : List ℕ) (t : Tables) → PermitsEvent n e ask line t → Fits n e t
event_fits n e ask line t it = search (rules, arith, permits_fits)

-- an event keeps no reply of its own
same_answers : (n : Numbers) (e : Event) (t : Tables) → (rows_after n e t).answer ≡ t.answer
same_answers n e t = search (rules, arith)

pub permits_reply : (n : Numbers) (e : Event) (row : AnswerRow) (t : Tables) → MayKeep row t → MayKeep row (rows_after n e t)
permits_reply n e row t it = record { unkept = rw (same_answers n e t) (it.unkept); short = it.short }

-- What the commit of an event keeps.

-- while a store is open, a crash leaves its last commit and nothing else: a law of each store
abbrev pub KeepsOne : {S : Type 0} → Ghosts S → Type 0
KeepsOne {S} g = (s : S) (db : Trees) → IsTrue (g.view s).is_open → g.recovers s db → db ≡ (g.view s).committed

-- What a transaction that began here left, whether its writes succeeded or not.
pub record Left {S : Type 0} (g : Ghosts S) (start late : Held S) : Type 0 where
  pub less : Survives (state g start) (state g late) (λ _. ⊥)
  pub commit : HasCleanDisk (state g late) → IsTrue (state g start).in_transaction → KeepsCommit (state g start) (state g late)

-- And what it did if they succeeded: it wrote these rows, if they fit, and took so many rowids.
pub record Wrote {S : Type 0} (g : Ghosts S) (start late : Held S) (Fits : Tables → Type 0) (taken : ℕ) (after : Tables → Tables) : Type 0 where
  pub left : Left g start late
  pub live : HasCleanDisk (state g late) → IsTrue (state g start).in_transaction → IsTrue (state g start).is_open
  pub inside : HasCleanDisk (state g late) → IsTrue (state g start).in_transaction → IsTrue (state g late).in_transaction
  pub made : HasCleanDisk (state g late) → (t : Tables) → MayRun (state g start) t → Fits t
      → Makes (state g start) (state g late) (after t)
  pub rowids : HasCleanDisk (state g late) → (t : Tables) → MayRun (state g start) t → IsTrue (state g start).is_open
      → Fits t → (n : ℕ) → HasRowids (taken + n) (state g start).now.trees → HasRowids n (state g late).now.trees

module _ {S : Type 0} {g : Ghosts S} {start late : MutBor (Held S)} {V : Type 0} {Fits P : Tables → Type 0} {taken : ℕ}
    {after : Tables → Tables} (old : Held S) (begun : start.now ≡ record old { in_transaction = true }) where
  pub left_of : {r : Result V Error} → Did g start late r Fits P taken after → Left g (record old { in_transaction = true }) late.now
  left_of did = search (rules, arith, begun)

  pub wrote_of : {v : V} → Did g start late (Ok v) Fits P taken after → Wrote g (record old { in_transaction = true }) late.now Fits taken after
  wrote_of did = subst (λ (h : Held S). Wrote g h late.now Fits taken after) begun (record {
    left = record { less = did.if_open.survives; commit = did.if_open.commit };
    live = did.live;
    inside = did.if_open.inside;
    made = λ clean t may. did.if_open.made clean t may (did.live clean may.inside);
    rowids = did.if_open.rowids;
  })

-- A connection keeps a state, and a transaction writes rows with which its tables represent the next state.
module _ {S : Type 0} (g : Ghosts S) (old late : Held S) (Fits : Tables → Type 0) (taken : ℕ) (after : Tables → Tables) (s next : State)
    (wrote : Wrote g (record old { in_transaction = true }) late Fits taken after)
    (fits : (t : Tables) → StandsFor t s → Fits t)
    (stands : (t : Tables) → StandsFor t s → StandsFor (after t) next)
    (keeps : Keeps (state g old) s) (clean : HasCleanDisk (state g late)) where
  -- the connection kept the state at the start, since nothing unclean becomes clean
  kept : IsKept (state g old) s
  kept = keeps (omega (arith, wrote.left.less.clean, clean))

  -- the desk that the connection saw before
  saw : SeesDesk (state g old) s
  saw = kept.sees (wrote.live clean refl)

  has_made : Makes (state g (record old { in_transaction = true })) (state g late) (after saw.tables)
  has_made =
      wrote.made clean saw.tables
      (record { inside = refl; sees = λ _. record { schema = saw.schema; rows = saw.shown; sound = saw.sound } })
      (fits saw.tables saw.stands)

  -- the transaction's trees mean the next state
  late_means : MeansDesk (state g late).now.trees next
  late_means = search (rules, arith, is_database, has_made, stands)

  -- after the commit the connection keeps the next state
  pub keeps_next : KeepsOne g → (end : Held S)
      → Sees2 (state g late) (state g end) (state g late).now (state g late).now false
      → IsKept (state g end) next
  keeps_next law end shown = search (rules, arith, has_made, stands, late_means, law)

  -- whatever the result of the commit, a crash leaves the old trees or the new ones
  pub either_left : (db : Trees) → (state g late).may_leave db ⊎ (db ≡ (state g late).now.trees)
      → Means db s ⊎ Means db next
  either_left db (inl before) =
      elim (wrote.left.less.crash clean db before) [ inl first ↦ inl (kept.leaves db first) | inr none ↦ absurd none ]
  either_left db (inr is) = inr (inl (subst (λ (t : Trees). MeansDesk t next) (sym is) late_means))

-- Why an event is not committed, and what is left of the rowids.

-- a commit that failed in a transaction was rolled back
back_of : (late end : Connected) (e : Error) → IsTrue late.in_transaction → FailsToCommit late end e → IsRolledBack late end
back_of late end e inside x = search (rules, arith)

-- A connection keeps a state, and a transaction begins.
module _ {S : Type 0} (g : Ghosts S) (old late end : Held S) where
  -- the rows that it sees
  run_of : (s : State) → (saw : SeesDesk (state g old) s) → MayRun (state g (record old { in_transaction = true })) saw.tables
  run_of s saw = record { inside = refl; sees = λ _. record { schema = saw.schema; rows = saw.shown; sound = saw.sound } }

  saw_of : Left g (record old { in_transaction = true }) late → (s : State) → Keeps (state g old) s
      → HasCleanDisk (state g late) → IsTrue (state g old).is_open → SeesDesk (state g old) s
  saw_of left s keeps clean live = (keeps (omega (arith, left.less.clean))).sees live

  -- an event that was not committed is `Store` only where the disk failed or refused, or where the commit ran out of memory
  pub commit_store : (Fits : Tables → Type 0) (taken : ℕ) (after : Tables → Tables) → Wrote g (record old { in_transaction = true }) late Fits taken after
      → (s : State) → Keeps (state g old) s → HasCleanDisk (state g late) → ((t : Tables) → StandsFor t s → Fits t) → IsUp (state g old) → (e : Error)
      → FailsToCommit (state g late) (state g end) e → HasFaulted (state g old) (state g end) ⊎ RanOut g old end s after
  commit_store Fits taken after wrote s keeps at_late fits up e failed =
      let saw = saw_of wrote.left s keeps at_late up.is_open in
      let made = wrote.made at_late saw.tables (run_of s saw) (fits saw.tables saw.stands) in
      let begun = state g (record old { in_transaction = true }) in
      elim (commit_why (state g late) (state g end) e made.is_open made.inside failed) [
        | inl faulted ↦ inl (faulted_later begun (state g late) (state g end) wrote.left.less.counts faulted)
        | inr is ↦ inr (record {
          tables = saw.tables;
          stands = saw.stands;
          late = late;
          wrote = made;
          failed = subst (λ x. FailsToCommit (state g late) (state g end) x) is failed;
        })
      ]

  -- an event that was committed took its rowids
  commit_rowids : (n : Numbers) (e : Event) (ask : Option Asked) (line : List ℕ)
      → Wrote g (record old { in_transaction = true }) late (Fits n e) (event_rowids n e ask) (event_rows n e ask line)
      → (HasCleanDisk (state g end) → HasCleanDisk (state g late)) → (HasCleanDisk (state g end) → (state g end).now ≡ (state g late).now)
      → LeavesRowids g old end n e ask
  commit_rowids n e ask line wrote less now_is clean s keeps fits m has live =
      let saw = saw_of wrote.left s keeps (less clean) (wrote.live (less clean) refl) in
      subst (λ (d : Database). HasRowids m d.trees) (sym (now_is clean))
      (wrote.rowids (less clean) saw.tables (run_of s saw) (wrote.live (less clean) refl) (fits saw.tables saw.stands) m has)

  -- one that was rolled back took none
  back_rowids : (n : Numbers) (e : Event) (ask : Option Asked) → Left g (record old { in_transaction = true }) late
      → (HasCleanDisk (state g end) → HasCleanDisk (state g late)) → (HasCleanDisk (state g end) → IsRolledBack (state g late) (state g end))
      → LeavesRowids g old end n e ask
  back_rowids n e ask left less undone clean s keeps fits m has live =
      let back = undone clean in
      let kept = left.commit (less clean) refl in
      let late_live = back.was_open live in
      let saw = saw_of left s keeps (less clean) (kept.was_open late_live) in
      let now_is : (state g end).now ≡ (state g old).now = (back.undone live).0 ∙ kept.committed late_live ∙ sym saw.committed in
      subst (λ (d : Database). HasRowids m d.trees) (sym now_is) (rowids_fewer m (event_rowids n e ask + m) (state g old).now.trees (omega arith) has)

  -- What is left after an event.
  module _ (outside : end.in_transaction ≡ false) (n : Numbers) (e : Event) (ask : Option Asked) (line : List ℕ) where
    leaves_of : Left g (record old { in_transaction = true }) late → (Commits : Trees → Type 0) → Survives (state g late) (state g end) Commits
        → LeavesRowids g old end n e ask
        → ((s next : State) → LeadsTo n e ask line s next → Keeps (state g old) s → MayLeave (state g end) s next) → LeavesEvent g old end n e ask line
    leaves_of left Commits survives rowids either = record {
      outside = outside;
      either = either;
      rowids = rowids;
      up = stays_begun g old end (stays_twice g (record old { in_transaction = true }) late end (stays_up g (record old { in_transaction = true }) late left.less)
          (stays_committing g late end Commits survives) (λ clean. omega (arith, survives.clean, clean)));
      less = λ clean. omega (arith, left.less.clean, survives.clean, clean);
    }

    module _ (wrote : Wrote g (record old { in_transaction = true }) late (Fits n e) (event_rowids n e ask) (event_rows n e ask line))
        (survives : Survives (state g late) (state g end) (λ db. db ≡ (state g late).now.trees)) where
      by_commit : LeavesRowids g old end n e ask → LeavesEvent g old end n e ask line
      by_commit rowids = leaves_of wrote.left (λ db. db ≡ (state g late).now.trees) survives rowids
          (λ s next leads keeps clean db left. either_left g old late (Fits n e) (event_rowids n e ask) (event_rows n e ask line) s next wrote leads.fits leads.stands keeps
          (omega (arith, survives.clean, clean)) db (survives.crash clean db left))

      at_late : HasCleanDisk (state g end) → HasCleanDisk (state g late)
      at_late clean = omega (arith, survives.clean, clean)

      -- it was committed: the connection keeps the next state
      pub commits_ok : {V : Type 0} {v : V} → KeepsOne g
          → (HasCleanDisk (state g end) → Sees2 (state g late) (state g end) (state g late).now (state g late).now false)
          → CommitsEvent g old end n e ask line (Ok v)
      commits_ok {V} {v} law shown = record {
        done = λ s next leads keeps clean. keeps_next g old late (Fits n e) (event_rowids n e ask) (event_rows n e ask line) s next wrote leads.fits leads.stands
            keeps (at_late clean) law end (shown clean);
        memory = λ s keeps ran. absurd (let same : ◌≡◌ {A = Result V Fault} (Ok v) (Err Memory) = ran in cc);
        store = λ clean s keeps permits has up failed. absurd (let same : ◌≡◌ {A = Result V Fault} (Ok v) (Err Store) = failed in cc);
        leaves = by_commit (commit_rowids n e ask line wrote at_late (λ clean. (shown clean).now_is));
      }

      -- its commit failed: the disk did, or there was no memory
      pub commits_err : {V : Type 0} {error : Error} → (HasCleanDisk (state g end) → FailsToCommit (state g late) (state g end) error)
          → CommitsEvent g old end n e ask line {V = V} (Err Store)
      commits_err {V} {error} failed = record {
        done = λ s next leads keeps. tt;
        memory = λ s keeps ran. absurd (let same : ◌≡◌ {A = Result V Fault} (Err Store) (Err Memory) = ran in cc);
        store = λ clean s keeps permits has up is. commit_store (Fits n e) (event_rowids n e ask) (event_rows n e ask line) wrote s keeps (at_late clean)
            (λ t st. event_fits n e ask line t (permits t st)) up error (failed clean);
        leaves = by_commit (back_rowids n e ask wrote.left at_late
            (λ clean. back_of (state g late) (state g end) error (wrote.inside (at_late clean) refl) (failed clean)));
      }

    -- a write failed, and the transaction was rolled back
    pub leaves_undone : Left g (record old { in_transaction = true }) late → Survives (state g late) (state g end) (λ _. ⊥)
        → (HasCleanDisk (state g end) → IsRolledBack (state g late) (state g end)) → LeavesEvent g old end n e ask line
    leaves_undone left survives undone = leaves_of left (λ _. ⊥) survives
        (back_rowids n e ask left (λ clean. omega (arith, survives.clean, clean)) undone)
        (λ s next leads keeps clean db may. inl ((keeps (omega (arith, left.less.clean, survives.clean, clean))).leaves db
        (left_before (state g (record old { in_transaction = true })) (state g end)
        (survives_twice (state g (record old { in_transaction = true })) (state g late) (state g end) left.less survives) clean db may)))

-- What each call leaves of a book that may act, as the contract of every book says it. For the book over tables.
use Rattle.std.proofs.Common.{◌≡◌, ◌≤◌, ◌⊎◌, ◌∙◌, ◌+◌, ◌∷◌, inl, inr, true, false, refl, sym, arith, rules, ◌↔◌, Option, Result, Ok, Err, IfErr, IsErrOf, IsTrue, ℕ}
use Rattle.std.specs.Borrow.{Bor}
use Rattle.std.specs.Option.{option_copied}
use Rattle.sqlite.specs.Store.{Ghosts}
use Rattle.sqlite.specs.Held.{Held, state}
use Rattle.sqlite.specs.State.{HasCleanDisk}
use Rattle.commands.specs.Asks.{Asked}
use Rattle.commands.specs.Request.{Request}
use Rattle.commands.specs.declared.replies.Fault.{Fault}
use Rattle.commands.specs.declared.replies.Fault.TheVariants.{Memory, Store}
use Rattle.commands.specs.declared.replies.Reply.{Reply}
use Rattle.desk_sql.specs.Causes.{HasFaulted, IsUp}
use Rattle.desk_sql.proofs.Rowids.{rowids_fewer}
use Rattle.ledger.specs.Answer.{State, outcome}
use Rattle.saga_core.specs.Books.{Keeps, LeavesNoMore}
use Rattle.saga_core.specs.Reasons.{MayGoOn}
use Rattle.saga_core.specs.Runs.{Asks}
use Rattle.sql_commands.specs.Failing.{RanOutOf, asked_rowids}
use Rattle.sql_model.specs.Keeping.{WasClean}
use Rattle.sql_model.specs.Spelling.{IsSpelled}
use Rattle.sql_model.specs.Staying.{SeesAsBefore, StaysUp, sees_alone}
use Rattle.sql_model.proofs.Quieting.{quiet_clean, quiet_leaves, quiet_sees, quiet_up}
use Rattle.sql_model.proofs.Staying.{faulted_earlier, faulted_later, rowids_stay}
use Rattle.sql_reads.specs.GoodRows.{IsMemory}
use Rattle.sql_reads.proofs.ReadLemmas.{not_store}
use Rattle.tables.specs.Acting.{ActsOn, ActsSince, AreShort, HasReasonSince, MayAct, MayActSince, rowids_for}
use Rattle.tables.specs.BookTerms.{Answers, FailsToAct, KeepsAtMemory, LeavesAtStore, LeavesBook, LeavesRowids, MovesOn, StandsBook}
use Rattle.tables.specs.Reading.{Executes, Looks, Reads}
use Rattle.tables.specs.declared.books.TableBook.{TableBook}

module _ {S : Type 0} (g : Ghosts S) (first old new : TableBook S g) (stays : StaysUp g old.conn new.conn)
    (low : (state g first.conn).faults ≤ (state g old.conn).faults) where
  -- a fault before the call, or meanwhile, is one since the first book
  since_earlier : HasFaulted (state g first.conn) (state g old.conn) → HasFaulted (state g first.conn) (state g new.conn)
  since_earlier faulted = faulted_earlier (state g first.conn) (state g old.conn) (state g new.conn) faulted stays.counts

  since_later : HasFaulted (state g old.conn) (state g new.conn) → HasFaulted (state g first.conn) (state g new.conn)
  since_later faulted = faulted_later (state g first.conn) (state g old.conn) (state g new.conn) low faulted

  -- after a fault it does not matter what the book may do
  faulted_since : (s : State) (asks : Asks) → HasFaulted (state g first.conn) (state g old.conn) → MayActSince g first new s asks
  faulted_since s asks faulted = record { counts = omega (arith, low, stays.counts); may = inr (since_earlier faulted) }

  -- the book may act on, or the disk failed or refused
  acts_on : (s : State) (asks : Asks) → AreShort asks
      → MayAct g new s (rowids_for asks) ⊎ HasFaulted (state g old.conn) (state g new.conn) → MayActSince g first new s asks
  acts_on s asks short (inl may) = record { counts = omega (arith, low, stays.counts); may = inl (may, short) }
  acts_on s asks short (inr faulted) = record { counts = omega (arith, low, stays.counts); may = inr (since_later faulted) }

-- A read.

module _ {S : Type 0} (g : Ghosts S) (old new : TableBook S g) (stays : StaysUp g old.conn new.conn) (clean : HasCleanDisk (state g new.conn))
    (first : TableBook S g) (s : State) (asks : Asks) (since : MayActSince g first old s asks) where
  -- it leaves the state, and the rowids
  may_still : SeesAsBefore g old.conn new.conn → WasClean g old.conn new.conn → (StandsBook g old s → StandsBook g new s)
      → MayActSince g first new s asks
  may_still sees less same = search (rules, arith, faulted_since, acts_on, rowids_stay)

-- unless the store failed, what stood stands, and what may go on does
kept_answered : {V : Type 0} (stood stands : State → Type 0) (result : Result V Fault) → IfErr result IsMemory → Keeps stood stands result
    → (s : State) → stood s → stands s
kept_answered stood stands (Ok v) memory same = same
kept_answered stood stands (Err Memory) memory same = same
kept_answered {V} stood stands (Err Store) memory same = absurd (not_store {V = V} (Err Store) memory refl)

goes_on : {V : Type 0} (can : State → Asks → Type 0) (why : State → State → Type 0) (s : State) (asks : Asks) (result : Result V Fault)
    → ¬ IsErrOf result Store → can s asks → MayGoOn can why s s asks result
goes_on can why s asks (Ok v) answered may = may
goes_on can why s asks (Err Memory) answered may = may
goes_on can why s asks (Err Store) answered may = absurd (answered refl)

-- it failed, for a reason
failed_since : {S : Type 0} (g : Ghosts S) (first old : TableBook S g) (conn : Held S) → StaysUp g old.conn conn → (s : State) (asks : Asks)
    → MayActSince g first old s asks
    → (StandsBook g old s → IsSpelled s.ledger → IsUp (state g old.conn) → HasFaulted (state g old.conn) (state g conn))
    → HasFaulted (state g first.conn) (state g conn) ⊎ RanOutOf g conn s s
failed_since g first old conn stays s asks since fails = elim since.may [
  | inr faulted ↦ inl (faulted_earlier (state g first.conn) (state g old.conn) (state g conn) faulted stays.counts)
  | inl may ↦
      inl (faulted_later (state g first.conn) (state g old.conn) (state g conn) since.counts (fails may.0.stands may.0.spelled may.0.up))
]

-- a book that has failed did so for a reason
had_failed : {S : Type 0} (g : Ghosts S) (b first : TableBook S g) (s next : State) (asks : Asks) → b.failed ≡ true
    → MayActSince g first b s asks → HasReasonSince g first b s next
had_failed g b first s next asks failed since = elim since.may [
  | inr faulted ↦ inl faulted
  | inl may ↦ absurd (let both : true ≡ false = sym failed ∙ may.0.stands.working in cc)
]

-- What a look leaves of a book that had not failed, as every read of one says it.
module _ {S V : Type 0} (g : Ghosts S) (old new : TableBook S g) {IsShown : State → V → Type 0} {looked : Result V Fault}
    (look : Looks g old new looked IsShown) where
  -- a crash leaves nothing that it could not have left before
  leaves_quiet : LeavesNoMore (LeavesBook g old) (LeavesBook g new)
  leaves_quiet s t left after db may =
      left (quiet_clean g old.conn new.conn look.quiet after) db (quiet_leaves g old.conn new.conn look.quiet after db may)

  -- it answered, or ran out of memory
  pub read_on : old.failed ≡ false → IfErr looked IsMemory → Reads g old new looked IsShown
  read_on worked memory =
      let works : new.failed ≡ false = look.failed ∙ worked in
      record {
        shown = look.shown;
        book = record {
          same = look.same;
          stop = λ clean. leaves_quiet;
          fails = (λ failed. absurd (not_store looked memory failed), λ failed. absurd (let both : true ≡ false = sym failed ∙ works in cc));
          stays_failed = λ failed. absurd (let both : true ≡ false = sym failed ∙ worked in cc);
          stays_left = λ failed. leaves_quiet;
          may_act = λ clean first s asks since. goes_on (MayActSince g first new) (HasReasonSince g first new) s asks looked (not_store looked memory)
              (may_still g old new (quiet_up g old.conn new.conn look.quiet) clean first s asks since (quiet_sees g old.conn new.conn look.quiet)
              (quiet_clean g old.conn new.conn look.quiet) (kept_answered (StandsBook g old) (StandsBook g new) looked memory (look.same clean) s));
          sound = quiet_clean g old.conn new.conn look.quiet;
        };
        sound = quiet_clean g old.conn new.conn look.quiet;
        store = look.store;
        sees = quiet_sees g old.conn new.conn look.quiet;
      }

  -- the store failed
  pub read_failed : {outside : new.conn.in_transaction ≡ false} → looked ≡ Err Store
      → Reads g old (record new { failed = true; outside = outside }) {V = V} (Err Store) IsShown
  read_failed is = record {
    shown = λ clean s here. tt;
    book = record {
      same = λ clean. tt;
      stop = λ clean. leaves_quiet;
      fails = (λ _. refl, λ _. refl);
      stays_failed = λ _. refl;
      stays_left = λ _. leaves_quiet;
      may_act = λ clean first s asks since. failed_since g first old new.conn (quiet_up g old.conn new.conn look.quiet) s asks since
          (λ here spelled up. look.store clean s here spelled up is);
      sound = quiet_clean g old.conn new.conn look.quiet;
    };
    sound = quiet_clean g old.conn new.conn look.quiet;
    store = λ clean s here spelled up failed. look.store clean s here spelled up is;
    sees = quiet_sees g old.conn new.conn look.quiet;
  }

-- a book that has failed reads nothing
pub not_read : {S V : Type 0} (g : Ghosts S) (b : TableBook S g) {IsShown : State → V → Type 0} → b.failed ≡ true
    → Reads g b b {V = V} (Err Store) IsShown
not_read g b failed = record {
  shown = λ clean s here. tt;
  book = record {
    same = λ clean. tt;
    stop = λ clean s t left. left;
    fails = (λ _. failed, λ _. refl);
    stays_failed = λ _. failed;
    stays_left = λ _ s t left. left;
    may_act = λ clean first s asks since. had_failed g b first s s asks failed since;
    sound = λ clean. clean;
  };
  sound = λ clean. clean;
  store = λ clean s here spelled up is. absurd (let both : true ≡ false = sym failed ∙ here.working in cc);
  sees = sees_alone g b.conn;
}

-- A command.

module _ {S : Type 0} (g : Ghosts S) (old new : TableBook S g) (ask : Option (Bor Asked)) (asked : Request) where
  -- a book that represents a state whose agents have their form may act there, unless the disk failed or refused
  may_act : HasCleanDisk (state g new.conn) → StaysUp g old.conn new.conn → LeavesRowids g old new ask asked
      → (s t : State) (m : ℕ) → MayAct g old s (asked_rowids (option_copied ask) asked + m) → StandsBook g new t → IsSpelled t.ledger
      → MayAct g new t m ⊎ HasFaulted (state g old.conn) (state g new.conn)
  may_act clean stays leaves s t m may stands spelled = elim (stays.up clean may.up) [
    | inr faulted ↦ inr faulted
    | inl up ↦ (elim (leaves clean s may.stands m may.rowids may.up) [
      | inr faulted ↦ inr faulted
      | inl has ↦ inl (record { stands = stands; spelled = spelled; up = up; rowids = has })
    ])
  ]

module _ {S : Type 0} (g : Ghosts S) (old new : TableBook S g) (stays : StaysUp g old.conn new.conn) where
  acts_since : (ask : Option (Bor Asked)) (asked : Request) (result : Result Reply Fault) → ActsOn g old new ask asked result
      → FailsToAct g old new ask asked result → ActsSince g old new ask asked result
  acts_since ask asked (Ok r) acts fails clean first s later since = elim since.may [
    | inr faulted ↦ faulted_since g first old new stays since.counts (outcome s (option_copied ask) asked).state later faulted
    | inl may ↦
        acts_on g first old new stays since.counts (outcome s (option_copied ask) asked).state later may.1.1
        (acts clean s (rowids_for later) may.0)
  ]
  acts_since ask asked (Err Memory) acts fails clean first s later since = elim since.may [
    | inr faulted ↦ faulted_since g first old new stays since.counts s later faulted
    | inl may ↦ acts_on g first old new stays since.counts s later may.1.1 (acts clean s (rowids_for later) may.0)
  ]
  acts_since ask asked (Err Store) acts fails clean first s later since = elim since.may [
    | inr faulted ↦ inl (since_earlier g first old new stays since.counts faulted)
    | inl may ↦ (let n = asked_rowids (option_copied ask) asked in
        let has = rowids_fewer n (n + rowids_for later) (state g old.conn).now.trees (omega arith) may.0.rowids in
        elim (fails clean s may.0.stands may.0.spelled may.1.0 has may.0.up refl) [
          | inl faulted ↦ inl (since_later g first old new stays since.counts faulted)
          | inr ran ↦ inr ran
        ])
  ]

-- A command that reached the store, from what it left of the connection.
module _ {S : Type 0} (g : Ghosts S) (old new : TableBook S g) (ask : Option (Bor Asked)) (asked : Request) (less : WasClean g old.conn new.conn)
    (stays : StaysUp g old.conn new.conn) (rowids : LeavesRowids g old new ask asked)
    (spells : (s : State) → IsSpelled s.ledger → IsSpelled (outcome s (option_copied ask) asked).state.ledger) where
  -- after a success the book may act on the next state, and out of memory on the same one
  acts_by : (result : Result Reply Fault) → MovesOn g old new ask asked result → KeepsAtMemory g old new result → ActsOn g old new ask asked result
  acts_by (Ok r) after memory clean s m may =
      may_act g old new ask asked clean stays rowids s (outcome s (option_copied ask) asked).state m may (after clean s may.stands)
      (spells s may.spelled)
  acts_by (Err Memory) after memory clean s m may =
      may_act g old new ask asked clean stays rowids s s m may (memory clean s may.stands) may.spelled
  acts_by (Err Store) after memory clean s m may = inl tt

  pub executed : (result : Result Reply Fault) → old.failed ≡ false → Answers g old new ask asked result → MovesOn g old new ask asked result
      → KeepsAtMemory g old new result → LeavesAtStore g old new ask asked result → (IsErrOf result Store ↔ IsTrue new.failed)
      → FailsToAct g old new ask asked result → Executes g old new ask asked result
  executed result working reply after memory store fails reason =
      let acts = acts_by result after memory in
      record {
        book = record {
          reply = reply;
          after = after;
          memory = memory;
          store = store;
          fails = fails;
          stays_failed = λ failed. absurd (let both : true ≡ false = sym failed ∙ working in cc);
          stays_left = λ failed. absurd (let both : true ≡ false = sym failed ∙ working in cc);
          may_act = acts_since g old new stays ask asked result acts reason;
          sound = less;
        };
        sound = less;
        reason = reason;
        rowids = rowids;
        up = stays;
        acts = acts;
      }

-- a book that has failed answers a command with Store, and is as it was
pub not_executed : {S : Type 0} (g : Ghosts S) (b : TableBook S g) (ask : Option (Bor Asked)) (asked : Request) → b.failed ≡ true
    → Executes g b b ask asked (Err Store)
not_executed g b ask asked failed = record {
  book = record {
    reply = λ clean s here. tt;
    after = λ clean s here. tt;
    memory = λ clean. tt;
    store = λ clean s here. absurd (let both : true ≡ false = sym failed ∙ here.working in cc);
    fails = (λ _. failed, λ _. refl);
    stays_failed = λ _. failed;
    stays_left = λ _ s t left. left;
    may_act = λ clean first s later since.
        had_failed g b first s (outcome s (option_copied ask) asked).state ((asked, option_copied ask) ∷ later) failed since;
    sound = λ clean. clean;
  };
  sound = λ clean. clean;
  reason = λ clean s here spelled short has up is. absurd (let both : true ≡ false = sym failed ∙ here.working in cc);
  rowids = λ clean s here m has up. absurd (let both : true ≡ false = sym failed ∙ here.working in cc);
  up = record { counts = omega arith; up = λ clean up. inl up };
  acts = λ clean s m may. inl tt;
}

-- A look at the tables of a book, from reads of its connection.
use Rattle.std.proofs.Common.{◌≡◌, ◌∙◌, arith, false, refl, rules, Result, Ok, Err}
use Rattle.sqlite.specs.Store.{Ghosts}
use Rattle.sqlite.specs.Held.{Held}
use Rattle.commands.specs.declared.replies.Fault.{Fault}
use Rattle.commands.specs.declared.replies.Fault.TheVariants.{Memory, Store}
use Rattle.desk_sql.specs.declared.versions.Version.TheVariants.{Two}
use Rattle.ledger.specs.Answer.{State}
use Rattle.saga_core.specs.Books.{Keeps}
use Rattle.sql_model.proofs.Quieting.{quiet_keeps}
use Rattle.sql_reads.specs.Reads.{AnyDesk, ReadIn}
use Rattle.sql_reads.proofs.ReadLemmas.{also_ok, not_store, read_err, then_err}
use Rattle.tables.specs.BookTerms.{StandsBook}
use Rattle.tables.specs.FinishedJourneys.{AreFinishedTo}
use Rattle.tables.specs.Reading.{Looks}
use Rattle.tables.specs.UnfinishedCount.{IsCount}
use Rattle.tables.specs.declared.books.TableBook.{TableBook}

-- unless the store failed, what stood stands
keeps_answered : {V : Type 0} (stood stands : State → Type 0) (result : Result V Fault) → ((s : State) → stood s → stands s)
    → Keeps stood stands result
keeps_answered stood stands (Ok v) same = same
keeps_answered stood stands (Err Memory) same = same
keeps_answered stood stands (Err Store) same = tt

module _ {S V : Type 0} {g : Ghosts S} {old : TableBook S g} {conn : Held S} {outside : conn.in_transaction ≡ false}
    {IsShown : State → V → Type 0} {result : Result V Fault} where
  -- a read of its connection leaves the book so
  pub looks_at : ReadIn g old.conn conn Two result AnyDesk IsShown → Looks g old (record old { conn = conn; outside = outside }) result IsShown
  looks_at read = record {
    shown = λ clean s here. read.shows clean s here.desk here.keeps;
    same = λ clean. keeps_answered (StandsBook g old) (StandsBook g (record old { conn = conn; outside = outside })) result (λ s here. record {
      working = here.working;
      known = here.known;
      counted = here.counted;
      desk = here.desk;
      keeps = quiet_keeps g old.conn conn read.quiet Two s here.keeps;
    });
    failed = refl;
    store = λ clean s here spelled up failed. read.store clean s here.desk spelled here.keeps tt up failed;
    quiet = read.quiet;
  }

  -- and so does one that fails, alone or after another one
  pub looks_failed : {X : Type 0} {f : Fault} {IsRead : State → X → Type 0} → result ≡ Err f
      → ReadIn g old.conn conn Two {V = X} (Err f) AnyDesk IsRead → Looks g old (record old { conn = conn; outside = outside }) result IsShown
  looks_failed is read = looks_at (read_err is read (λ s desk fits. fits))

  pub looks_failed_then : {X Y : Type 0} {x : X} {f : Fault} {mid : Held S} {Fits : State → Type 0} {IsRead : State → X → Type 0}
      {IsFound : State → Y → Type 0} → result ≡ Err f → ReadIn g old.conn mid Two (Ok x) Fits IsRead
      → ReadIn g mid conn Two {V = Y} (Err f) AnyDesk IsFound → Looks g old (record old { conn = conn; outside = outside }) result IsShown
  looks_failed_then is one two = looks_at (then_err is one two (λ s desk fits found. tt))

-- what a look shows of a state that the book represented, and what the book remembers then
pub record Learns {S V : Type 0} {g : Ghosts S} (new : TableBook S g) (IsShown : State → V → Type 0) (shown : V) (s : State) : Type 0 where
  pub is_so : IsShown s shown
  pub known : AreFinishedTo s.ledger new.finished
  pub counted : IsCount s.ledger new.unfinished

-- a look that succeeds, and that the book learns from
pub looks_ok : {S V X : Type 0} {g : Ghosts S} {old new : TableBook S g} {x : X} {y : V} {Fits : State → Type 0} {IsRead : State → X → Type 0}
    {IsShown : State → V → Type 0} → new.failed ≡ old.failed → ReadIn g old.conn new.conn Two (Ok x) Fits IsRead
    → ((s : State) → StandsBook g old s → IsRead s x → Learns new IsShown y s) → Looks g old new (Ok y) IsShown
looks_ok {g = g} {old = old} {new = new} {y = y} failed read learns = record {
  shown = λ clean s here. (learns s here (read.shows clean s here.desk here.keeps)).is_so;
  same = λ clean s here. (let it = learns s here (read.shows clean s here.desk here.keeps) in record {
    working = failed ∙ here.working;
    known = it.known;
    counted = it.counted;
    desk = here.desk;
    keeps = quiet_keeps g old.conn new.conn read.quiet Two s here.keeps;
  });
  failed = failed;
  store = λ clean s here spelled up failed. absurd (not_store (Ok y) tt failed);
  quiet = read.quiet;
}

-- what it shows of each state that the book represented may be said in other words
pub looks_less : {S V : Type 0} {g : Ghosts S} {old new : TableBook S g} {IsRead IsShown : State → V → Type 0} {result : Result V Fault}
    → Looks g old new result IsRead → ((s : State) → StandsBook g old s → (x : V) → IsRead s x → IsShown s x) → Looks g old new result IsShown
looks_less {IsRead = IsRead} {IsShown = IsShown} {result = result} look less = search (rules, arith, also_ok)

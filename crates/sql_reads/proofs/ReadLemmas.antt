-- A read of the desk is made of queries of rows, one after another. For the functions of `sql_reads` and of the crates above.
use Rattle.std.proofs.Common.{◌≡◌, Result, Ok, Err, ◌↔◌, IfOk, IfErr, IsErrOf, arith, rules}
use Rattle.std.specs.Prelude.{⊤}
use Rattle.sqlite.specs.Store.{Ghosts}
use Rattle.sqlite.specs.Held.{Held, state}
use Rattle.sqlite.specs.declared.error.Error.{Error}
use Rattle.sqlite.specs.declared.error.Error.TheVariants.{SqliteFailure}
use Rattle.sqlite.specs.declared.error.ErrorCode.TheVariants.{OutOfMemory}
use Rattle.commands.specs.declared.replies.Fault.{Fault}
use Rattle.commands.specs.declared.replies.Fault.TheVariants.{Memory, Store}
use Rattle.desk_sql.specs.Statements.{QueriesIn}
use Rattle.desk_sql.specs.Rows.{Tables, ShowsIn}
use Rattle.desk_sql.specs.declared.versions.Version.{Version}
use Rattle.desk_sql.proofs.Quieting.{quiet_alone, quiet_twice}
use Rattle.ledger.specs.Answer.{State}
use Rattle.sql_model.specs.Standing.{IsDesk, StandsIn}
use Rattle.sql_model.specs.Spelling.{IsSpelled}
use Rattle.sql_model.proofs.KeepLemmas.{seen_by}
use Rattle.sql_model.proofs.Quieting.{quiet_clean, quiet_keeps, quiet_up}
use Rattle.sql_model.proofs.Staying.{fails_twice, of_error}
use Rattle.sql_reads.specs.GoodRows.{IsMemory}
use Rattle.sql_reads.specs.Reads.{AnyDesk, ReadIn}

-- the postcondition of a success may be replaced by a weaker one
pub also_ok : {V E : Type 0} (r : Result V E) (P Q : V → Type 0) → ((v : V) → P v → Q v) → IfOk r P → IfOk r Q
also_ok r x y f p = search (rules, arith)

-- the same, for three postconditions
pub both_ok : {V E : Type 0} (r : Result V E) (P Q R T : V → Type 0) → ((v : V) → P v → Q v → R v → T v) → IfOk r P → IfOk r Q → IfOk r R → IfOk r T
both_ok r y z h k f p q x = search (rules, arith)

-- what fails only out of memory is no fault of the store
pub not_store : {V : Type 0} (r : Result V Fault) → IfErr r IsMemory → ¬ IsErrOf r Store
not_store r memory store = search (rules, arith)

-- which fault it is, whatever was to be returned
fault_is : {V : Type 0} (f : Fault) → IsErrOf {T = V} (Err f) Store → f ≡ Store
fault_is {V} f store =
    let same : ◌≡◌ {A = Result V Fault} (Err f) (Err Store) = store in cc

-- what a query found in tables of this version that represent the desk
pub record HasFound {S : Type 0} (g : Ghosts S) (old : Held S) (v : Version) (IsFound : Tables → Type 0) (s : State) : Type 0 where
  pub tables : Tables
  pub rows : ShowsIn v (state g old).now.trees tables
  pub stands : StandsIn v tables s
  pub found : IsFound tables

-- without a query nothing changes
pub no_read : {S : Type 0} {g : Ghosts S} {h : Held S} {v : Version} → ReadIn g h h v (Ok tt) AnyDesk (λ (s : State) (_ : ⊤). ⊤)
no_read {g = g} {h = h} = grind (arith, not_store, quiet_alone)

module _ {S : Type 0} {g : Ghosts S} {old new : Held S} {v : Version} where
  -- a query that succeeds
  pub found_rows : {V : Type 0} {x : V} {Finds : Tables → V → Type 0} {Fits : Tables → Type 0} → QueriesIn g old new v (Ok x) Finds Fits
      → ReadIn g old new v (Ok tt) AnyDesk (λ (s : State) (_ : ⊤). HasFound g old v (λ t. Finds t x) s)
  found_rows it = record {
    shows = λ clean s desk keeps. (
        let seen = seen_by (state g old) s (keeps (quiet_clean g old new it.quiet clean)) in
        let done = it.found clean seen.tables seen.may in
        let live = done.0.0.was_open in
        record { tables = seen.tables; rows = (seen.may live).rows; stands = seen.stands live; found = done.1 });
    store = λ clean s desk spelled keeps fits up store. absurd (not_store (Ok tt) tt store);
    quiet = it.quiet;
  }

  -- a query that fails
  pub query_fails : {V W : Type 0} {e : Error} {f : Fault} {Finds : Tables → V → Type 0} {Fits : Tables → Type 0} {IsGood : State → Type 0}
      {IsShown : State → W → Type 0} → QueriesIn g old new v (Err e) Finds Fits → (f ≡ Memory ↔ e ≡ SqliteFailure OutOfMemory)
      → ((t : Tables) (s : State) → StandsIn v t s → IsDesk s → IsSpelled s.ledger → IsGood s → Fits t)
      → ReadIn g old new v (Err f) IsGood IsShown
  query_fails {e = e} {f = f} it memory fits = record {
    shows = λ clean s desk keeps. tt;
    store = λ clean s desk spelled keeps good up store. (
        let seen = seen_by (state g old) s (keeps (quiet_clean g old new it.quiet clean)) in
        let reason = it.reason clean seen.tables seen.may (fits seen.tables s (seen.stands up.is_open) desk spelled good) up in
        of_error (state g old) (state g new) e f memory reason (fault_is f store));
    quiet = it.quiet;
  }

  -- what was read is turned into the result
  pub read_so : {V W : Type 0} {x : V} {Fits IsGood : State → Type 0} {IsRead : State → V → Type 0} {IsShown : State → W → Type 0}
      (result : Result W Fault) → ReadIn g old new v (Ok x) Fits IsRead
      → ((s : State) → IsDesk s → IsRead s x → IfOk result (IsShown s))
      → ((s : State) → IsDesk s → IsSpelled s.ledger → IsGood s → IsRead s x → IfErr result IsMemory)
      → ReadIn g old new v result IsGood IsShown
  read_so result it shown memory = search (rules, arith, not_store)

  -- the same, into a success, or into a fault that no desk gives
  pub read_ok : {V W : Type 0} {x : V} {y : W} {Fits IsGood : State → Type 0} {IsRead : State → V → Type 0} {IsShown : State → W → Type 0}
      → ReadIn g old new v (Ok x) Fits IsRead → ((s : State) → IsDesk s → IsRead s x → IsShown s y)
      → ReadIn g old new v (Ok y) IsGood IsShown
  read_ok {y = y} it shown = read_so (Ok y) it shown (λ s desk spelled good read. tt)

  pub read_never : {V W : Type 0} {x : V} {f : Fault} {Fits IsGood : State → Type 0} {IsRead : State → V → Type 0} {IsShown : State → W → Type 0}
      → ReadIn g old new v (Ok x) Fits IsRead → ((s : State) → IsDesk s → IsSpelled s.ledger → IsGood s → IsRead s x → ⊥)
      → ReadIn g old new v (Err f) IsGood IsShown
  read_never {f = f} it never =
      read_so (Err f) it (λ s desk read. tt) (λ s desk spelled good read. absurd (never s desk spelled good read))

  -- a read that failed has failed, whatever was to be returned
  pub read_err : {V W : Type 0} {f : Fault} {result : Result W Fault} {Fits IsGood : State → Type 0} {IsRead : State → V → Type 0}
      {IsShown : State → W → Type 0}
      → result ≡ Err f → ReadIn g old new v (Err f) Fits IsRead → ((s : State) → IsDesk s → IsGood s → Fits s)
      → ReadIn g old new v result IsGood IsShown
  read_err {V = V} {W = W} {f = f} {IsGood = IsGood} {IsShown = IsShown} is it fits = search (rules, arith, fault_is)

  -- what is read of each desk is read of those that fit
  pub read_less : {V : Type 0} {result : Result V Fault} {IsGood : State → Type 0} {IsRead IsShown : State → V → Type 0}
      → ReadIn g old new v result AnyDesk IsRead → ((s : State) (x : V) → IsRead s x → IsShown s x) → ReadIn g old new v result IsGood IsShown
  read_less {result = result} {IsRead = IsRead} {IsShown = IsShown} it less = search (rules, arith, also_ok)

-- One read after another.

module _ {S : Type 0} {g : Ghosts S} {a b c : Held S} {v : Version} where
  -- both succeed
  pub read_both : {V W : Type 0} {x : V} {y : W} {Fits Good : State → Type 0} {IsRead : State → V → Type 0} {IsShown : State → W → Type 0}
      → ReadIn g a b v (Ok x) Fits IsRead → ReadIn g b c v (Ok y) Good IsShown
      → ReadIn g a c v (Ok y) AnyDesk (λ s z. IsRead s x × IsShown s z)
  read_both {y = y} one two = record {
    shows = λ clean s desk keeps. (
      one.shows (quiet_clean g b c two.quiet clean) s desk keeps,
      two.shows clean s desk (quiet_keeps g a b one.quiet v s keeps),
    );
    store = λ clean s desk spelled keeps good up store. absurd (not_store (Ok y) tt store);
    quiet = quiet_twice g a b c one.quiet two.quiet;
  }

  -- the result is that of the second
  pub read_then : {V W : Type 0} {x : V} {result : Result W Fault} {Fits Good IsGood : State → Type 0} {IsRead : State → V → Type 0}
      {IsFound IsShown : State → W → Type 0} → ReadIn g a b v (Ok x) Fits IsRead → ReadIn g b c v result Good IsFound
      → ((s : State) → IsDesk s → IsGood s → IsRead s x → Good s)
      → ((s : State) → IsDesk s → IsRead s x → (y : W) → IsFound s y → IsShown s y) → ReadIn g a c v result IsGood IsShown
  read_then {result = result} {IsFound = IsFound} {IsShown = IsShown} one two good shown = record {
    shows = λ clean s desk keeps.
        also_ok result (IsFound s) (IsShown s) (shown s desk (one.shows (quiet_clean g b c two.quiet clean) s desk keeps))
        (two.shows clean s desk (quiet_keeps g a b one.quiet v s keeps));
    store = λ clean s desk spelled keeps fits up store.
        fails_twice g a b c (quiet_up g a b one.quiet) (quiet_up g b c two.quiet) (quiet_clean g b c two.quiet) clean up (λ still.
        two.store clean s desk spelled (quiet_keeps g a b one.quiet v s keeps)
        (good s desk fits (one.shows (quiet_clean g b c two.quiet clean) s desk keeps)) still store);
    quiet = quiet_twice g a b c one.quiet two.quiet;
  }

  -- the second fails, whatever was to be returned
  pub then_err : {V W U : Type 0} {x : V} {f : Fault} {result : Result U Fault} {Fits Good IsGood : State → Type 0}
      {IsRead : State → V → Type 0} {IsFound : State → W → Type 0} {IsShown : State → U → Type 0}
      → result ≡ Err f → ReadIn g a b v (Ok x) Fits IsRead → ReadIn g b c v (Err f) Good IsFound
      → ((s : State) → IsDesk s → IsGood s → IsRead s x → Good s) → ReadIn g a c v result IsGood IsShown
  then_err {W = W} {IsGood = IsGood} is one two good =
      read_err is (read_then {IsGood = IsGood} {IsShown = λ (s : State) (y : W). ⊤} one two good (λ s desk read y found. tt))
      (λ s desk fits. fits)

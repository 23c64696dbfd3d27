-- A request that is executed after reads, that is refused, that fails, and whose rows are committed. For the functions that answer.
use Rattle.std.proofs.Common.{◌≡◌, ◌⊎◌, ◌+◌, ◌≤◌, ℕ, inl, inr, false, Option, refl, sym, ap, subst, ◌∙◌, arith, Result, Ok, Err, IsErrOf, IfErr, IfOk, OnOk}
use Rattle.std.specs.Prelude.{⊤}
use Rattle.sqlite.specs.Store.{Ghosts}
use Rattle.sqlite.specs.Held.{Held, state}
use Rattle.sqlite.specs.State.{HasCleanDisk}
use Rattle.commands.specs.Asks.{Asked}
use Rattle.commands.specs.Request.{Request}
use Rattle.commands.specs.Texts.{reply_line}
use Rattle.commands.specs.declared.replies.Fault.{Fault}
use Rattle.commands.specs.declared.replies.Fault.TheVariants.{Memory, Store}
use Rattle.commands.specs.declared.replies.Reply.{Reply}
use Rattle.desk_sql.specs.Causes.{IsUp, HasFaulted}
use Rattle.desk_sql.specs.Rows.{Tables}
use Rattle.desk_sql.specs.Writable.{HasRowids}
use Rattle.desk_sql.specs.declared.versions.Version.TheVariants.{Two}
use Rattle.desk_sql.specs.Calls.{Quiet}
use Rattle.desk_sql.proofs.Quieting.{faulted_earlier, faulted_later, quiet_alone}
use Rattle.desk_sql.proofs.Rowids.{rowids_fewer}
use Rattle.ledger.specs.Answer.{State, outcome}
use Rattle.sql_model.specs.Keeping.{IsKept, Keeps}
use Rattle.sql_model.specs.Spelling.{IsSpelled}
use Rattle.sql_model.specs.Standing.{IsDesk, StandsFor}
use Rattle.sql_model.specs.Staying.{StaysUp}
use Rattle.sql_model.proofs.Quieting.{quiet_clean, quiet_keeps, quiet_sees, quiet_up}
use Rattle.sql_model.proofs.Staying.{rowids_stay, stays_twice}
use Rattle.sql_reads.specs.GoodRows.{IsMemory}
use Rattle.sql_reads.specs.Reads.{ReadIn}
use Rattle.sql_reads.proofs.ReadLemmas.{then_err}
use Rattle.sql_writes.specs.declared.events.Numbers.{Numbers}
use Rattle.sql_writes.specs.declared.events.Event.{Event}
use Rattle.sql_writes.specs.Commits.{CommitsEvent}
use Rattle.sql_writes.specs.Kinds.{LeadsTo, event_rows}
use Rattle.sql_writes.specs.Permits.{PermitsEvent, event_rowids}
use Rattle.sql_commands.specs.Executing.{Executes}
use Rattle.sql_commands.specs.Failing.{HasShortText, asked_rowids}

-- the outcome of a request that changes nothing: its reply, and the same state
pub record IsUnmoved (s : State) (ask : Option Asked) (asked : Request) (r : Reply) : Type 0 where
  pub replied : r ≡ (outcome s ask asked).reply
  pub same : (outcome s ask asked).state ≡ s

-- the postcondition of a success may be shown from its own premise
on_ok_given : {V E : Type 0} (r : Result V E) (A B : Type 0) → (A → OnOk r (A → B)) → OnOk r (A → B)
on_ok_given (Ok v) A B f = λ a. f a a
on_ok_given (Err e) A B f = tt

-- the rows of the event lead to the request's outcome, with this reply and no more rowids than the request has, and are permitted
pub record LeadsToOutcome (n : Numbers) (e : Event) (ask : Option Asked) (asked : Request) (reply : Reply) (s : State) : Type 0 where
  pub leads : LeadsTo n e ask (reply_line reply) s (outcome s ask asked).state
  pub replied : reply ≡ (outcome s ask asked).reply
  pub few : event_rowids n e ask ≤ asked_rowids ask asked
  pub permits : IsSpelled s.ledger → HasShortText ask → (t : Tables) → StandsFor t s → PermitsEvent n e ask (reply_line reply) t

-- which fault a failed call has, whatever it was to return
err_is : {V : Type 0} (f h : Fault) → IsErrOf {T = V} (Err f) h → f ≡ h
err_is {V} f h failed =
    let same : ◌≡◌ {A = Result V Fault} (Err f) (Err h) = failed in cc

ok_is_not_err : {V : Type 0} {v : V} (f : Fault) → IsErrOf (Ok v) f → ⊥
ok_is_not_err {V} {v} f failed =
    let same : ◌≡◌ {A = Result V Fault} (Ok v) (Err f) = failed in cc

-- after calls that change nothing as many rowids are left
left_after : {S : Type 0} {g : Ghosts S} {a b : Held S} → Quiet g a b → HasCleanDisk (state g b) → (s : State) → Keeps (state g a) s
    → (n m : ℕ) → HasRowids (n + m) (state g a).now.trees → IsUp (state g a)
    → HasRowids m (state g b).now.trees ⊎ HasFaulted (state g a) (state g b)
left_after {g = g} {a = a} {b = b} quiet clean s keeps n m has up = elim ((quiet_up g a b quiet).up clean up) [
  | inl now ↦ inl (rowids_fewer m (n + m) (state g b).now.trees (omega arith)
      (rowids_stay g a b (quiet_sees g a b quiet) (quiet_clean g a b quiet) s keeps clean now.is_open (n + m) has))
  | inr faulted ↦ inr faulted
]

module _ {S : Type 0} {g : Ghosts S} {ask : Option Asked} {asked : Request} {IsDueIn : State → Type 0} {V : Type 0} {reply_of : V → Reply} where
  -- calls that change nothing, after which the request is executed
  quiet_then : {a b c : Held S} {result : Result V Fault} → Quiet g a b → (IsDueThen : State → Type 0)
      → (HasCleanDisk (state g b) → (s : State) → Keeps (state g a) s → IsDueIn s → IsDueThen s)
      → Executes g b c ask asked IsDueThen reply_of result → Executes g a c ask asked IsDueIn reply_of result
  quiet_then {a} {b} {c} {result} quiet IsDueThen then rest =
      let kept : (s : State) → Keeps (state g a) s → Keeps (state g b) s = quiet_keeps g a b quiet Two in
      let read_up : StaysUp g a b = quiet_up g a b quiet in
      record {
        outside = rest.outside;
        reply = λ clean s keeps due. rest.reply clean s (kept s keeps) (then (rest.sound clean) s keeps due);
        after = λ s keeps due. on_ok_given result (HasCleanDisk (state g c)) (IsKept (state g c) (outcome s ask asked).state)
            (λ clean. rest.after s (kept s keeps) (then (rest.sound clean) s keeps due));
        left = λ s keeps due clean. rest.left s (kept s keeps) (then (rest.sound clean) s keeps due) clean;
        memory = λ s keeps ran. rest.memory s (kept s keeps) ran;
        sound = λ clean. quiet_clean g a b quiet (rest.sound clean);
        store = λ clean s spelled keeps due short has up failed. (elim (read_up.up (rest.sound clean) up) [
          | inr faulted ↦ inl (faulted_earlier (state g a) (state g b) (state g c) faulted rest.up.counts)
          | inl now ↦ (
              let left = rowids_stay g a b (quiet_sees g a b quiet) (quiet_clean g a b quiet) s keeps (rest.sound clean) now.is_open (asked_rowids ask asked) has in
              elim (rest.store clean s spelled (kept s keeps) (then (rest.sound clean) s keeps due) short left now failed) [
                | inl faulted ↦ inl (faulted_later (state g a) (state g b) (state g c) read_up.counts faulted)
                | inr ran ↦ inr ran
              ])
        ]);
        rowids = λ clean s keeps due m has up. (elim (read_up.up (rest.sound clean) up) [
          | inr faulted ↦ inr (faulted_earlier (state g a) (state g b) (state g c) faulted rest.up.counts)
          | inl now ↦ (
              let left = rowids_stay g a b (quiet_sees g a b quiet) (quiet_clean g a b quiet) s keeps (rest.sound clean) now.is_open (asked_rowids ask asked + m) has in
              elim (rest.rowids clean s (kept s keeps) (then (rest.sound clean) s keeps due) m left now) [
                | inr faulted ↦ inr (faulted_later (state g a) (state g b) (state g c) read_up.counts faulted)
                | inl still ↦ inl still
              ])
        ]);
        up = stays_twice g a b c read_up rest.up rest.sound;
      }

  -- the request is executed on further states
  pub executes_where : {a b : Held S} {IsDueThen : State → Type 0} {result : Result V Fault} → Executes g a b ask asked IsDueThen reply_of result
      → ((s : State) → IsDueIn s → IsDueThen s) → Executes g a b ask asked IsDueIn reply_of result
  executes_where {a} {b} {IsDueThen} rest then = quiet_then (quiet_alone g a) IsDueThen (λ clean s keeps due. then s due) rest

  quiet_alone_is : {a b : Held S} → a.in_transaction ≡ false → Quiet g a b → (v : V)
      → (HasCleanDisk (state g b) → (s : State) → Keeps (state g a) s → IsDueIn s → IsUnmoved s ask asked (reply_of v))
      → Executes g a b ask asked IsDueIn reply_of (Ok v)
  quiet_alone_is {a} {b} outside quiet v comes = record {
    outside = quiet.mode outside;
    reply = λ clean s keeps due. (comes clean s keeps due).replied;
    after = λ s keeps due clean. subst (IsKept (state g b)) (sym (comes clean s keeps due).same) (quiet_keeps g a b quiet Two s keeps clean);
    left = λ s keeps due clean db may. inl ((quiet_keeps g a b quiet Two s keeps clean).leaves db may);
    memory = λ s keeps ran. quiet_keeps g a b quiet Two s keeps;
    sound = quiet_clean g a b quiet;
    store = λ clean s spelled keeps due short has up failed. absurd (ok_is_not_err Store failed);
    rowids = λ clean s keeps due m has up. left_after quiet clean s keeps (asked_rowids ask asked) m has up;
    up = quiet_up g a b quiet;
  }

  quiet_fails : {a b : Held S} → a.in_transaction ≡ false → Quiet g a b → (f : Fault)
      → (f ≡ Store → HasCleanDisk (state g b) → (s : State) → IsSpelled s.ledger → Keeps (state g a) s → IsDueIn s → IsUp (state g a)
      → HasFaulted (state g a) (state g b))
      → Executes g a b ask asked IsDueIn reply_of (Err f)
  quiet_fails {a} {b} outside quiet f fails = record {
    outside = quiet.mode outside;
    reply = λ clean s keeps due. tt;
    after = λ s keeps due. tt;
    left = λ s keeps due clean db may. inl ((quiet_keeps g a b quiet Two s keeps clean).leaves db may);
    memory = λ s keeps ran. quiet_keeps g a b quiet Two s keeps;
    sound = quiet_clean g a b quiet;
    store = λ clean s spelled keeps due short has up failed. inl (fails (err_is f Store failed) clean s spelled keeps due up);
    rowids = λ clean s keeps due m has up. left_after quiet clean s keeps (asked_rowids ask asked) m has up;
    up = quiet_up g a b quiet;
  }

  -- a request that no state has, or that is answered without a call
  pub answers_alone : {a : Held S} → a.in_transaction ≡ false → {v : V} → ((s : State) → IsDueIn s → IsUnmoved s ask asked (reply_of v))
      → Executes g a a ask asked IsDueIn reply_of (Ok v)
  answers_alone {a} outside {v} comes = quiet_alone_is outside (quiet_alone g a) v (λ clean s keeps due. comes s due)

  pub fails_alone : {a : Held S} → a.in_transaction ≡ false → {f : Fault} → ((s : State) → IsDueIn s → f ≡ Store → ⊥)
      → Executes g a a ask asked IsDueIn reply_of (Err f)
  fails_alone {a} outside {f} never = quiet_fails outside (quiet_alone g a) f (λ store clean s spelled keeps due up. absurd (never s due store))

  -- The request is due on desks alone.
  module _ (is_desk : (s : State) → IsDueIn s → IsDesk s) where
    -- reads, after which the request is executed on what was found
    pub reads_then : {a b c : Held S} {X : Type 0} {x : X} {Fits : State → Type 0} {IsRead : State → X → Type 0} {IsDueThen : State → Type 0}
        {result : Result V Fault} → ReadIn g a b Two (Ok x) Fits IsRead → Executes g b c ask asked IsDueThen reply_of result
        → ((s : State) → IsDueIn s → IsRead s x → IsDueThen s) → Executes g a c ask asked IsDueIn reply_of result
    reads_then {IsDueThen = IsDueThen} read rest then =
        quiet_then read.quiet IsDueThen (λ clean s keeps due. then s due (read.shows clean s (is_desk s due) keeps)) rest

    -- reads, after which the request is answered without a change, or there is no memory for the answer
    pub reads_told : {a b : Held S} {X : Type 0} {x : X} {Fits : State → Type 0} {IsRead : State → X → Type 0}
        → a.in_transaction ≡ false → ReadIn g a b Two (Ok x) Fits IsRead → (result : Result V Fault) → IfErr result IsMemory
        → ((s : State) → IsDueIn s → IsRead s x → IfOk result (λ v. IsUnmoved s ask asked (reply_of v)))
        → Executes g a b ask asked IsDueIn reply_of result
    reads_told outside read (Ok v) memory comes =
        quiet_alone_is outside read.quiet v (λ clean s keeps due. comes s due (read.shows clean s (is_desk s due) keeps))
    reads_told outside read (Err f) memory comes =
        quiet_fails outside read.quiet f (λ store clean s spelled keeps due up. absurd (let other : Memory ≡ Store = sym memory ∙ store in cc))

    pub reads_alone : {a b : Held S} {X : Type 0} {x : X} {Fits : State → Type 0} {IsRead : State → X → Type 0}
        → a.in_transaction ≡ false → ReadIn g a b Two (Ok x) Fits IsRead → {v : V}
        → ((s : State) → IsDueIn s → IsRead s x → IsUnmoved s ask asked (reply_of v)) → Executes g a b ask asked IsDueIn reply_of (Ok v)
    reads_alone outside read {v} comes = reads_told outside read (Ok v) tt comes

    -- reads that fail, for a reason
    pub reads_fail : {a b : Held S} {X : Type 0} {f : Fault} {result : Result V Fault} {Fits : State → Type 0} {IsShown : State → X → Type 0}
        → result ≡ Err f → a.in_transaction ≡ false → ReadIn g a b Two {V = X} (Err f) Fits IsShown → ((s : State) → IsDueIn s → Fits s)
        → Executes g a b ask asked IsDueIn reply_of result
    reads_fail {a = a} {b = b} {X = X} {f = f} is outside read fits = subst (Executes g a b ask asked IsDueIn reply_of) (sym is)
        (quiet_fails outside read.quiet f
        (λ store clean s spelled keeps due up. read.store clean s (is_desk s due) spelled keeps (fits s due) up (ap {B = Result X Fault} Err store)))

    -- the same, after reads that succeed
    pub then_fails : {a b c : Held S} {X Y : Type 0} {x : X} {f : Fault} {result : Result V Fault} {Fits Good : State → Type 0}
        {IsRead : State → X → Type 0} {IsFound : State → Y → Type 0}
        → result ≡ Err f → a.in_transaction ≡ false → ReadIn g a b Two (Ok x) Fits IsRead → ReadIn g b c Two {V = Y} (Err f) Good IsFound
        → ((s : State) → IsDueIn s → IsRead s x → Good s) → Executes g a c ask asked IsDueIn reply_of result
    then_fails {Y = Y} {f = f} is outside one two good =
        reads_fail is outside
        (then_err {U = Y} {result = Err f} {IsGood = IsDueIn} {IsShown = λ (s : State) (y : Y). ⊤} refl one two (λ s desk due read. good s due read))
        (λ s due. due)

    -- reads that find what no desk has
    pub reads_never : {a b : Held S} {X : Type 0} {x : X} {f : Fault} {result : Result V Fault} {Fits : State → Type 0} {IsRead : State → X → Type 0}
        → result ≡ Err f → a.in_transaction ≡ false → ReadIn g a b Two (Ok x) Fits IsRead
        → ((s : State) → IsDueIn s → IsRead s x → f ≡ Store → ⊥) → Executes g a b ask asked IsDueIn reply_of result
    reads_never {a = a} {b = b} {f = f} is outside read never = subst (Executes g a b ask asked IsDueIn reply_of) (sym is)
        (quiet_fails outside read.quiet f
        (λ store clean s spelled keeps due up. absurd (never s due (read.shows clean s (is_desk s due) keeps) store)))

  -- the rows of the outcome are committed, or the commit fails
  module _ {a b : Held S} {n : Numbers} {e : Event} {reply : Reply} (comes : (s : State) → IsDueIn s → LeadsToOutcome n e ask asked reply s) where
    commits_as : {W : Type 0} (committed : Result W Fault) → CommitsEvent g a b n e ask (reply_line reply) committed → (result : Result V Fault)
        → ((f : Fault) → IsErrOf result f → IsErrOf committed f)
        → ((s : State) → LeadsTo n e ask (reply_line reply) s (outcome s ask asked).state → Keeps (state g a) s → OnOk result (Keeps (state g b) (outcome s ask asked).state))
        → ((s : State) → reply ≡ (outcome s ask asked).reply → IfOk result (λ v. reply_of v ≡ (outcome s ask asked).reply))
        → Executes g a b ask asked IsDueIn reply_of result
    commits_as committed it result too done replied = record {
      outside = it.leaves.outside;
      reply = λ clean s keeps due. replied s (comes s due).replied;
      after = λ s keeps due. done s (comes s due).leads keeps;
      left = λ s keeps due. it.leaves.either s (outcome s ask asked).state (comes s due).leads keeps;
      memory = λ s keeps ran. it.memory s keeps (too Memory ran);
      sound = it.leaves.less;
      store = λ clean s spelled keeps due short has up failed. (
          let led = comes s due in
          let few = rowids_fewer (event_rowids n e ask) (asked_rowids ask asked) (state g a).now.trees led.few has in
          elim (it.store clean s keeps (led.permits spelled short) few up (too Store failed)) [
            | inl faulted ↦ inl faulted
            | inr ran ↦ inr (record {
              before = ran.tables;
              stands = ran.stands;
              after = event_rows n e ask (reply_line reply) ran.tables;
              reaches = led.leads.stands ran.tables ran.stands;
              early = a;
              late = ran.late;
              wrote = ran.wrote;
              failed = ran.failed;
            })
          ]);
      rowids = λ clean s keeps due m has up. (
          let led = comes s due in
          let few = rowids_fewer (event_rowids n e ask + m) (asked_rowids ask asked + m) (state g a).now.trees (let low = led.few in omega (arith, low)) has in
          elim (it.leaves.up.up clean up) [
            | inl now ↦ inl (it.leaves.rowids clean s keeps led.leads.fits m few now.is_open)
            | inr faulted ↦ inr faulted
          ]);
      up = it.leaves.up;
    }

    pub commits : {W : Type 0} {w : W} → CommitsEvent g a b n e ask (reply_line reply) (Ok w) → {v : V} → reply_of v ≡ reply
        → Executes g a b ask asked IsDueIn reply_of (Ok v)
    commits {w = w} it {v} is = commits_as (Ok w) it (Ok v) (λ f failed. absurd (ok_is_not_err f failed))
        (λ s leads keeps. it.done s (outcome s ask asked).state leads keeps) (λ s replied. is ∙ replied)

    pub commit_fails : {W : Type 0} {f : Fault} {result : Result V Fault} → result ≡ Err f → CommitsEvent g a b n e ask (reply_line reply) {V = W} (Err f)
        → Executes g a b ask asked IsDueIn reply_of result
    commit_fails {W = W} {f = f} is it = subst (Executes g a b ask asked IsDueIn reply_of) (sym is)
        (commits_as (Err f) it (Err f) (λ h same. ap {B = Result W Fault} Err (err_is f h same)) (λ s leads keeps. tt) (λ s replied. tt))

  -- the reply is told otherwise
  pub says_as : {W : Type 0} {a b : Held S} {said : W → Reply} {w : W} {v : V} → Executes g a b ask asked IsDueIn reply_of (Ok v)
      → said w ≡ reply_of v → Executes g a b ask asked IsDueIn said (Ok w)
  says_as {w = w} it is = record {
    outside = it.outside;
    reply = λ clean s keeps due. is ∙ it.reply clean s keeps due;
    after = it.after;
    left = it.left;
    memory = λ s keeps ran. absurd (ok_is_not_err Memory ran);
    sound = it.sound;
    store = λ clean s spelled keeps due short has up failed. absurd (ok_is_not_err Store failed);
    rowids = it.rowids;
    up = it.up;
  }

  -- and so is a fault
  pub fails_as : {W : Type 0} {a b : Held S} {said : W → Reply} {f : Fault} {result : Result W Fault} → result ≡ Err f
      → Executes g a b ask asked IsDueIn reply_of (Err f) → Executes g a b ask asked IsDueIn said result
  fails_as {a = a} {b = b} {said = said} {f = f} is it = subst (Executes g a b ask asked IsDueIn said) (sym is) (record {
    outside = it.outside;
    reply = λ clean s keeps due. tt;
    after = λ s keeps due. tt;
    left = it.left;
    memory = λ s keeps ran. it.memory s keeps (ap {B = Result V Fault} Err (err_is f Memory ran));
    sound = it.sound;
    store = λ clean s spelled keeps due short has up failed. it.store clean s spelled keeps due short has up (ap {B = Result V Fault} Err (err_is f Store failed));
    rowids = it.rowids;
    up = it.up;
  })

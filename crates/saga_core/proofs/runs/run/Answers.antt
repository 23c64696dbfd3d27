-- More than 60 lines: a loop, three ways out, five clauses and four lemmas of its own.
use Rattle.std.proofs.Common.{◌≡◌, ◌+◌, [], ◌∷◌, ◌++◌, take, ap, sym, ◌∙◌, subst, arith, ℕ, List, drop, refl, append_assoc, IsTrue, Option, Err, take-append-drop}
use Rattle.std.proofs.lemmas.List.{take_all, length-map}
use Rattle.std.specs.Option.{option_copied}
use Rattle.ledger.specs.Answer.{start, State, is_request}
use Rattle.ledger.specs.World.{after, Moment}
use Rattle.saga_core.specs.Runs.{asked_by, asks_of, replies_to, state_after, Asks}
use Rattle.saga_core.specs.Worlds.{KeepLimits, StandsAtEnd, RunEndsAmong}
use Rattle.saga_core.proofs.CallLemmas.{stays_acted, stays_twice}
use Rattle.saga_core.proofs.RunLemmas.{is_at, stops, replies_to-more, state_after-more, IsAt, took, state_after-append}
use Rattle.saga_core.proofs.ReasonLemmas.{acts_after_all, acts_more, fails_at}
use Rattle.saga_core.proofs.WorldLemmas.{ends-with, KeepLimits-append, ends-after, ends-cut}
use Rattle.saga_core.proofs.runs.run.Goals as goal
use Rattle.commands.specs.Asks.{Asked}
use Rattle.commands.specs.Request.{Request}
use Rattle.commands.specs.declared.replies.Fault.{Fault}
use Rattle.commands.specs.declared.replies.Fault.TheVariants.{Memory, Store}
use Rattle.commands.specs.declared.replies.Reply.{Reply}
use Rattle.saga_core.specs.Books.{LeavesAtStore, KeepsAtMemory}

-- one more ask that keeps the limits
KeepLimits-more : {cs : Asks} {i : ℕ} {c : Request × Option Asked} → IsAt cs i c
    → KeepLimits (take i cs) → IsTrue (is_request c.0) → KeepLimits (take (i + 1) cs)
KeepLimits-more {cs} {i} {c} at all one = subst KeepLimits (sym (took at)) (KeepLimits-append (take i cs) (c ∷ []) all (one, tt))

-- no ask was answered yet
none-ran : (stands : State → Type 0) (leaves : State → State → Type 0) (w : List Moment) (cs : Asks)
    (replies : List Reply) → replies ≡ [] → ((u : State) → stands u → leaves u u) → StandsAtEnd stands w
    → RunEndsAmong stands leaves w cs replies Memory
none-ran stands leaves w cs replies none settled here = record {
  among = ends-after stands leaves w cs [] cs settled here refl tt here.stands_there;
  replied = none;
  failed_at = refl;
}

-- the asks before this one, this one, and the later ones
parted : {cs : Asks} {i : ℕ} {c : Request × Option Asked} → IsAt cs i c → cs ≡ take i cs ++ (c ∷ []) ++ drop (i + 1) cs
parted {cs} {i} {c} at = grind (arith, take-append-drop, took)

-- the next ask failed
run-ends : {cs : Asks} {i : ℕ} {c : Request × Option Asked} {stood : State → Type 0}
    (before stands : State → Type 0) (leaves : State → State → Type 0) (w : List Moment) (replies : List Reply)
    (fault : Fault) → IsAt cs i c → ((u : State) → stands u → leaves u u)
    → StandsAtEnd stood w → KeepLimits (take i cs) → IsTrue (is_request c.0) → replies ≡ replies_to (after start w) (take i cs)
    → before (state_after (after start w) (take i cs)) → KeepsAtMemory {T = Reply} before stands (Err fault)
    → LeavesAtStore before leaves c.1 c.0 (Err fault) → RunEndsAmong stands leaves w cs replies fault
run-ends {cs} {i} {c} before stands leaves w replies Memory at settled here all one replied now memory store =
    record {
      among = ends-after stands leaves w cs (take i cs) (c ∷ drop (i + 1) cs) settled here
          (parted at ∙ append_assoc (take i cs) (c ∷ []) (drop (i + 1) cs)) all (memory _ now);
      replied = replied;
      failed_at = refl;
    }
run-ends {cs} {i} {c} before stands leaves w replies Store at settled here all one replied now memory store =
    record {
      among = ends-cut stands leaves w cs (take i cs) (c ∷ []) (drop (i + 1) cs) here (parted at) (omega arith)
          (KeepLimits-append (take i cs) (c ∷ []) all (one, tt))
          (subst (leaves (state_after (after start w) (take i cs)))
          (sym (state_after-append (after start w) (take i cs) (c ∷ []))) (store _ now));
      replied = replied;
      failed_at = refl;
    }

-- the command that failed is the next one, and those before it were executed
pub returns-in-Err-act-clause-fault : goal.returns-in-Err-act-clause-fault
returns-in-Err-act-clause-fault g c =
    λ sound s st.
    let was = c.act.ensures.sound sound in
    let now = c.loop-command.invariant.stands was s st in
    let at = is_at c.args.commands.now c.loop-command.command-index c.loop-command-item.result (option_copied c.as_ref.result)
    c.loop-command-test.true c.loop-command-item.is c.as_ref.ensures.value in
    stops (g.B.Book.stands c.loop-command.book) (g.B.Book.stands c.act.new.self) (g.B.Book.leaves c.act.new.self) s
    c.loop-command.replies.items c.in-Err-act.fault at (c.loop-command.invariant.replied was s st) now
    (c.in-Err-act.ensures.memory sound) (c.in-Err-act.ensures.store sound)

-- the execution goes on with the asks before it, and at Store the next one is in progress
pub returns-in-Err-act-clause-world_at_fault : goal.returns-in-Err-act-clause-world_at_fault
returns-in-Err-act-clause-world_at_fault g c =
    λ sound w here.
    let book = g.B.Book in
    let was = c.act.ensures.sound sound in
    let now = c.loop-command.invariant.stands was (after start w) here.stands_there in
    let at = is_at c.args.commands.now c.loop-command.command-index c.loop-command-item.result (option_copied c.as_ref.result)
    c.loop-command-test.true c.loop-command-item.is c.as_ref.ensures.value in
    run-ends (book.stands c.loop-command.book) (book.stands c.act.new.self) (book.leaves c.act.new.self)
    w c.loop-command.replies.items c.in-Err-act.fault at (g.met.B.Book.settled c.act.new.self) here
    c.loop-command.invariant.limits c.keep_limits.ensures.limits
    (c.loop-command.invariant.replied was (after start w) here.stands_there) now
    (c.in-Err-act.ensures.memory sound) (c.in-Err-act.ensures.store sound)

-- out of memory before the first command
pub returns-in-Err-clause-world_at_fault : goal.returns-in-Err-clause-world_at_fault
returns-in-Err-clause-world_at_fault g c = search (arith, none-ran)

-- the command that failed had a reason
pub returns-in-Err-act-clause-reason : goal.returns-in-Err-act-clause-reason
returns-in-Err-act-clause-reason g c = λ sound first store s later may.
    let was = c.act.ensures.sound sound in
    let at = is_at c.args.commands.now c.loop-command.command-index c.loop-command-item.result (option_copied c.as_ref.result)
    c.loop-command-test.true c.loop-command-item.is c.as_ref.ensures.value in
    fails_at (g.B.Book.may_act first c.loop-command.book) (g.B.Book.may_act first c.act.new.self) (g.B.Book.has_reason first c.act.new.self)
    s later c.in-Err-act.fault at (c.loop-command.invariant.may_act was first s later may) (c.in-Err-act.ensures.may_act sound first) store

-- at the end the book may act for the later asks
pub returns-clause-may_act : goal.returns-clause-may_act
returns-clause-may_act g c = λ sound first s later may.
    let longer = length-map c.args.commands.now asked_by in
    acts_after_all (g.B.Book.may_act first c.loop-command.book) s (asks_of c.args.commands.now) later c.loop-command.command-index
    (omega (arith, c.loop-command-test.false, longer)) (c.loop-command.invariant.may_act sound first s later may)

-- at the end all commands were executed
pub returns-clause-world : goal.returns-clause-world
returns-clause-world g c =
    λ sound w here.
    let book = g.B.Book in
    let asks = asks_of c.args.commands.now in
    let i = c.loop-command.command-index in
    let longer = length-map c.args.commands.now asked_by in
    let all : take i asks ≡ asks = take_all i asks (omega (arith, c.loop-command-test.false, longer)) in
    ends-with (book.stands c.loop-command.book) (book.leaves c.loop-command.book) w asks
    (g.met.B.Book.settled c.loop-command.book) here (subst KeepLimits all c.loop-command.invariant.limits)
    (subst (λ cs. book.stands c.loop-command.book (state_after (after start w) cs)) all
    (c.loop-command.invariant.stands sound (after start w) here.stands_there))

-- one more command was answered and executed
pub loop-command-preserved : goal.loop-command-preserved
loop-command-preserved g c =
    let i = c.loop-command.command-index in
    let at = is_at c.args.commands.now i c.loop-command-item.result (option_copied c.as_ref.result)
    c.loop-command-test.true c.loop-command-item.is c.as_ref.ensures.value in
    record {
      room = c.push_reserved.ensures.capacity ∙ c.loop-command.invariant.room;
      count = c.push_reserved.ensures.len ∙ ap (λ n. n + 1) c.loop-command.invariant.count;
      limits = KeepLimits-more at c.loop-command.invariant.limits c.keep_limits.ensures.limits;
      stays = stays_twice c.loop-command.invariant.stays (stays_acted c.act.ensures);
      replied = λ sound s st.
          let was = c.act.ensures.sound sound in
          let told = c.in-Ok-act.ensures.reply sound _ (c.loop-command.invariant.stands was s st) in
          c.push_reserved.ensures.items ∙ ap (λ rs. rs ++ c.in-Ok-act.reply ∷ []) (c.loop-command.invariant.replied was s st)
          ∙ ap (λ r. replies_to s (take i (asks_of c.args.commands.now)) ++ r ∷ []) told ∙ sym (replies_to-more s at);
      stands = λ sound s st.
          let was = c.act.ensures.sound sound in
          let went = c.in-Ok-act.ensures.after sound _ (c.loop-command.invariant.stands was s st) in
          subst (g.B.Book.stands c.act.new.self) (sym (state_after-more s at)) went;
      may_act = λ sound first s later may.
          let was = c.act.ensures.sound sound in
          acts_more (g.B.Book.may_act first c.loop-command.book) (g.B.Book.may_act first c.act.new.self) (g.B.Book.has_reason first c.act.new.self)
          s later c.in-Ok-act.reply at (c.loop-command.invariant.may_act was first s later may) (c.in-Ok-act.ensures.may_act sound first);
    }

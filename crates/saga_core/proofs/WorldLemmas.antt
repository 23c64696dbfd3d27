-- How an execution goes on with asks. For run, and for all other continuations: recovery, lines and messages.
use Rattle.std.proofs.Common.{◌≡◌, ◌≤◌, true, false, List, [], ◌∷◌, ◌++◌, length, refl, ap, sym, ◌∙◌, subst, arith, append-nil, IsTrue, Bool}
use Rattle.ledger.specs.Answer.{State, start, outcome}
use Rattle.ledger.specs.World.{Moment, Done, Cut, Reopened, after, GoesOn, IsWorld}
use Rattle.saga_core.specs.Runs.{Asks, state_after, outcome_of}
use Rattle.saga_core.specs.Worlds.{is_whole, dones, continued, cut_off, KeepLimits, StandsAtEnd, LeavesEnd, EndsWith, EndsAmong}
use Rattle.saga_core.proofs.RunLemmas.{state_after-append}

-- Moments.

-- the state after some moments and others is the state after the others, from there
pub after-append : (s : State) (v w : List Moment) → after s (v ++ w) ≡ after (after s v) w
after-append s [] w = refl
after-append s (Done asked ask reply ∷ v) w = after-append (outcome s ask asked).state v w
after-append s (Cut asked ask true ∷ v) w = after-append (outcome s ask asked).state v w
after-append s (Cut asked ask false ∷ v) w = after-append s v w
after-append s (Reopened ∷ v) w = after-append s v w

-- moments whose last is not cut off go on with any moments that go on from there
pub GoesOn-append : (s : State) (v w : List Moment) → GoesOn s v → IsTrue (is_whole v)
    → GoesOn (after s v) w → GoesOn s (v ++ w)
GoesOn-append s [] w goes whole then = then
GoesOn-append s (Done asked ask reply ∷ v) w goes whole then =
    (goes.0, goes.1, GoesOn-append (outcome s ask asked).state v w goes.2 whole then)
GoesOn-append s (Reopened ∷ v) w goes whole then = GoesOn-append s v w goes whole then
GoesOn-append s (Cut asked ask kept ∷ []) w goes whole then = let e : false ≡ true = whole in cc
GoesOn-append s (Cut asked ask true ∷ Reopened ∷ v) w goes whole then =
    (goes.0, goes.1, GoesOn-append (outcome s ask asked).state (Reopened ∷ v) w goes.2 whole then)
GoesOn-append s (Cut asked ask false ∷ Reopened ∷ v) w goes whole then =
    (goes.0, goes.1, GoesOn-append s (Reopened ∷ v) w goes.2 whole then)
GoesOn-append s (Cut asked ask true ∷ Done a b r ∷ v) w goes whole then = let e : false ≡ true = goes.1 in cc
GoesOn-append s (Cut asked ask false ∷ Done a b r ∷ v) w goes whole then = let e : false ≡ true = goes.1 in cc
GoesOn-append s (Cut asked ask true ∷ Cut a b k ∷ v) w goes whole then = let e : false ≡ true = goes.1 in cc
GoesOn-append s (Cut asked ask false ∷ Cut a b k ∷ v) w goes whole then = let e : false ≡ true = goes.1 in cc

-- whole moments followed by whole moments are whole
pub is_whole-append : (v w : List Moment) → IsTrue (is_whole v) → IsTrue (is_whole w) → IsTrue (is_whole (v ++ w))
is_whole-append [] w first second = second
is_whole-append (Done asked ask reply ∷ v) w first second = is_whole-append v w first second
is_whole-append (Reopened ∷ v) w first second = is_whole-append v w first second
is_whole-append (Cut asked ask kept ∷ []) w first second = let e : false ≡ true = first in cc
is_whole-append (Cut asked ask kept ∷ m ∷ v) w first second = is_whole-append (m ∷ v) w first second

-- answered asks are whole
pub is_whole-dones : (s : State) (asks : Asks) → IsTrue (is_whole (dones s asks ++ []))
is_whole-dones s [] = refl
is_whole-dones s (c ∷ later) = is_whole-dones (outcome_of s c).state later

-- Limits.

pub KeepLimits-append : (first second : Asks) → KeepLimits first → KeepLimits second → KeepLimits (first ++ second)
KeepLimits-append [] second one two = two
KeepLimits-append (c ∷ first) second one two = (one.0, KeepLimits-append first second one.1 two)

pub KeepLimits-front : (answered later : Asks) → KeepLimits (answered ++ later) → KeepLimits answered
KeepLimits-front [] later all = tt
KeepLimits-front (c ∷ answered) later all = (all.0, KeepLimits-front answered later all.1)

pub KeepLimits-rest : (answered later : Asks) → KeepLimits (answered ++ later) → KeepLimits later
KeepLimits-rest [] later all = all
KeepLimits-rest (c ∷ answered) later all = KeepLimits-rest answered later all.1

-- Asks that are answered.

-- the state after answered asks is the state after their requests
pub after-dones : (s : State) (cs : Asks) (last : List Moment)
    → after s (dones s cs ++ last) ≡ after (state_after s cs) last
after-dones s [] last = refl
after-dones s (c ∷ cs) last = after-dones (outcome_of s c).state cs last

pub GoesOn-dones : (s : State) (cs : Asks) (last : List Moment) → KeepLimits cs
    → GoesOn (state_after s cs) last → GoesOn s (dones s cs ++ last)
GoesOn-dones s [] last all then = then
GoesOn-dones s (c ∷ cs) last all then = grind (arith, GoesOn-dones (outcome_of s c).state cs last all.1)

-- The next ask, if there is one, is cut off.

-- a cut-off ask keeps the limits
pub GoesOn-cut : (s : State) (next : Asks) (was_kept : Bool) → KeepLimits next → GoesOn s (cut_off next was_kept)
GoesOn-cut s next was_kept limits = grind arith

-- nothing of the ask was kept
after-lost : (s : State) (next : Asks) → after s (cut_off next false) ≡ s
after-lost s next = grind arith

-- all of the ask was kept
after-kept : (s : State) (next : Asks) → length next ≤ 1 → after s (cut_off next true) ≡ state_after s next
after-kept s [] few = refl
after-kept s (c ∷ []) few = refl
after-kept s (c ∷ d ∷ later) few = absurd (omega arith)

-- Executions that go on.

-- the final state of the continued execution
pub after-continued : (w : List Moment) (cs : Asks) (last : List Moment)
    → after start (continued w cs last) ≡ after (state_after (after start w) cs) last
after-continued w cs last = cc (after-append start w (dones (after start w) cs ++ last), after-dones (after start w) cs last)

-- the continued execution is an execution
pub IsWorld-continued : (w : List Moment) (cs : Asks) (last : List Moment) → IsWorld w → IsTrue (is_whole w)
    → KeepLimits cs → GoesOn (state_after (after start w) cs) last → IsWorld (continued w cs last)
IsWorld-continued w cs last world whole all then = grind (arith, GoesOn-append, GoesOn-dones)

-- the book represents the state after the asks
pub stands-continued : {stood : State → Type 0} (stands : State → Type 0) (w : List Moment) (cs : Asks)
    → StandsAtEnd stood w → KeepLimits cs → stands (state_after (after start w) cs)
    → StandsAtEnd stands (continued w cs [])
stands-continued stands w cs here all now = grind (arith, IsWorld-continued, is_whole-append, is_whole-dones, after-continued)

-- a crash leaves the state after the answered asks, or after the next one too
pub leaves-crashed : {stood : State → Type 0} (leaves : State → State → Type 0) (w : List Moment) (cs next : Asks)
    → StandsAtEnd stood w → KeepLimits (cs ++ next) → length next ≤ 1
    → leaves (state_after (after start w) cs) (state_after (after start w) (cs ++ next))
    → LeavesEnd leaves (continued w cs (cut_off next false)) (continued w cs (cut_off next true))
leaves-crashed leaves w cs next here all few left =
    let s = after start w in
    let t = state_after s cs in
    let front = KeepLimits-front cs next all in
    let rest = KeepLimits-rest cs next all in
    let lost : after start (continued w cs (cut_off next false)) ≡ t =
    after-continued w cs (cut_off next false) ∙ after-lost t next in
    let kept : after start (continued w cs (cut_off next true)) ≡ state_after s (cs ++ next) =
    after-continued w cs (cut_off next true) ∙ after-kept t next few ∙ sym (state_after-append s cs next) in
    record {
      first = IsWorld-continued w cs (cut_off next false) here.world here.whole front (GoesOn-cut t next false rest);
      second = IsWorld-continued w cs (cut_off next true) here.world here.whole front (GoesOn-cut t next true rest);
      left = subst (λ u. leaves u (after start (continued w cs (cut_off next true)))) (sym lost)
          (subst (leaves t) (sym kept) left);
    }

-- How a run ends.

-- a crash leaves just the state of the book
pub leaves-just : {stood : State → Type 0} (stands : State → Type 0) (leaves : State → State → Type 0)
    (w : List Moment) (asks : Asks) → ((u : State) → stands u → leaves u u)
    → StandsAtEnd stood w → KeepLimits asks → stands (state_after (after start w) asks)
    → LeavesEnd leaves (continued w asks []) (continued w asks [])
leaves-just stands leaves w asks settled here limits now = grind (arith, stands-continued stands w asks here limits now)

-- all asks were answered
pub ends-with : {stood : State → Type 0} (stands : State → Type 0) (leaves : State → State → Type 0)
    (w : List Moment) (asks : Asks) → ((u : State) → stands u → leaves u u)
    → StandsAtEnd stood w → KeepLimits asks → stands (state_after (after start w) asks)
    → EndsWith stands leaves w asks
ends-with stands leaves w asks settled here limits now =
    grind (arith, stands-continued stands w asks here limits now, leaves-just stands leaves w asks settled here limits now)

-- a prefix of the asks was answered, and the book represents the state after it
abbrev pub ends-after : {stood : State → Type 0} (stands : State → Type 0) (leaves : State → State → Type 0)
    (w : List Moment) (asks answered later : Asks) → ((u : State) → stands u → leaves u u)
    → StandsAtEnd stood w → asks ≡ answered ++ later → KeepLimits answered
    → stands (state_after (after start w) answered) → EndsAmong stands leaves w asks false
ends-after stands leaves w asks answered later settled here front limits now =
    record {
      progress = record {
        answered = answered;
        under_way = [];
        later = later;
        in_order = front ∙ ap (λ l. l ++ later) (sym (append-nil answered));
        at_most_one = omega arith;
        limits = subst KeepLimits (sym (append-nil answered)) limits;
      };
      few = omega arith;
      ends = stands-continued stands w answered here limits now;
      left = leaves-just stands leaves w answered settled here limits now;
    }

-- the store failed at the asks in progress, at most one
abbrev pub ends-cut : {stood : State → Type 0} (stands : State → Type 0) (leaves : State → State → Type 0)
    (w : List Moment) (asks answered under_way later : Asks)
    → StandsAtEnd stood w → asks ≡ answered ++ under_way ++ later → length under_way ≤ 1
    → KeepLimits (answered ++ under_way)
    → leaves (state_after (after start w) answered) (state_after (after start w) (answered ++ under_way))
    → EndsAmong stands leaves w asks true
ends-cut stands leaves w asks answered under_way later here front few limits left =
    record {
      progress = record {
        answered = answered;
        under_way = under_way;
        later = later;
        in_order = front;
        at_most_one = few;
        limits = limits;
      };
      few = few;
      ends = tt;
      left = leaves-crashed leaves w answered under_way here limits few left;
    }

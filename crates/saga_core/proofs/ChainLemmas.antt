-- Executions that go on, repeatedly. For chains.
use Rattle.std.proofs.Common.{◌≡◌, true, false, List, [], ◌∷◌, ◌++◌, refl, sym, ap, subst, ◌∙◌, arith, append_assoc, append-nil, IsTrue}
use Rattle.ledger.specs.Answer.{State, start, outcome}
use Rattle.ledger.specs.World.{Moment, Done, Cut, Reopened, after, GoesOn, IsWorld}
use Rattle.saga_core.specs.Runs.{Asks, state_after, outcome_of}
use Rattle.saga_core.specs.Worlds.{is_whole, dones, continued, cut_off, KeepLimits}
use Rattle.saga_core.specs.Chains.{GoesOnAll, Crashes, StaysWorld, StaysWhole, Reopens, Adds, Begins}
use Rattle.saga_core.proofs.WorldLemmas.{after-append, is_whole-append, is_whole-dones, KeepLimits-append, KeepLimits-front, KeepLimits-rest, GoesOn-cut, IsWorld-continued, after-continued}

-- all asks may be answered
pub goes_on_all : GoesOnAll
goes_on_all w asks limits = record {
  progress = record {
    answered = asks;
    under_way = [];
    later = [];
    in_order = sym (append-nil asks) ∙ sym (append-nil (asks ++ []));
    at_most_one = omega arith;
    limits = subst KeepLimits (sym (append-nil asks)) limits;
  };
  was_kept = false;
  goes = refl;
}

-- a crash may come before all are answered
pub crashes : Crashes
crashes w asks progress was_kept = record { progress = progress; was_kept = was_kept; goes = refl }

-- each continuation may be followed by a reopening
GoesOn-reopened : (s : State) (v : List Moment) → GoesOn s v → GoesOn s (v ++ Reopened ∷ [])
GoesOn-reopened s [] goes = tt
GoesOn-reopened s (Done asked ask reply ∷ v) goes = grind (arith, GoesOn-reopened (outcome s ask asked).state v)
GoesOn-reopened s (Reopened ∷ v) goes = GoesOn-reopened s v goes
GoesOn-reopened s (Cut asked ask true ∷ []) goes = (goes.0, refl, tt)
GoesOn-reopened s (Cut asked ask false ∷ []) goes = (goes.0, refl, tt)
GoesOn-reopened s (Cut asked ask true ∷ Reopened ∷ v) goes =
    (goes.0, refl, GoesOn-reopened (outcome s ask asked).state (Reopened ∷ v) goes.2)
GoesOn-reopened s (Cut asked ask false ∷ Reopened ∷ v) goes =
    (goes.0, refl, GoesOn-reopened s (Reopened ∷ v) goes.2)
GoesOn-reopened s (Cut asked ask true ∷ Done a b r ∷ v) goes = let e : false ≡ true = goes.1 in cc
GoesOn-reopened s (Cut asked ask false ∷ Done a b r ∷ v) goes = let e : false ≡ true = goes.1 in cc
GoesOn-reopened s (Cut asked ask true ∷ Cut a b k ∷ v) goes = let e : false ≡ true = goes.1 in cc
GoesOn-reopened s (Cut asked ask false ∷ Cut a b k ∷ v) goes = let e : false ≡ true = goes.1 in cc

-- a reopening makes moments whole
is_whole-reopened : (v : List Moment) → IsTrue (is_whole (v ++ Reopened ∷ []))
is_whole-reopened [] = refl
is_whole-reopened (Done asked ask reply ∷ v) = is_whole-reopened v
is_whole-reopened (Reopened ∷ v) = is_whole-reopened v
is_whole-reopened (Cut asked ask kept ∷ []) = refl
is_whole-reopened (Cut asked ask kept ∷ m ∷ v) = is_whole-reopened (m ∷ v)

pub reopens : Reopens
reopens w world = record {
  world = GoesOn-reopened start w world;
  whole = is_whole-reopened w;
  same = after-append start w (Reopened ∷ []);
}

pub stays_whole : StaysWhole
stays_whole w asks whole =
    is_whole-append w (dones (after start w) asks ++ []) whole (is_whole-dones (after start w) asks)

pub stays_world : StaysWorld
stays_world w asks v world whole g =
    let p = g.progress in
    subst IsWorld (sym g.goes)
    (IsWorld-continued w p.answered (cut_off p.under_way g.was_kept) world whole
    (KeepLimits-front p.answered p.under_way p.limits)
    (GoesOn-cut (state_after (after start w) p.answered) p.under_way g.was_kept
    (KeepLimits-rest p.answered p.under_way p.limits)))

-- Lists of asks.

-- some asks, each answered, followed by others
dones-append : (s : State) (first second : Asks) (last : List Moment)
    → dones s (first ++ second) ++ last ≡ (dones s first ++ []) ++ (dones (state_after s first) second ++ last)
dones-append s [] second last = refl
dones-append s (c ∷ first) second last = grind (arith, dones-append (outcome_of s c).state first second)

pub adds : Adds
adds w first second v limits g =
    let s = after start w in
    let p = g.progress in
    let last = cut_off p.under_way g.was_kept in
    let there : after start (continued w first []) ≡ state_after s first = after-continued w first [] in
    record {
      progress = record {
        answered = first ++ p.answered;
        under_way = p.under_way;
        later = p.later;
        in_order = ap (λ l. first ++ l) p.in_order
            ∙ sym (append_assoc first (p.answered ++ p.under_way) p.later)
            ∙ ap (λ l. l ++ p.later) (sym (append_assoc first p.answered p.under_way));
        at_most_one = p.at_most_one;
        limits = subst KeepLimits (sym (append_assoc first p.answered p.under_way))
            (KeepLimits-append first (p.answered ++ p.under_way) limits p.limits);
      };
      was_kept = g.was_kept;
      goes = g.goes
          ∙ ap (λ t. (w ++ (dones s first ++ [])) ++ (dones t p.answered ++ last)) there
          ∙ append_assoc w (dones s first ++ []) (dones (state_after s first) p.answered ++ last)
          ∙ ap (λ l. w ++ l) (sym (dones-append s first p.answered last));
    }

pub begins : Begins
begins w first second v g =
    let p = g.progress in
    record {
      progress = record {
        answered = p.answered;
        under_way = p.under_way;
        later = p.later ++ second;
        in_order = ap (λ l. l ++ second) p.in_order
            ∙ append_assoc (p.answered ++ p.under_way) p.later second;
        at_most_one = p.at_most_one;
        limits = p.limits;
      };
      was_kept = g.was_kept;
      goes = g.goes;
    }

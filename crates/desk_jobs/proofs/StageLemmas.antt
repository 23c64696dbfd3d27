-- Where a stage of an opening leaves the desk. For the jobs.
use Rattle.std.proofs.Common.{◌⊎◌, ℕ, List, [], ◌∷◌, ◌++◌, Bool, true, false, refl, sym, subst, ◌∙◌, arith, append-nil, inl, inr, Option}
use Rattle.std.specs.Io.KnownBytes.{Appends}
use Rattle.sqlite.specs.Tree.{Trees}
use Rattle.sqlite.specs.State.{State as Connected, HasCleanDisk}
use Rattle.commands.specs.declared.replies.Fault.{Fault}
use Rattle.ledger.specs.Answer.{State, start}
use Rattle.ledger.specs.World.{Moment, after, IsWorld}
use Rattle.saga_core.specs.Chains.{GoesOnTo}
use Rattle.saga_core.specs.Runs.{Asks}
use Rattle.saga_core.specs.Worlds.{KeepLimits, Progress, StandsAtEnd, EndsWith, EndsAmong, continued, crashed}
use Rattle.sql_model.specs.Keeping.{MayLeave}
use Rattle.recovery.specs.Recovers.{HasOneRecovery}
use Rattle.recovery.specs.Worlds.{EndsRecovered, EndsRecovering, orders_of}
use Rattle.saga_core.specs.StreamScenes.{Scene}
use Rattle.saga_core.specs.declared.serve_faults.ServeFault.{ServeFault}
use Rattle.recovery.specs.Lines.{lines}
use Rattle.recovery.specs.Serving as of_lines
use Rattle.recovery.specs.LineWorlds as by_line
use Rattle.http_conversations.specs.Worlds.{Exchange}
use Rattle.http_conversations.specs.Worlds as by_exchange
use Rattle.desk_jobs.specs.Openings.{Input, Lines, Connections, AsksFor, IsAnsweredBy}
use Rattle.desk_jobs.specs.Chains.{StandsAs}
use Rattle.desk_jobs.specs.Stages.{HasRecovered, LeavesRecovering, Answering, LeavesAnswering}
use Rattle.desk_jobs.proofs.TellingLemmas.{Tells, lines_tell_all, lines_tell, tells_none, done_next, done_but_last, exchanges_tell}

-- Asks that were carried out.

-- all of them
abbrev pub all_done : (asks : Asks) → KeepLimits asks → Progress asks
all_done asks limits = record {
  answered = asks;
  under_way = [];
  later = [];
  in_order = sym (append-nil asks) ∙ sym (append-nil (asks ++ []));
  at_most_one = omega arith;
  limits = subst KeepLimits (sym (append-nil asks)) limits;
}

abbrev pub goes_all : (w : List Moment) (asks : Asks) → KeepLimits asks → GoesOnTo w asks (continued w asks [])
goes_all w asks limits = record { progress = all_done asks limits; was_kept = false; goes = refl }

-- none of them
abbrev none_done : (asks : Asks) → Progress asks
none_done asks = record {
  answered = [];
  under_way = [];
  later = asks;
  in_order = refl;
  at_most_one = omega arith;
  limits = tt;
}

-- a world that does not go on
abbrev pub goes_nowhere : (w : List Moment) (asks : Asks) → GoesOnTo w asks w
goes_nowhere w asks = record { progress = none_done asks; was_kept = false; goes = sym (append-nil w) }

-- What is recoverable.

-- each recoverable state stands for one of two states
pub either : (c : Connected) (s t : State) → HasCleanDisk c → MayLeave c s t → (db : Trees) → c.may_leave db
    → StandsAs db s ⊎ StandsAs db t
either c s t clean left db may = grind (arith, left)

-- what is left stands for the end of a world that went on, as far as it came
pub record Left {asks : Asks} (w : List Moment) (progress : Progress asks) (db : Trees) : Type 0 where
  pub was_kept : Bool
  pub world : IsWorld (crashed w progress was_kept)
  pub stands : StandsAs db (after start (crashed w progress was_kept))

module _ (c : Connected) (leaves : State → State → Type 0) (clean : HasCleanDisk c)
    (told : (s t : State) → leaves s t → MayLeave c s t) where
  pub left_among : (stands : State → Type 0) (w : List Moment) (asks : Asks) (failed : Bool)
      (among : EndsAmong stands leaves w asks failed) (db : Trees) → c.may_leave db → Left w among.progress db
  left_among stands w asks failed among db may =
      elim (either c _ _ clean (told _ _ among.left.left) db may) [
        | inl m ↦ record { was_kept = false; world = among.left.first; stands = m }
        | inr m ↦ record { was_kept = true; world = among.left.second; stands = m }
      ]

  -- recovery stopped
  pub stopped_recovering : (stands : State → Type 0) (w : List Moment) (fault : Fault)
      → EndsRecovering stands leaves w fault → LeavesRecovering c.may_leave w
  stopped_recovering stands w fault r db may =
      let l = left_among stands w _ _ r.among db may in
      record {
        events = r.events ++ r.next ++ r.later;
        is = r.is;
        end = crashed w r.among.progress l.was_kept;
        goes = record { progress = r.among.progress; was_kept = l.was_kept; goes = refl };
        world = l.world;
        stands = l.stands;
      }

-- it did not begin
pub not_begun : (w : List Moment) (finds : Trees → Type 0) → IsWorld w → HasOneRecovery (after start w)
    → ((db : Trees) → finds db → StandsAs db (after start w)) → LeavesRecovering finds w
not_begun w finds world one means db may = record {
  events = one.events;
  is = one.is;
  end = w;
  goes = goes_nowhere w (orders_of one.events);
  world = world;
  stands = means db may;
}

-- it was completed
pub has_recovered : (stands : State → Type 0) (leaves : State → State → Type 0) (w : List Moment)
    → EndsRecovered stands leaves w → HasRecovered stands w
has_recovered stands leaves w r = record { events = r.events; is = r.is; ends = r.ends.ends }

-- Answers.

-- a world went on with these asks, and this was told of them
pub answering : (held holds : Option (List ℕ)) (w end : List Moment) (input : Input) (asks : Asks) (IsThere : State → Type 0)
    → AsksFor (after start w) input asks → (goes : GoesOnTo w asks end) → IsWorld end → IsThere (after start end)
    → Tells held holds (after start w) input goes.progress.answered → Answering held holds w input IsThere
answering held holds w end input asks IsThere come goes world there tells = record {
  told = tells.told;
  wrote = tells.wrote;
  end = end;
  answers = record { asks = asks; come = come; goes = goes; is_told = tells.is_told };
  world = world;
  there = there;
}

-- all lines were answered
pub lines_answered : (x : Scene) (w : List Moment) (IsThere : State → Type 0) → ((s : State) → x.stands s → IsThere s)
    → (bytes : List ℕ) (count : ℕ) → EndsWith x.stands x.leaves w (by_line.asks_in (lines bytes))
    → of_lines.AnswersAll x (after start w) bytes count → Answering x.held x.holds w (Lines bytes) IsThere
lines_answered x w IsThere stays bytes count ends all =
    let asks = by_line.asks_in (lines bytes) in
    answering x.held x.holds w (continued w asks []) (Lines bytes) asks IsThere (lines bytes, [], sym (append-nil (lines bytes)), refl)
    (goes_all w asks ends.limits) ends.ends.world (stays _ ends.ends.stands_there) (lines_tell_all x (after start w) bytes count all)

-- nothing was carried out
pub unasked : (held holds : Option (List ℕ)) (stands : State → Type 0) (w : List Moment) (input : Input) (asks : Asks)
    (IsThere : State → Type 0) → AsksFor (after start w) input asks → IsAnsweredBy (after start w) input [] []
    → StandsAtEnd stands w → Appends held holds [] → IsThere (after start w) → Answering held holds w input IsThere
unasked held holds stands w input asks IsThere come none here silent there =
    answering held holds w w input asks IsThere come (goes_nowhere w asks) here.world there
    (tells_none held holds (after start w) input [] none silent)

-- a fault came, and what is left of the book is left of its connection
module _ (c : Connected) (leaves : State → State → Type 0) (clean : HasCleanDisk c)
    (told : (s t : State) → leaves s t → MayLeave c s t) (stands : State → Type 0) (w : List Moment) where
  pub answering_left : (held holds : Option (List ℕ)) (input : Input) (asks : Asks) (failed : Bool)
      (among : EndsAmong stands leaves w asks failed) → AsksFor (after start w) input asks
      → Tells held holds (after start w) input among.progress.answered → LeavesAnswering c.may_leave held holds w input
  answering_left held holds input asks failed among come tells db may =
      let l = left_among c leaves clean told stands w asks failed among db may in
      answering held holds w (crashed w among.progress l.was_kept) input asks (StandsAs db) come
      (record { progress = among.progress; was_kept = l.was_kept; goes = refl }) l.world l.stands tells

  -- of the exchanges that were served the last one was not answered
  pub some_served : (held : Option (List ℕ)) (exchanges : List Exchange) → by_exchange.EndsAmongExchanges stands leaves w exchanges
      → LeavesAnswering c.may_leave held held w (Connections exchanges)
  some_served held exchanges e =
      let s = after start w in
      let heard = e.messages ++ (e.last.door, e.next.meant) ∷ [] in
      answering_left held held (Connections exchanges) (by_exchange.asks_of heard) true e.among (
        heard,
        subst (λ xs. by_exchange.AreDone s xs heard) (sym e.at_last) (done_next e.last e.next e.is_next e.is_lost s e.before e.messages e.done),
        refl,
      )
      (exchanges_tell held s exchanges e.messages e.among.progress.answered
      (subst (λ xs. by_exchange.AreDone s xs e.messages) (sym e.at_last)
      (done_but_last e.last e.next e.is_next e.is_lost s e.before e.messages e.done))
      e.answered)

pub stopped_at_line : (x : Scene) (c : Connected) → HasCleanDisk c → ((s t : State) → x.leaves s t → MayLeave c s t) → (w : List Moment)
    (bytes : List ℕ) (fault : ServeFault) → by_line.EndsAmongLines x w bytes fault → LeavesAnswering c.may_leave x.held x.holds w (Lines bytes)
stopped_at_line x c clean told w bytes fault e =
    answering_left c x.leaves clean told x.stands w x.held x.holds (Lines bytes) (by_line.asks_in (lines bytes)) _ e.among
    (lines bytes, [], sym (append-nil (lines bytes)), refl)
    (lines_tell x (after start w) bytes fault e.some.answered e.some.later e.among.progress.answered e.some.cut e.some.leaves e.carried_out)

-- all exchanges were carried out, and what stands for the end is there
pub exchanges_answered : (stands : State → Type 0) (leaves : State → State → Type 0) (w : List Moment) (held : Option (List ℕ))
    (IsThere : State → Type 0) → ((s : State) → stands s → IsThere s) → (exchanges : List Exchange)
    → by_exchange.EndsWithExchanges stands leaves w exchanges → Answering held held w (Connections exchanges) IsThere
exchanges_answered stands leaves w held IsThere stays exchanges e =
    let asks = by_exchange.asks_of e.messages in
    answering held held w (continued w asks []) (Connections exchanges) asks IsThere (e.messages, e.done, refl)
    (goes_all w asks e.ends.limits) e.ends.ends.world (stays _ e.ends.ends.stands_there)
    (exchanges_tell held (after start w) exchanges e.messages asks e.done refl)

-- What was written are answers to asks that were carried out. For the answers to lines and exchanges.
use Rattle.std.proofs.Common.{◌≡◌, ◌⊎◌, ℕ, List, [], ◌∷◌, ◌++◌, take, drop, refl, sym, ap, subst, ◌∙◌, append_assoc, append-nil, inl, inr, Option, None, arith}
use Rattle.std.specs.Io.KnownBytes.{Appends}
use Rattle.std.proofs.lemmas.List.{take-append-drop}
use Rattle.std.proofs.KnownBytes.{Appends-nil}
use Rattle.ledger.specs.Answer.{State}
use Rattle.saga_core.specs.Runs.{Asks}
use Rattle.saga_core.specs.StreamScenes.{Scene, ended}
use Rattle.saga_core.specs.declared.serve_faults.ServeFault.{ServeFault}
use Rattle.saga_core.specs.declared.serve_faults.ServeFault.TheVariants.{Memory, Store, Read, Write}
use Rattle.recovery.specs.Lines.{lines, answer_line, answer_lines, state_after_lines, written}
use Rattle.recovery.specs.Serving as of_lines
use Rattle.recovery.specs.LineWorlds as by_line
use Rattle.desk_http.specs.Pages.{state_after}
use Rattle.http_conversations.specs.Modes.{Said, Says}
use Rattle.http_conversations.specs.Worlds.{Exchange, AreDone, HasPage, Heard, asks_of}
use Rattle.desk_jobs.specs.Openings.{Input, Lines, Connections, IsAnsweredBy, IsTold}

-- these bytes were written, and are answers to asks that were carried out
pub record Tells (held holds : Option (List ℕ)) (s : State) (input : Input) (carried_out : Asks) : Type 0 where
  pub told : List ℕ
  pub wrote : Appends held holds told
  pub is_told : IsTold s input carried_out told

-- nothing was written, and no ask was answered
pub tells_none : (held holds : Option (List ℕ)) (s : State) (input : Input) (carried : Asks) → IsAnsweredBy s input [] []
    → Appends held holds [] → Tells held holds s input carried
tells_none held holds s input carried none silent = record {
  told = [];
  wrote = silent;
  is_told = record { answered = []; others = carried; done = refl; answers = []; are = none; unsent = []; sent = refl };
}

-- a text and its first bytes
cut : (text more : List ℕ) (n : ℕ) → text ++ more ≡ (text ++ take n more) ++ drop n more
cut text more n = grind (arith, take-append-drop, append_assoc)

-- Lines.

asks_in-append : (ls ms : List (List ℕ)) → by_line.asks_in (ls ++ ms) ≡ by_line.asks_in ls ++ by_line.asks_in ms
asks_in-append [] ms = refl
asks_in-append (line ∷ ls) ms = grind (arith, append_assoc, asks_in-append ls ms)

-- the answers to lines, and to one more
answers-more : (s : State) (ls : List (List ℕ)) (line : List ℕ)
    → written (answer_lines s (ls ++ line ∷ []))
    ≡ written (answer_lines s ls) ++ ended (answer_line (state_after_lines s ls) line).text
answers-more s [] line = append-nil (ended (answer_line s line).text)
answers-more s (first ∷ ls) line =
    let one = answer_line s first in
    ap (λ l. ended one.text ++ l) (answers-more one.after ls line)
    ∙ sym (append_assoc (ended one.text) (written (answer_lines one.after ls))
    (ended (answer_line (state_after_lines one.after ls) line).text))

-- the answers to the first lines, or a prefix of them
lines_told : (s : State) (bytes : List ℕ) (answered later : List (List ℕ)) (told unsent : List ℕ) (carried others : Asks)
    → lines bytes ≡ answered ++ later → written (answer_lines s answered) ≡ told ++ unsent
    → carried ≡ by_line.asks_in answered ++ others → IsTold s (Lines bytes) carried told
lines_told s bytes answered later told unsent carried others parts sent done = record {
  answered = by_line.asks_in answered;
  others = others;
  done = done;
  answers = written (answer_lines s answered);
  are = (answered, later, parts, refl, refl);
  unsent = unsent;
  sent = sent;
}

no_others : (carried asks : Asks) → carried ≡ asks → carried ≡ asks ++ []
no_others carried asks same = same ∙ sym (append-nil asks)

module _ (x : Scene) (s : State) (bytes : List ℕ) (answered : List (List ℕ)) where
  -- just these answers were written
  just : (later : List (List ℕ)) (carried others : Asks) → lines bytes ≡ answered ++ later
      → of_lines.WroteAll x s answered → carried ≡ by_line.asks_in answered ++ others
      → Tells x.held x.holds s (Lines bytes) carried
  just later carried others parts wrote done =
      let told = written (answer_lines s answered) in
      record { told = told; wrote = wrote; is_told = lines_told s bytes answered later told [] carried others parts (sym (append-nil told)) done }

  -- and the next line was carried out
  and_next : (line : List ℕ) (later : List (List ℕ)) (carried : Asks) → lines bytes ≡ answered ++ line ∷ later
      → of_lines.WroteAll x s answered → carried ≡ by_line.asks_in (answered ++ line ∷ [])
      → Tells x.held x.holds s (Lines bytes) carried
  and_next line later carried parts wrote done = grind (arith, just, asks_in-append)

pub lines_tell_all : (x : Scene) (s : State) (bytes : List ℕ) (count : ℕ) → of_lines.AnswersAll x s bytes count
    → Tells x.held x.holds s (Lines bytes) (by_line.asks_in (lines bytes))
lines_tell_all x s bytes count all =
    just x s bytes (lines bytes) [] (by_line.asks_in (lines bytes)) [] (sym (append-nil (lines bytes))) all.sent (no_others _ _ refl)

pub lines_tell : (x : Scene) (s : State) (bytes : List ℕ) (fault : ServeFault) (answered later : List (List ℕ))
    (carried : Asks) → lines bytes ≡ answered ++ later → of_lines.Leaves fault x s answered later
    → by_line.IsCarriedOut fault answered later carried → Tells x.held x.holds s (Lines bytes) carried
lines_tell x s bytes Read answered later carried parts left done =
    just x s bytes answered later carried [] parts left.0 (no_others carried _ done)
lines_tell x s bytes Write answered [] carried parts left done = absurd left
lines_tell x s bytes Write answered (line ∷ later) carried parts left done =
    let next = ended (answer_line (state_after_lines s answered) line).text in
    let before = written (answer_lines s answered) in
    record {
      told = before ++ take left.0 next;
      wrote = left.1;
      is_told = lines_told s bytes (answered ++ line ∷ []) later (before ++ take left.0 next) (drop left.0 next) carried []
          (parts ∙ sym (append_assoc answered (line ∷ []) later))
          (answers-more s answered line ∙ cut before next left.0) (no_others carried _ done);
    }
lines_tell x s bytes Memory answered [] carried parts left done =
    elim done [
      | inl same ↦ just x s bytes answered [] carried [] parts left.0 (no_others carried _ same)
      | inr none ↦ absurd none
    ]
lines_tell x s bytes Memory answered (line ∷ later) carried parts left done =
    elim done [
      | inl same ↦ just x s bytes answered (line ∷ later) carried [] parts left.0 (no_others carried _ same)
      | inr more ↦ and_next x s bytes answered line later carried parts left.0 more
    ]
lines_tell x s bytes Store answered later carried parts left done =
    just x s bytes answered later carried [] parts left.0 (no_others carried _ done)

-- Exchanges.

module _ (last : Exchange) (m : Said) (is_message : Says last.mode last.bytes m) (is_lost : last.page ≡ None) where
  alone : (s t : State) (ms : List Heard) → ((ms ≡ (last.door, m.meant) ∷ []) × (t ≡ state_after last.door s m.meant))
      ⊎ ((last.page ≡ None) × (ms ≡ []) × (t ≡ s)) → AreDone s (last ∷ []) ms
  alone s t ms done = (
    t,
    [],
    record { message = m; is_message = is_message; page = subst (HasPage last.door s m) (sym is_lost) tt; done = done },
    refl,
  )

  -- the last one was carried out, and its page was lost
  pub done_next : (s : State) (before : List Exchange) (ms : List Heard) → AreDone s before ms
      → AreDone s (before ++ last ∷ []) (ms ++ (last.door, m.meant) ∷ [])
  done_next s [] ms none =
      alone s (state_after last.door s m.meant) _ (inl (ap (λ l. l ++ (last.door, m.meant) ∷ []) none, refl))
  done_next s (x ∷ before) ms all = grind (arith, done_next all.0 before all.1 all.3)

  -- the last one was not carried out
  pub done_but_last : (s : State) (before : List Exchange) (ms : List Heard) → AreDone s before ms
      → AreDone s (before ++ last ∷ []) ms
  done_but_last s [] ms none = alone s s ms (inr (is_lost, none, refl))
  done_but_last s (x ∷ before) ms all = (all.0, all.1, all.2, done_but_last all.0 before all.1 all.3)

-- the pages of exchanges are answers to what was carried out of them
pub exchanges_tell : (held : Option (List ℕ)) (s : State) (exchanges : List Exchange) (ms : List Heard) (carried : Asks)
    → AreDone s exchanges ms → carried ≡ asks_of ms → Tells held held s (Connections exchanges) carried
exchanges_tell held s exchanges ms carried all is = record {
  told = [];
  wrote = Appends-nil held;
  is_told = record {
    answered = asks_of ms;
    others = [];
    done = no_others carried _ is;
    answers = [];
    are = (ms, all, refl, refl);
    unsent = [];
    sent = refl;
  };
}

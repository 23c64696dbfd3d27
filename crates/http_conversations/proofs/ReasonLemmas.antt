-- Why the store failed at messages, and when a book may go on after them. For answers, for turns, and for turns one after another.
use Rattle.std.proofs.Common.{◌≡◌, ◌∙◌, Bool, true, false, List, [], ◌∷◌, ◌++◌, None, Ok, Err, refl, sym, ap, subst, append_assoc, append-nil, inl, inr}
use Rattle.std.proofs.lemmas.Grind.{flat_map-append}
use Rattle.ledger.specs.Answer.{State}
use Rattle.saga_core.specs.declared.serve_faults.ServeFault.{ServeFault}
use Rattle.saga_core.specs.declared.serve_faults.ServeFault.TheVariants.{Memory, Read, Store, Write}
use Rattle.saga_core.specs.Runs.{Asks}
use Rattle.desk_http.specs.Reasons.{GoesOnAt}
use Rattle.http_conversations.specs.Worlds.{Exchange}
use Rattle.http_conversations.specs.Exchanges.{since}
use Rattle.http_conversations.specs.Leading.{fault_by, has_broken}
use Rattle.http_conversations.specs.Reasons.{AreAsked, EndsFor, HasReasons, Meant, MayGoOn, Reaches, asks_of, asks_with, state_with}
use Rattle.http_conversations.proofs.Steps.{since_none}

-- No message.

pub ends_none : (could : State → Asks → Type 0) (reason : State → State → Type 0) → EndsFor could could reason false []
ends_none could reason = record { meant = []; asked = refl; ends = λ s later may. (s, refl, may) }

-- nothing was added
pub reasons_none : {B : Type 0} (is_sound : B → Type 0) (may : B → B → State → Asks → Type 0) (reason : B → B → State → State → Type 0) (b : B)
    (xs ys : List Exchange) → ys ≡ xs → HasReasons is_sound may reason b b false (since xs ys)
reasons_none is_sound may reason b xs ys same =
    subst (HasReasons is_sound may reason b b false) (sym (since_none xs ys same)) (λ sound first. ends_none (may first b) (reason first b))

-- One message.

module _ (could can : State → Asks → Type 0) (reason : State → State → Type 0) (m : Meant) where
  -- the book could act for what it asks for
  of_one : (s : State) (later : Asks) → could s (asks_of (m ∷ []) ++ later) → could s (asks_with m ++ later)
  of_one s later may = subst (λ asks. could s (asks ++ later)) (append-nil (asks_with m)) may

  -- it was asked for, and leaves the book so
  one_asked : (failed : Bool) → ((s : State) (later : Asks) → could s (asks_with m ++ later) → MayGoOn can reason failed s (m.exchange ∷ []) (m ∷ []) later)
      → EndsFor could can reason failed (m.exchange ∷ [])
  one_asked failed goes = record {
    meant = m ∷ [];
    asked = inl (m, [], refl, refl, refl);
    ends = λ s later may. goes s later (of_one s later may);
  }

  -- it has its page
  pub answered : {T : Type 0} (answer : T) → GoesOnAt could can reason m.exchange.door m.message.meant (Ok answer)
      → EndsFor could can reason false (m.exchange ∷ [])
  answered answer on = one_asked false (λ s later may. (state_with s m, inl refl, on s later may))

  -- or lost it
  pub lost : (T : Type 0) (fault : ServeFault) → m.exchange.page ≡ None
      → GoesOnAt {T = T} could can reason m.exchange.door m.message.meant (Err fault)
      → EndsFor could can reason (has_broken {T = Bool} (Err (fault_by fault))) (m.exchange ∷ [])
  lost T Memory none on = elim on [
    | inl still ↦ record { meant = []; asked = inr (none, refl); ends = λ s later may. (s, refl, still s later may) }
    | inr asked ↦ one_asked false (λ s later may. elim (asked s later may) [
      | inl here ↦ (s, inr (none, refl), here)
      | inr there ↦ (state_with s m, inl refl, there)
    ])
  ]
  lost T Store none on =
      one_asked true (λ s later may. record { before = []; last = m; at_last = refl; earlier = []; is_last = refl; at = s; reaches = refl; reason_is = on s later may })
  lost T Read none on = one_asked false (λ s later may. absurd (on s later may))
  lost T Write none on = one_asked false (λ s later may. absurd (on s later may))

-- Messages, and then others.

-- of some exchanges, and of others
asked_then : (xs ys : List Exchange) (ms ns : List Meant) → AreAsked xs ms → AreAsked ys ns → AreAsked (xs ++ ys) (ms ++ ns)
asked_then [] ys ms ns x y = subst (λ l. AreAsked ys (l ++ ns)) (sym x) y
asked_then (k ∷ xs) ys ms ns x y = elim x [
  | inl first ↦ inl (first.0, first.1 ++ ns, first.2, ap (λ l. l ++ ns) first.3, asked_then xs ys first.1 ns first.4 y)
  | inr lost ↦ inr (lost.0, asked_then xs ys ms ns lost.1 y)
]

-- where some lead, others lead on
reaches_then : (s t u : State) (ms ns : List Meant) → Reaches s ms t → Reaches t ns u → Reaches s (ms ++ ns) u
reaches_then s t u [] ns x y = subst (λ v. Reaches v ns u) x y
reaches_then s t u (m ∷ ms) ns x y = elim x [
  | inl done ↦ inl (reaches_then (state_with s m) t u ms ns done y)
  | inr lost ↦ inr (lost.0, reaches_then s t u ms ns lost.1 y)
]

goes_on_then : (can : State → Asks → Type 0) (reason : State → State → Type 0) (failed : Bool) (s t : State) (xs ys : List Exchange)
    (ms ns : List Meant) (later : Asks) → Reaches s ms t → MayGoOn can reason failed t ys ns later
    → MayGoOn can reason failed s (xs ++ ys) (ms ++ ns) later
goes_on_then can reason false s t xs ys ms ns later x y = (y.0, reaches_then s t y.0 ms ns x y.1, y.2)
goes_on_then can reason true s t xs ys ms ns later x y = record {
  before = ms ++ y.before;
  last = y.last;
  at_last = ap (λ l. ms ++ l) y.at_last ∙ sym (append_assoc ms y.before (y.last ∷ []));
  earlier = xs ++ y.earlier;
  is_last = ap (λ l. xs ++ l) y.is_last ∙ sym (append_assoc xs y.earlier (y.last.exchange ∷ []));
  at = y.at;
  reaches = reaches_then s t y.at ms y.before x y.reaches;
  reason_is = y.reason_is;
}

pub ends_then : {could between can : State → Asks → Type 0} {reason0 reason : State → State → Type 0} (failed : Bool) (xs ys : List Exchange)
    → EndsFor could between reason0 false xs → EndsFor between can reason failed ys → EndsFor could can reason failed (xs ++ ys)
ends_then {could} {can = can} {reason = reason} failed xs ys x y = record {
  meant = x.meant ++ y.meant;
  asked = asked_then xs ys x.meant y.meant x.asked y.asked;
  ends = λ s later may.
      let asks = ap (λ l. l ++ later) (flat_map-append asks_with x.meant y.meant)
      ∙ append_assoc (asks_of x.meant) (asks_of y.meant) later in
      let first = x.ends s (asks_of y.meant ++ later) (subst (could s) asks may) in
      goes_on_then can reason failed s first.0 xs ys x.meant y.meant later first.1 (y.ends first.0 later first.2);
}

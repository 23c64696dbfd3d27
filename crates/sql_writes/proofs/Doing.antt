-- Writes of a transaction, one after the other, and what a success or a failure of them says. For the functions that write.
use Rattle.std.proofs.Common.{◌∙◌, Result, Ok, Err, OnOk, IfErr, IsOk, ◌≡◌, ◌+◌, ◌≤◌, ℕ, refl, subst, arith, MutBor, rules}
use Rattle.sqlite.specs.State.{State, KeepsCommit, Survives, HasCleanDisk}
use Rattle.sqlite.specs.declared.error.Error.{Error}
use Rattle.desk_sql.specs.Calls.{MayRun, Makes}
use Rattle.desk_sql.specs.Causes.{IsUp, HasReason}
use Rattle.desk_sql.specs.Rows.{Tables}
use Rattle.desk_sql.specs.Writable.{HasRowids}
use Rattle.sqlite.specs.Store.{Ghosts}
use Rattle.sqlite.specs.Held.{Held, state}
use Rattle.desk_sql.specs.Statements.{WritesKeyed, WritesNumbered}
use Rattle.desk_sql.proofs.Quieting.{survives_alone, survives_twice, faulted_later}
use Rattle.desk_sql.proofs.Rowids.{rowids_fewer}
use Rattle.sql_writes.specs.Did.{Did, DidIfOpen}

-- Two consecutive writes, state by state.

-- two writes that keep what is committed keep it together
keeps_then : (a b c : State) → KeepsCommit a b → KeepsCommit b c → KeepsCommit a c
keeps_then a b c one two = search (rules, arith)

-- after a success the next write runs on the rows that it left, and a store that was up is so
runs_after : (a b : State) (t : Tables) → Makes a b t → MayRun b t
runs_after a b t made = record { inside = made.inside; sees = λ _. made.sees }

up_after : (a b : State) (t : Tables) → Survives a b (λ _. ⊥) → Makes a b t → IsUp a → IsUp b
up_after a b t survives made up = record { is_open = made.is_open; unlimited = survives.limit ∙ up.unlimited }

-- the second write starts from the rows that the first one left
makes_last : {V : Type 0} (a b c : State) (t u : Tables) (r : Result V Error) → Makes a b t → OnOk r (Makes b c u)
    → OnOk r (Makes a c u)
makes_last a b c t u r one two = search (rules, arith)

-- the reason of a later write is one of all
reason_last : {V : Type 0} (a b c : State) (r : Result V Error) → Survives a b (λ _. ⊥) → IfErr r (HasReason b c)
    → IfErr r (HasReason a c)
reason_last a b c r survives reason = search (rules, arith, faulted_later)

-- Results.

module _ {V : Type 0} (r : Result V Error) where
  always : {P : Type 0} → P → OnOk r P
  always it = search (rules, arith)

  in_err : {P : Type 0} → P → IfErr r (λ _. P)
  in_err it = search (rules, arith)

  if_ok : (P Q : Type 0) → OnOk r P → (P → OnOk r Q) → OnOk r Q
  if_ok x y it then = search (rules, arith)

  if_err : (P : Type 0) (Q : Error → Type 0) → IfErr r (λ _. P) → (P → IfErr r Q) → IfErr r Q
  if_err x y it then = search (rules, arith)

  module _ {W : Type 0} (q : Result W Error) where
    -- both are a success, or fail with the same error
    abbrev AreAlike : Type 0
    AreAlike = OnOk r (IsOk q) × IfErr r (λ e. q ≡ Err e)

    ok_alike : (P : Type 0) → AreAlike → OnOk r P → OnOk q P
    ok_alike x alike it = search (rules, arith)

    err_alike : (P : Error → Type 0) → AreAlike → IfErr r P → IfErr q P
    err_alike x alike it = search (rules, arith)

alike_self : {V : Type 0} (r : Result V Error) → AreAlike r r
alike_self r = search (rules, arith)

-- One statement.

-- of rows whose rowids the store chooses
module _ {S : Type 0} {g : Ghosts S} {a b : MutBor (Held S)} {r : Result ℕ Error} {F P : Tables → Type 0}
    {f : Tables → Tables} where
  pub numbered : {R : Tables → Type 0} {n : ℕ} → WritesNumbered g a b r F P R n f → ((t : Tables) → F t → R t) → Did g a b r F P n f
  numbered it fits = search (rules, arith)

  -- of other rows
  pub keyed : WritesKeyed g a b r F P f → Did g a b r F P 0 f
  keyed it = search (rules, arith, rowids_fewer)

-- where there is no row to write
pub open_none : {S : Type 0} {g : Ghosts S} {a : MutBor (Held S)} {V : Type 0} {v : V} {Fits All : Tables → Type 0} {k : ℕ} {after : Tables → Tables}
    → ((t : Tables) → Fits t → t ≡ after t) → DidIfOpen g a a (Ok v) Fits All k after
open_none {g} {a} {k} same = record {
  same_reference = refl;
  inside = λ _ within. within;
  commit = λ _ _. record { was_open = λ live. live; committed = λ _. refl };
  survives = survives_alone (state g a.now);
  made = λ clean t may live fit. subst (Makes (state g a.now) (state g a.now)) (same t fit)
      (record { was_open = live; is_open = live; inside = may.inside; sees = may.sees live; committed = refl });
  reason = λ _ _ _ _ _ _. tt;
  rowids = λ _ t _ _ _ x has. rowids_fewer x (k + x) (state g a.now).now.trees (omega arith) has;
}

-- The same, told otherwise.

module _ {S : Type 0} {g : Ghosts S} {a b : MutBor (Held S)} {V W : Type 0} {F P Fits All : Tables → Type 0} {n k : ℕ}
    {f after : Tables → Tables} where
  module _ (r : Result V Error) (q : Result W Error) where
    told : AreAlike r q → DidIfOpen g a b r F P n f
        → (HasCleanDisk (state g b.now) → (t : Tables) → MayRun (state g a.now) t → Fits t → OnOk r (F t × (f t ≡ after t)))
        → (HasCleanDisk (state g b.now) → (t : Tables) → MayRun (state g a.now) t → All t → IfErr r (λ _. P t)) → n ≤ k
        → DidIfOpen g a b q Fits All k after
    told alike it fits permits few =
        let left : (x : ℕ) → HasRowids (k + x) (state g a.now).now.trees → HasRowids (n + x) (state g a.now).now.trees
        = λ x. rowids_fewer (n + x) (k + x) (state g a.now).now.trees (omega (arith, few)) in
        record {
          same_reference = it.same_reference;
          inside = λ clean within. ok_alike r q _ alike (it.inside clean within);
          commit = it.commit;
          survives = it.survives;
          made = λ clean t may live fit. ok_alike r q _ alike (if_ok r _ _ (fits clean t may fit) (λ is.
              subst (λ (u : Tables). OnOk r (Makes (state g a.now) (state g b.now) u)) is.1 (it.made clean t may live is.0)));
          reason = λ clean t may all has up. err_alike r q _ alike (if_err r _ _ (permits clean t may all) (λ p.
              it.reason clean t may p (rowids_fewer n k (state g a.now).now.trees few has) up));
          rowids = λ clean t may live fit x has. ok_alike r q _ alike (if_ok r _ _ (fits clean t may fit) (λ is.
              it.rowids clean t may live is.0 x (left x has)));
        }

    did_told : AreAlike r q → Did g a b r F P n f
        → (HasCleanDisk (state g b.now) → (t : Tables) → MayRun (state g a.now) t → Fits t → OnOk r (F t × (f t ≡ after t)))
        → (HasCleanDisk (state g b.now) → (t : Tables) → MayRun (state g a.now) t → All t → IfErr r (λ _. P t)) → n ≤ k
        → Did g a b q Fits All k after
    did_told alike it fits permits few = record {
      live = λ clean within. ok_alike r q _ alike (it.live clean within);
      if_open = told alike it.if_open fits permits few;
    }

-- whatever the result
module _ {S : Type 0} {g : Ghosts S} {a b : MutBor (Held S)} {V : Type 0} {r : Result V Error} {F P Fits All : Tables → Type 0}
    {n k : ℕ} {f after : Tables → Tables} where
  pub open_like : DidIfOpen g a b r F P n f
      → (HasCleanDisk (state g b.now) → (t : Tables) → MayRun (state g a.now) t → Fits t → F t × (f t ≡ after t))
      → (HasCleanDisk (state g b.now) → (t : Tables) → MayRun (state g a.now) t → All t → P t) → n ≤ k
      → DidIfOpen g a b r Fits All k after
  open_like it fits permits few =
      told r r (alike_self r) it (λ clean t may fit. always r (fits clean t may fit))
      (λ clean t may all. in_err r (permits clean t may all)) few

  pub did_like : Did g a b r F P n f → ((t : Tables) → Fits t → F t × (f t ≡ after t)) → ((t : Tables) → All t → P t) → n ≤ k
      → Did g a b r Fits All k after
  did_like it fits permits few =
      record { live = it.live; if_open = open_like it.if_open (λ _ t _. fits t) (λ _ t _. permits t) few }

-- a success, with another value
module _ {S : Type 0} {g : Ghosts S} {a b : MutBor (Held S)} {V W : Type 0} {v : V} {w : W} {F P Fits All : Tables → Type 0}
    {n k : ℕ} {f after : Tables → Tables} where
  pub open_as : DidIfOpen g a b (Ok v) F P n f
      → (HasCleanDisk (state g b.now) → (t : Tables) → MayRun (state g a.now) t → Fits t → F t × (f t ≡ after t)) → n ≤ k
      → DidIfOpen g a b (Ok w) Fits All k after
  open_as it fits few = told (Ok v) (Ok w) (search rules) it fits (λ _ _ _ _. tt) few

  pub did_as : Did g a b (Ok v) F P n f
      → (HasCleanDisk (state g b.now) → (t : Tables) → MayRun (state g a.now) t → Fits t → F t × (f t ≡ after t)) → n ≤ k
      → Did g a b (Ok w) Fits All k after
  did_as it fits few = record { live = it.live; if_open = open_as it.if_open fits few }

-- a failure
module _ {S : Type 0} {g : Ghosts S} {a b : MutBor (Held S)} {V W : Type 0} {e : Error} {q : Result W Error}
    {F P Fits All : Tables → Type 0} {n k : ℕ} {f after : Tables → Tables} where
  pub open_fail : DidIfOpen g a b {V = V} (Err e) F P n f → ((t : Tables) → All t → P t) → n ≤ k → q ≡ Err e
      → DidIfOpen g a b q Fits All k after
  open_fail it permits few so = told (Err e) q (tt, so) it (λ _ _ _ _. tt) (λ _ t _. permits t) few

  pub did_fail : Did g a b {V = V} (Err e) F P n f → ((t : Tables) → All t → P t) → n ≤ k → q ≡ Err e → Did g a b q Fits All k after
  did_fail it permits few so = did_told (Err e) q (tt, so) it (λ _ _ _ _. tt) (λ _ t _. permits t) few

-- One write after the other: changes compose, and the numbers of rowids add.
module _ {S : Type 0} {g : Ghosts S} {a b c : MutBor (Held S)} {V W : Type 0} {v : V} {r : Result W Error}
    {F P G Q : Tables → Type 0} {n m : ℕ} {f h : Tables → Tables} where
  pub open_and : DidIfOpen g a b (Ok v) F P n f → DidIfOpen g b c r G Q m h
      → DidIfOpen g a c r (λ t. F t × G (f t)) (λ t. F t × Q (f t)) (n + m) (λ t. h (f t))
  open_and one two =
      let old = state g a.now in
      let between = state g b.now in
      let new = state g c.now in
      let mid : HasCleanDisk new → HasCleanDisk between = λ clean. omega (arith, two.survives.clean, clean) in
      record {
        same_reference = two.same_reference ∙ one.same_reference;
        inside = λ clean within. two.inside clean (one.inside (mid clean) within);
        commit = λ clean within. keeps_then old between new (one.commit (mid clean) within) (two.commit clean (one.inside (mid clean) within));
        survives = survives_twice old between new one.survives two.survives;
        made = λ clean t may live fit. (
            let first = one.made (mid clean) t may live fit.0 in
            makes_last old between new (f t) (h (f t)) r first
            (two.made clean (f t) (runs_after old between (f t) first) first.is_open fit.1));
        reason = λ clean t may all has up. (
            let first = one.made (mid clean) t may up.is_open all.0 in
            let left = one.rowids (mid clean) t may up.is_open all.0 m has in
            reason_last old between new r one.survives
            (two.reason clean (f t) (runs_after old between (f t) first) all.1 left
            (up_after old between (f t) one.survives first up)));
        rowids = λ clean t may live fit x has. (
            let first = one.made (mid clean) t may live fit.0 in
            let few = rowids_fewer (n + (m + x)) (n + m + x) old.now.trees (omega arith) has in
            let left = one.rowids (mid clean) t may live fit.0 (m + x) few in
            two.rowids clean (f t) (runs_after old between (f t) first) first.is_open fit.1 x left);
      }

  pub did_and : Did g a b (Ok v) F P n f → DidIfOpen g b c r G Q m h
      → Did g a c r (λ t. F t × G (f t)) (λ t. F t × Q (f t)) (n + m) (λ t. h (f t))
  did_and one two = record {
    live = λ clean within. always r (one.live (omega (arith, two.survives.clean, clean)) within);
    if_open = open_and one.if_open two;
  }

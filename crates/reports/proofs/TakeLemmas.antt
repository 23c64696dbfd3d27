-- Rows that are taken from a source, one after another, and their text at a fault. For the loops over a source.
use Rattle.std.proofs.Common.{◌≡◌, ◌∙◌, ◌+◌, ◌<◌, ◌∷◌, ◌++◌, [], ap, append-nil, append_assoc, arith, length, refl, suc, sym, take, zero, ℕ, List, Vec, subst, Option, Some, None, Result, Ok, Err, IsErr, IsErrAnd, ◌≢◌}
use Rattle.saga_core.specs.RowSources.{count_of, FailsFor, Hands, HandsFirst}
use Rattle.saga_core.specs.Written.{WroteFront}
use Rattle.saga_core.specs.declared.row_sources.RowSource.{Ghosts}
use Rattle.commands.specs.declared.replies.Fault.{Fault}
use Rattle.commands.specs.declared.replies.Fault.TheVariants as fault
use Rattle.reports.specs.Faults.{report_fault}
use Rattle.reports.specs.Writing.{FailsWith, Takes, WritesCounted, Wrote}
use Rattle.reports.specs.declared.faults.ReportFault.{ReportFault}
use Rattle.reports.specs.declared.faults.ReportFault.TheVariants.{Memory, Store, Write}

-- these rows were taken, and the later ones remain
pub record Taken {T : Type 0} (rests : List T → Type 0) (all gone : List T) : Type 0 where
  pub later : List T
  pub cut : all ≡ gone ++ later
  pub rest : rests later

pub taken_none : {T : Type 0} {rests : List T → Type 0} (all : List T) → rests all → Taken rests all []
taken_none all rest = record { later = all; cut = refl; rest = rest }

-- no row was returned: none remained
pub none_left : {T : Type 0} (rests : List T → Type 0) (rows : List T) → HandsFirst rests None rows → (rows ≡ []) × rests []
none_left rests [] told = (refl, told.1)
none_left rests (x ∷ later) told = absurd (let no : None ≡ Some x = told.0 in cc)

module _ {T : Type 0} {rested : List T → Type 0} {all gone : List T} (taken : Taken rested all gone) (rests : List T → Type 0) where
  -- a row was returned: it was taken too
  pub taken_more : {row : T} → Hands rested rests (Some row) → Taken rests all (gone ++ row ∷ [])
  taken_more {row} hands = more taken.later taken.cut (hands taken.later taken.rest)
    where
      more : (later : List T) → all ≡ gone ++ later → HandsFirst rests (Some row) later → Taken rests all (gone ++ row ∷ [])
      more [] cut told = absurd (let no : Some row ≡ None = told.0 in cc)
      more (first ∷ later) cut told =
          let same : first ≡ row = cc told.0 in
          record { later = later; cut = cut ∙ ap (λ x. gone ++ x ∷ later) same ∙ sym (append_assoc gone (row ∷ []) later); rest = told.1 }

  -- none was: all were taken
  pub taken_all : Hands rested rests None → (all ≡ gone) × rests []
  taken_all hands =
      let none = none_left rests taken.later (hands taken.later taken.rest) in
      (taken.cut ∙ ap (λ rows. gone ++ rows) none.0 ∙ append-nil gone, none.1)

-- rows were taken, and no fault came
abbrev pub Goes : {R T : Type 0} → Ghosts R T → R → R → Type 0
Goes source a b = Takes source a b {V = ℕ} (Ok 0)

-- a reason of the source is one of the report
fails_reported : (reason : Type 0) (fault : Fault) → FailsFor reason fault → FailsWith reason (report_fault fault)
fails_reported reason fault.Memory is = tt
fails_reported reason fault.Store is = is

-- another fault needs none
fails_apart : (reason : Type 0) (fault : ReportFault) → fault ≢ Store → FailsWith reason fault
fails_apart reason Memory apart = tt
fails_apart reason Store apart = absurd (apart refl)
fails_apart reason Write apart = tt

-- what is returned with a fault is one
pub is_fault : {V : Type 0} (fault : ReportFault) (result : Result V ReportFault) → IsErrAnd result (λ told. told ≡ fault) → IsErr result
is_fault fault (Ok value) is = absurd is
is_fault fault (Err told) is = refl

module _ {R T : Type 0} (source : Ghosts R T) where
  -- where no row was taken, the source is the same
  pub takes_none : ((s : R) → source.becomes s s) → (s : R) → Goes source s s
  takes_none stays s = record { kept = stays s; sound = λ sound. sound; reason = λ first sound ready. ready }

  module _ {a b : R} where
    -- without a fault, whatever the value
    pub goes : {V : Type 0} {value : V} → Takes source a b (Ok value) → Goes source a b
    goes took = record { kept = took.kept; sound = took.sound; reason = took.reason }

    pub ends : {V : Type 0} {value : V} → Goes source a b → Takes source a b (Ok value)
    ends took = record { kept = took.kept; sound = took.sound; reason = took.reason }

    -- a fault came, and is returned with any type of values
    pub takes_err : {V W : Type 0} {fault : ReportFault} → Takes source a b {V = V} (Err fault) → (result : Result W ReportFault)
        → IsErrAnd result (λ told. told ≡ fault) → Takes source a b result
    takes_err took (Ok value) is = absurd is
    takes_err {W = W} took (Err told) is = subst (λ fault. Takes source a b {V = W} (Err fault)) (sym is) (record { kept = took.kept; sound = took.sound; reason = took.reason })

    -- a fault of the source came
    pub takes_fault : {V : Type 0} (result : Result V ReportFault) (told : ReportFault) (fault : Fault) → result ≡ Err told → told ≡ report_fault fault
        → source.becomes a b → (source.is_sound b → source.is_sound a)
        → ((first : R) → source.is_sound b → source.is_ready first a → FailsFor (source.has_reason first b) fault) → Takes source a b result
    takes_fault result told fault failed same kept sound reason =
        subst (Takes source a b) (sym (failed ∙ ap Err same))
        (record { kept = kept; sound = sound; reason = λ first is ready. fails_reported (source.has_reason first b) fault (reason first is ready) })

    -- rows were taken, and then came a fault that is not the store's
    pub takes_apart : {V : Type 0} (fault : ReportFault) → Goes source a b → fault ≢ Store → (result : Result V ReportFault)
        → IsErrAnd result (λ told. told ≡ fault) → Takes source a b result
    takes_apart fault one apart result is =
        let took : Takes source a b {V = ℕ} (Err fault) =
        record { kept = one.kept; sound = one.sound; reason = λ first sound ready. fails_apart (source.has_reason first b) fault apart } in
        takes_err took result is

    -- rows were taken, and then there was no memory
    pub takes_memory : {V : Type 0} → Goes source a b → (result : Result V ReportFault) → IsErrAnd result (λ told. told ≡ Memory) → Takes source a b result
    takes_memory one result is = takes_apart Memory one (λ same. cc) result is

  module _ (joins : (a b c : R) → source.becomes a b → source.becomes b c → source.becomes a c) where
    -- rows were taken, and then further ones
    pub takes_twice : {a b c : R} {V : Type 0} {result : Result V ReportFault} → Goes source a b → Takes source b c result → Takes source a c result
    takes_twice {a} {b} {c} one two = record {
      kept = joins a b c one.kept two.kept;
      sound = λ sound. one.sound (two.sound sound);
      reason = λ first sound ready. two.reason first sound (one.reason first (two.sound sound) ready);
    }

-- one row was returned, or none
pub given_one : {T : Type 0} {found : Option T} {row : T} (old new : ℕ) → new ≡ count_of found + old → found ≡ Some row → new ≡ 1 + old
given_one old new counted some = subst (λ x. new ≡ count_of x + old) some counted

pub given_none : {T : Type 0} {found : Option T} (old new : ℕ) → new ≡ count_of found + old → found ≡ None → new ≡ 0 + old
given_none old new counted none = subst (λ x. new ≡ count_of x + old) none counted

module _ {R T : Type 0} {source : Ghosts R T} {old new : R} {text : List T → List ℕ} {number : List T → ℕ} {Counted : ℕ → Type 0}
    {NoneLeft : Type 0} {held holds : Option (List ℕ)} where
  -- a fault: a prefix of the text was written
  pub writes_failed : (result : Result ℕ ReportFault) → IsErr result → Takes source old new result
      → (source.is_sound new → (all : List T) → source.rests old all → WroteFront held holds (text all))
      → WritesCounted source old new text number Counted NoneLeft held holds result
  writes_failed (Ok count) is takes front = absurd (cc)
  writes_failed (Err fault) is takes front = record {
    wrote = λ sound all rest. record { written = tt; number = tt; front = front sound all rest };
    rest = λ sound all rest. tt;
    given = tt;
    takes = takes;
  }

  -- what was written of the rows is also this text
  pub writes_same : {other : List T → List ℕ} {result : Result ℕ ReportFault}
      → WritesCounted source old new text number Counted NoneLeft held holds result → ((all : List T) → text all ≡ other all)
      → WritesCounted source old new other number Counted NoneLeft held holds result
  writes_same {result = result} it same = record {
    wrote = λ sound all rest. subst (λ bytes. Wrote held holds bytes (number all) result) (same all) (it.wrote sound all rest);
    rest = it.rest;
    given = it.given;
    takes = it.takes;
  }

-- Lists that were taken.

-- what is fewer than the most that were to be taken is all
all_of_it : {X : Type 0} (n : ℕ) (taken all : List X) → taken ≡ take n all → length taken < n → taken ≡ all
all_of_it zero taken all is few = absurd (omega (arith, few))
all_of_it (suc n) taken [] is few = is
all_of_it (suc n) taken (x ∷ all) is few =
    let shorter : length (take n all) < n = let long = ap length is in omega (arith, long, few) in
    is ∙ ap (λ xs. x ∷ xs) (all_of_it n (take n all) all refl shorter)

-- so all were taken, where as many as a list may have were to be taken
pub whole_list : {X Z : Type 0} (list : Vec X Z) (all : List X) → list.items ≡ take 18446744073709551615 all → list.items ≡ all
whole_list list all is =
    let long = list.ok.0 in
    let room = list.ok.1 in
    let small = list.small in
    all_of_it 18446744073709551615 list.items all is (omega (arith, long, room, small))

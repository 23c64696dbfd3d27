-- What a function leaves of a source whose rows it takes, and of the output to which it writes their text.
use Rattle.std.specs.Prelude.{◌≡◌, ◌≢◌, ◌+◌, ⊤, ℕ, List, [], length, Option, Result, Ok, Err, IfErr, IfOk, OnOk}
use Rattle.std.specs.Io.KnownBytes.{Appends}
use Rattle.saga_core.specs.declared.row_sources.RowSource.{Ghosts}
use Rattle.saga_core.specs.Written.{WroteFront}
use Rattle.reports.specs.declared.faults.ReportFault.{ReportFault}
use Rattle.reports.specs.declared.faults.ReportFault.TheVariants.{Memory, Store, Write}

-- the text was written; at a fault, which is not the store's, a prefix of it was
pub record Sends (held holds : Option (List ℕ)) (text : List ℕ) {T : Type 0} (result : Result T ReportFault) : Type 0 where
  pub sent : OnOk result (Appends held holds text)
  pub front : WroteFront held holds text
  pub no_store : IfErr result (λ fault. fault ≢ Store)

-- the text was written, and its rows were counted; at a fault a prefix of the text was written
pub record Wrote (held holds : Option (List ℕ)) (text : List ℕ) (rows : ℕ) (result : Result ℕ ReportFault) : Type 0 where
  pub written : OnOk result (Appends held holds text)
  pub number : IfOk result (λ count. count ≡ rows)
  pub front : WroteFront held holds text

-- where the fault is the store's, it has this reason
abbrev pub FailsWith : Type 0 → ReportFault → Type 0
FailsWith reason Memory = ⊤
FailsWith reason Store = reason
FailsWith reason Write = ⊤

-- after a success the source can be read on, and a fault of the store has a reason
abbrev pub LeavesReady : {T : Type 0} → Type 0 → Type 0 → Result T ReportFault → Type 0
LeavesReady ready reason (Ok value) = ready
LeavesReady ready reason (Err fault) = FailsWith reason fault

module _ {R T : Type 0} (source : Ghosts R T) (old new : R) where
  -- nothing was done with the source but to take rows, which came to this result
  pub record Takes {V : Type 0} (result : Result V ReportFault) : Type 0 where
    pub kept : source.becomes old new
    pub sound : source.is_sound new → source.is_sound old
    pub reason : (first : R) → source.is_sound new → source.is_ready first old
        → LeavesReady (source.is_ready first new) (source.has_reason first new) result

  -- the text of all rows that remained was written, and what it shows was counted; at a fault a prefix of the text was written
  pub record WritesCounted (text : List T → List ℕ) (number : List T → ℕ) (Counted : ℕ → Type 0) (NoneLeft : Type 0)
      (held holds : Option (List ℕ)) (result : Result ℕ ReportFault) : Type 0 where
    pub wrote : source.is_sound new → (all : List T) → source.rests old all → Wrote held holds (text all) (number all) result
    pub rest : source.is_sound new → (all : List T) → source.rests old all → OnOk result NoneLeft
    pub given : IfOk result Counted
    pub takes : Takes result

  -- the same, where each row is counted
  abbrev pub Writes : (List T → List ℕ) → Option (List ℕ) → Option (List ℕ) → Result ℕ ReportFault → Type 0
  Writes text held holds result =
      WritesCounted text length (λ count. source.given new ≡ count + source.given old) (source.rests new []) held holds result

-- What a source of rows returns.
use Rattle.std.specs.Prelude.{◌≡◌, ⊤, ℕ, List, [], ◌∷◌, Option, None, Some, Result, Ok, Err}
use Rattle.commands.specs.declared.replies.Fault.{Fault}
use Rattle.commands.specs.declared.replies.Fault.TheVariants.{Memory, Store}

-- how many rows were returned
abbrev pub count_of : {T : Type 0} → Option T → ℕ
count_of None = 0
count_of (Some row) = 1

-- the first of these rows was returned, and the later ones remain; or there was no row
abbrev pub HandsFirst : {T : Type 0} → (List T → Type 0) → Option T → List T → Type 0
HandsFirst rests found [] = (found ≡ None) × rests []
HandsFirst rests found (row ∷ later) = (found ≡ Some row) × rests later

-- of the rows that remained, the first was returned
abbrev pub Hands : {T : Type 0} → (List T → Type 0) → (List T → Type 0) → Option T → Type 0
Hands {T} rested rests found = (rows : List T) → rested rows → HandsFirst rests found rows

-- where the fault is the store's, it has this reason
abbrev pub FailsFor : Type 0 → Fault → Type 0
FailsFor reason Memory = ⊤
FailsFor reason Store = reason

-- after a success the later rows can be read too, and a fault of the store has a reason
abbrev pub StaysReady : {T : Type 0} → Type 0 → Type 0 → Result T Fault → Type 0
StaysReady ready reason (Ok found) = ready
StaysReady ready reason (Err fault) = FailsFor reason fault

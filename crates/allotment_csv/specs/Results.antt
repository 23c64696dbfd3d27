-- What a call reports of what it reads.
use Rattle.std.specs.Prelude.{◌≡◌, ⊤, List, ◌∷◌, Result, Err}
use Rattle.allotment_csv.specs.declared.faults.CsvFault.{CsvFault}
use Rattle.allotment_csv.specs.declared.faults.CsvFault.TheVariants.{BadBody, BadCsv, Memory}

-- this is the head of the list
abbrev pub IsFirst : {X : Type 0} → X → List X → Type 0
IsFirst {X} x xs = (later : List X) × (xs ≡ x ∷ later)

-- the reported fault is the one that is defined, unless it is out of memory
abbrev pub IsTold : {X : Type 0} → Result X CsvFault → CsvFault → Type 0
IsTold read BadBody = read ≡ Err BadBody
IsTold read (BadCsv row cause) = read ≡ Err (BadCsv row cause)
IsTold read Memory = ⊤

-- How an execution continues with the lines of an input: the requests that the lines make for the house, each of them
-- answered, and perhaps a last one that was cut off where the store failed.
use Rattle.std.specs.Prelude.{◌≡◌, ◌⊎◌, ℕ, List, [], ◌∷◌, ◌++◌, None, Ok, Err}
use Rattle.ledger.specs.Answer.{State, start}
use Rattle.ledger.specs.World.{Moment, after}
use Rattle.saga_core.specs.Runs.{Asks}
use Rattle.saga_core.specs.Worlds.{StandsAtEnd, EndsAmong}
use Rattle.recovery.specs.Lines.{Meaning, lines, meaning_in}
use Rattle.recovery.specs.Serving.{AnswersSome, ForNext}
use Rattle.saga_core.specs.StreamFaults.{is_store}
use Rattle.saga_core.specs.StreamScenes.{Scene}
use Rattle.saga_core.specs.declared.serve_faults.ServeFault.{ServeFault}
use Rattle.saga_core.specs.declared.serve_faults.ServeFault.TheVariants.{Memory, Store, Read, Write}

-- the request of a line, made by the house; a line that is refused makes none
abbrev pub asks_meant : Meaning → Asks
asks_meant (Ok request) = (request, None) ∷ []
asks_meant (Err why) = []

-- the requests of these lines, in order
abbrev pub asks_in : List (List ℕ) → Asks
asks_in [] = []
asks_in (line ∷ later) = asks_meant (meaning_in line) ++ asks_in later

-- the requests that were executed at a fault, where these lines were answered and these follow: those of the answered
-- lines; if the next answer could not be written, that line's request too; out of memory, either
abbrev pub IsCarriedOut : ServeFault → List (List ℕ) → List (List ℕ) → Asks → Type 0
IsCarriedOut Read answered later carried = carried ≡ asks_in answered
IsCarriedOut Write answered later carried =
    ForNext later (λ line. carried ≡ asks_in (answered ++ line ∷ []))
IsCarriedOut Memory answered later carried =
    (carried ≡ asks_in answered) ⊎ ForNext later (λ line. carried ≡ asks_in (answered ++ line ∷ []))
IsCarriedOut Store answered later carried = carried ≡ asks_in answered

-- the requests that were in progress at a fault: the next line's, if the store failed, and otherwise none
abbrev pub IsUnderWay : ServeFault → List (List ℕ) → Asks → Type 0
IsUnderWay Store later under_way = ForNext later (λ line. under_way ≡ asks_in (line ∷ []))
IsUnderWay _ later under_way = under_way ≡ []

-- a prefix of the lines was answered, and then a fault came; the execution continues with a prefix of the requests of
-- the lines, as far as they were executed
pub record EndsAmongLines (x : Scene) (w : List Moment) (input : List ℕ) (fault : ServeFault) : Type 0 where
  pub some : AnswersSome x (after start w) input fault
  pub among : EndsAmong x.stands x.leaves w (asks_in (lines input)) (is_store fault)
  pub carried_out : IsCarriedOut fault some.answered some.later among.progress.answered
  pub under_way : IsUnderWay fault some.later among.progress.under_way

-- every execution at whose end the book stood continues so
abbrev pub GoesOnAmongLines : (State → Type 0) → Scene → List ℕ → ServeFault → Type 0
GoesOnAmongLines stood x input fault =
    (w : List Moment) → StandsAtEnd stood w → EndsAmongLines x w input fault

-- The writer and the book of a run, by which contracts say what it wrote and which states the book represents.
use Rattle.std.specs.Prelude.{ℕ, List, [], ◌∷◌, ◌++◌, Option}
use Rattle.std.specs.Io.KnownBytes.{Appends}
use Rattle.allotment.specs.Texts.{line_feed}
use Rattle.ledger.specs.Answer.{State}

-- the bytes of a writer before and after a run, the states that a book represents, and what a crash may leave of it
pub record Scene : Type 1 where
  pub held : Option (List ℕ)
  pub holds : Option (List ℕ)
  pub stands : State → Type 0
  pub leaves : State → State → Type 0

-- a scene from its four parts
abbrev pub scene : Option (List ℕ) → Option (List ℕ) → (State → Type 0) → (State → State → Type 0)
    → Scene
scene held holds stands leaves =
    record { held = held; holds = holds; stands = stands; leaves = leaves }

-- these bytes were appended to what the writer held
abbrev pub Wrote : Scene → List ℕ → Type 0
Wrote x bytes = Appends x.held x.holds bytes

-- a line, followed by a line feed
abbrev pub ended : List ℕ → List ℕ
ended text = text ++ line_feed ∷ []

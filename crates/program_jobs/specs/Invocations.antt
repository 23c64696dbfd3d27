-- Invocations of the program, each by a process of its own: how an execution goes on from what the files held before one to what
-- they may hold after it. A crash at any time is an image that may be left then.
use Rattle.std.specs.Prelude.{◌≡◌, ◌⊎◌, ℕ, List, [], ◌∷◌, MatchOption, None, Option, Some}
use Rattle.sqlite_disk.specs.declared.Disk.{Ghosts as Disk}
use Rattle.sqlite_trees.specs.Tree.{Trees}
use Rattle.sqlite_wal.specs.Recovery.{Image}
use Rattle.sqlite.specs.Files.{HoldsDatabase}
use Rattle.sqlite.specs.Held.{Held, state}
use Rattle.sqlite.specs.Store.{Ghosts}
use Rattle.ledger.specs.Answer.{start}
use Rattle.ledger.specs.World.{Moment, after, IsWorld}
use Rattle.program_ends.specs.Images.{IsSoundLeft, IsSupposed, MayHold}
use Rattle.program_ends.specs.declared.closing.Left.{Left}
use Rattle.desk_jobs.specs.Chains.{StandsAs}
use Rattle.desk_jobs.specs.Executions.{OfEachWorld}
use Rattle.desk_jobs.specs.Openings.{Input}
use Rattle.desk_jobs.specs.Worlds.{Reopens}

-- What came to an invocation, and the bytes of its output before and after. With no input it only showed the desk, or changed how its
-- tables are kept.
pub record Invocation : Type 0 where
  pub input : Option Input
  pub held : Option (List ℕ)
  pub holds : Option (List ℕ)

-- one that answered an input, and one that did not
abbrev pub asked : Input → Option (List ℕ) → Option (List ℕ) → Invocation
asked input held holds = record { input = Some input; held = held; holds = holds }

abbrev pub unasked : Option (List ℕ) → Option (List ℕ) → Invocation
unasked held holds = record { input = None; held = held; holds = holds }

-- the execution w goes on to v: by one opening over the input; with no input it stands still
abbrev pub GoesOnIn : Invocation → List Moment → List Moment → Type 0
GoesOnIn it w v = MatchOption it.input (v ≡ w) (λ input. Reopens it.held it.holds input w v)

-- the image holds a database that stands for the end of the execution; or the file is absent or has no byte, and the desk is new
abbrev pub StandsIn : Image → List Moment → Type 0
StandsIn image w =
    ((db : Trees) × HoldsDatabase image db × StandsAs db (after start w)) ⊎ ((image.db ≡ []) × (after start w ≡ start))

-- the execution went on by the invocation to an end that has this
pub record Reaches (it : Invocation) (w : List Moment) (HasThis : List Moment → Type 0) : Type 0 where
  pub end : List Moment
  pub goes : GoesOnIn it w end
  pub world : IsWorld end
  pub there : HasThis end

-- One invocation, from what the files held to what they may hold then: each execution for whose end the one stands goes on by the
-- invocation to an end for which the other stands.
abbrev pub Ran : Invocation → Image → Image → Type 0
Ran it before next = (w : List Moment) → IsWorld w → StandsIn before w → ∥ Reaches it w (StandsIn next) ∥₁

-- the same of each image that may be left of the files, a crash at any time among them
abbrev pub RanTo : {D : Type 0} {g : Disk D} → Invocation → Image → Left D g → Type 0
RanTo it before rest =
    IsSoundLeft rest → IsSupposed before rest → (image : Image) → MayHold rest image → Ran it before image

-- what a job did to its connection: each database that may be left of it stands for the end of an execution that went on by the
-- invocation, from each at whose end the connection stood
abbrev pub GoesOnOver : {S : Type 0} → Ghosts S → Held S → Held S → Invocation → Type 0
GoesOnOver g old new it =
    OfEachWorld g old (λ w. (db : Trees) → (state g new).may_leave db → Reaches it w (λ v. StandsAs db (after start v)))

-- Any number of invocations.

-- one after another, each from an image that the one before it may have left
abbrev pub Invocations : List Invocation → Image → Image → Type 0
Invocations [] first last = last ≡ first
Invocations (it ∷ later) first last = (mid : Image) × Ran it first mid × Invocations later mid last

-- the execution w goes on by all of them, in order, to v
abbrev pub GoesOnInAll : List Invocation → List Moment → List Moment → Type 0
GoesOnInAll [] w v = v ≡ w
GoesOnInAll (it ∷ later) w v = (u : List Moment) × GoesOnIn it w u × GoesOnInAll later u v

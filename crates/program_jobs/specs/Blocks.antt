-- What a writer holds that passes its bytes on in blocks.
use Rattle.std.specs.Prelude.{ℕ, ◌-◌, List, ◌∷◌, ◌++◌, length, drop, Option, option_map}
use Rattle.program_jobs.specs.declared.blocks.Blocks.{Blocks}

-- The bytes of a writer, and then those that were not passed on to it yet. Before them stand the reference by which it is written
-- to, and how many bytes it had before so many were passed on.
abbrev pub blocks_known : (name passed : ℕ) (unsent : List ℕ) → Option (List ℕ) → Option (List ℕ)
blocks_known name passed unsent held = option_map (λ bytes. name ∷ (length bytes - passed) ∷ bytes ++ unsent) held

module _ {W : Type 0} where
  -- the bytes that are gathered, and not passed on yet
  abbrev pub unsent : Blocks W → List ℕ
  unsent b = drop b.at b.bytes.now.items

  abbrev pub blocks_contents : (W → Option (List ℕ)) → Blocks W → Option (List ℕ)
  blocks_contents contents b = blocks_known b.writer.ghost_name b.passed (unsent b) (contents b.writer.now)

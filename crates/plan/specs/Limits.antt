-- How many steps a plan may have, how many options a step, and how many tries.
use Rattle.std.specs.Prelude.{ℕ}

-- the most steps that a plan may have
abbrev pub most_steps : ℕ
most_steps = 24

-- the most options that a step may have
abbrev pub most_options : ℕ
most_options = 8

-- the most tries that a plan may have
abbrev pub most_tries : ℕ
most_tries = 9

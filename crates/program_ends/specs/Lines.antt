-- Lines of an input, by the bytes that end them.
use Rattle.std.specs.Prelude.{ℕ, Bool, ◌==◌, ◌-◌, ◌^◌}

-- the byte that ends a line
abbrev pub is_line_feed : ℕ → Bool
is_line_feed byte = byte == 10

-- the largest number of lines that is counted
abbrev pub most_lines : ℕ
most_lines = 2 ^ 64 - 1

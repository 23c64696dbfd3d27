-- The forms of names.
use Rattle.std.specs.Prelude.{ℕ, ◌==◌, ◌||◌, Bool, List, [], ◌∷◌}
use Rattle.allotment.specs.Limits.{is_digit, is_capital, is_small, is_word}
use Rattle.commands.specs.Limits.{longest_batch_name, longest_agent, longest_key}

-- a byte of a batch's name: a-z, 0-9 or the dash
abbrev pub is_batch_byte : ℕ → Bool
is_batch_byte byte = is_small byte || is_digit byte || (byte == 45)

-- a batch: 1 to 24 of a-z, 0-9 and the dash
abbrev pub is_batch_name : List ℕ → Bool
is_batch_name bytes = is_word is_batch_byte longest_batch_name bytes

-- a byte of an agent: a-z or 0-9
abbrev pub is_agent_byte : ℕ → Bool
is_agent_byte byte = is_small byte || is_digit byte

-- an agent: 1 to 16 of a-z and 0-9
abbrev pub is_agent : List ℕ → Bool
is_agent bytes = is_word is_agent_byte longest_agent bytes

-- a byte of a key: a letter, a digit or the dash
abbrev pub is_key_byte : ℕ → Bool
is_key_byte byte = is_small byte || is_capital byte || is_digit byte || (byte == 45)

-- a key: 1 to 32 of the letters, the digits and the dash
abbrev pub is_key : List ℕ → Bool
is_key bytes = is_word is_key_byte longest_key bytes

-- the house, by its name as an agent: desk
abbrev pub house : List ℕ
house = 100 ∷ 101 ∷ 115 ∷ 107 ∷ []

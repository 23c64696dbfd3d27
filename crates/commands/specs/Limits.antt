-- The limits of names, of batches, and of the numbers that texts spell.
use Rattle.std.specs.Prelude.{ℕ}

-- the most bytes of a batch's name
abbrev pub longest_batch_name : ℕ
longest_batch_name = 24

-- the most bytes of an agent
abbrev pub longest_agent : ℕ
longest_agent = 16

-- the most bytes of a key
abbrev pub longest_key : ℕ
longest_key = 32

-- the most rows of a batch
abbrev pub most_rows : ℕ
most_rows = 2000

-- the most bytes of an allotment file, and so of a message's body
abbrev pub most_bytes : ℕ
most_bytes = 262144

-- the greatest number of events that a ledger may have, and so the greatest number of a journey
abbrev pub most_events : ℕ
most_events = 999999999999

-- the greatest position that a request may name, whether a journey has it or not
abbrev pub most_named_position : ℕ
most_named_position = 99

-- A reader of bytes, and the records that it has yet to give.
use Rattle.std.specs.Prelude.{◌≡◌, ℕ, ◌+◌, List, [], length, Option, Some, IsSome, unwrap_or}
use Rattle.std.specs.Borrow.{Bor}
use Rattle.csv.specs.Reading.{Ready, default_config, reader_config, reader_state, reader_trim, records_from, source_of}
use Rattle.csv.specs.declared.parser.State.{State}
use Rattle.csv.specs.declared.reader.Reader.{Reader}
use Rattle.csv.specs.declared.reader.Trim.TheVariants as trim

-- the bytes that a reader of bytes has yet to read
abbrev pub bytes_left : Reader (Bor (List ℕ)) → Option (List ℕ)
bytes_left reader = source_of (λ (s : Bor (List ℕ)). Some s.now) reader

-- the records of these bytes, read on from this state
abbrev pub records_on : State → List ℕ → List (List (List ℕ))
records_on state bytes = records_from default_config (length bytes + 1) state bytes

-- the records that a reader has yet to give
abbrev pub records_left : Reader (Bor (List ℕ)) → List (List (List ℕ))
records_left reader = records_on (reader_state reader) (unwrap_or (bytes_left reader) [])

-- the reader gives each record as it stands, by the defaults
pub record IsReading (reader : Reader (Bor (List ℕ))) : Type 0 where
  pub untrimmed : reader_trim reader ≡ trim.None
  pub ready : Ready reader
  pub defaults : reader_config reader ≡ default_config
  pub known : IsSome (bytes_left reader)

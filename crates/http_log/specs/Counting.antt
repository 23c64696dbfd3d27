-- What a desk that serves counts.
use Rattle.std.specs.Prelude.{ℕ, ◌+◌, ◌^◌, ◌-◌, min, nat_le, bytes_eq, map, List, [], ◌∷◌, codes, if◌then◌else◌}
use Rattle.http_log.specs.Lines.{why_word}
use Rattle.http_log.specs.declared.endings.Why.{Why}
use Rattle.http_log.specs.declared.endings.Why.TheVariants.{Left, CutOff, NotTaken, Closed, LateRequest, LatePage, Displaced, Memory, Stopped}
use Rattle.http_log.specs.declared.counting.Bucket.{Bucket}
use Rattle.http_log.specs.declared.counting.Count.{Count}

-- the highest count, which stays
abbrev pub most_times : ℕ
most_times = 2 ^ 64 - 1

-- one more
abbrev pub one_more : ℕ → ℕ
one_more times = min (times + 1) most_times

-- one of this word came: its count is one more
abbrev pub counted : List ℕ → Count → Count
counted word count = if bytes_eq count.word.now word then record count { times = one_more count.times } else count

-- a command took so many microseconds: each bound that is no less has one more
abbrev pub bucketed : ℕ → Bucket → Bucket
bucketed micros bucket =
    if nat_le micros bucket.micros then record bucket { times = one_more bucket.times } else bucket

-- a word and how often it came; a bound in seconds and microseconds, and how many commands were within it
abbrev pub count_said : Count → List ℕ × ℕ
count_said count = (count.word.now, count.times)

abbrev pub bucket_said : Bucket → List ℕ × ℕ × ℕ
bucket_said bucket = (bucket.word.now, bucket.micros, bucket.times)

-- At the opening.

-- no connection ended, for whichever reason
abbrev pub no_ends : List (List ℕ × ℕ)
no_ends =
    map (λ why. (why_word why, 0))
    (Left ∷ CutOff ∷ NotTaken ∷ Closed ∷ LateRequest ∷ LatePage ∷ Displaced ∷ Memory ∷ Stopped ∷ [])

-- no request was answered: with no status of a page, by losing it, and without one
abbrev pub no_requests : List (List ℕ × ℕ)
no_requests =
    map (λ status. (status, 0))
    (codes "200" ∷ codes "204" ∷ codes "400" ∷ codes "404" ∷ codes "405" ∷ codes "409" ∷ codes "411" ∷ codes "413" ∷ codes "431"
    ∷ codes "501" ∷ codes "505" ∷ codes "lost" ∷ codes "?" ∷ [])

-- no command was carried out
abbrev pub no_commands : List (List ℕ × ℕ × ℕ)
no_commands =
    (codes "0.0005", 500, 0) ∷ (codes "0.001", 1_000, 0) ∷ (codes "0.0025", 2_500, 0) ∷ (codes "0.005", 5_000, 0)
    ∷ (codes "0.01", 10_000, 0) ∷ (codes "0.025", 25_000, 0) ∷ (codes "0.05", 50_000, 0) ∷ (codes "0.1", 100_000, 0)
    ∷ (codes "0.25", 250_000, 0) ∷ (codes "1", 1_000_000, 0) ∷ []

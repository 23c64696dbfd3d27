-- The text of what a desk has and of what it has counted (the text format of Prometheus, version 0.0.4).
use Rattle.std.specs.Prelude.{ℕ, List, [], ◌∷◌, ◌++◌, codes, decimal}
use Rattle.std.specs.List.{flat_map}
use Rattle.saga_core.specs.declared.records.Counts.{Counts}
use Rattle.http_log.specs.declared.counting.Bucket.{Bucket}
use Rattle.http_log.specs.declared.counting.Count.{Count}
use Rattle.http_log.specs.declared.counting.Metrics.{Metrics}

-- texts in their order, and a last one
abbrev pub joined : List (List ℕ) → List ℕ → List ℕ
joined [] last = last
joined (text ∷ texts) last = text ++ joined texts last

-- the two lines before the samples of a name: what it is, and its kind
abbrev pub family : (name kind help : List ℕ) → List (List ℕ)
family name kind help =
    codes "# HELP " ∷ name ∷ codes " " ∷ help ∷ codes "\n# TYPE " ∷ name ∷ codes " " ∷ kind ∷ codes "\n" ∷ []

-- a name with one sample: `desk_events_total 9`
abbrev pub one : (name kind help : List ℕ) → ℕ → List (List ℕ)
one name kind help value = family name kind help ++ name ∷ codes " " ∷ decimal value ∷ codes "\n" ∷ []

-- a sample of a word, which begins so: `desk_requests_total{status="200"} 7`
abbrev pub sample_text : (start word : List ℕ) → ℕ → List ℕ
sample_text start word value = joined (start ∷ word ∷ codes "\"} " ∷ decimal value ∷ []) (codes "\n")

-- one for each count
abbrev pub counts_text : List ℕ → List Count → List ℕ
counts_text start = flat_map (λ count. sample_text start count.word.now count.times)

-- what the desk has
abbrev pub ledger_text : Counts → List ℕ
ledger_text counts =
    joined (one (codes "desk_events_total") (codes "counter") (codes "Events of the desk.") counts.events
    ++ one (codes "desk_journeys_total") (codes "counter") (codes "Journeys that were begun.") counts.journeys
    ++ one (codes "desk_journeys_unfinished") (codes "gauge") (codes "Journeys that run or go back.") counts.unfinished) []

-- the connections
abbrev pub connections_text : Metrics → List ℕ
connections_text m =
    joined (one (codes "desk_connections_open") (codes "gauge") (codes "Connections that are open.") m.connections
    ++ family (codes "desk_connections_ended_total") (codes "counter") (codes "Connections that ended, by why."))
    (counts_text (codes "desk_connections_ended_total{why=\"") m.ended)

-- the requests
abbrev pub requests_text : Metrics → List ℕ
requests_text m =
    joined (family (codes "desk_requests_total") (codes "counter")
    (codes "Requests that were answered or lost their pages, by status."))
    (counts_text (codes "desk_requests_total{status=\"") m.requests)

-- how many commands were within each bound
abbrev pub buckets_text : List ℕ → List Bucket → List ℕ
buckets_text start = flat_map (λ bucket. sample_text start bucket.word.now bucket.times)

-- how long commands took; the sum is one of microseconds
abbrev pub commands_text : Metrics → List ℕ
commands_text m =
    joined (family (codes "desk_command_seconds") (codes "histogram")
    (codes "How long the turns of accepted POSTs took, commits included.")
    ++ buckets_text (codes "desk_command_seconds_bucket{le=\"") m.within ∷ codes "desk_command_seconds_bucket{le=\"+Inf\"} " ∷ decimal m.commands
    ∷ codes "\ndesk_command_seconds_sum " ∷ decimal m.micros ∷ codes "e-6\ndesk_command_seconds_count " ∷ decimal m.commands ∷ [])
    (codes "\n")

-- all of it
abbrev pub metrics_text : Counts → Metrics → List ℕ
metrics_text counts m = joined (ledger_text counts ∷ connections_text m ∷ requests_text m ∷ []) (commands_text m)

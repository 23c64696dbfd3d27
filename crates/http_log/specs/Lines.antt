-- The lines of the log.
use Rattle.std.specs.Prelude.{ℕ, Bool, true, false, List, [], ◌∷◌, ◌++◌, codes, decimal}
use Rattle.commands.specs.Texts.{sentence}
use Rattle.http_log.specs.Shown.{shown_within}
use Rattle.http_log.specs.declared.endings.Why.{Why}
use Rattle.http_log.specs.declared.endings.Why.TheVariants.{Left, CutOff, NotTaken, Closed, LateRequest, LatePage, Displaced, Memory, Stopped}
use Rattle.http_log.specs.declared.lines.Asked.{Asked}
use Rattle.http_log.specs.declared.lines.Peer.{Peer}

-- a value with its name: `status=200`
abbrev pub named : List ℕ → List ℕ → List ℕ
named name value = name ++ codes "=" ++ value

-- the door by which a connection came
abbrev pub door_word : Bool → List ℕ
door_word true = codes "house"
door_word false = codes "port"

-- whether a page was a kept one
abbrev pub again_word : Bool → List ℕ
again_word true = codes "yes"
again_word false = codes "no"

-- the connection, by its number and its door
abbrev pub peer_words : Peer → List (List ℕ)
peer_words peer = named (codes "connection") (decimal peer.number) ∷ named (codes "door") (door_word peer.is_house) ∷ []

-- what was asked; a name has at most 32 bytes, and of a target 128 are shown
abbrev pub request_words : Asked → List (List ℕ)
request_words asked =
    named (codes "agent") (shown_within 32 asked.agent.now)
    ∷ named (codes "method") (shown_within 32 asked.method.now)
    ∷ named (codes "target") (shown_within 128 asked.target.now) ∷ []

-- how it was answered, with the number of the refusal, if there was one, and how many milliseconds it took; a key has at
-- most 32 bytes
abbrev pub page_words : Asked → List (List ℕ)
page_words asked =
    named (codes "status") (shown_within 32 asked.status.now)
    ∷ named (codes "key") (shown_within 32 asked.key.now)
    ∷ named (codes "again") (again_word asked.again)
    ∷ named (codes "refused") (shown_within 32 asked.refused.now)
    ∷ named (codes "ms") (decimal asked.millis) ∷ []

-- both, in the order of the line
abbrev pub asked_words : Asked → List (List ℕ)
asked_words asked = request_words asked ++ page_words asked

-- the line of a request:
-- `request connection=4 door=port agent=ann method=POST target=/journeys status=200 key=k1 again=no refused= ms=3`
abbrev pub request_text : Peer → Asked → List ℕ
request_text peer asked = sentence (codes "request" ∷ peer_words peer ++ asked_words asked)

-- why a connection ended, in a word
abbrev pub why_word : Why → List ℕ
why_word Left = codes "left"
why_word CutOff = codes "cut-off"
why_word NotTaken = codes "not-taken"
why_word Closed = codes "closed"
why_word LateRequest = codes "late-request"
why_word LatePage = codes "late-page"
why_word Displaced = codes "displaced"
why_word Memory = codes "memory"
why_word Stopped = codes "stopped"

-- the line of a connection that ended: `ended connection=4 door=port requests=2 why=left`
abbrev pub ended_text : Peer → ℕ → Why → List ℕ
ended_text peer requests why =
    sentence (codes "ended" ∷ peer_words peer ++ named (codes "requests") (decimal requests) ∷ named (codes "why") (why_word why) ∷ [])

-- the line of an opening: `opened recovered=3`
abbrev pub opened_text : ℕ → List ℕ
opened_text recovered = sentence (codes "opened" ∷ named (codes "recovered") (decimal recovered) ∷ [])

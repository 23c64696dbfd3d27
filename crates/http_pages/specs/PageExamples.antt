-- Worked examples of bodies and pages.
use Rattle.std.specs.Prelude.{◌≡◌, ℕ, true, false, List, [], ◌∷◌, ◌++◌, flat_map, codes, Some, refl}
use Rattle.std.specs.Fmt.{digits}
use Rattle.serde_json.specs.Written.{compact_text}
use Rattle.serde_json.proofs.OnLiterals.{serde_json_on_literals}
use Rattle.plan.specs.declared.causes.PlanCause.TheVariants as cause
use Rattle.commands.specs.declared.items.Cause.TheVariants as turn
use Rattle.commands.specs.declared.items.Item.TheVariants.{Transaction, Turn, Save}
use Rattle.commands.specs.declared.items.Phase.TheVariants.{Run, Back, Ended}
use Rattle.commands.specs.declared.replies.Refusal.TheVariants as refusal
use Rattle.commands.specs.declared.replies.Reply.TheVariants.{Loaded, Begun, Moved, Refused}
use Rattle.http_pages.specs.Bodies.{refusal_data, reply_data, journey_data, unfinished_data}
use Rattle.http_pages.specs.declared.bodies.Owners.TheVariants.{Hidden, Shown}
use Rattle.http_pages.specs.Pages.{line, page_text, denied_page, refused_page, reply_page, value_page}
use Rattle.http_pages.specs.declared.routes.Verb.TheVariants.{Get}

-- Bodies.

-- a batch of two rows
pub batch_is_told : compact_text (reply_data (Loaded (codes "b1") 2))
    ≡ codes "{\"batch\":\"b1\",\"rows\":2}"
unfolding digits serde_json_on_literals
batch_is_told = refl

-- a journey that is begun
pub beginning_is_told : compact_text (reply_data (Begun 1)) ≡ codes "{\"journey\":1}"
unfolding digits serde_json_on_literals
beginning_is_told = refl

-- a step that is done: no target
pub step_is_told_without_a_target : compact_text (reply_data (Moved 1 (Transaction 1 1) 1 Run))
    ≡ codes "{\"item\":\"T1.1\",\"journey\":1,\"pos\":1,\"state\":\"run\"}"
unfolding digits serde_json_on_literals
step_is_told_without_a_target = refl

-- a journey that goes back, and to where
pub turn_is_told_with_its_target :
    compact_text (reply_data (Moved 1 (Turn 0 turn.Asked) 1 (Back 0)))
    ≡ codes "{\"item\":\"B0a\",\"journey\":1,\"pos\":1,\"state\":\"back\",\"target\":0}"
unfolding digits serde_json_on_literals
turn_is_told_with_its_target = refl

-- a save-point
pub save_point_is_told : compact_text (reply_data (Moved 1 (Save 1) 1 Run))
    ≡ codes "{\"item\":\"S1\",\"journey\":1,\"pos\":1,\"state\":\"run\"}"
unfolding digits serde_json_on_literals
save_point_is_told = refl

-- a journey with its history
pub journey_is_shown :
    compact_text (journey_data 1 (record { pos = 1; phase = Ended; used = 0 }) (Transaction 1 1 ∷ []))
    ≡ codes "{\"history\":[\"T1.1\"],\"journey\":1,\"pos\":1,\"state\":\"ended\"}"
unfolding digits serde_json_on_literals
journey_is_shown = refl

-- journeys of all agents, as the house sees them
pub unfinished_are_shown_with_their_agents :
    compact_text (unfinished_data Shown (record { id = 7; agent = codes "ann"; cursor = record { pos = 1; phase = Back 0; used = 0 } } ∷ []))
    ≡ codes "{\"unfinished\":[{\"agent\":\"ann\",\"journey\":7,\"pos\":1,\"state\":\"back\",\"target\":0}]}"
unfolding digits serde_json_on_literals
unfinished_are_shown_with_their_agents = refl

-- a plan whose first step has a malformed night
pub bad_plan_is_told_with_step_and_cause :
    compact_text (refusal_data (refusal.BadPlan (record { step = 1; cause = cause.Night })))
    ≡ codes "{\"cause\":\"night\",\"name\":\"BadPlan\",\"refused\":5,\"step\":1}"
unfolding digits serde_json_on_literals
bad_plan_is_told_with_step_and_cause = refl

-- a row below the places that journeys hold
pub row_below_held_is_told : compact_text (refusal_data (refusal.BelowHeld 2))
    ≡ codes "{\"name\":\"BelowHeld\",\"refused\":12,\"row\":2}"
unfolding digits serde_json_on_literals
row_below_held_is_told = refl

-- Pages.

-- these lines, each ended by CR LF, an empty line, and a body after it
abbrev sent : List (List ℕ) → List ℕ → List ℕ
sent lines body = flat_map line lines ++ line [] ++ body

-- no journey is unfinished
pub none_unfinished_is_shown : page_text false false (value_page (unfinished_data Hidden []))
    ≡ sent (codes "HTTP/1.1 200 OK"
    ∷ codes "Content-Length: 17"
    ∷ codes "Content-Type: application/json" ∷ [])
    (codes "{\"unfinished\":[]}")
unfolding digits serde_json_on_literals
none_unfinished_is_shown = refl

-- a body that is too large, on a closing page
pub too_large_closes : page_text false true (refused_page refusal.TooLarge)
    ≡ sent (codes "HTTP/1.1 413 Content Too Large"
    ∷ codes "Content-Length: 32"
    ∷ codes "Content-Type: application/json"
    ∷ codes "Connection: close" ∷ [])
    (codes "{\"name\":\"TooLarge\",\"refused\":15}")
unfolding digits serde_json_on_literals
too_large_closes = refl

-- another method, and the one that is allowed
pub wrong_method_tells_the_right_one :
    page_text false false (denied_page refusal.WrongMethod (Some Get))
    ≡ sent (codes "HTTP/1.1 405 Method Not Allowed"
    ∷ codes "Content-Length: 34"
    ∷ codes "Content-Type: application/json"
    ∷ codes "Allow: GET" ∷ [])
    (codes "{\"name\":\"WrongMethod\",\"refused\":8}")
unfolding digits serde_json_on_literals
wrong_method_tells_the_right_one = refl

-- the page of that refusal to HEAD: all but the bytes of the body
pub head_gets_no_body : page_text true false (denied_page refusal.WrongMethod (Some Get))
    ≡ sent (codes "HTTP/1.1 405 Method Not Allowed"
    ∷ codes "Content-Length: 34"
    ∷ codes "Content-Type: application/json"
    ∷ codes "Allow: GET" ∷ [])
    []
unfolding digits serde_json_on_literals
head_gets_no_body = refl

-- a refused reply
pub refused_reply_is_a_conflict : page_text false false (reply_page (Refused refusal.NoSave))
    ≡ sent (codes "HTTP/1.1 409 Conflict"
    ∷ codes "Content-Length: 30"
    ∷ codes "Content-Type: application/json" ∷ [])
    (codes "{\"name\":\"NoSave\",\"refused\":28}")
unfolding digits serde_json_on_literals
refused_reply_is_a_conflict = refl

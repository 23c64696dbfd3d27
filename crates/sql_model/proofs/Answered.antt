-- The row found under an agent's key is the reply that is kept there. For Readings, and for commands.
use Rattle.std.proofs.Common.{◌≡◌, ℕ, List, filter, Option, Some, None, ap, arith, rules}
use Rattle.commands.specs.Asks.{Asked}
use Rattle.commands.specs.Request.{Request}
use Rattle.ledger.specs.Answer.{Kept, KeptReply, State, text_of, kept_for, answered_again, outcome_for, outcome}
use Rattle.desk_sql.specs.Lists.{IsOneOf}
use Rattle.desk_sql.specs.Rows.{AnswerRow}
use Rattle.desk_sql.specs.FoundRows.{is_for}
use Rattle.sql_model.specs.Standing.{AnswersStand, IsKeepable}
use Rattle.sql_model.specs.Reading.{Tells, IsAnswerOf}
use Rattle.sql_model.proofs.Orders.{found_is_first}

-- the row found under an agent's key matches the reply that is kept there
pub answer_found : (kept : Kept) (rows : List AnswerRow) (agent key : List ℕ) (found : Option AnswerRow)
    → AnswersStand kept rows → IsKeepable kept
    → IsOneOf (filter (is_for agent key) rows) found → Tells IsAnswerOf found (kept agent key)
answer_found kept rows agent key found stand able one = search (rules, arith, found_is_first)

-- if a row was found, there is something that it matches
pub tells-some : {R X : Type 0} (IsOf : R → X → Type 0) (r : R) (o : Option X)
    → Tells IsOf (Some r) o → (x : X) × (o ≡ Some x) × IsOf r x
tells-some x r o h = search (rules, arith)

-- if no row was found, there is nothing
pub tells-none : {R X : Type 0} (IsOf : R → X → Type 0) (o : Option X) → Tells IsOf None o
    → o ≡ None
tells-none x o h = search (rules, arith)

-- a known key gets its kept reply, or a refusal, and nothing changes
pub outcome-known : (s : State) (ask : Option Asked) (asked : Request) (k : KeptReply)
    → kept_for s ask ≡ Some k → outcome s ask asked ≡ answered_again s (text_of ask) k
outcome-known s ask asked k known = ap (outcome_for s ask asked) known

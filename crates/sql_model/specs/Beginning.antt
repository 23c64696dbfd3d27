-- The rows that the begin of a journey writes.
use Rattle.std.specs.Prelude.{ℕ, false, List, [], ◌∷◌, ◌++◌, take, Option, Some, None, option_map, unwrap_or}
use Rattle.allotment.specs.Want.{Wanted}
use Rattle.plan.specs.PlanModel.{Planned, StepPlan, numbered, is_marked_at, want_at, step_count}
use Rattle.commands.specs.Asks.{Asked}
use Rattle.commands.specs.Texts.{reply_line}
use Rattle.commands.specs.declared.replies.Reply.{Reply}
use Rattle.desk_sql.specs.Rows.{Tables, MetaRow, StepRow, AnswerRow}
use Rattle.desk_sql.specs.Changes.{counts, begun, adds_journey, adds_answer, kept}
use Rattle.sql_model.specs.ExpectedRows.{option_row, option_rows, step_rows_of, none_taken}

-- the row of meta, if the last event and the last journey have these numbers
abbrev pub meta_row_at : ℕ → ℕ → MetaRow
meta_row_at events journeys = record { version = 2; events = events; journeys = journeys }

-- these option rows are appended
abbrev pub adds_steps : List StepRow → Tables → Tables
adds_steps rows t = record t { step = t.step ++ rows }

-- a journey with this number is begun, by the event with that number
abbrev pub with_journey : ℕ → ℕ → List ℕ → Planned → Tables → Tables
with_journey id num agent plan t =
    counts (meta_row_at num id)
    (adds_steps (step_rows_of id plan)
    (adds_journey (begun id num agent (step_count plan) plan.tries) t))

-- the first n steps of a plan
abbrev pub first_steps : ℕ → Planned → Planned
first_steps n plan = record plan { steps = take n plan.steps }

-- a step with its first n options
abbrev pub first_options : ℕ → StepPlan → StepPlan
first_options n s = record s { options = take n s.options }

-- the row of a reply that is kept for an ask
abbrev pub answer_row_of : Asked → Reply → AnswerRow
answer_row_of ask reply = kept ask.agent ask.key ask.text (reply_line reply)

-- the reply is kept if there is an ask
abbrev pub with_answer : Option Asked → Reply → Tables → Tables
with_answer None reply t = t
with_answer (Some ask) reply t = adds_answer (answer_row_of ask reply) t

-- the rows of the options of one step of a new plan
abbrev pub rows_of_step : ℕ → Planned → ℕ → List StepRow
rows_of_step id plan i =
    unwrap_or
    (option_map (λ (s : StepPlan). option_rows none_taken id i s) (numbered plan.steps i)) []

-- the row of that option, if there is one
abbrev pub rows_of_option : ℕ → Planned → ℕ → ℕ → List StepRow
rows_of_option id plan i c =
    unwrap_or
    (option_map (λ (w : Wanted). option_row id i (is_marked_at plan i) c false w ∷ [])
    (want_at plan i c)) []

-- the rows of the first n options of a step
abbrev pub first_rows_of_step : ℕ → Planned → ℕ → ℕ → List StepRow
first_rows_of_step id plan i n =
    unwrap_or
    (option_map (λ (s : StepPlan). option_rows none_taken id i (first_options n s))
    (numbered plan.steps i)) []

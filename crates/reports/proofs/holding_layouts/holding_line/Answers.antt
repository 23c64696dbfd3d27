-- The format writes the columns after those of the cell.
use Rattle.std.proofs.Common.{◌≡◌, ◌∙◌, ℕ, List, ◌++◌, ◌∷◌, [], append_assoc, decimal, string_bytes}
use Rattle.std.specs.Fmt.{styled_decimal, styled_text}
use Rattle.std.proofs.lemmas.Result.{IfOk-weaker}
use Rattle.allotment.specs.Nights.{night_text}
use Rattle.allotment.specs.Texts.{kind_word}
use Rattle.saga_core.specs.JourneyFilters.{state_word}
use Rattle.reports.specs.Columns.{left, line, right}
use Rattle.reports.proofs.FillLemmas.{agent_left, number_right}
use Rattle.reports.proofs.holding_layouts.holding_line.Goals as goal

-- the columns of a cell before the others
columns_joined : (night kind supplier product journey agent state places : List ℕ)
    → (night ++ (32 ∷ (kind ++ (32 ∷ (supplier ++ (32 ∷ product))))))
    ++ (32 ∷ (journey ++ (32 ∷ (agent ++ (32 ∷ (state ++ (32 ∷ (places ++ 10 ∷ []))))))))
    ≡ line (night ∷ kind ∷ supplier ∷ product ∷ journey ∷ agent ∷ state ∷ places ∷ [])
columns_joined night kind supplier product journey agent state places = simp append_assoc

pub returns : goal.returns
returns c =
    let holding = c.args.holding.now in
    let written =
    string_bytes c.in_ok-cell.cell
    ++ (32 ∷ (styled_decimal c.laid_out.result holding.journey
    ++ (32 ∷ (styled_text c.laid_out-2.result c.as_str-agent.result.now
    ++ (32 ∷ (c.state_column-state.result.now
    ++ (32 ∷ (styled_decimal c.laid_out-3.result holding.places ++ 10 ∷ [])))))))) in
    record {
      line = IfOk-weaker c.format.result (λ text. string_bytes text ≡ written) _
          (λ text is. is ∙ rw (
            c.in_ok-cell.ensures.columns,
            c.laid_out.ensures,
            c.laid_out-2.ensures,
            c.laid_out-3.ensures,
            c.as_str-agent.ensures.text,
            c.state_column-state.ensures.column,
            number_right 12 (decimal holding.journey),
            agent_left 16 holding.agent c.as_str-agent.ensures.form,
            number_right 6 (decimal holding.places),
          )
          (columns_joined (night_text holding.cell.night) (left 8 (kind_word holding.cell.kind)) (left 8 holding.cell.supplier)
          (left 8 holding.cell.product) (right 12 (decimal holding.journey)) (left 16 holding.agent) (left 6 (state_word holding.state))
          (right 6 (decimal holding.places)))) c.format.ensures.ok;
    }

-- The batch has the known rows exactly if its text is the kept one.
use Rattle.std.proofs.Common.{◌≡◌, ◌∙◌, true, false, sym, ap, bytes_eq}
use Rattle.sql_model.specs.ExpectedRows.{batch_text}
use Rattle.sql_commands.proofs.LoadComes.{known_answer}
use Rattle.sql_commands.proofs.loading.answer_known.Goals as goal

-- the same text
pub returns-then-eq : goal.returns-then-eq
returns-then-eq c = record {
  known = λ known good kept. (let b = c.args.batch.now in
      let text : c.as_bytes.result.now ≡ batch_text b.rows =
      c.as_bytes.ensures.value ∙ c.in-Ok.ensures.text ∙ ap batch_text c.rows.ensures.rows in
      c.loaded.ensures.loaded
      ∙ known_answer b.name b.rows known c.args.content.now true c.rows.ensures.limits good kept
      (sym c.if-eq.true ∙ c.eq.ensures ∙ ap (λ t. bytes_eq t c.args.content.now) text));
  memory = tt;
}

-- another text
pub returns : goal.returns
returns c = record {
  known = λ known good kept. (let b = c.args.batch.now in
      let text : c.as_bytes.result.now ≡ batch_text b.rows =
      c.as_bytes.ensures.value ∙ c.in-Ok.ensures.text ∙ ap batch_text c.rows.ensures.rows in
      known_answer b.name b.rows known c.args.content.now false c.rows.ensures.limits good kept
      (sym c.if-eq.false ∙ c.eq.ensures ∙ ap (λ t. bytes_eq t c.args.content.now) text));
  memory = tt;
}

-- The reads are those of the preview, and each changes nothing.
use Rattle.std.proofs.lemmas.Grind.{common_steps}
use Rattle.std.proofs.Common.{◌∙◌, ap, arith, rules}
use Rattle.serde_json.specs.Written.{compact_text}
use Rattle.previews.specs.Layouts.{why_data}
use Rattle.previews.specs.Previews.{IsJourneyOf, begun_as, nights_ahead, preview_of}
use Rattle.previews.specs.declared.steps.Preview.{Preview}
use Rattle.desk_http.proofs.whys.why_of_journey.Goals as goal

pub returns : goal.returns
returns g c = record {
  body = record {
    shows = λ sound s stood.
        let l = s.ledger in
        let journey = c.args.journey.now in
        let taken = c.in_ok-taken.ensures.taken.shows (c.nights_ahead.ensures.nights.serves.sound sound) s stood in
        let nights = c.in_ok-nights.ensures.nights.shows sound s taken.1 in (
          λ found.
              let of_journey : IsJourneyOf l c.args.id journey = record { legal = g.met.B.Book.legal c.args.book.now s stood; found = found } in
              let next = c.in-Ok.ensures.next l c.args.id of_journey taken.0 in
              let preview = c.look_ahead-preview.ensures.preview l of_journey next (c.deref.ensures.value ∙ nights.0) in
              c.in_ok-why_body.ensures.body
              ∙ ap (λ ns. compact_text (why_data c.look_ahead-preview.result ns)) (c.deref-2.ensures.value ∙ nights.0)
              ∙ ap (λ n. compact_text (why_data c.look_ahead-preview.result (nights_ahead l n))) next
              ∙ ap (λ (o : Preview). compact_text (why_data o (nights_ahead l (preview_of l c.args.id (begun_as journey)).next))) preview,
          nights.1,
        );
    serves = first_of (search rules, grind (arith, common_steps));
    may_act = first_of (search rules, grind (arith, common_steps));
  };
}

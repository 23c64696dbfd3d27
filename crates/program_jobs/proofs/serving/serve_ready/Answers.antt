-- Guests were served over the book that was opened to them; or it was not, or it was not listened for them, and nobody could come.
use Rattle.std.proofs.Common.{subst, sym}
use Rattle.std.proofs.KnownBytes.{Appends-nil}
use Rattle.sqlite.specs.Held.{state}
use Rattle.program_ends.specs.declared.ended.Ended.{Ended}
use Rattle.program_jobs.specs.Serving.{IsUnserved}
use Rattle.program_jobs.proofs.ServeLemmas.{guests_served, nobody_served, stood_leaves, unheard_unserved}
use Rattle.program_jobs.proofs.serving.serve_ready.Goals as goal

pub returns-in-Ok-open_to_guests-clause-serves : goal.returns-in-Ok-open_to_guests-clause-serves
returns-in-Ok-open_to_guests-clause-serves g c =
    let opened = c.in-Ok-open_to_guests.ensures in
    let served = c.serve_to_end-served in
    guests_served g.S.Store c.args.desk c.let_go.result _ _ _ _ _ c.in-Ok.guests c.in-Ok.ensures.listens _ _ _ c.open_to_guests.new.book
    served.new.book served.new.turns served.result c.dismiss-has_failed.result c.end_of_serving-end.result c.from.result opened.opens.stays
    served.ensures.serves.sound served.ensures.goes_on opened.told c.let_go.ensures.gone
    c.dismiss-has_failed.ensures.failed c.end_of_serving-end.ensures.end c.from.ensures

pub returns-in-Err-open_to_guests-clause-serves : goal.returns-in-Err-open_to_guests-clause-serves
returns-in-Err-open_to_guests-clause-serves g c =
    let failed = c.in-Err-open_to_guests.ensures in
    let gone = c.let_go-in-Err-open_to_guests.ensures.gone in
    nobody_served g.S.Store c.args.desk c.let_go-in-Err-open_to_guests.result _ _ _ _ c.from-in-Err-open_to_guests.result
    (subst (λ (x : Ended). IsUnserved x.end) (sym c.from-in-Err-open_to_guests.ensures) failed.opens.fault) c.open_to_guests.ensures.front
    (λ clean s stood. gone.left s s (failed.opens.left (gone.sound clean) s stood))

pub returns-in-Err-clause-serves : goal.returns-in-Err-clause-serves
returns-in-Err-clause-serves g c =
    nobody_served g.S.Store c.args.desk c.let_go-in-Err.result _ _ _ _ c.in-Err.ended
    (unheard_unserved c.in-Err.ended.end c.in-Err.ensures.end) (0, Appends-nil _)
    (λ clean s stood. stood_leaves (state g.S.Store c.let_go-in-Err.result) s (c.let_go-in-Err.ensures.gone.found s stood))

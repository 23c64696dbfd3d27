-- The piece is the buffered bytes before a line feed, or all of them.
use Rattle.std.proofs.Common.{◌∙◌, ◌-◌, ℕ, List, ap, drop, subst, sym, take, arith}
use Rattle.std.specs.List.{position}
use Rattle.recovery.specs.Reading.{is_line_feed, KeepsMore, Unanswered}
use Rattle.recovery.proofs.LineLemmas.{takes_all, takes_front}
use Rattle.recovery.proofs.unread.Unread.take_piece.Goals as goal

-- the prefix before the line feed that was found
pub returns-in_ok-add-in-Some-clause-piece : goal.returns-in_ok-add-in-Some-clause-piece
returns-in_ok-add-in-Some-clause-piece c = search (arith, takes_front)

-- all buffered bytes, where no line feed was found
pub returns-in_ok-add-in-None-clause-piece : goal.returns-in_ok-add-in-None-clause-piece
returns-in_ok-add-in-None-clause-piece c =
    let u = c.self.inside in
    let seen : List ℕ → List ℕ = λ items. take (u.to - u.from) (drop u.from items) in
    takes_all u.chunk.items u.from u.to c.args.self.now.waiting c.args.line.now c.add-in-None.new.self
    c.self.invariant.0 (ap (λ (v : Unanswered). v.waiting) c.self.view_is)
    (sym (c.line_feed_in.ensures ∙ ap (λ items. position is_line_feed (seen items)) c.deref.ensures.value) ∙ c.in-None.is)
    (subst (λ items. KeepsMore c.args.line.now c.add-in-None.new.self (seen items)) c.deref.ensures.value c.in_ok-add-in-None.ensures)

-- Pieces are taken until a line feed or the end of the input completes a line.
use Rattle.std.proofs.Common.{subst, arith}
use Rattle.recovery.specs.Reading.{TakesPiece, to_come}
use Rattle.recovery.proofs.LineLemmas.{at_end, begun_more, line_ended, line_found}
use Rattle.recovery.proofs.unread.Unread.next_line.Goals as goal

-- at a line feed the line is complete
pub returns-then-branch-clause-line : goal.returns-then-branch-clause-line
returns-then-branch-clause-line g c =
    let left = g.R.Read.remaining in
    let u0 = c.loop-self.self in
    let u1 = c.take_piece.new.self in
    line_found (to_come c.args.self.now (left c.args.reader.now)) u0 u1 (left c.loop-self.reader) c.loop-self.line c.take_piece.new.line c.loop-self.invariant
    (subst (λ b. TakesPiece b u0.waiting u1.waiting c.loop-self.line c.take_piece.new.line) c.if-branch.true c.in_ok-take_piece.ensures.piece)

-- the next piece continues the line
pub loop-self-preserved : goal.loop-self-preserved
loop-self-preserved g c = grind (arith, begun_more)

-- at the end of the input, the text that was taken is a line unless it is empty
pub returns-then-not-branch-clause-line : goal.returns-then-not-branch-clause-line
returns-then-not-branch-clause-line g c =
    let left = g.R.Read.remaining in
    let u0 = c.loop-self.self in
    let u1 = c.take_piece.new.self in
    let start = to_come c.args.self.now (left c.args.reader.now) in
    let now = to_come c.fill.new.self (left c.fill.new.reader) in
    let so_far = begun_more start u0 u1 c.fill.new.self (left c.loop-self.reader) (left c.fill.new.reader)
    c.loop-self.line c.take_piece.new.line c.loop-self.invariant
    (subst (λ b. TakesPiece b u0.waiting u1.waiting c.loop-self.line c.take_piece.new.line) c.if-branch.false c.in_ok-take_piece.ensures.piece)
    c.in_ok-fill.ensures.bytes in
    let ended = c.in_ok-fill.ensures.end c.if-not-branch.true in
    line_ended start now c.take_piece.new.line c.has_bytes.result so_far (at_end c.fill.new.self (left c.fill.new.reader) ended.0 ended.1)
    (c.has_bytes.ensures so_far.text so_far.kept)

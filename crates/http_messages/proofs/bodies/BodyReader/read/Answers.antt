-- Each step goes on where the one before ended.
-- More than 60 lines: two loops, three ways out, three clauses and one lemma of its own.
use Rattle.std.proofs.Common.{◌≡◌, ◌∙◌, ap, sym, drop, arith, length-drop, Err, ℕ, ◌+◌, ◌≤◌, List, [], ◌++◌, length, inl, inr, append-nil, drop-drop}
use Rattle.std.proofs.lemmas.List.{take_rest}
use Rattle.std.proofs.lemmas.Result.{err_from_is_err_and}
use Rattle.http_messages.specs.Bodies.{Ends, Goes, Moves, NeverEnds, Reading}
use Rattle.http_messages.proofs.bodies.BodyReader.read.Goals as goal

-- nothing was used yet
moves_none : (r : Reading) (input : List ℕ) → Moves r input r 0
moves_none r input = grind arith

module _ {a b : Reading} {input : List ℕ} {m : ℕ} (first : Moves a input b m) where
  -- the bytes after both parts
  after : (n : ℕ) → drop n (drop m input) ≡ drop (m + n) input
  after n = drop-drop n m input

  -- so many bytes were used, and then so many more
  inside : (n : ℕ) → n ≤ length (drop m input) → m + n ≤ length input
  inside n less = omega (arith, less, first.within, length-drop m input)

  moves_more : {c : Reading} {n : ℕ} → Moves b (drop m input) c n → Moves a input c (m + n)
  moves_more {c} {n} second = record {
    within = inside n second.within;
    back = λ more body rest waits. first.back more body rest (second.back more body rest (rw (after n) waits));
    forth = λ more body rest waits. rw (after n) at (second.forth more body rest (first.forth more body rest waits));
    exceeds = λ past. first.exceeds (second.exceeds (rw (after n) past));
  }

  -- and the rest does not suffice
  goes_more : {c : Reading} {n : ℕ} → Goes b (drop m input) c n → Goes a input c (m + n)
  goes_more {c} {n} second = record {
    moves = moves_more second.moves;
    used = elim second.used [
      | inl all ↦ inl (omega (arith, all, first.within, length-drop m input))
      | inr trailers ↦ inr (rw (after n) at trailers)
    ];
    unfinished = λ body rest waits. second.unfinished body rest
        (rw (append-nil (drop m input)) at (first.forth [] body rest (rw (append-nil input) waits)));
  }

  -- and the body ends
  ends_more : {c : Reading} {n : ℕ} → Ends b (drop m input) c n → Ends a input c (m + n)
  ends_more {c} {n} second = record {
    within = inside n second.within;
    whole = λ more. first.back more c.body (drop (m + n) input ++ more) (rw (after n) at (second.whole more));
  }

  -- and no body begins so
  never_more : NeverEnds b (drop m input) → NeverEnds a input
  never_more never more body rest waits = never more body rest (first.forth more body rest waits)

-- nothing was used
pub loop-count-init : goal.loop-count-init
loop-count-init c = moves_none c.args.self.now c.args.input.now

-- the rest does not suffice
pub returns-in-Waits-clause-reads : goal.returns-in-Waits-clause-reads
returns-in-Waits-clause-reads c =
    goes_more c.loop-count.invariant (rw take_rest at (rw c.in-Waits.is at c.in_ok-count.ensures.steps))

-- the body ends
pub returns-in-Ended-clause-reads : goal.returns-in-Ended-clause-reads
returns-in-Ended-clause-reads c =
    ends_more c.loop-count.invariant (rw take_rest at (rw c.in-Ended.is at c.in_ok-count.ensures.steps))

-- more was used
pub loop-count-preserved : goal.loop-count-preserved
loop-count-preserved c =
    moves_more c.loop-count.invariant (rw take_rest at ((rw c.in-Took.is at c.in_ok-count.ensures.steps).1))

-- fewer bytes are left
pub loop-count-smaller : goal.loop-count-smaller
loop-count-smaller c = grind (arith, take_rest, length-drop)

-- what is too large now was so from the beginning
pub returns-in_err-count-clause-too_large : goal.returns-in_err-count-clause-too_large
returns-in_err-count-clause-too_large c large = grind (arith, err_from_is_err_and, take_rest)

-- what never ends now never ended
pub returns-in_err-count-clause-malformed : goal.returns-in_err-count-clause-malformed
returns-in_err-count-clause-malformed c bad =
    let failed = err_from_is_err_and c.from_residual.result c.from_residual.ensures.1 in
    never_more c.loop-count.invariant (rw take_rest at (c.in_err-count.ensures.malformed (ap Err (sym failed.2 ∙ cc))))

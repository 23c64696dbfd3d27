use Rattle.memory_book.proofs.answers.Answers.again.Goals as goal

-- the request is answered under its known key
pub returns-in-Some : goal.returns-in-Some
returns-in-Some c = λ s. rw c.in-Some.is (c.again_to.ensures s)

use Rattle.std.proofs.Common.{◌∙◌, ◌&&◌, bytes_eq, if◌then◌else◌, Some}
use Rattle.memory_book.specs.MemoryAnswers.{kept_in}
use Rattle.memory_book.proofs.KeptLemmas.{kept_in-insert}
use Rattle.memory_book.proofs.answers.Answers.keep.Goals as goal

-- the reply is kept under the agent and the key of the request, with its text
pub returns-clause-kept : goal.returns-clause-kept
returns-clause-kept c agent key =
    let old = c.args.self.now in
    rw c.in-Some.is (kept_in-insert old (record { kept = c.insert.new.self }) c.of.result
    (record { text = c.in_ok-text.text; reply = c.args.reply }) c.in_ok-insert.ensures.updates agent key
    ∙ (λ i. if bytes_eq agent (c.of.ensures.agent i) && bytes_eq key (c.of.ensures.key i)
    then Some (record { text = (c.in_ok-text.ensures.items ∙ c.text.ensures.text) i; reply = c.args.reply })
    else kept_in old agent key))

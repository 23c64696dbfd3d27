use Rattle.std.proofs.Common.{◌≡◌, ap, ◌∙◌, Some, option_map}
use Rattle.std.specs.BTreeMap as tree
use Rattle.ledger.specs.Answer.{answered_again}
use Rattle.memory_book.specs.MemoryAnswers.{ask_key_cmp, kept_said, kept_in}
use Rattle.memory_book.proofs.KeptLemmas.{ask_key-is}
use Rattle.memory_book.proofs.answers.Answers.again_to.Goals as goal

-- the kept reply is the one under the agent and the key of the request
pub returns-in-Some : goal.returns-in-Some
returns-in-Some c =
    let ask = c.args.ask.now in
    let answers = c.args.self.now in
    let kept = c.in-Some.kept.now in
    let found : Some (kept_said kept) ≡ kept_in answers ask.agent ask.key =
    ap (option_map kept_said) (c.in-Some.ensures.value
    ∙ ap (tree.get ask_key_cmp answers.kept)
    (ask_key-is c.of.result ask.agent ask.key c.of.ensures.agent c.of.ensures.key)) in
    λ s.
    ap Some (c.again.ensures.reply s
    ∙ ap (λ t. (answered_again s t (kept_said kept)).reply) c.text.ensures.text)
    ∙ ap (option_map (λ k. (answered_again s ask.text k).reply)) found

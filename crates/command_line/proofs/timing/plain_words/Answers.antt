-- One more word is plain, and may have asked for times.
use Rattle.std.proofs.Common.{◌≡◌, ◌∙◌, ◌<◌, ◌+◌, ◌||◌, ℕ, Bool, Global, String, ap, arith, length, map, set, string_bytes, subst, suc, sym, take}
use Rattle.std.specs.List.{list_any}
use Rattle.command_line.specs.Timing.{is_timed, plain_word}
use Rattle.command_line.proofs.TimingLemmas.{plain_next, times_next, ArePlainTo}
use Rattle.command_line.proofs.timing.plain_words.Goals as goal
use Rattle.command_line.proofs.timing.plain_words.Goals.{then-times, else-times}

pub loop-at-preserved : goal.loop-at-preserved
loop-at-preserved c =
    let words = c.loop-at.words in
    let olds = map string_bytes c.args.words.now in
    let at = c.loop-at.at in
    let word = c.index-words-at.result in
    let made = c.make_plain-is_timed in
    let next : suc at ≡ at + 1 = omega arith in
    let within : at < length words =
    omega (arith, c.loop-at-test.true, c.options_end-at-end.ensures.within, c.loop-at.auto.words, c.loop-at.auto.at-end) in
    let plain : string_bytes made.new.word ≡ plain_word (string_bytes word) =
    made.ensures.word ∙ ap (λ (s : String Global). plain_word (string_bytes s)) (sym c.index-words-at.is) in
    let timed : made.result ≡ is_timed (string_bytes word) =
    made.ensures.timed ∙ ap (λ (s : String Global). is_timed (string_bytes s)) (sym c.index-words-at.is) in
    let now : c.if-times.times ≡ (c.loop-at.times || made.result) = elim c.if-times.branch [
      | then-times w ↦ w.times-is ∙ w.if-times.true ∙ sym (ap (λ (t : Bool). t || made.result) w.if-times.true)
      | else-times w ↦ w.times-is ∙ sym (ap (λ (t : Bool). t || made.result) w.if-times.false)
    ] in
    record {
      words = subst (λ (n : ℕ). ArePlainTo n olds (set words at made.new.word)) next
          (plain_next words olds at word made.new.word within c.index-words-at.is plain c.loop-at.invariant.words);
      times = now ∙ ap (λ (t : Bool). t || made.result) c.loop-at.invariant.times
          ∙ ap (λ (t : Bool). list_any is_timed (take at olds) || t) timed
          ∙ times_next words olds at word within c.index-words-at.is c.loop-at.invariant.words
          ∙ ap (λ (n : ℕ). list_any is_timed (take n olds)) next;
    }

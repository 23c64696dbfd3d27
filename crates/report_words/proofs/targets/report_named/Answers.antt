-- The pieces are a subcommand, and what words follow it, or there are others and no report.
use Rattle.std.proofs.Common.{◌≡◌, ◌∙◌, ◌∷◌, ◌<◌, ◌≤◌, ℕ, List, [], Bor, IfOk, None, ap, arith, length, slice_index_or, subst}
use Rattle.allotment.specs.Texts.{parts}
use Rattle.clap.specs.Words.{Text}
use Rattle.commands.specs.Readings.{texts_of}
use Rattle.report_words.specs.Targets.{ampersand, question, report_by, report_named, report_of_pieces}
use Rattle.report_words.proofs.targets.report_named.Goals as goal

two : (ps : List (Bor (List ℕ))) (none : Bor (List ℕ)) (text : Text) (others : List Text) → 2 ≤ length ps → length ps < 3
    → others ≡ parts ampersand (slice_index_or ps 1 none).now → texts_of ps ≡ parts question text
    → report_by ((slice_index_or ps 0 none).now ∷ others) ≡ report_named text
two (name ∷ query ∷ []) none text others low high words are = ap (λ ws. report_by (name.now ∷ ws)) words ∙ ap report_of_pieces are
two (a ∷ b ∷ d ∷ more) none text others low high words are = absurd (omega (arith, high))
two (a ∷ []) none text others low high words are = absurd (omega (arith, low))
two [] none text others low high words are = absurd (omega (arith, low))

more : (ps : List (Bor (List ℕ))) (text : Text) → 3 ≤ length ps → texts_of ps ≡ parts question text → None ≡ report_named text
more (a ∷ b ∷ d ∷ others) text low are = ap report_of_pieces are
more (a ∷ b ∷ []) text low are = absurd (omega (arith, low))
more (a ∷ []) text low are = absurd (omega (arith, low))
more [] text low are = absurd (omega (arith, low))

pub returns-in-len2 : goal.returns-in-len2
returns-in-len2 c =
    let pieces = ap texts_of c.as_slice.ensures.value ∙ c.in_ok-pieces.ensures.pieces in
    let words = ap texts_of c.deref.ensures.value ∙ c.in_ok-others-in-len2.ensures.words in
    let are = two c.as_slice.result.now _ c.args.text.now _ c.in-len2.len_at_least c.in-len2.len_below words pieces in
    record { report = subst (λ found. IfOk c.report_by-in-len2.result (λ report. report ≡ found)) are c.report_by-in-len2.ensures.report }

pub returns : goal.returns
returns c =
    let pieces = ap texts_of c.as_slice.ensures.value ∙ c.in_ok-pieces.ensures.pieces in
    record { report = more c.as_slice.result.now c.args.text.now c.in_default.len_at_least pieces }

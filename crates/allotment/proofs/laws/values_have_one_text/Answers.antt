use Rattle.std.proofs.Common.{refl, sym, ap, ◌∙◌, arith}
use Rattle.allotment.specs.Nights.{night_in}
use Rattle.allotment.specs.Texts.{kind_of_letter, kind_of_number, kind_of_word, cell_in}
use Rattle.allotment.proofs.LawLemmas.{number_read, number_again, letter_read, letter_again, word_read, word_again, cell_read, cell_again}
use Rattle.allotment.proofs.NightLemmas.{night_in-night_text, night_text-night_in}
use Rattle.allotment.proofs.OwnTextLemmas.{row_same, want_same}
use Rattle.allotment.proofs.TestLemmas.{keep_if_some, keep_if_yes}
use Rattle.allotment.proofs.laws.values_have_one_text.Goals as goal

-- the first kind with a number is the one that has it
pub returns-clause-numbers : goal.returns-clause-numbers
returns-clause-numbers c = λ n k. (λ e. (refl, number_read n k e), λ h. ap kind_of_number h.1 ∙ number_again k)

-- the first kind with a letter is the one that has it
pub returns-clause-letters : goal.returns-clause-letters
returns-clause-letters c = λ t k. (λ e. (refl, letter_read t k e), λ h. ap kind_of_letter h.1 ∙ letter_again k)

-- the first kind with a word is the one that has it
pub returns-clause-words : goal.returns-clause-words
returns-clause-words c = λ t k. (λ e. (refl, word_read t k e), λ h. ap kind_of_word h.1 ∙ word_again k)

-- a code is its own text
pub returns-clause-codes : goal.returns-clause-codes
returns-clause-codes c = grind (arith, keep_if_some, keep_if_yes)

-- a night is read of what its date is written as
pub returns-clause-nights : goal.returns-clause-nights
returns-clause-nights c = λ t n. (
  λ e. let read = night_text-night_in t n e in (read.0, sym read.1),
  λ h. ap night_in h.1 ∙ night_in-night_text n h.0,
)

-- a cell is read of its four parts
pub returns-clause-cells : goal.returns-clause-cells
returns-clause-cells c = λ t x. (λ e. cell_read t x e, λ h. ap cell_in h.1 ∙ cell_again x h.0)

-- the five parts of a row say its cell and its places
pub returns-clause-rows : goal.returns-clause-rows
returns-clause-rows c = λ r s good fine e. row_same r s good fine e

-- the six parts of a want say all of it
pub returns-clause-wants : goal.returns-clause-wants
returns-clause-wants c = λ w v good fine e. want_same w v good fine e

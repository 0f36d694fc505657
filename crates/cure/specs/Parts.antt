-- The answer's numbers, and what the parts of the call promise each other. Assumes nothing.
use Rattle.std.specs.Prelude.{◌≡◌, cond, List, ℕ, ltb, length, Result, Ok, Err}
use Rattle.model.specs.Limits.{rows_most}
use Rattle.model.specs.Refusal.{Out, ok, refusal, cured_rows_refusal}
use Rattle.model.specs.Cure.{output_with, CureNumbers, written_word, refused_word, cure_numbers}
use Rattle.cured_sheet.specs.Sheet.{rows_in, text_in}
use Rattle.outcome.specs.declared.Refusal.{Refusal}
use Rattle.outcome.specs.Refusals.{number_in}

-- the word and the two numbers of an answer
abbrev pub numbers_for : Result ℕ Refusal → CureNumbers
numbers_for (Ok length) = record { word = written_word; one = length; two = 0 }
numbers_for (Err r) = record { word = refused_word; one = number_in r.reason; two = r.line }

-- the text, unless it has too many rows
unfoldable pub outcome_in : ℕ → List ℕ → List ℕ → Out (List ℕ)
outcome_in count boards words =
    cond (ltb rows_most (length (rows_in count boards words))) (refusal cured_rows_refusal 0) (ok (text_in count boards words))

-- the answer and the output for a text or a refusal
pub record Decides (o : Out (List ℕ)) (output output_exit : List ℕ) (r : Result ℕ Refusal) : Type 0 where
  pub answer : numbers_for r ≡ cure_numbers o
  pub output_left : output_exit ≡ output_with o output

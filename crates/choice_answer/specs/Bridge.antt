-- The answer as the model's numbers. Assumes nothing.
use Rattle.std.specs.Prelude.{◌^◌, ◌<◌, Result, Ok, Err}
use Rattle.model.specs.Answer.{free_word, locked_word, refused_word}
use Rattle.model.specs.Choice.{ChoiceNumbers}
use Rattle.choice_answer.specs.declared.Choice.{Choice}
use Rattle.choice_answer.specs.declared.Choice.TheVariants.{Free, Locked}
use Rattle.outcome.specs.declared.Refusal.{Refusal}
use Rattle.outcome.specs.Refusals.{number_in}
use Rattle.choice_answer.specs.declared.ChoiceCheckAnswer.{ChoiceCheckAnswer}

-- The word and the values of each answer: zeros for free; e, x, the step count and the list's length and number for locked; the
-- refusal's number and its line for refused.
abbrev pub numbers_for : Result Choice Refusal → ChoiceNumbers
numbers_for (Ok Free) = record { word = free_word; one = 0; two = 0; three = 0; options = 0; choices = 0 }
numbers_for (Ok (Locked e x steps met number)) = record { word = locked_word; one = e; two = x; three = steps; options = met; choices = number }
numbers_for (Err r) = record { word = refused_word; one = number_in r.reason; two = r.line; three = 0; options = 0; choices = 0 }

-- the six numbers handed to C
abbrev pub numbers_in : ChoiceCheckAnswer → ChoiceNumbers
numbers_in r = record { word = r.word; one = r.one; two = r.two; three = r.three; options = r.length; choices = r.choices }

-- the numbers behind the word fit 32 bits
pub record Small (r : ChoiceNumbers) : Type 0 where
  pub one : r.one < 2 ^ 32
  pub two : r.two < 2 ^ 32
  pub three : r.three < 2 ^ 32
  pub options : r.options < 2 ^ 32
  pub choices : r.choices < 2 ^ 32

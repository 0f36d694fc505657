-- The numbers that C gets. Assumes nothing.
use Rattle.std.specs.Prelude.{◌^◌, ◌<◌}
use Rattle.model.specs.Answer.{Numbers}
use Rattle.answers.specs.declared.checks.ChannelCheckAnswer.{ChannelCheckAnswer}

-- the four numbers handed to C
abbrev pub numbers_in : ChannelCheckAnswer → Numbers
numbers_in r = record { word = r.word; one = r.one; two = r.two; three = r.three }

-- the numbers behind the word fit 32 bits
pub record Small (r : Numbers) : Type 0 where
  pub one : r.one < 2 ^ 32
  pub two : r.two < 2 ^ 32
  pub three : r.three < 2 ^ 32

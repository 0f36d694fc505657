-- The numbers that C gets of a table. Assumes nothing.
use Rattle.model.specs.Answer.{Numbers}
use Rattle.answers.specs.declared.tables.SendersCheckAnswer.{SendersCheckAnswer}

-- the four numbers handed to C
abbrev pub numbers_in : SendersCheckAnswer → Numbers
numbers_in r = record { word = r.word; one = r.one; two = r.two; three = r.three }

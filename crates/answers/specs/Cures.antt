-- The numbers that C gets of a cure. Assumes nothing.
use Rattle.model.specs.Cure.{CureNumbers}
use Rattle.answers.specs.Pair.{SmallPair}
use Rattle.answers.specs.declared.cures.CureSheetAnswer.{CureSheetAnswer}

-- the three numbers handed to C
abbrev pub numbers_in : CureSheetAnswer → CureNumbers
numbers_in r = record { word = r.word; one = r.one; two = r.two }

-- the numbers behind the word fit 32 bits
abbrev pub Small : CureNumbers → Type 0
Small r = SmallPair r.one r.two

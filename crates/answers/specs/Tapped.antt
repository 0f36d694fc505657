-- The numbers that C gets of two taps. Assumes nothing.
use Rattle.model.specs.Taps.{TapNumbers}
use Rattle.answers.specs.Pair.{SmallPair}
use Rattle.answers.specs.declared.tapped.TapsCheckAnswer.{TapsCheckAnswer}

-- the three numbers handed to C
abbrev pub numbers_in : TapsCheckAnswer → TapNumbers
numbers_in r = record { word = r.word; one = r.one; two = r.two }

-- the numbers behind the word fit 32 bits
abbrev pub Small : TapNumbers → Type 0
Small r = SmallPair r.one r.two

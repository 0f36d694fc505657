-- `race::race_word_unmasked` meets its contract. Assumes nothing.
use Rattle.race.proofs.Words.{races_on, no_races}
use Rattle.race.proofs.race_word_unmasked.Goals as goal

pub returns-then-word-eq0 : goal.returns-then-word-eq0
returns-then-word-eq0 c = search no_races

pub returns : goal.returns
returns c = search races_on

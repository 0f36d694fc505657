-- `lowest_race` meets its contract. Assumes nothing.
use Rattle.lowest_race.proofs.Messages.{never_races}
use Rattle.lowest_race.proofs.lowest_race.Goals as goal

pub returns-in-Never : goal.returns-in-Never
returns-in-Never c = search never_races

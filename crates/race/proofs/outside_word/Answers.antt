-- `race::outside_word` meets its contract. Assumes nothing.
use Rattle.race.proofs.Words.{outside_event, outside_origin, outside_never}
use Rattle.race.proofs.outside_word.Goals as goal

pub returns-in-ByEvent : goal.returns-in-ByEvent
returns-in-ByEvent c = search outside_event

pub returns-in-ByOrigin : goal.returns-in-ByOrigin
returns-in-ByOrigin c = search outside_origin

pub returns-in-Never : goal.returns-in-Never
returns-in-Never c = search outside_never

-- From the race test's data to the model: the rules. Assumes nothing.
use Rattle.model.specs.Race.{RaceRule, by_event, by_origin, never}
use Rattle.race.specs.declared.Rule.{Rule}
use Rattle.race.specs.declared.Rule.TheVariants.{ByEvent, ByOrigin, Never}

abbrev pub rule_in : Rule → RaceRule
rule_in ByEvent = by_event
rule_in ByOrigin = by_origin
rule_in Never = never

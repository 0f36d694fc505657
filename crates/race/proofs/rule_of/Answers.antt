-- `race::rule_of` meets its contract: the code's table, row by row, is the model's. Assumes nothing.
use mathlib.Core.Path.{sym}
use mathlib.Core.List.{[], ◌∷◌}
use lib.ListN.{get_or-map}
use Rattle.race.specs.declared.Rule.TheVariants.{ByEvent, ByOrigin, Never}
use Rattle.race.specs.Bridge.{rule_in}
use Rattle.race.proofs.rule_of.Goals as goal

pub returns : goal.returns
returns c = sym (get_or-map rule_in (ByEvent ∷ Never ∷ ByOrigin ∷ Never ∷ ByOrigin ∷ ByOrigin ∷ []) c.args.code ByEvent)

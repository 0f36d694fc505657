-- The rules that are lent, as the model's. Assumes nothing.
use Rattle.std.specs.Prelude.{List, map}
use Rattle.model.specs.Senders as senders
use Rattle.coverage.specs.declared.Rule.{Rule}

abbrev pub rule_as : Rule → senders.Rule
rule_as r = record { from = r.from; to = r.to; verdict = r.verdict }

abbrev pub rules_as : List Rule → List senders.Rule
rules_as rs = map rule_as rs

-- What the answer says: the scenario that boards and words hold, or the refusal.
-- Assumes nothing.
use Rattle.std.specs.Prelude.{ℕ, List, replicate, Result, Ok, Err}
use Rattle.model.specs.Refusal.{Out, ok}
use Rattle.model.specs.Order.{Scenario}
use Rattle.relation.specs.Scenario.{scenario_in}
use Rattle.expansion.specs.declared.Counted.{Counted}
use Rattle.outcome.specs.declared.Refusal.{Refusal}
use Rattle.outcome.specs.Refusals.{refused_in}

abbrev pub outcome_of : Result ℕ Refusal → List ℕ → List ℕ → Out Scenario
outcome_of (Ok count) events words = ok (scenario_in count events words)
outcome_of (Err r) events words = refused_in r

abbrev pub counted_of : Result Counted Refusal → List ℕ → List ℕ → Out (Scenario × ℕ)
counted_of (Ok c) events words = ok (scenario_in c.messages events words, c.choices)
counted_of (Err r) events words = refused_in r

-- what the boards hold where nothing is met
unfoldable pub zeros : ℕ → List ℕ
zeros n = replicate n 0

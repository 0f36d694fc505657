-- The scenario of a text by the rules of a sound table, or the refusal. Assumes nothing.
use Rattle.std.specs.Prelude.{ℕ, List}
use Rattle.model.specs.Refusal.{Out, and_then}
use Rattle.model.specs.Order.{Scenario}
use Rattle.model.specs.Answer.{sheet_of}
use Rattle.model.specs.Senders.{Rule, lines_met, permitted}

abbrev pub sheet_by : List ℕ → List Rule → Out Scenario
sheet_by text rules = and_then (sheet_of text) (permitted rules (lines_met text))

-- The answer's numbers, and what the parts of the check promise each other. Assumes nothing.
use Rattle.std.specs.Prelude.{◌≡◌, List, ℕ, Result, Ok, Err}
use Rattle.std.proofs.Math.Option.{some}
use Rattle.model.specs.Refusal.{Out}
use Rattle.model.specs.Order.{Scenario}
use Rattle.model.specs.Race.{race_rule_of, lowest_race}
use Rattle.model.specs.Answer.{Numbers, free_word, locked_word, refused_word, answer_for, numbers_of, trace_after}
use Rattle.outcome.specs.declared.Refusal.{Refusal}
use Rattle.outcome.specs.Refusals.{number_in}
use Rattle.verdict.specs.declared.Verdict.{Verdict}
use Rattle.verdict.specs.declared.Verdict.TheVariants.{Free, Locked}

-- The paper's word and three values for each answer: 0 0 0 for free; e, x and the step count for locked; the refusal's number,
-- its line and 0 for refused.
abbrev pub numbers_for : Result Verdict Refusal → Numbers
numbers_for (Ok Free) = record { word = free_word; one = 0; two = 0; three = 0 }
numbers_for (Ok (Locked e x steps)) = record { word = locked_word; one = e; two = x; three = steps }
numbers_for (Err r) = record { word = refused_word; one = number_in r.reason; two = r.line; three = 0 }

-- e and x are the race named
abbrev pub IsRace : Scenario → ℕ → ℕ → ℕ → Type 0
IsRace S code e x = lowest_race S (race_rule_of code) ≡ some (e, x)

-- the answer for a scenario or a refusal, and the trace behind it
pub record Decides (o : Out Scenario) (code : ℕ) (trace trace_exit : List ℕ) (r : Result Verdict Refusal) : Type 0 where
  pub answer : numbers_for r ≡ numbers_of (answer_for o code)
  pub trace_left : trace_exit ≡ trace_after (answer_for o code) trace

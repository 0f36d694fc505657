-- The answer's numbers, and what the parts of the call promise each other. Assumes nothing.
use Rattle.std.specs.Prelude.{◌≡◌, List, ℕ, ◌*◌, ◌≤◌, length, Result, Ok, Err}
use Rattle.model.specs.Limits.{messages_most, tap_numbers_least}
use Rattle.model.specs.Refusal.{Out}
use Rattle.model.specs.Order.{Scenario}
use Rattle.model.specs.Answer.{refused_word}
use Rattle.model.specs.Taps.{TapNumbers, fit_word, clash_word, with_lists, tapped_for, tap_numbers_of, output_after}
use Rattle.relation.specs.Width.{width}
use Rattle.relation.specs.Order.{before, Transitive}
use Rattle.relation.specs.Scenario.{scenario_in}
use Rattle.outcome.specs.declared.Refusal.{Refusal}
use Rattle.outcome.specs.Refusals.{number_in}
use Rattle.taps.specs.declared.Taps.{Taps}
use Rattle.taps.specs.declared.Taps.TheVariants.{Fit, Clash}

-- The request's word and two values for each answer: the events written and 0 for fit; the event and 0 for clash; the refusal's number
-- and its line for refused.
abbrev pub numbers_for : Result Taps Refusal → TapNumbers
numbers_for (Ok (Fit events)) = record { word = fit_word; one = events; two = 0 }
numbers_for (Ok (Clash x)) = record { word = clash_word; one = x; two = 0 }
numbers_for (Err r) = record { word = refused_word; one = number_in r.reason; two = r.line }

-- the words and the output lent for a scenario of so many messages, whose relation is closed
pub record Lent (count : ℕ) (words output : List ℕ) : Type 0 where
  pub few : count ≤ messages_most
  pub words_long : length words ≡ 2 * messages_most * width
  pub output_long : tap_numbers_least ≤ length output
  pub closed : Transitive (2 * count) (before width words)

-- the answer for a scenario with its lists, or a refusal, and the output behind it
pub record Decides (first second : List ℕ) (o : Out Scenario) (output output_exit : List ℕ) (r : Result Taps Refusal) : Type 0 where
  pub answer : numbers_for r ≡ tap_numbers_of (tapped_for first second o)
  pub output_left : output_exit ≡ output_after (tapped_for first second o) output

-- the same for the scenario that the words hold, wherever its events are
abbrev pub DecidesFor : ℕ → List ℕ → List ℕ → List ℕ → List ℕ → List ℕ → Result Taps Refusal → Type 0
DecidesFor count words first second output output_exit r =
    (boards : List ℕ) → Decides first second (with_lists first second (scenario_in count boards words)) output output_exit r

-- The answer's numbers, and what is decided of so many rounds. Assumes nothing.
use Rattle.std.specs.Prelude.{ℕ, ◌≡◌, List, Result, Ok, Err}
use Rattle.model.specs.Answer as model
use Rattle.model.specs.Answer.{Numbers, free_word, locked_word, refused_word, numbers_of, trace_after}
use Rattle.second_walk.specs.declared.Rounds.{Rounds}
use Rattle.second_walk.specs.declared.Rounds.TheVariants.{Free, Locked}
use Rattle.outcome.specs.declared.Refusal.{Refusal}
use Rattle.outcome.specs.Refusals.{number_in}

-- the check's word and three values for each answer, and the rounds: 0 but on locked
abbrev pub numbers_for : Result Rounds Refusal → Numbers
numbers_for (Ok Free) = record { word = free_word; one = 0; two = 0; three = 0 }
numbers_for (Ok (Locked e x steps rounds)) = record { word = locked_word; one = e; two = x; three = steps }
numbers_for (Err r) = record { word = refused_word; one = number_in r.reason; two = r.line; three = 0 }

abbrev pub rounds_for : Result Rounds Refusal → ℕ
rounds_for (Ok Free) = 0
rounds_for (Ok (Locked e x steps rounds)) = rounds
rounds_for (Err r) = 0

-- an answer said of so many rounds
abbrev pub times_verdict : ℕ → model.Answer → ℕ × model.Answer
times_verdict k model.free = (0, model.free)
times_verdict k (model.locked e x ts) = (k, model.locked e x ts)
times_verdict k (model.refused number line) = (0, model.refused number line)

-- the numbers are those of the rounds and the answer, and the trace is left as it says
pub record Judges (v : ℕ × model.Answer) (trace trace_exit : List ℕ) (r : Result Rounds Refusal) : Type 0 where
  pub answer : numbers_for r ≡ numbers_of v.1
  pub how_often : rounds_for r ≡ v.0
  pub trace_left : trace_exit ≡ trace_after v.1 trace

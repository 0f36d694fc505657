-- What the parts of the check promise each other of an answer. Assumes nothing.
use Rattle.std.specs.Prelude.{ℕ, ◌≡◌, Bool, List, Result}
use Rattle.model.specs.Answer as model
use Rattle.model.specs.Choice.{ChoiceAnswer, each_free, first_locked, first_refused, choice_numbers, trace_chosen}
use Rattle.choice_answer.specs.Bridge.{numbers_for}
use Rattle.choice_answer.specs.declared.Choice.{Choice}
use Rattle.outcome.specs.declared.Refusal.{Refusal}

-- the answer where a list decides, by the verdict on its scenario
abbrev pub answer_on : List Bool → model.Answer → ChoiceAnswer
answer_on l model.free = each_free
answer_on l (model.locked e x ts) = first_locked l e x ts
answer_on l (model.refused number line) = first_refused number line

-- the numbers are those of an answer, and the trace is left as it says
pub record Judged (a : ChoiceAnswer) (trace trace_exit : List ℕ) (r : Result Choice Refusal) : Type 0 where
  pub answer : numbers_for r ≡ choice_numbers a
  pub trace_left : trace_exit ≡ trace_chosen a trace

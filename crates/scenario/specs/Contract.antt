-- What the boards and the words hold behind the call: the scenario of the text, and all that a later part asks of them.
-- Assumes nothing.
use Rattle.std.specs.Prelude.{◌≡◌, List, ℕ, ◌*◌, ◌<◌, ◌≤◌, length, get_or, Result, Ok, Err}
use Rattle.model.specs.Limits.{messages_most}
use Rattle.model.specs.Limits as limits
use Rattle.model.specs.Answer.{sheet_of}
use Rattle.relation.specs.Width.{width}
use Rattle.outcome.specs.declared.Refusal.{Refusal}
use Rattle.expansion.specs.Outcome.{outcome_of}

-- the boards and the words of a scenario of so many messages
pub record Fit (count : ℕ) (boards words : List ℕ) : Type 0 where
  pub few : count ≤ messages_most
  pub boards_long : length boards ≡ 2 * messages_most
  pub words_long : length words ≡ 2 * messages_most * width
  pub boards_below : (x : ℕ) → x < 2 * count → get_or boards x 0 < limits.boards

abbrev pub FitOn : Result ℕ Refusal → List ℕ → List ℕ → Type 0
FitOn (Ok count) boards words = Fit count boards words
FitOn (Err r) boards words = Unit {0}

-- The answer is the paper's for the text: the scenario that boards and words hold, or the refusal.
pub record SheetIn (text boards words : List ℕ) (r : Result ℕ Refusal) : Type 0 where
  pub outcome : outcome_of r boards words ≡ sheet_of text
  pub fit : FitOn r boards words

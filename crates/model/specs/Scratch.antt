-- Request (d): the relation "before" alone is in the scratch, so that how much more of it is lent changes no answer. Assumes nothing.
use Rattle.std.specs.Prelude.{ℕ, ◌≤◌, ◌≡◌, List, length}
use Rattle.model.specs.Limits.{scratch_least}
use Rattle.model.specs.Answer.{answer_of, trace_after}
use Rattle.model.specs.Replay.{replay_of}
use Rattle.model.specs.Waits.{waits_of}
use Rattle.model.specs.Choice.{choice_answer_of, trace_chosen}

-- For a text and a code, and two lengths of scratch that are not refused: the check gives the same answer and leaves the same trace, the
-- trace check the same verdict and the same numbers of what the boards wait for, and the check of choices the same answer and trace.
pub record SameOnScratch (text : List ℕ) (code m n : ℕ) : Type 0 where
  pub answer : (trace_length : ℕ) → answer_of text code m trace_length ≡ answer_of text code n trace_length
  pub trace_left : (trace : List ℕ)
      → trace_after (answer_of text code m (length trace)) trace ≡ trace_after (answer_of text code n (length trace)) trace
  pub replayed : (trace : List ℕ) → replay_of text code m trace ≡ replay_of text code n trace
  pub waits : (trace : List ℕ) → waits_of text code m trace ≡ waits_of text code n trace
  pub chosen : (trace_length : ℕ) → choice_answer_of text code m trace_length ≡ choice_answer_of text code n trace_length
  pub chosen_trace_left : (trace : List ℕ)
      → trace_chosen (choice_answer_of text code m (length trace)) trace ≡ trace_chosen (choice_answer_of text code n (length trace)) trace

abbrev pub SameOnAnyScratch : Type 0
SameOnAnyScratch = (text : List ℕ) (code m n : ℕ) → scratch_least ≤ m → scratch_least ≤ n → SameOnScratch text code m n

-- The numbers that C gets of a sheet's messages, and what the parts of the call promise each other. Assumes nothing.
use Rattle.std.specs.Prelude.{◌≡◌, ◌≤◌, List, ◌++◌, ℕ, ◌*◌, drop, Result, Ok, Err}
use Rattle.model.specs.Limits.{messages_most, rows_most}
use Rattle.model.specs.Place.{line_of}
use Rattle.outcome.specs.declared.Refusal.{Refusal}
use Rattle.outcome.specs.Refusals.{number_in}
use Rattle.model.specs.Answer.{sheet_of}
use Rattle.model.specs.Senders.{lines_met}
use Rattle.model.specs.Holdings.{HoldingNumbers, listed_word, refused_word, messages_told, messages_answer, messages_left}
use Rattle.relation.specs.Scenario.{scenario_in}
use Rattle.sheet_messages.specs.declared.SheetMessagesAnswer.{SheetMessagesAnswer}

-- the three numbers handed to C
abbrev pub numbers_in : SheetMessagesAnswer → HoldingNumbers
numbers_in r = record { word = r.word; one = r.one; two = r.two }

abbrev pub listed_as : ℕ → HoldingNumbers
listed_as count = record { word = listed_word; one = count; two = 0 }

abbrev pub refused_as : ℕ → ℕ → HoldingNumbers
refused_as number line = record { word = refused_word; one = number; two = line }

-- the numbers of an answer: so many messages listed, or the refusal
abbrev pub numbers_for : Result ℕ Refusal → HoldingNumbers
numbers_for (Ok count) = listed_as count
numbers_for (Err r) = refused_as (number_in r.reason) r.line

-- they fit 32 bits
abbrev pub Small : Result ℕ Refusal → Type 0
Small (Ok count) = count ≤ messages_most
Small (Err r) = r.line ≤ line_of rows_most

-- the first m messages stand at the start of the output, whatever their order
pub record Told (lines boards output : List ℕ) (m : ℕ) (now : List ℕ) : Type 0 where
  pub told : (count : ℕ) (words : List ℕ) → now ≡ messages_told m lines (scenario_in count boards words) ++ drop (3 * m) output

-- the answer for a sheet's scenario or its refusal, and the output after it
pub record Lists (text output output_exit : List ℕ) (r : HoldingNumbers) : Type 0 where
  pub answer : r ≡ messages_answer (sheet_of text)
  pub output_left : output_exit ≡ messages_left (sheet_of text) (lines_met text) output

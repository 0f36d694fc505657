-- The numbers that C gets of a sheet's races, and what is answered of its scenario. Assumes nothing.
use Rattle.std.specs.Prelude.{ℕ, ◌≡◌, ◌≤◌, List, length, Result, Ok, Err}
use Rattle.model.specs.Limits.{rows_most}
use Rattle.model.specs.Place.{line_of}
use Rattle.model.specs.Refusal.{Out}
use Rattle.model.specs.Order.{Scenario}
use Rattle.model.specs.Holdings.{HoldingNumbers, listed_word, refused_word, races_answer, races_left}
use Rattle.outcome.specs.declared.Refusal.{Refusal}
use Rattle.outcome.specs.Refusals.{number_in}
use Rattle.race_list.specs.declared.Told.{Told}
use Rattle.race_list.specs.Listing.{races_most}
use Rattle.sheet_races.specs.declared.SheetRacesAnswer.{SheetRacesAnswer}

-- the three numbers handed to C
abbrev pub numbers_in : SheetRacesAnswer → HoldingNumbers
numbers_in r = record { word = r.word; one = r.one; two = r.two }

abbrev pub listed_numbers : ℕ → ℕ → HoldingNumbers
listed_numbers all listed = record { word = listed_word; one = all; two = listed }

abbrev pub refused_numbers : ℕ → ℕ → HoldingNumbers
refused_numbers number line = record { word = refused_word; one = number; two = line }

-- the numbers of an answer: the races told, or the refusal
abbrev pub numbers_for : Result Told Refusal → HoldingNumbers
numbers_for (Ok t) = listed_numbers t.all t.listed
numbers_for (Err r) = refused_numbers (number_in r.reason) r.line

-- they fit 32 bits
abbrev pub Small : Result Told Refusal → Type 0
Small (Ok t) = (t.all ≤ races_most) × (t.listed ≤ races_most)
Small (Err r) = r.line ≤ line_of rows_most

-- what is answered of a sheet, accepted or refused, and left in the output
pub record Answers (sheet : Out Scenario) (code : ℕ) (output exit : List ℕ) (r : HoldingNumbers) : Type 0 where
  pub answer : r ≡ races_answer sheet code (length output)
  pub output_left : exit ≡ races_left sheet code output

-- The sheet of a place, read into the place's words. Assumes nothing.
use Rattle.std.specs.Prelude.{List, ℕ, ◌*◌, take, drop}
use Rattle.model.specs.Limits.{text_most}
use Rattle.model.specs.Dispatcher.{place_words}
use Rattle.std.specs.Prelude.{Result}
use Rattle.outcome.specs.declared.Refusal.{Refusal}
use Rattle.scenario.specs.Contract.{SheetIn}
use Rattle.places.specs.Words.{Put}

-- the first `size` bytes of the place's 8,192, as far as the slice has them
abbrev pub sheet_in : List ℕ → ℕ → ℕ → List ℕ
sheet_in sheets size place = take size (take text_most (drop (text_most * place) sheets))

-- the place's words hold the sheet's scenario, unless it is refused, and all other words are as they were
pub record ReadsSheet (sheets : List ℕ) (size place : ℕ) (words boards exit : List ℕ) (r : Result ℕ Refusal) : Type 0 where
  pub sheet : SheetIn (sheet_in sheets size place) boards (place_words place exit) r
  pub put : Put place (place_words place exit) words exit

-- A list of eight options as a number: the option of A row 0 is the highest bit, set where it is n. So the numbers come in the lists'
-- order. Assumes nothing.
use Rattle.std.specs.Prelude.{ℕ, zero, suc, ◌/◌, ◌%◌, ◌^◌, Bool, cond, ◌&&◌, ◌||◌, List, [], ◌∷◌, eqb, leb}
use Prim.Native.Char.{code}
use Rattle.model.specs.Limits.{choices_most}
use Rattle.model.specs.Expansion.{taken, chosen_more}

unfoldable pub options_in : ℕ → ℕ → List Bool
options_in zero number = []
options_in (suc n) number = eqb (number / 2 ^ n % 2) 1 ∷ options_in n number

abbrev pub options_of : ℕ → List Bool
options_of number = options_in choices_most number

-- a row that calls, by its letter
unfoldable pub is_call : ℕ → Bool
is_call letter = eqb letter (code "C") || eqb letter (code "A")

-- an A row behind the eighth
unfoldable pub is_ninth : ℕ → ℕ → Bool
is_ninth letter choices = eqb letter (code "A") && leb choices_most choices

-- the sheet that such a row calls, with so many A rows met: an A row's is the one that its option names
unfoldable pub sheet_called : ℕ → ℕ → ℕ → ℕ → ℕ → ℕ
sheet_called letter m n options choices = cond (eqb letter (code "A")) (taken (options_of options) choices m n) m

-- the A rows met behind such a row
unfoldable pub choices_behind : ℕ → ℕ → ℕ
choices_behind letter choices = chosen_more (eqb letter (code "A")) choices

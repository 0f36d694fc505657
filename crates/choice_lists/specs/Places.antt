-- The lists as numbers of eight options: each list has a place, and as many numbers as options are left to it. Assumes nothing.
use Rattle.std.specs.Prelude.{ℕ, zero, suc, ◌+◌, ◌^◌, Bool, cond, List, [], ◌∷◌}
use Rattle.model.specs.Limits.{choices_most}

-- the first of the numbers of n options that begin with a list: A row 0 is the highest bit, and m stands behind the list
unfoldable pub place_in : ℕ → List Bool → ℕ
place_in n [] = 0
place_in zero (b ∷ l) = 0
place_in (suc n) (b ∷ l) = cond b (2 ^ n) 0 + place_in n l

abbrev pub place_of : List Bool → ℕ
place_of l = place_in choices_most l

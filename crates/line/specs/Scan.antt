-- The model's lines and fields as the code scans them, structural on the bytes from a position on.
-- Assumes nothing.
use Rattle.std.specs.Prelude.{ℕ, Bool, true, false, cond, ◌||◌, List, [], ◌∷◌, eqb}
use Rattle.model.specs.Text.{Line, line_end, space}

-- the line that the bytes begin with, and the bytes behind it
unfoldable pub first_line : List ℕ → Line
first_line [] = record { bytes = []; ended = false }
first_line (b ∷ s) =
    cond (eqb b line_end) (record { bytes = []; ended = true })
    (record { bytes = b ∷ (first_line s).bytes; ended = (first_line s).ended })

unfoldable pub behind_line : List ℕ → List ℕ
behind_line [] = []
behind_line (b ∷ s) = cond (eqb b line_end) s (behind_line s)

-- the field that the bytes begin with: up to a space, a line end or the end of the text; and the bytes from there on
abbrev pub is_mark : ℕ → Bool
is_mark b = eqb b space || eqb b line_end

unfoldable pub first_field : List ℕ → List ℕ
first_field [] = []
first_field (b ∷ s) = cond (is_mark b) [] (b ∷ first_field s)

unfoldable pub behind_field : List ℕ → List ℕ
behind_field [] = []
behind_field (b ∷ s) = cond (is_mark b) (b ∷ s) (behind_field s)

-- three fields and the bytes behind their line; or anything else
pub data Parts : Type 0 where
  three : List ℕ → List ℕ → List ℕ → List ℕ → Parts
  other : Parts

-- the bytes begin with the byte b
unfoldable pub begins_with : ℕ → List ℕ → Bool
begins_with b [] = false
begins_with b (c ∷ s) = eqb c b

-- go on behind the byte b, if the bytes begin with it
unfoldable pub behind_byte : ℕ → List ℕ → (List ℕ → Parts) → Parts
behind_byte b [] f = other
behind_byte b (c ∷ s) f = cond (eqb c b) (f s) other

unfoldable pub parts_of : List ℕ → Parts
parts_of s =
    behind_byte space (behind_field s) (λ t.
    behind_byte space (behind_field t) (λ u.
    behind_byte line_end (behind_field u) (λ rest. three (first_field s) (first_field t) (first_field u) rest)))

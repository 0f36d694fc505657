-- The reader's spans, letters and numbers, as the model's. Assumes nothing.
use Rattle.std.specs.Prelude.{ℕ, ◌+◌, cond, ◌&&◌, List, [], ◌∷◌, eqb, leb}
use Rattle.std.proofs.Math.Option.{Option, none, some}
use Rattle.model.specs.Text.{digits_only, decimal}
use Rattle.line.specs.declared.Cuts.{Cuts}
use Rattle.fields.specs.declared.Span.{Span}

-- the span of the field with the given number
unfoldable pub span_of : Cuts → ℕ → Span
span_of c place =
    cond (eqb place 0) (record { from = c.at; to = c.first })
    (cond (eqb place 1) (record { from = c.first + 1; to = c.second }) (record { from = c.second + 1; to = c.end }))

-- the letter of a field of one byte; 0, which is no letter, of any other
unfoldable pub letter_of : List ℕ → ℕ
letter_of [] = 0
letter_of (b ∷ []) = b
letter_of (b ∷ c ∷ s) = 0

-- the number of the digits, up to the largest, behind digits of value n
unfoldable pub numeral : ℕ → ℕ → List ℕ → Option ℕ
numeral most n ds = cond (digits_only ds && leb (decimal n ds) most) (some (decimal n ds)) none

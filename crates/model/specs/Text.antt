-- "The sheet file": a text's lines, a line's fields, numbers, and the heading.
-- A text is the list of its bytes. Assumes nothing.
use Rattle.std.specs.Prelude.{ℕ, suc, ◌+◌, ◌*◌, ◌-◌, Bool, true, false, not, cond, ◌&&◌, List, [], ◌∷◌, eqb, leb, ltb, length}
use Prim.Native.String.{String, [] as []ˢ, ◌∷◌ as ◌∷ˢ◌}
use Prim.Native.Char.{code}
use Rattle.std.proofs.Math.Option.{Option, none, some}
use Rattle.model.specs.Limits.{number_most}
use Rattle.model.specs.Bounded.{same}

-- the bytes of a word in quotes
unfoldable pub ascii : String → List ℕ
ascii []ˢ = []
ascii (c ∷ˢ s) = code c ∷ ascii s

-- Byte 10 ends a line, and byte 32 stands between two fields.
abbrev pub line_end : ℕ
line_end = 10

abbrev pub space : ℕ
space = 32

-- a line's bytes without its end, and whether it has its end
pub record Line : Type 0 where
  pub bytes : List ℕ
  pub ended : Bool

unfoldable pub ahead_of_line : ℕ → List Line → List Line
ahead_of_line b [] = record { bytes = b ∷ []; ended = false } ∷ []
ahead_of_line b (l ∷ ls) = record { bytes = b ∷ l.bytes; ended = l.ended } ∷ ls

-- each line is ended by byte 10, and a byte 10 at the end of the text begins no further line
unfoldable pub lines_of : List ℕ → List Line
lines_of [] = []
lines_of (b ∷ text) = cond (eqb b line_end) (record { bytes = []; ended = true } ∷ lines_of text) (ahead_of_line b (lines_of text))

unfoldable pub ahead_of_field : ℕ → List (List ℕ) → List (List ℕ)
ahead_of_field b [] = (b ∷ []) ∷ []
ahead_of_field b (f ∷ fs) = (b ∷ f) ∷ fs

-- the fields of a line: one more than it has spaces, so that two spaces together make an empty field
unfoldable pub fields_of : List ℕ → List (List ℕ)
fields_of [] = [] ∷ []
fields_of (b ∷ bytes) = cond (eqb b space) ([] ∷ fields_of bytes) (ahead_of_field b (fields_of bytes))

-- Numbers are decimal, without leading zeros.
abbrev pub is_digit : ℕ → Bool
is_digit b = leb 48 b && leb b 57

unfoldable pub digits_only : List ℕ → Bool
digits_only [] = true
digits_only (d ∷ ds) = is_digit d && digits_only ds

-- the value of the digits, behind digits of value n
unfoldable pub decimal : ℕ → List ℕ → ℕ
decimal n [] = n
decimal n (d ∷ ds) = decimal (n * 10 + (d - 48)) ds

-- some digits, the first of them 0 only where it is the only one
unfoldable pub well_begun : List ℕ → Bool
well_begun [] = false
well_begun (d ∷ []) = true
well_begun (d ∷ e ∷ ds) = not (eqb d 48)

-- the number that a field holds, 0 to the largest
unfoldable pub number_up_to : ℕ → List ℕ → Option ℕ
number_up_to most f = cond (well_begun f && digits_only f && leb (decimal 0 f) most) (some (decimal 0 f)) none

-- a number of a sheet file, 0 to `number_most`
abbrev pub number_of : List ℕ → Option ℕ
number_of f = number_up_to number_most f

-- The heading: which field of each row is its kind, its one and its two.
pub record Columns : Type 0 where
  pub kind : ℕ
  pub one : ℕ
  pub two : ℕ

-- the place of a name among the fields; their number where it is not among them
unfoldable pub place_of : List ℕ → List (List ℕ) → ℕ
place_of name [] = 0
place_of name (f ∷ fs) = cond (same name f) 0 (suc (place_of name fs))

unfoldable pub columns_of : List (List ℕ) → Columns
columns_of fs = record { kind = place_of (ascii "kind") fs; one = place_of (ascii "one") fs; two = place_of (ascii "two") fs }

-- three fields, and each of the three names among them
unfoldable pub are_columns : Columns → Bool
are_columns c = ltb c.kind 3 && ltb c.one 3 && ltb c.two 3

unfoldable pub heading_of : Line → Option Columns
heading_of l =
    let fs = fields_of l.bytes in
    cond (l.ended && eqb (length fs) 3 && are_columns (columns_of fs)) (some (columns_of fs)) none

-- What a writer does to the rest of the output that it is lent. Assumes nothing.
use Rattle.std.specs.Prelude.{◌≡◌, List, ◌++◌, ℕ, ◌+◌, ◌≤◌, length, drop}
use Rattle.std.proofs.lemmas.List.Edits.{sets}
use Rattle.model.specs.Cure.{Written}

-- the text is put at a place of the rest, byte by byte, and n is the place behind it
pub record Puts (at : ℕ) (text rest exit : List ℕ) (n : ℕ) : Type 0 where
  pub bytes : exit ≡ sets rest at text
  pub next : n ≡ at + length text
  pub same : length exit ≡ length rest

-- the text stands at the start of the rest, and the bytes behind it are unchanged; n is how many they are
pub record Writes (text rest exit : List ℕ) (n : ℕ) : Type 0 where
  pub bytes : exit ≡ text ++ drop (length text) rest
  pub long : n ≡ length text
  pub room : length text ≤ length rest

abbrev pub row_of : ℕ → ℕ → ℕ → Written
row_of letter one two = record { letter = letter; one = one; two = two }

-- the most digits of a number
abbrev pub digits_most : ℕ
digits_most = 3

-- a letter, two numbers of at most three digits, two spaces and the line end
abbrev pub row_bytes_most : ℕ
row_bytes_most = 10

abbrev pub heading_bytes : ℕ
heading_bytes = 13

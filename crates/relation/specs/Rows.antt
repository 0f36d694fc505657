-- Rows of words: row y holds the predecessors of event y, an event a bit. Every definition is over any width W, the words of a row.
-- Assumes nothing.
use Rattle.std.specs.Prelude.{Bool, cond, List, [], ◌∷◌, ◌++◌, ℕ, zero, suc, ◌+◌, ◌-◌, ◌*◌, ◌/◌, ◌%◌, ◌^◌, eqb, get_or, set, drop, replicate}
use Rattle.std.specs.Int.Bits.{bit_and, bit_or}
use Rattle.relation.specs.Width.{word_bits}

-- Bit k of a word.
unfoldable pub has : ℕ → ℕ → Bool
has word k = eqb (word / 2 ^ k % 2) 1

-- Where event x stands in row y: the word, by division, and the bit in it, by remainder.
abbrev pub word_of : ℕ → ℕ → ℕ → ℕ
word_of W y x = y * W + x / word_bits

abbrev pub bit_of : ℕ → ℕ
bit_of x = x % word_bits

-- Event x is in row y.
unfoldable pub holds : ℕ → List ℕ → ℕ → ℕ → Bool
holds W words y x = has (get_or words (word_of W y x) 0) (bit_of x)

-- The other way: the word whose bits, so many of them, are p k, p (k + 1) .., and W words of such bits one after the other.
unfoldable pub word_from : ℕ → ℕ → (ℕ → Bool) → ℕ
word_from zero k p = 0
word_from (suc bits) k p = cond (p k) 1 0 + 2 * word_from bits (suc k) p

unfoldable pub row_from : ℕ → ℕ → (ℕ → Bool) → List ℕ
row_from zero k p = []
row_from (suc W) k p = word_from word_bits k p ∷ row_from W (word_bits + k) p

-- Row y gains event x.
unfoldable pub marked : ℕ → List ℕ → ℕ → ℕ → List ℕ
marked W words y x = set words (word_of W y x) (bit_or (get_or words (word_of W y x) 0) (2 ^ bit_of x))

-- Row y loses event x: of its word every bit is kept but that one.
unfoldable pub unmarked : ℕ → List ℕ → ℕ → ℕ → List ℕ
unmarked W words y x = set words (word_of W y x) (bit_and (get_or words (word_of W y x) 0) (2 ^ word_bits - 1 - 2 ^ bit_of x))

-- The first n words are zero, the rest as they were.
unfoldable pub cleared : ℕ → List ℕ → List ℕ
cleared n words = replicate n 0 ++ drop n words

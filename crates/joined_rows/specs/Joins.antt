-- Rows joined and copied, over any width W, the words of a row. Assumes nothing.
use Rattle.std.specs.Prelude.{List, ℕ, zero, suc, ◌+◌, ◌*◌, get_or, set}
use Rattle.std.specs.Int.Bits.{bit_or}

-- Each of the n words at a becomes what `op` makes of it and of the word of `other`, from b on, that stands at its place.
unfoldable pub merged : (ℕ → ℕ → ℕ) → ℕ → List ℕ → ℕ → List ℕ → ℕ → List ℕ
merged op zero words a other b = words
merged op (suc n) words a other b =
    set (merged op n words a other b) (a + n) (op (get_or words (a + n) 0) (get_or other (b + n) 0))

-- Row `to` gains row `from` of other words.
unfoldable pub joined_from : ℕ → List ℕ → ℕ → List ℕ → ℕ → List ℕ
joined_from W words to other from = merged bit_or W words (to * W) other (from * W)

-- Row `to` becomes row `from` of other words.
abbrev pub theirs : ℕ → ℕ → ℕ
theirs own other = other

unfoldable pub copied_from : ℕ → List ℕ → ℕ → List ℕ → ℕ → List ℕ
copied_from W words to other from = merged theirs W words (to * W) other (from * W)

-- Row `to` gains row `from`.
unfoldable pub joined : ℕ → List ℕ → ℕ → ℕ → List ℕ
joined W words to from = joined_from W words to words from

-- How wide a row of the relation is. The laws are proved for any width; only the code has this one.
-- Assumes nothing.
use Rattle.std.specs.Prelude.{ℕ}
use Rattle.model.specs.Limits.{row_words}

-- The words of a row.
abbrev pub width : ℕ
width = row_words

-- The bits of a word.
abbrev pub word_bits : ℕ
word_bits = 64

-- The events that have nothing left before them, and the lowest of a word. Assumes nothing.
use Rattle.std.specs.Prelude.{◌≡◌, Bool, true, false, not, ◌&&◌, List, ℕ, ◌+◌, ◌*◌, ◌<◌, ◌≤◌, Option, Some, None}
use Rattle.model.specs.Bounded.{every}
use Rattle.relation.specs.Width.{width, word_bits}
use Rattle.relation.specs.Rows.{holds}
use Rattle.run.specs.State.{in_row}

-- the bits of a row
abbrev pub row_bits : ℕ
row_bits = word_bits * width

-- no event that is left is before event k
unfoldable pub nothing_left : List ℕ → List ℕ → ℕ → Bool
nothing_left words left k = every row_bits (λ x. not (holds width words k x && in_row left x))

-- event k is left, and has nothing left before it
unfoldable pub is_free : List ℕ → List ℕ → ℕ → Bool
is_free words left k = in_row left k && nothing_left words left k

-- r is such an event of word w, and none of the word below it is
pub record LowestInWord (words left : List ℕ) (w r : ℕ) : Type 0 where
  pub found : is_free words left r ≡ true
  pub inside : r < word_bits * w + word_bits
  pub absent : (j : ℕ) → word_bits * w ≤ j → j < word_bits * w + word_bits → j < r → is_free words left j ≡ false

-- the event found is the lowest such of word w, or the word has none
abbrev pub FreeInWord : List ℕ → List ℕ → ℕ → Option ℕ → Type 0
FreeInWord words left w (Some r) = LowestInWord words left w r
FreeInWord words left w None = (j : ℕ) → word_bits * w ≤ j → j < word_bits * w + word_bits → is_free words left j ≡ false

-- A word of the events at or before a message's send. Bit b of word w stands for event 64 w + b. Assumes nothing.
use Rattle.std.specs.Prelude.{◌≡◌, Bool, ◌||◌, List, ℕ, ◌+◌, ◌*◌, ◌<◌, eqb}
use Rattle.relation.specs.Width.{width, word_bits}
use Rattle.relation.specs.Rows.{has, holds}

-- the event of a bit
abbrev pub event_at : ℕ → ℕ → ℕ
event_at w b = word_bits * w + b

-- a bit is set exactly for each event there that the test says
abbrev pub WordOf : (ℕ → Bool) → ℕ → ℕ → Type 0
WordOf test w word = (b : ℕ) → b < word_bits → has word b ≡ test (event_at w b)

-- event x is at or before e's send
abbrev pub is_reached : List ℕ → ℕ → ℕ → Bool
is_reached words e x = eqb x (2 * e) || holds width words (2 * e) x

abbrev pub ReachedWord : List ℕ → ℕ → ℕ → ℕ → Type 0
ReachedWord words e w word = WordOf (is_reached words e) w word

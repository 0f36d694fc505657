-- Two numbers behind a word, as C gets them. Assumes nothing.
use Rattle.std.specs.Prelude.{ℕ, ◌^◌, ◌<◌}

-- both fit 32 bits
pub record SmallPair (first second : ℕ) : Type 0 where
  pub one : first < 2 ^ 32
  pub two : second < 2 ^ 32

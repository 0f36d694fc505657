-- An event put before another in a closed relation, over any width W, the words of a row. Assumes nothing.
use Rattle.std.specs.Prelude.{Bool, cond, ◌||◌, List, ℕ, zero, suc, ◌+◌, ◌-◌, eqb}
use Rattle.relation.specs.Rows.{holds, marked}
use Rattle.joined_rows.specs.Joins.{joined}

-- Row b is that of event y, or holds y: with x now before y, x is before b too.
abbrev pub behind : ℕ → List ℕ → ℕ → ℕ → Bool
behind W words y b = eqb b y || holds W words b y

-- What that asks of row b: it gains row x and x.
unfoldable pub inserted_at : ℕ → List ℕ → ℕ → ℕ → ℕ → List ℕ
inserted_at W words x y b = cond (behind W words y b) (marked W (joined W words b x) b x) words

-- The same at n rows, in order.
unfoldable pub inserted_in : ℕ → List ℕ → ℕ → ℕ → ℕ → ℕ → List ℕ
inserted_in W words x y from zero = words
inserted_in W words x y from (suc n) = inserted_at W (inserted_in W words x y from n) x y (from + n)

-- Event x is put before event y, among the rows from .. to - 1. In a closed relation nothing is to be done where it is so already.
unfoldable pub inserted : ℕ → List ℕ → ℕ → ℕ → ℕ → ℕ → List ℕ
inserted W words x y from to = cond (holds W words y x) words (inserted_in W words x y from (to - from))

-- The P rows of a cured sheet, in the order in which they are written, from words whose rows of receives hold what stands directly before
-- the sends. Assumes nothing.
use Rattle.std.specs.Prelude.{cond, List, [], ◌∷◌, ◌++◌, ℕ, zero, suc, ◌+◌, ◌*◌}
use Rattle.relation.specs.Width.{width}
use Rattle.relation.specs.Rows.{holds}

-- the P rows of event x with the sends of the messages below e; and those of the events below x: by x and then y
unfoldable pub orders_from : List ℕ → ℕ → ℕ → List (ℕ × ℕ)
orders_from words x zero = []
orders_from words x (suc e) = orders_from words x e ++ cond (holds width words (2 * e + 1) x) ((x, 2 * e) ∷ []) []

unfoldable pub orders_to : List ℕ → ℕ → ℕ → List (ℕ × ℕ)
orders_to words count zero = []
orders_to words count (suc x) = orders_to words count x ++ orders_from words x count

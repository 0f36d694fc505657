-- The links of a list: each member is put before the next, in a relation that is kept closed. Assumes nothing.
use Rattle.std.specs.Prelude.{List, [], ◌∷◌, ℕ, ◌*◌, ◌≤◌, length}
use Rattle.relation.specs.Width.{width, word_bits}
use Rattle.closure.specs.Insertion.{inserted}

-- the words have a row for each of n events, and a row has a bit for each
pub record Room (n : ℕ) (words : List ℕ) : Type 0 where
  pub rows : n * width ≤ length words
  pub bits : n ≤ word_bits * width

-- the members of a list behind event a, linked one to the next
unfoldable pub chained : ℕ → ℕ → List ℕ → ℕ → List ℕ → List ℕ
chained W n words a [] = words
chained W n words a (b ∷ rest) = chained W n (inserted W words a b 0 n) b rest

-- the words with the links of a list
unfoldable pub linked_by : ℕ → ℕ → List ℕ → List ℕ → List ℕ
linked_by W n [] words = words
linked_by W n (a ∷ rest) words = chained W n words a rest

-- The receivers permitted to a sender, as a set: bit b is board b. Assumes nothing.
use Rattle.std.specs.Prelude.{ℕ, ◌+◌, ◌*◌, ◌<◌, ◌≡◌, Bool, not, cond, ◌&&◌, List, eqb, get_or}
use Rattle.model.specs.Limits.{boards}
use Rattle.model.specs.Senders.{Rule, pair_of, in_set, permits}

-- one rule more: of a pair that it has its verdict decides, and any other stays as it was
pub record Decided (receivers from to verdict sender r : ℕ) : Type 0 where
  pub says : (b : ℕ) → b < boards → in_set r b ≡ cond (in_set from sender && in_set to b) (eqb verdict 1) (in_set receivers b)

-- the set is that of the receivers that the rules permit the sender
pub record PermittedTo (rules : List Rule) (sender set : ℕ) : Type 0 where
  pub says : (b : ℕ) → b < boards → in_set set b ≡ permits rules (pair_of sender b)

-- and so for each sender
pub record PermittedBy (rules : List Rule) (sets : List ℕ) : Type 0 where
  pub each : (a : ℕ) → a < boards → PermittedTo rules a (get_or sets a 0)

-- message m goes to a receiver that its sender is not permitted
unfoldable pub is_forbidden_in : List ℕ → List ℕ → ℕ → Bool
is_forbidden_in sets on m = not (in_set (get_or sets (get_or on (2 * m) 0) 0) (get_or on (2 * m + 1) 0))

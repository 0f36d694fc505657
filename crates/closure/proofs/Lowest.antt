-- What the loop of the search for an event in its own row keeps, turn by turn: none of the rows passed holds its own event.
-- Assumes nothing.
use mathlib.Core.Path.{◌≡◌, refl, sym, ap, ◌∙◌}
use mathlib.Core.Bool.{Bool, true, false}
use mathlib.Core.List.{List}
use mathlib.Core.Option.{none, some}
use Prim.Native.Nat.{ℕ, ◌+◌, ◌<◌, ◌≤◌}
use native.Mathlib.Nat.{le_antisymm}
use native.Mathlib.Numerals.{add-one}
use Rattle.model.specs.Bounded.{lowest}
use Rattle.model.proofs.Bounded.{lowest_hit, lowest_miss}
use Rattle.relation.specs.Rows.{holds}
use Rattle.relation.specs.Own.{is_own}

module _ (W : ℕ) (l : List ℕ) where
  pub own_start : lowest 0 (is_own W l) ≡ none
  unfolding lowest
  own_start = refl

  pub own_here : (n k : ℕ) (r : Bool) → r ≡ holds W l k k → r ≡ true → lowest k (is_own W l) ≡ none → k < n → some k ≡ lowest n (is_own W l)
  own_here n k r e t passed h = sym (lowest_hit n k (is_own W l) passed (sym e ∙ t) h)

  pub own_not_here : (k : ℕ) (r : Bool) → r ≡ holds W l k k → r ≡ false → lowest k (is_own W l) ≡ none → lowest (k + 1) (is_own W l) ≡ none
  own_not_here k r e t passed = rw add-one (lowest_miss k (is_own W l) passed (sym e ∙ t))

  pub own_nowhere : (n k : ℕ) → lowest k (is_own W l) ≡ none → k ≤ n → n ≤ k → none ≡ lowest n (is_own W l)
  own_nowhere n k passed p q = sym (ap (λ (m : ℕ). lowest m (is_own W l)) (le_antisymm q p) ∙ passed)

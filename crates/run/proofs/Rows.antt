-- A row that was marked or unmarked, as row 0 of the relation, is that row with an event besides, or without it. Assumes nothing.
use mathlib.Core.Path.{◌≡◌, ap, ◌∙◌}
use mathlib.Core.List.{List}
use Prim.Native.Nat.{ℕ, ◌*◌, ◌<◌}
use native.Mathlib.Omega.{arith}
use lib.ListN.{length}
use Rattle.model.specs.Limits.{messages_most}
use Rattle.relation.specs.Width.{width}
use Rattle.relation.specs.Rows.{marked, unmarked}
use Rattle.relation.proofs.Alone.{marked_alone, unmarked_alone}
use Rattle.run.specs.State.{in_row, With, Without}

module _ (row r : List ℕ) (x : ℕ) where
  pub gains : r ≡ marked width row 0 x → x < 2 * messages_most → length row ≡ width → With row x r
  gains e few long k = ap (λ (l : List ℕ). in_row l k) e ∙ marked_alone width row x (omega arith) k

  pub loses : r ≡ unmarked width row 0 x → x < 2 * messages_most → length row ≡ width → Without row x r
  loses e few long k = ap (λ (l : List ℕ). in_row l k) e ∙ unmarked_alone width row x (omega arith) k

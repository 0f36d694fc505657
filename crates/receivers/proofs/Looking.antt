-- What the look at the messages keeps: none of those passed is forbidden. Assumes nothing.
use Prim.Native.Nat.{ℕ, ◌+◌, ◌*◌, ◌<◌, ◌≤◌}
use native.Mathlib.Nat.{le_antisymm}
use native.Mathlib.Numerals.{add-one}
use native.Mathlib.Omega.{arith}
use mathlib.Core.Path.{◌≡◌, refl, sym, ◌∙◌, ap, subst}
use mathlib.Core.Bool.{Bool, true, false, not}
use mathlib.Core.List.{List}
use mathlib.Core.Option.{none, some}
use lib.ListN.{get_or}
use mir.Syntax.{w64}
use mir.Val.{Fits}
use Rattle.model.specs.Limits.{boards}
use Rattle.model.specs.Bounded.{lowest}
use Rattle.model.specs.Senders.{in_set}
use Rattle.model.proofs.Bounded.{lowest_hit, lowest_miss}
use Rattle.board.specs.Boards.{BoardsBelow}
use Rattle.receivers.specs.Permitted.{is_forbidden_in}

module _ (sets on : List ℕ) where
  pub passed_none : lowest 0 (is_forbidden_in sets on) ≡ none
  unfolding lowest
  passed_none = refl

  pub on_a_board : (count m sender : ℕ) → BoardsBelow count on → sender ≡ get_or on (2 * m) 0 → m < count → sender < boards
  on_a_board count m sender below e l = subst (λ (b : ℕ). b < boards) (sym e) (below (2 * m) (omega arith))

  pub board_fits : (count m sender : ℕ) → BoardsBelow count on → sender ≡ get_or on (2 * m) 0 → m < count → Fits w64 (sender * 2)
  board_fits count m sender below e l = omega (arith, on_a_board count m sender below e l)

  -- the test of message m, as its parts were read
  module _ (m sender receiver : ℕ) (r : Bool) (s : sender ≡ get_or on (2 * m) 0) (t : receiver ≡ get_or on (2 * m + 1) 0)
      (e : r ≡ in_set (get_or sets sender 0) receiver) (passed : lowest m (is_forbidden_in sets on) ≡ none) where
    tested : is_forbidden_in sets on m ≡ not r
    unfolding is_forbidden_in
    tested = rw (← s, ← t, ← e)

    pub forbidden_here : (count : ℕ) → not r ≡ true → m < count → some m ≡ lowest count (is_forbidden_in sets on)
    forbidden_here count f l = sym (lowest_hit count m (is_forbidden_in sets on) passed (tested ∙ f) l)

    pub permitted_here : not r ≡ false → lowest (m + 1) (is_forbidden_in sets on) ≡ none
    permitted_here f = rw add-one (lowest_miss m (is_forbidden_in sets on) passed (tested ∙ f))

  pub forbidden_nowhere : (count m : ℕ) → lowest m (is_forbidden_in sets on) ≡ none → m ≤ count → count ≤ m → none ≡ lowest count (is_forbidden_in sets on)
  forbidden_nowhere count m passed p q = sym (ap (λ (k : ℕ). lowest k (is_forbidden_in sets on)) (le_antisymm q p) ∙ passed)

-- The search for the lowest faulty receiver. Assumes nothing.
use Prim.Native.Nat.{ℕ, ◌+◌, ◌≤◌, ◌<◌}
use native.Mathlib.Numerals.{add-one}
use native.Mathlib.Omega.{arith}
use mathlib.Core.Path.{◌≡◌, refl, sym, ◌∙◌}
use mathlib.Core.Bool.{Bool, true, false, not}
use mathlib.Core.Option.{none, some}
use Rattle.relation.specs.Rows.{has}
use Rattle.relation.proofs.Bits.{has_zero}
use Rattle.model.specs.Limits.{boards, set_most}
use Rattle.model.specs.Bounded.{every, lowest}
use Rattle.model.specs.Senders.{in_set}
use Rattle.model.proofs.Bounded.{every_at, lowest_hit, lowest_miss}
use Rattle.model.proofs.Senders.{none_of}
use Rattle.senders.specs.Judgement.{is_fault}

-- one receiver
pub fault_out : (once twice b : ℕ) (r : Bool) → r ≡ in_set once b → r ≡ false → not r ≡ is_fault once twice b
unfolding is_fault
fault_out once twice b r p h = rw (← p, h)

pub fault_in : (once twice b : ℕ) (r r' : Bool) → r ≡ in_set once b → r ≡ true → r' ≡ in_set twice b → r' ≡ is_fault once twice b
unfolding is_fault
fault_in once twice b r r' p h q = rw (← p, h, q)

-- all boards once, and none twice
all_boards : every boards (λ b. in_set set_most b) ≡ true
unfolding every in_set
all_boards = refl

no_boards : (b : ℕ) → in_set 0 b ≡ false
unfolding in_set has
no_boards b = has_zero b

pub fault_none : (once twice : ℕ) → once ≡ set_most → twice ≡ 0 → none ≡ lowest boards (is_fault once twice)
unfolding is_fault
fault_none once twice e z =
    sym (none_of boards (is_fault once twice) (λ b l. rw (e, z, every_at boards (λ k. in_set set_most k) all_boards b l, no_boards b)))

-- the search, receiver by receiver
pub record Searching (once twice i : ℕ) : Type 0 where
  pub below : i ≤ boards
  pub none : lowest i (is_fault once twice) ≡ none

pub fault_begin : (once twice : ℕ) → Searching once twice 0
unfolding lowest
fault_begin once twice = record { below = omega arith; none = refl }

module _ (once twice i : ℕ) (r : Bool) (s : Searching once twice i) (h : i < boards) (p : r ≡ is_fault once twice i) where
  pub fault_found : r ≡ true → some i ≡ lowest boards (is_fault once twice)
  fault_found t = sym (lowest_hit boards i (is_fault once twice) s.none (sym p ∙ t) h)

  pub fault_more : r ≡ false → Searching once twice (i + 1)
  fault_more f = record { below = omega arith; none = rw (add-one i) (lowest_miss i (is_fault once twice) s.none (sym p ∙ f)) }

pub fault_end : (once twice i : ℕ) → Searching once twice i → boards ≤ i → none ≡ lowest boards (is_fault once twice)
fault_end once twice i s h =
    let e : i ≡ boards = omega arith in
    let n : lowest boards (is_fault once twice) ≡ none = rw e at s.none in
    sym n

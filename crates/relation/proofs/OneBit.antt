-- One bit of one word of a list set, or cleared: what that makes of each bit of each word. Assumes nothing.
use mathlib.Core.Path.{◌≡◌, refl}
use mathlib.Core.Bool.{not, ◌&&◌, ◌||◌, or-false, and-true}
use mathlib.Core.List.{List}
use Prim.Native.Nat.{ℕ, ◌-◌, ◌^◌, ◌<◌}
use native.Mathlib.Decide.{ℕ_discrete}
use lib.Bits.{bit_and, bit_or}
use lib.Dec.{eqb}
use lib.ListN.{length, get_or, set}
use lib.Pow.{pow-lt}
use lib.Seq.{get_or-set_same, get_or-set_other}
use borrow.Author.Tests.{eq-eqb, ne_eqb}
use Rattle.relation.specs.Width.{word_bits}
use Rattle.relation.specs.Rows.{has}
use Rattle.relation.proofs.Bits.{has_or, has_power}
use Rattle.relation.proofs.Words.{has_and, has_not}

module _ (l : List ℕ) (w b : ℕ) (inside : w < length l) where
  pub bit_set : (v k : ℕ) → has (get_or (set l w (bit_or (get_or l w 0) (2 ^ b))) v 0) k ≡ (has (get_or l v 0) k || eqb v w && eqb k b)
  bit_set v k = go (ℕ_discrete v w)
    where
      go : Dec (v ≡ w) → has (get_or (set l w (bit_or (get_or l w 0) (2 ^ b))) v 0) k ≡ (has (get_or l v 0) k || eqb v w && eqb k b)
      go (yes e) = rw (e, get_or-set_same l w (bit_or (get_or l w 0) (2 ^ b)) 0 inside, has_or, has_power, eq-eqb w w refl)
      go (no n) = rw (get_or-set_other l w v (bit_or (get_or l w 0) (2 ^ b)) 0 n, ne_eqb v w n, or-false)

  pub bit_cleared : b < word_bits → (v k : ℕ) → k < word_bits
      → has (get_or (set l w (bit_and (get_or l w 0) (2 ^ word_bits - 1 - 2 ^ b))) v 0) k ≡ (has (get_or l v 0) k && not (eqb v w && eqb k b))
  bit_cleared few v k small = go (ℕ_discrete v w)
    where
      go : Dec (v ≡ w) → has (get_or (set l w (bit_and (get_or l w 0) (2 ^ word_bits - 1 - 2 ^ b))) v 0) k ≡ (has (get_or l v 0) k && not (eqb v w && eqb k b))
      go (yes e) =
          rw (e, get_or-set_same l w (bit_and (get_or l w 0) (2 ^ word_bits - 1 - 2 ^ b)) 0 inside, has_and, has_not k word_bits (2 ^ b) small (pow-lt {j = word_bits} few), has_power, eq-eqb w w refl)
      go (no n) = rw (get_or-set_other l w v (bit_and (get_or l w 0) (2 ^ word_bits - 1 - 2 ^ b)) 0 n, ne_eqb v w n, and-true)

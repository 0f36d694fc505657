-- The bits of a word: of zero, of a power of two, of the or of two words.
-- Assumes nothing.
use mathlib.Core.Path.{◌≡◌, refl, ap, ◌∙◌}
use mathlib.Core.Bool.{Bool, true, false, ◌||◌}
use Prim.Native.Nat.{ℕ, zero, suc, ◌+◌, ◌-◌, ◌*◌, ◌/◌, ◌%◌, ◌^◌, ◌<◌}
use native.Mathlib.Nat.{mod-lt, one-mul, div-eq_of_lt, div_self, mul-mod_left, zero-div, zero-lt-suc}
use native.Mathlib.Decide.{ℕ_discrete, dec_lt}
use native.Mathlib.Omega.{arith}
use lib.Dec.{eqb}
use lib.Bits.{bit_or, or_shr, or_mod}
use lib.Pow.{pow_pos, pow-lt, pow-add, shl_exact, shl-shr}
use borrow.Author.Tests.{eq-eqb, ne_eqb}
use Rattle.relation.specs.Width.{word_bits}
use Rattle.relation.specs.Rows.{has, bit_of}

pub has_zero : (k : ℕ) → has 0 k ≡ false
unfolding has
has_zero k = rw (zero-div (2 ^ k))

-- an operation on words, digit by digit: the test that its four digits give
pub by_digits : (op : ℕ → ℕ → ℕ) (f : Bool → Bool → Bool)
    → (eqb (op 0 0) 1 ≡ f false false) × (eqb (op 0 1) 1 ≡ f false true) × (eqb (op 1 0) 1 ≡ f true false) × (eqb (op 1 1) 1 ≡ f true true)
    → (u v k : ℕ) → op u v / 2 ^ k ≡ op (u / 2 ^ k) (v / 2 ^ k) → op (u / 2 ^ k) (v / 2 ^ k) % 2 ≡ op (u / 2 ^ k % 2) (v / 2 ^ k % 2)
    → has (op u v) k ≡ f (has u k) (has v k)
unfolding has
by_digits op f four u v k shifted parted =
    ap (λ (n : ℕ). eqb (n % 2) 1) shifted ∙ ap (λ (n : ℕ). eqb n 1) parted
    ∙ digits (u / 2 ^ k % 2) (v / 2 ^ k % 2) (mod-lt _ (zero-lt-suc 1)) (mod-lt _ (zero-lt-suc 1))
  where
    digits : (p q : ℕ) → p < 2 → q < 2 → eqb (op p q) 1 ≡ f (eqb p 1) (eqb q 1)
    digits zero zero h g = four.0
    digits zero (suc zero) h g = four.1
    digits zero (suc (suc q)) h g = absurd (omega arith)
    digits (suc zero) zero h g = four.2
    digits (suc zero) (suc zero) h g = four.3
    digits (suc zero) (suc (suc q)) h g = absurd (omega arith)
    digits (suc (suc p)) q h g = absurd (omega arith)

pub has_or : (u v k : ℕ) → has (bit_or u v) k ≡ (has u k || has v k)
has_or u v k = by_digits bit_or ◌||◌ (refl, refl, refl, refl) u v k (or_shr u v k) (or_mod (u / 2 ^ k) (v / 2 ^ k) 1)

-- the power of a greater number is even behind the shift
above : (j k : ℕ) → k < j → 2 ^ j / 2 ^ k % 2 ≡ 0
above j k h =
    ap (λ (n : ℕ). 2 ^ n / 2 ^ k % 2) split ∙ ap (λ (n : ℕ). n / 2 ^ k % 2) (pow-add 2 (j - k - 1 + 1) k)
    ∙ ap (λ (n : ℕ). n % 2) (shl-shr (2 ^ (j - k - 1 + 1)) k)
    ∙ ap (λ (n : ℕ). n % 2) (pow-add 2 (j - k - 1) 1)
    ∙ mul-mod_left (2 ^ (j - k - 1)) 2
  where
    split : j ≡ j - k - 1 + 1 + k
    split = omega arith

pub has_power : (j k : ℕ) → has (2 ^ j) k ≡ eqb k j
unfolding has
has_power j k = go (ℕ_discrete k j) (dec_lt k j)
  where
    go : Dec (k ≡ j) → Dec (k < j) → eqb (2 ^ j / 2 ^ k % 2) 1 ≡ eqb k j
    go (yes e) d = rw (e, div_self (pow_pos j), eq-eqb j j refl)
    go (no n) (yes h) = rw (above j k h, ne_eqb k j n)
    go (no n) (no g) = rw (div-eq_of_lt (pow-lt {i = j} {j = k} (omega arith)), ne_eqb k j n)

-- the code's mask of an event, one shifted, is that power: no bit is shifted out
pub mask_power : (x : ℕ) → 1 * 2 ^ bit_of x % 2 ^ word_bits ≡ 2 ^ bit_of x
mask_power x = shl_exact 1 (bit_of x) word_bits (omega arith) (omega arith) ∙ one-mul (2 ^ bit_of x)

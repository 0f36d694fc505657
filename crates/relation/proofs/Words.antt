-- The bits of a word: of an and, of a complement, behind a shift either way; that a word is zero where none of its bits is set, and that none
-- is set below its trailing zeros; and the bits of a row that stands by itself. Assumes nothing.
use mathlib.Core.Path.{◌≡◌, refl, sym, ◌∙◌, ap, subst}
use mathlib.Core.Bool.{Bool, true, false, not, ◌&&◌, ◌||◌}
use mathlib.Core.List.{List}
use Prim.Native.Nat.{ℕ, zero, suc, ◌+◌, ◌-◌, ◌*◌, ◌/◌, ◌%◌, ◌^◌, ◌<◌, ◌≤◌}
use native.Mathlib.Nat.{lt-suc_self, lt_of_lt_of_le, le_step, pow-suc, div-one, div-lt_iff_lt-mul, zero-mul, zero-add, not-suc-le-zero, le_of_suc-le-suc}
use native.Mathlib.Decide.{dec_lt}
use native.Mathlib.Omega.{arith}
use lib.Arith.{lt-one}
use lib.Bits.{bit_and, and_shr, and_mod}
use lib.Count.{count_trailing_zeros, under}
use lib.Dec.{eqb}
use lib.ListN.{get_or}
use lib.Pow.{pow_pos, pow_mono, shl-shr, shr-shr, field, mod-mod-pow}
use borrow.Author.Tests.{eqb-false}
use Rattle.model.specs.Bounded.{every}
use Rattle.model.proofs.Bounded.{every_at, not_both}
use Rattle.relation.specs.Width.{word_bits}
use Rattle.relation.specs.Rows.{has, holds}
use Rattle.relation.proofs.Bits.{by_digits}

-- of two tests of which neither holds, each fails
pub or_left_false : (a b : Bool) → (a || b) ≡ false → a ≡ false
or_left_false true b t = t
or_left_false false b t = refl

pub or_right_false : (a b : Bool) → (a || b) ≡ false → b ≡ false
or_right_false true true t = t
or_right_false true false t = refl
or_right_false false b t = t

pub has_and : (u v k : ℕ) → has (bit_and u v) k ≡ (has u k && has v k)
has_and u v k = by_digits bit_and ◌&&◌ (refl, refl, refl, refl) u v k (and_shr u v k) (and_mod (u / 2 ^ k) (v / 2 ^ k) 1)

-- of two digits that make one, one is set
other : (p q : ℕ) → p + q ≡ 1 → eqb p 1 ≡ not (eqb q 1)
other zero zero e = absurd (omega arith)
other zero (suc zero) e = refl
other zero (suc (suc q)) e = absurd (omega arith)
other (suc zero) zero e = refl
other (suc zero) (suc q) e = absurd (omega arith)
other (suc (suc p)) q e = absurd (omega arith)

pub has_not : (k n x : ℕ) → k < n → x < 2 ^ n → has (2 ^ n - 1 - x) k ≡ not (has x k)
unfolding has
has_not k zero x h g = absurd (omega arith)
has_not zero (suc n) x h g =
    let e : 2 ^ suc n ≡ 2 ^ n * 2 = pow-suc 2 n in
    rw (div-one, div-one) (other ((2 ^ suc n - 1 - x) % 2) (x % 2) (omega arith))
has_not (suc k) (suc n) x h g =
    let e : 2 ^ suc n ≡ 2 ^ n * 2 = pow-suc 2 n in
    let half : (2 ^ suc n - 1 - x) / 2 ≡ 2 ^ n - 1 - x / 2 = omega arith in
    let one : suc k ≡ 1 + k = omega arith in
    rw (one, ← shr-shr (2 ^ suc n - 1 - x) 1 k, ← shr-shr x 1 k, half) (has_not k n (x / 2) (omega arith) (omega arith))

-- a word that is not zero has a bit
pub some_bit : (n w : ℕ) → w < 2 ^ n → (w ≡ 0 → ⊥) → (k : ℕ) × (k < n) × (has w k ≡ true)
unfolding has
some_bit zero w h z = absurd (z (lt-one h))
some_bit (suc n) w h z = go (eqb (w / 2 ^ n % 2) 1) refl (λ g. some_bit n w g z)
  where
    go : (b : Bool) → eqb (w / 2 ^ n % 2) 1 ≡ b → (w < 2 ^ n → (k : ℕ) × (k < n) × (eqb (w / 2 ^ k % 2) 1 ≡ true))
        → (k : ℕ) × (k < suc n) × (eqb (w / 2 ^ k % 2) 1 ≡ true)
    go true e below = (n, lt-suc_self n, e)
    go false e below =
        let p : 2 ^ suc n ≡ 2 ^ n * 2 = pow-suc 2 n in
        let top : w / 2 ^ n < 2 = (div-lt_iff_lt-mul (pow_pos n)).1 (omega arith) in
        let clear : w / 2 ^ n % 2 ≡ 1 → ⊥ = eqb-false (w / 2 ^ n % 2) 1 e in
        let g : w < 1 * 2 ^ n = (div-lt_iff_lt-mul (pow_pos n)).0 (omega arith) in
        let r = below (omega arith) in (r.0, le_step r.1, r.2)

-- the bits of a word behind a shift
pub shifted : (w b i : ℕ) → has w (b + i) ≡ has (w / 2 ^ b) i
unfolding has
shifted w b i = rw (shr-shr w b i)

pub half : (n j : ℕ) → has n (suc j) ≡ has (n / 2) j
half n j =
    let one : suc j ≡ 1 + j = omega arith in
    rw one (shifted n 1 j)

-- no bit below a word's trailing zeros is set
lowest_digit : (n : ℕ) → n % 2 ≡ 0 → has n 0 ≡ false
unfolding has
lowest_digit n e = rw (div-one, e)

pub trailing_clear : (k n i : ℕ) → i < count_trailing_zeros k n → has n i ≡ false
unfolding count_trailing_zeros
trailing_clear zero n i h = absurd (not-suc-le-zero h)
trailing_clear (suc k) n i h = go (n % 2) refl i h (λ j g. trailing_clear k (n / 2) j g)
  where
    go : (d : ℕ) → n % 2 ≡ d → (i : ℕ) → i < under d (count_trailing_zeros k (n / 2)) → ((j : ℕ) → j < count_trailing_zeros k (n / 2) → has (n / 2) j ≡ false)
        → has n i ≡ false
    go zero e zero h rest = lowest_digit n e
    go zero e (suc j) h rest = half n j ∙ rest j (le_of_suc-le-suc h)
    go (suc d) e i h rest = absurd (not-suc-le-zero h)

-- and the bit at them is, unless the word is zero
lowest_set : (n : ℕ) → n % 2 ≡ 1 → has n 0 ≡ true
unfolding has
lowest_set n e = rw (div-one, e)

pub trailing_set : (k n : ℕ) → n < 2 ^ k → (n ≡ 0 → ⊥) → has n (count_trailing_zeros k n) ≡ true
unfolding count_trailing_zeros
trailing_set zero n h z = absurd (z (lt-one h))
trailing_set (suc k) n h z =
    let e : 2 ^ suc k ≡ 2 ^ k * 2 = pow-suc 2 k in
    go (n % 2) refl (λ zero-digit. trailing_set k (n / 2) (omega arith) (λ y. z (omega arith)))
  where
    go : (d : ℕ) → n % 2 ≡ d → (n % 2 ≡ 0 → has (n / 2) (count_trailing_zeros k (n / 2)) ≡ true) → has n (under d (count_trailing_zeros k (n / 2))) ≡ true
    go zero e rest = half n (count_trailing_zeros k (n / 2)) ∙ rest e
    go (suc d) e rest = lowest_set n (omega arith)

-- a word below 2 ^ n that is not zero has fewer than n of them
pub trailing_below : (n w : ℕ) → w < 2 ^ n → (w ≡ 0 → ⊥) → count_trailing_zeros word_bits w < n
trailing_below n w small z = go (some_bit n w small z)
  where
    go : (k : ℕ) × (k < n) × (has w k ≡ true) → count_trailing_zeros word_bits w < n
    go (k, h, t) = near (dec_lt k (count_trailing_zeros word_bits w))
      where
        near : Dec (k < count_trailing_zeros word_bits w) → count_trailing_zeros word_bits w < n
        near (yes l) = not_both (has w k) t (trailing_clear word_bits w k l)
        near (no l) = omega arith

-- a word shifted by one: no bit comes to the lowest place, and every other place has the bit below it
has_even : (n : ℕ) → has (n * 2) 0 ≡ false
has_even n = lowest_digit (n * 2) (omega arith)

has_twice : (n j : ℕ) → has (n * 2) (suc j) ≡ has n j
has_twice n j =
    let e : n * 2 / 2 ≡ n = omega arith in
    half (n * 2) j ∙ rw e

-- and the bits that stay in the word are not touched by what is shifted out
pub has_mod : (n k b : ℕ) → b < k → has (n % 2 ^ k) b ≡ has n b
unfolding has
has_mod n k b h =
    let split : k - b - 1 + 1 + b ≡ k = omega arith in
    let parted : n % 2 ^ k / 2 ^ b ≡ n / 2 ^ b % 2 ^ (k - b - 1 + 1) =
    subst (λ (i : ℕ). n % 2 ^ i / 2 ^ b ≡ n / 2 ^ b % 2 ^ (k - b - 1 + 1)) split (field n (k - b - 1 + 1) b) in
    rw (parted, mod-mod-pow (n / 2 ^ b) (k - b - 1) 1)

pub shift_lowest : (n : ℕ) → has (n * 2 % 2 ^ word_bits) 0 ≡ false
shift_lowest n = has_mod (n * 2) word_bits 0 (omega arith) ∙ has_even n

pub shift_higher : (n j : ℕ) → suc j < word_bits → has (n * 2 % 2 ^ word_bits) (suc j) ≡ has n j
shift_higher n j h = has_mod (n * 2) word_bits (suc j) h ∙ has_twice n j

-- shifted up by any number of places
pub shifted_up : (n k i : ℕ) → k + i < word_bits → has (n * 2 ^ k % 2 ^ word_bits) (k + i) ≡ has n i
shifted_up n k i h = has_mod (n * 2 ^ k) word_bits (k + i) h ∙ shifted (n * 2 ^ k) k i ∙ ap (λ (m : ℕ). has m i) (shl-shr n k)

-- a number below 2 ^ m has no bit at or above m
pub has_beyond : (n m b : ℕ) → n < 2 ^ m → m ≤ b → has n b ≡ false
unfolding has
has_beyond n m b h l =
    let small : n < 2 ^ b = lt_of_lt_of_le h (pow_mono l) in
    let none : n / 2 ^ b < 1 = (div-lt_iff_lt-mul (pow_pos b)).1 (omega arith) in
    let z : n / 2 ^ b ≡ 0 = omega arith in
    rw z

-- the word whose bits are those of the even events
abbrev pub even_bits : ℕ
even_bits = 6148914691236517205

pub has_even_bits : (b : ℕ) → b < word_bits → has even_bits b ≡ eqb (b % 2) 0
unfolding every has
has_even_bits b h = agrees (has even_bits b) (eqb (b % 2) 0) (every_at word_bits (λ k. agree (has even_bits k) (eqb (k % 2) 0)) refl b h)
  where
    agree : Bool → Bool → Bool
    agree true q = q
    agree false q = not q

    agrees : (p q : Bool) → agree p q ≡ true → p ≡ q
    agrees true q t = sym t
    agrees false true t = t
    agrees false false t = refl

-- the bits of word i of a row
pub word_holds : (W : ℕ) (l : List ℕ) (y i b : ℕ) → b < word_bits → holds W l y (word_bits * i + b) ≡ has (get_or l (y * W + i) 0) b
unfolding holds
word_holds W l y i b h =
    let d : (word_bits * i + b) / word_bits ≡ i = omega arith in
    let m : (word_bits * i + b) % word_bits ≡ b = omega arith in
    rw (d, m)

-- a row by itself begins at word 0
pub alone_row : (W : ℕ) (row : List ℕ) (k : ℕ) → holds W row 0 k ≡ has (get_or row (k / word_bits) 0) (k % word_bits)
unfolding holds
alone_row W row k = rw (zero-mul, zero-add)

-- the words of the events that are not in a row
abbrev pub flipped : List ℕ → ℕ → ℕ
flipped row j = 2 ^ word_bits - 1 - get_or row j 0

pub has_flipped : (row : List ℕ) → ((j : ℕ) → get_or row j 0 < 2 ^ word_bits)
    → (k : ℕ) → has (flipped row (k / word_bits)) (k % word_bits) ≡ not (has (get_or row (k / word_bits) 0) (k % word_bits))
has_flipped row small k = has_not (k % word_bits) word_bits (get_or row (k / word_bits) 0) (omega arith) (small (k / word_bits))

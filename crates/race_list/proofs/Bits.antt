-- The set bits of a word, one by one from the lowest. Assumes nothing.
use mathlib.Core.Path.{◌≡◌, refl, sym, ◌∙◌, ap}
use mathlib.Core.Logic.{⊎_elim}
use mathlib.Core.Bool.{Bool, true, false, cond, not, ◌&&◌, and-false, and-true}
use mathlib.Core.List.{[], ◌∷◌}
use Prim.Native.Nat.{ℕ, zero, suc, ◌+◌, ◌-◌, ◌*◌, ◌/◌, ◌%◌, ◌^◌, ◌<◌, ◌≤◌}
use native.Mathlib.Nat.{pow-suc, not-suc-le-zero}
use native.Mathlib.Decide.{ℕ_discrete}
use native.Mathlib.Omega.{arith}
use lib.Arith.{lt-one}
use lib.Bits.{bit_and}
use lib.Count.{count_trailing_zeros, under, ones, ones-le, trailing_le}
use lib.Dec.{eqb}
use lib.ListN.{length, length-append}
use borrow.Author.Tests.{eq-eqb, ne_eqb}
use Rattle.model.specs.Bounded.{how_many}
use Rattle.model.proofs.Bounded.{apart, many_most}
use Rattle.relation.specs.Width.{word_bits}
use Rattle.relation.specs.Rows.{has}
use Rattle.relation.proofs.Bits.{has_zero}
use Rattle.relation.proofs.Words.{has_and, half, trailing_clear, trailing_set, trailing_below}
use Rattle.relation.proofs.Ones.{ones_bits}
use Rattle.race_list.specs.Listing.{bits_listed}

-- a word has at most so many zeros at its end, and so many ones
pub zeros_few : (word bit : ℕ) → bit ≡ count_trailing_zeros word_bits word → bit ≤ word_bits
zeros_few word bit e = omega (arith, e, trailing_le word_bits word)

pub ones_few : (word r : ℕ) → word < 2 ^ word_bits → r ≡ ones word → r ≤ word_bits
ones_few word r small e = omega (arith, e, ones-le word_bits word small)

-- the lowest bit of a word, by its remainder
lowest : (n d : ℕ) → n % 2 ≡ d → has n 0 ≡ eqb d 1
unfolding has
lowest n d e = let one : n / 2 ^ 0 ≡ n = omega arith in rw (one, e)

next_same : (a b : ℕ) → eqb (suc a) (suc b) ≡ eqb a b
next_same a b = go (ℕ_discrete a b)
  where
    go : Dec (a ≡ b) → eqb (suc a) (suc b) ≡ eqb a b
    go (yes i) = rw (eq-eqb (suc a) (suc b) (ap suc i), eq-eqb a b i)
    go (no n) = rw (ne_eqb (suc a) (suc b) (λ i. n (omega arith)), ne_eqb a b n)

-- a word less one keeps the bits above the lowest that is set, and loses that one
less_one : (k n i : ℕ) → n < 2 ^ k → (n ≡ 0 → ⊥) → (has n i && has (n - 1) i) ≡ (has n i && not (eqb i (count_trailing_zeros k n)))
unfolding count_trailing_zeros
less_one zero n i h z = absurd (z (lt-one h))
less_one (suc k) n i h z =
    let e : 2 ^ suc k ≡ 2 ^ k * 2 = pow-suc 2 k in
    go (n % 2) refl i (λ zero-digit j. less_one k (n / 2) j (omega arith) (λ y. z (omega arith)))
  where
    go : (d : ℕ) → n % 2 ≡ d → (i : ℕ) → (n % 2 ≡ 0 → (j : ℕ) → (has (n / 2) j && has (n / 2 - 1) j) ≡ (has (n / 2) j && not (eqb j (count_trailing_zeros k (n / 2)))))
        → (has n i && has (n - 1) i) ≡ (has n i && not (eqb i (under d (count_trailing_zeros k (n / 2)))))
    go zero e zero rest = rw (lowest n 0 e)
    go zero e (suc j) rest =
        let less : (n - 1) / 2 ≡ n / 2 - 1 = omega (arith, z) in
        rw (half n j, half (n - 1) j, less, next_same j (count_trailing_zeros k (n / 2))) (rest e j)
    go (suc d) e zero rest =
        let even : (n - 1) % 2 ≡ 0 = omega arith in
        rw (lowest (n - 1) 0 even)
    go (suc d) e (suc j) rest =
        let less : (n - 1) / 2 ≡ n / 2 = omega arith in
        let other : eqb (suc j) 0 ≡ false = ne_eqb (suc j) 0 (λ q. omega arith) in
        rw (half n j, half (n - 1) j, less, other) (same (has (n / 2) j))
      where
        same : (b : Bool) → (b && b) ≡ (b && true)
        same true = refl
        same false = refl

module _ (word e first : ℕ) where
  -- where no bit is set there is no race
  bits_clear : (n : ℕ) → ((k : ℕ) → k < n → has word k ≡ false) → bits_listed word e first n ≡ []
  unfolding bits_listed
  bits_clear zero h = refl
  bits_clear (suc n) h = rw (bits_clear n (λ k l. h k (omega arith)), h n (omega arith))

  pub bits_none : word ≡ 0 → bits_listed word e first word_bits ≡ []
  bits_none z = bits_clear word_bits (λ k l. ap (λ (w : ℕ). has w k) z ∙ has_zero k)

  -- how many there are
  if_length : (b : Bool) (k : ℕ) → length {A = ℕ × ℕ} (cond b ((e, first + k) ∷ []) []) ≡ cond b 1 0
  if_length true k = refl
  if_length false k = refl

  bits_many : (n : ℕ) → length (bits_listed word e first n) ≡ how_many n (has word)
  unfolding bits_listed how_many
  bits_many zero = refl
  bits_many (suc n) =
      omega (arith, length-append (bits_listed word e first n) (cond (has word n) ((e, first + n) ∷ []) []), if_length (has word n) n, bits_many n)

  pub bits_most : length (bits_listed word e first word_bits) ≤ word_bits
  bits_most = omega (arith, bits_many word_bits, many_most word_bits (has word))

  pub bits_counted : word < 2 ^ word_bits → ones word ≡ length (bits_listed word e first word_bits)
  bits_counted small = ones_bits word_bits word small ∙ sym (bits_many word_bits)

-- the lowest bit is the first of the races, and a word without it has the others
module _ (word e first : ℕ) (small : word < 2 ^ word_bits) (some : word ≡ 0 → ⊥) where
  bit : ℕ
  bit = count_trailing_zeros word_bits word

  less : ℕ
  less = bit_and word (word - 1)

  kept : (k : ℕ) → has less k ≡ (has word k && not (eqb k bit))
  unfolding bit less
  kept k = has_and word (word - 1) k ∙ less_one word_bits word k small some

  kept_other : (k : ℕ) → (k ≡ bit → ⊥) → has less k ≡ has word k
  kept_other k n = kept k ∙ rw (ne_eqb k bit n) (and-true (has word k))

  lost : has less bit ≡ false
  lost = kept bit ∙ rw (eq-eqb bit bit refl) (and-false (has word bit))

  below : (k : ℕ) → k < bit → has word k ≡ false
  unfolding bit
  below k l = trailing_clear word_bits word k l

  set_there : has word bit ≡ true
  unfolding bit
  set_there = trailing_set word_bits word small some

  first_bit : (n : ℕ) → bit < n → bits_listed word e first n ≡ (e, first + bit) ∷ bits_listed less e first n
  unfolding bits_listed
  first_bit zero h = absurd (not-suc-le-zero h)
  first_bit (suc n) h =
      ⊎_elim
      (λ (i : n ≡ bit).
      let clear : (k : ℕ) → k < n → has word k ≡ false = λ k l. below k (omega arith) in
      let gone : (k : ℕ) → k < n → has less k ≡ false = λ k l. kept_other k (λ q. omega arith) ∙ clear k l in
      rw (bits_clear word e first n clear, bits_clear less e first n gone, i, set_there, lost))
      (⊎_elim (λ (l : n < bit). absurd (omega arith))
      (λ (l : bit < n). rw (kept_other n (λ q. omega arith), first_bit n l)))
      (apart n bit)

  pub bits_first : bits_listed word e first word_bits ≡ (e, first + count_trailing_zeros word_bits word) ∷ bits_listed (bit_and word (word - 1)) e first word_bits
  unfolding bit less
  bits_first = first_bit word_bits (trailing_below word_bits word small some)

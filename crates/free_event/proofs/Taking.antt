-- What the loops keep that look for the next event: the words passed, the bits passed. Assumes nothing.
use mathlib.Core.Path.{◌≡◌, refl, sym, ◌∙◌, subst, subst⁻¹}
use mathlib.Core.Bool.{Bool, true, false, not, ◌&&◌, and-false}
use mathlib.Core.Logic.{⊎_elim}
use mathlib.Core.List.{List}
use mathlib.Core.Option.{none, some}
use Prim.Native.Nat.{ℕ, ◌+◌, ◌-◌, ◌*◌, ◌/◌, ◌%◌, ◌^◌, ◌<◌, ◌≤◌}
use native.Mathlib.Decide.{dec_lt}
use native.Mathlib.Omega.{arith}
use lib.Bits.{bit_and, and_le_l}
use lib.Count.{count_trailing_zeros}
use lib.Dec.{eqb}
use lib.ListN.{get_or}
use lib.Pow.{pow-lt}
use borrow.Author.Tests.{eqb-true, eq-eqb}
use Rattle.std.specs.Prelude.{Option, Some, None}
use Rattle.std.specs.Option.{is_some}
use Rattle.outcome.specs.Options.{found_in}
use Rattle.model.specs.Bounded.{lowest}
use Rattle.model.proofs.Bounded.{and_left, and_both, which, not_both, not_is_true, lowest_hit, lowest_nowhere}
use Rattle.relation.specs.Width.{width, word_bits}
use Rattle.relation.specs.Rows.{has}
use Rattle.relation.proofs.Bits.{has_zero, has_power, mask_power}
use Rattle.relation.proofs.Words.{has_and, has_not, trailing_clear, trailing_set, trailing_below, alone_row}
use Rattle.run.specs.State.{in_row}
use Rattle.row_tests.specs.Tests.{none_in}
use Rattle.free_event.specs.Free.{row_bits, nothing_left, is_free, FreeInWord, LowestInWord}

-- the bits of word i of a row
module _ (i b : ℕ) (h : b < word_bits) where
  in_word : (row : List ℕ) → in_row row (word_bits * i + b) ≡ has (get_or row i 0) b
  in_word row =
      let d : (word_bits * i + b) / word_bits ≡ i = omega arith in
      let m : (word_bits * i + b) % word_bits ≡ b = omega arith in
      alone_row width row (word_bits * i + b) ∙ rw (d, m)

-- the test of a row says that nothing left is before event k
nothing_by_test : (words left : List ℕ) (k : ℕ) → none_in row_bits width words k left 0 ≡ nothing_left words left k
unfolding nothing_left none_in
nothing_by_test words left k = refl

-- The bits of word w that are left to be tried: each is an event that is left, and the others of the word are not free.
module _ (words left : List ℕ) (w : ℕ) where
  pub record Trying (bits : ℕ) : Type 0 where
    pub within : (b : ℕ) → b < word_bits → has bits b ≡ true → has (get_or left w 0) b ≡ true
    pub passed : (b : ℕ) → b < word_bits → has bits b ≡ false → is_free words left (word_bits * w + b) ≡ false
    pub small : bits < 2 ^ word_bits

  pub trying_start : get_or left w 0 < 2 ^ word_bits → Trying (get_or left w 0)
  unfolding is_free
  trying_start small =
      record {
        within = λ b h t. t;
        passed = λ b h f. rw (in_word w b h left, f);
        small = small;
      }

  -- with the lowest bit left to be tried
  module _ (bits bit : ℕ) (is : bit ≡ count_trailing_zeros word_bits bits) (t : Trying bits) (z : bits ≡ 0 → ⊥) where
    pub bit_below : bit < word_bits
    bit_below = subst⁻¹ (λ (b : ℕ). b < word_bits) is (trailing_below word_bits bits t.small z)

    bit_set : has bits bit ≡ true
    bit_set = subst⁻¹ (λ (b : ℕ). has bits b ≡ true) is (trailing_set word_bits bits t.small z)

    pub trying_found : (r : Bool) → r ≡ none_in row_bits width words (word_bits * w + bit) left 0 → r ≡ true → FreeInWord words left w (Some (word_bits * w + bit))
    unfolding is_free
    trying_found r e y =
        let l = bit_below in
        record {
          found = and_both (in_row left (word_bits * w + bit)) (nothing_left words left (word_bits * w + bit)) (in_word w bit l left ∙ t.within bit l bit_set) (sym (e ∙ nothing_by_test words left (word_bits * w + bit)) ∙ y);
          inside = omega arith;
          absent = λ j from to below.
              let at : word_bits * w + (j - word_bits * w) ≡ j = omega arith in
              subst (λ (k : ℕ). is_free words left k ≡ false) at
              (t.passed (j - word_bits * w) (omega arith) (trailing_clear word_bits bits (j - word_bits * w) (omega (arith, is))));
        }

    -- without it
    abbrev fewer : ℕ
    fewer = bit_and bits (2 ^ word_bits - 1 - 1 * 2 ^ bit % 2 ^ word_bits)

    fewer_bits : (b : ℕ) → b < word_bits → has fewer b ≡ (has bits b && not (eqb b bit))
    fewer_bits b h =
        let l = bit_below in
        let one : bit % word_bits ≡ bit = omega arith in
        let mask : 1 * 2 ^ bit % 2 ^ word_bits ≡ 2 ^ bit = subst (λ (m : ℕ). 1 * 2 ^ m % 2 ^ word_bits ≡ 2 ^ m) one (mask_power bit) in
        has_and bits (2 ^ word_bits - 1 - 1 * 2 ^ bit % 2 ^ word_bits) b
        ∙ rw (mask, has_not b word_bits (2 ^ bit) h (pow-lt {i = bit} {j = word_bits} l), has_power bit b)

    pub fewer_less : fewer < bits
    fewer_less =
        let most : fewer ≤ bits = and_le_l bits (2 ^ word_bits - 1 - 1 * 2 ^ bit % 2 ^ word_bits) in
        let cleared : has fewer bit ≡ false = fewer_bits bit bit_below ∙ rw (eq-eqb bit bit refl, and-false) in
        let other : fewer ≡ bits → ⊥ = λ e. not_both (has bits bit) bit_set (subst (λ (n : ℕ). has n bit ≡ false) e cleared) in
        omega arith

    pub trying_more : (r : Bool) → r ≡ none_in row_bits width words (word_bits * w + bit) left 0 → r ≡ false → Trying fewer
    unfolding is_free
    trying_more r e f =
        record {
          within = λ b h y. t.within b h (and_left (has bits b) (not (eqb b bit)) (sym (fewer_bits b h) ∙ y));
          passed = λ b h n. go b h (has bits b) refl (sym (fewer_bits b h) ∙ n);
          small = omega (arith, fewer_less, t.small);
        }
      where
        go : (b : ℕ) → b < word_bits → (q : Bool) → has bits b ≡ q → (q && not (eqb b bit)) ≡ false
            → (in_row left (word_bits * w + b) && nothing_left words left (word_bits * w + b)) ≡ false
        go b h false i n = t.passed b h i
        go b h true i n = ⊎_elim same (λ (o : eqb b bit ≡ false). not_both (not (eqb b bit)) (not_is_true (eqb b bit) o) n) (which (eqb b bit))
          where
            same : eqb b bit ≡ true → (in_row left (word_bits * w + b) && nothing_left words left (word_bits * w + b)) ≡ false
            same y =
                let none : nothing_left words left (word_bits * w + b) ≡ false =
                subst⁻¹ (λ (c : ℕ). nothing_left words left (word_bits * w + c) ≡ false) (eqb-true b bit y) (sym (e ∙ nothing_by_test words left (word_bits * w + bit)) ∙ f) in
                rw (none, and-false)

  pub trying_end : (bits : ℕ) → Trying bits → bits ≡ 0 → FreeInWord words left w None
  trying_end bits t z = λ j from to.
      let at : word_bits * w + (j - word_bits * w) ≡ j = omega arith in
      subst (λ (k : ℕ). is_free words left k ≡ false) at
      (t.passed (j - word_bits * w) (omega arith) (rw z (has_zero (j - word_bits * w))))

-- The words passed have no free event.
module _ (words left : List ℕ) where
  pub record Searching (w : ℕ) : Type 0 where
    pub none : (j : ℕ) → j < word_bits * w → is_free words left j ≡ false
    pub most : w ≤ width

  pub searching_start : Searching 0
  searching_start = record { none = λ j h. absurd (omega arith); most = omega arith }

  module _ (w : ℕ) (s : Searching w) where
    -- a free event of the word at hand is the lowest
    lowest_here : (k : ℕ) → w < width → LowestInWord words left w k → lowest row_bits (is_free words left) ≡ some k
    lowest_here k l f =
        lowest_hit row_bits k (is_free words left) (lowest_nowhere k (is_free words left) (λ j h. go j h (dec_lt j (word_bits * w)))) f.found (omega (arith, f.inside))
      where
        go : (j : ℕ) → j < k → Dec (j < word_bits * w) → is_free words left j ≡ false
        go j h (yes p) = s.none j p
        go j h (no p) = f.absent j (omega arith) (omega (arith, f.inside)) h

    none_here : w < width → FreeInWord words left w None → Searching (w + 1)
    none_here l f = record { none = λ j b. go j b (dec_lt j (word_bits * w)); most = omega arith }
      where
        go : (j : ℕ) → j < word_bits * (w + 1) → Dec (j < word_bits * w) → is_free words left j ≡ false
        go j b (yes p) = s.none j p
        go j b (no p) = f j (omega arith) (omega arith)

    module _ (r : Option ℕ) (b : Bool) (f : FreeInWord words left w r) (is : b ≡ is_some r) where
      pub searching_found : b ≡ true → w < width → found_in r ≡ lowest row_bits (is_free words left)
      searching_found t l = go r f (sym is ∙ t)
        where
          go : (r : Option ℕ) → FreeInWord words left w r → is_some r ≡ true → found_in r ≡ lowest row_bits (is_free words left)
          go (Some k) f t = sym (lowest_here k l f)
          go None f t = not_both false t refl

      pub searching_more : b ≡ false → w < width → Searching (w + 1)
      searching_more t l = go r f (sym is ∙ t)
        where
          go : (r : Option ℕ) → FreeInWord words left w r → is_some r ≡ false → Searching (w + 1)
          go (Some k) f t = not_both true refl t
          go None f t = none_here l f

    pub searching_end : width ≤ w → none ≡ lowest row_bits (is_free words left)
    searching_end h = sym (lowest_nowhere row_bits (is_free words left) (λ j b. s.none j (omega arith)))

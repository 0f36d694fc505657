-- The next message in a row: what is left of m's word, and then the words after it. Assumes nothing.
use mathlib.Core.Path.{◌≡◌, refl, sym, ap, ◌∙◌, subst, subst⁻¹}
use mathlib.Core.Bool.{true, false, ◌||◌}
use mathlib.Core.List.{List}
use mathlib.Core.Option.{Option, none, some}
use Prim.Native.Nat.{ℕ, ◌+◌, ◌-◌, ◌*◌, ◌/◌, ◌%◌, ◌^◌, ◌<◌, ◌≤◌}
use native.Mathlib.Nat.{div-lt_iff_lt-mul, div-le_self, lt_of_le_of_lt}
use native.Mathlib.Decide.{dec_lt, ℕ_discrete}
use native.Mathlib.Omega.{arith}
use lib.Count.{count_trailing_zeros, trailing_le}
use lib.Dec.{leb}
use lib.ListN.{get_or}
use lib.Pow.{pow-add, pow_pos}
use borrow.Author.Tests.{le-leb, lt-leb, leb-true}
use Rattle.model.specs.Limits.{messages_most}
use Rattle.model.specs.Bounded.{lowest}
use Rattle.model.proofs.Bounded.{and_left, or_left, or_right, lowest_hit, lowest_none, lowest_some, lowest_nowhere}
use Rattle.relation.specs.Width.{width, word_bits}
use Rattle.relation.specs.Rows.{has}
use Rattle.relation.proofs.Bits.{has_zero}
use Rattle.relation.proofs.Words.{or_left_false, shifted, trailing_clear, trailing_set, trailing_below, alone_row}
use Rattle.run.specs.State.{in_row}
use Rattle.next_message.specs.Next.{stands_from, next_in}

-- The promise, from the first event at m's send or after it that is in the row; and where there is none.
module _ (row : List ℕ) (m : ℕ) where
  abbrev Clear : ℕ → Type 0
  Clear x = (k : ℕ) → 2 * m ≤ k → k < x → in_row row k ≡ false

  -- a message ahead of the event has no bit, or is ahead of m
  passed : (x j : ℕ) → Clear x → 2 * j + 1 < x → stands_from row m j ≡ false
  passed x j clear l = go (dec_lt j m)
    where
      go : Dec (j < m) → stands_from row m j ≡ false
      go (yes h) = rw (lt-leb m j h)
      go (no h) = rw (le-leb m j (omega arith), clear (2 * j) (omega arith) (omega arith), clear (2 * j + 1) (omega arith) l)

  next_at : (x : ℕ) → 2 * m ≤ x → x < 2 * messages_most → in_row row x ≡ true → Clear x → x / 2 ≡ next_in row m
  unfolding next_in
  next_at x from few t clear =
      let hit : lowest messages_most (stands_from row m) ≡ some (x / 2) =
      lowest_hit messages_most (x / 2) (stands_from row m) (lowest_nowhere (x / 2) (stands_from row m) (λ j h. passed x j clear (omega arith))) (here (ℕ_discrete x (2 * (x / 2)))) (omega arith) in
      subst⁻¹ (λ (o : Option ℕ). x / 2 ≡ elim o [ none ↦ messages_most | some j ↦ j ]) hit refl
    where
      here : Dec (x ≡ 2 * (x / 2)) → stands_from row m (x / 2) ≡ true
      here (yes s) = rw (le-leb m (x / 2) (omega arith)) (or_left (in_row row (2 * (x / 2))) (in_row row (2 * (x / 2) + 1)) (ap (in_row row) (sym s) ∙ t))
      here (no n) =
          let receive : x ≡ 2 * (x / 2) + 1 = omega arith in
          rw (le-leb m (x / 2) (omega arith)) (or_right (in_row row (2 * (x / 2))) (in_row row (2 * (x / 2) + 1)) (ap (in_row row) (sym receive) ∙ t))

  next_nowhere : Clear (2 * messages_most) → messages_most ≡ next_in row m
  unfolding next_in
  next_nowhere clear =
      let none_there : lowest messages_most (stands_from row m) ≡ none = lowest_nowhere messages_most (stands_from row m) (λ j h. passed (2 * messages_most) j clear (omega arith)) in
      subst⁻¹ (λ (o : Option ℕ). messages_most ≡ elim o [ none ↦ messages_most | some j ↦ j ]) none_there refl

  -- what a search reads from it: it comes to m or a later message, and no send that it passes over is in the row
  next_from : m ≤ messages_most → m ≤ next_in row m
  unfolding next_in
  next_from few = go (lowest messages_most (stands_from row m)) refl
    where
      go : (o : Option ℕ) → lowest messages_most (stands_from row m) ≡ o → m ≤ elim o [ none ↦ messages_most | some j ↦ j ]
      go none e = few
      go (some j) e =
          leb-true m j (and_left (leb m j) (in_row row (2 * j) || in_row row (2 * j + 1)) (lowest_some messages_most (stands_from row m) j e).passes)

  pub next_absent : (j : ℕ) → m ≤ j → j < next_in row m → in_row row (2 * j) ≡ false
  unfolding next_in
  next_absent j from l = go (lowest messages_most (stands_from row m)) refl l
    where
      absent : stands_from row m j ≡ false → in_row row (2 * j) ≡ false
      absent f = or_left_false (in_row row (2 * j)) (in_row row (2 * j + 1)) (rw (le-leb m j from) at f)

      go : (o : Option ℕ) → lowest messages_most (stands_from row m) ≡ o → j < elim o [ none ↦ messages_most | some i ↦ i ] → in_row row (2 * j) ≡ false
      go none e h = absent (lowest_none messages_most (stands_from row m) e j h)
      go (some i) e h = absent ((lowest_some messages_most (stands_from row m) i e).first j h)

-- and so a search among `count` messages that goes on after m has less left
pub less_left : (row : List ℕ) (count m r : ℕ) → r ≡ next_in row (m + 1) → m < count → count ≤ messages_most → count - r < count - m
less_left row count m r n l few = omega (arith, next_from row (m + 1) (omega arith))

-- The search: what is left of m's word, and then the words after it.
module _ (row : List ℕ) (m : ℕ) where
  abbrev pub left : ℕ
  left = get_or row (2 * m / word_bits) 0 / 2 ^ (2 * m % word_bits)

  -- an event of m's word is a bit of what is left of it
  in_rest : (k : ℕ) → 2 * m ≤ k → k / word_bits ≡ 2 * m / word_bits → in_row row k ≡ has left (k - 2 * m)
  in_rest k h word =
      let bit : k % word_bits ≡ 2 * m % word_bits + (k - 2 * m) = omega arith in
      alone_row width row k ∙ rw (word, bit) (shifted (get_or row (2 * m / word_bits) 0) (2 * m % word_bits) (k - 2 * m))

  pub next_in_word : get_or row (2 * m / word_bits) 0 < 2 ^ word_bits → (left ≡ 0 → ⊥) → m < messages_most
      → m + count_trailing_zeros word_bits left / 2 ≡ next_in row m
  next_in_word small z inside =
      let half : m + count_trailing_zeros word_bits left / 2 ≡ (2 * m + count_trailing_zeros word_bits left) / 2 = omega arith in
      half
      ∙ next_at row m (2 * m + count_trailing_zeros word_bits left) (omega arith) (omega (arith, few))
      (in_rest (2 * m + count_trailing_zeros word_bits left) (omega arith) (omega (arith, few)) ∙ ap (has left) back ∙ trailing_set word_bits left least z)
      (λ k h l. in_rest k h (omega (arith, few)) ∙ trailing_clear word_bits left (k - 2 * m) (omega arith))
    where
      split : 2 ^ word_bits ≡ 2 ^ (word_bits - 2 * m % word_bits) * 2 ^ (2 * m % word_bits)
      split =
          let all : word_bits ≡ word_bits - 2 * m % word_bits + 2 * m % word_bits = omega arith in
          ap (λ (n : ℕ). 2 ^ n) all ∙ pow-add 2 (word_bits - 2 * m % word_bits) (2 * m % word_bits)

      below : left < 2 ^ (word_bits - 2 * m % word_bits)
      below = (div-lt_iff_lt-mul (pow_pos (2 * m % word_bits))).1 (subst (λ (n : ℕ). get_or row (2 * m / word_bits) 0 < n) split small)

      few : count_trailing_zeros word_bits left < word_bits - 2 * m % word_bits
      few = trailing_below (word_bits - 2 * m % word_bits) left below z

      least : left < 2 ^ word_bits
      least = lt_of_le_of_lt (div-le_self (get_or row (2 * m / word_bits) 0) (2 ^ (2 * m % word_bits))) small

      back : 2 * m + count_trailing_zeros word_bits left - 2 * m ≡ count_trailing_zeros word_bits left
      back = omega arith

  -- what the loop keeps: no event from m's send on is in the words passed
  pub record NoneBefore (i : ℕ) : Type 0 where
    pub clear : (k : ℕ) → 2 * m ≤ k → k < word_bits * i → in_row row k ≡ false
    pub behind : 2 * m ≤ word_bits * i
    pub most : i ≤ width

  pub none_before : m < messages_most → left ≡ 0 → NoneBefore (2 * m / word_bits + 1)
  none_before few z =
      record {
        clear = λ k h l. in_rest k h (omega arith) ∙ rw z (has_zero (k - 2 * m));
        behind = omega arith;
        most = omega arith;
      }

  -- an event of word i, or of one before it
  in_word : (i k n : ℕ) → NoneBefore i → 2 * m ≤ k → k < word_bits * i + n → n ≤ word_bits
      → ((b : ℕ) → b < n → has (get_or row i 0) b ≡ false) → in_row row k ≡ false
  in_word i k n p h l few clear = go (dec_lt k (word_bits * i))
    where
      go : Dec (k < word_bits * i) → in_row row k ≡ false
      go (yes b) = p.clear k h b
      go (no b) =
          let word : k / word_bits ≡ i = omega arith in
          alone_row width row k ∙ rw word (clear (k % word_bits) (omega arith))

  pub none_before_more : (i : ℕ) → NoneBefore i → get_or row i 0 ≡ 0 → i < width → NoneBefore (i + 1)
  none_before_more i p z l =
      record {
        clear = λ k h g. in_word i k word_bits p h (omega arith) (omega arith) (λ b small. rw z (has_zero b));
        behind = omega (arith, p.behind);
        most = omega arith;
      }

  pub next_in_row : (i : ℕ) → NoneBefore i → get_or row i 0 < 2 ^ word_bits → (get_or row i 0 ≡ 0 → ⊥) → i < width
      → (word_bits * i + count_trailing_zeros word_bits (get_or row i 0)) / 2 ≡ next_in row m
  next_in_row i p small z inside =
      let few = trailing_below word_bits (get_or row i 0) small z in
      let at-word : (word_bits * i + count_trailing_zeros word_bits (get_or row i 0)) / word_bits ≡ i = omega (arith, few) in
      let at_bit : (word_bits * i + count_trailing_zeros word_bits (get_or row i 0)) % word_bits ≡ count_trailing_zeros word_bits (get_or row i 0) = omega (arith, few) in
      next_at row m (word_bits * i + count_trailing_zeros word_bits (get_or row i 0)) (omega (arith, p.behind)) (omega (arith, few))
      (alone_row width row (word_bits * i + count_trailing_zeros word_bits (get_or row i 0)) ∙ rw (at-word, at_bit) (trailing_set word_bits (get_or row i 0) small z))
      (λ k h l. in_word i k (count_trailing_zeros word_bits (get_or row i 0)) p h l (trailing_le word_bits (get_or row i 0)) (trailing_clear word_bits (get_or row i 0)))

  pub next_in_none : (i : ℕ) → NoneBefore i → width ≤ i → messages_most ≡ next_in row m
  next_in_none i p l = next_nowhere row m (λ k h g. p.clear k h (omega arith))

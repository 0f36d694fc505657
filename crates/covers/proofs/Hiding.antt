-- What the sends before a send hide, from send to send. Assumes nothing.
use mathlib.Core.Path.{◌≡◌, refl, sym, ◌∙◌, ap, subst, subst⁻¹}
use mathlib.Core.Bool.{Bool, true, false, cond, ◌&&◌, ◌||◌}
use mathlib.Core.Logic.{⊎_elim}
use mathlib.Core.List.{List}
use Prim.Native.Nat.{ℕ, ◌+◌, ◌-◌, ◌*◌, ◌/◌, ◌%◌, ◌^◌, ◌<◌, ◌≤◌}
use native.Mathlib.Nat.{lt_of_lt_of_le}
use native.Mathlib.Decide.{ℕ_discrete, dec_lt}
use native.Mathlib.Omega.{arith}
use lib.Bits.{bit_and, and_le_r}
use lib.Count.{count_trailing_zeros}
use lib.Dec.{ltb}
use lib.ListN.{get_or, replicate}
use lib.Pow.{pow_mono, shr_lt}
use borrow.Author.Tests.{eq-eqb, eqb-true, lt-ltb, le-ltb, ltb-true}
use Rattle.model.specs.Limits.{messages_most}
use Rattle.model.specs.Bounded.{any}
use Rattle.model.proofs.Lists.{replicate_at}
use Rattle.model.proofs.Bounded.{and_left, and_right, and_both, or_cases, or_left, or_right, not_both, any_from, any_some, both_ways}
use Rattle.relation.specs.Width.{width, word_bits}
use Rattle.relation.specs.Rows.{has, holds}
use Rattle.relation.proofs.Bits.{has_zero}
use Rattle.relation.proofs.Words.{has_and, shifted, trailing_clear, trailing_set, trailing_below, even_bits, has_even_bits, word_holds, alone_row}
use Rattle.joined_rows.specs.Joins.{joined_from}
use Rattle.joined_rows.proofs.Joined.{length_joined_from, holds_joined_from}
use Rattle.covers.specs.Covers.{RowOf, is_hidden_by, hidden_by, hidden_at, hidden_below, Hidden}

-- The two ways of a send: one of the sheet's or not.
module _ (words hidden exit : List ℕ) (count send : ℕ) where
  pub hide_yes : send < 2 * count → exit ≡ joined_from width hidden 0 words send → exit ≡ hidden_by words count send hidden
  unfolding hidden_by
  hide_yes h s = rw (lt-ltb send (2 * count) h) s

  pub hide_no : 2 * count ≤ send → hidden ≡ hidden_by words count send hidden
  unfolding hidden_by
  hide_no h = rw (le-ltb send (2 * count) h)

module _ (words : List ℕ) (count e : ℕ) where
  -- message k's send is below p and hides event x
  abbrev hides : ℕ → ℕ → ℕ → Bool
  hides p x k = ltb (2 * k) p && is_hidden_by words e x k

  hides_from : (p x k : ℕ) → k < count → 2 * k < p → is_hidden_by words e x k ≡ true → hidden_below words count e p x ≡ true
  unfolding hidden_below
  hides_from p x k l h t = any_from count (hides p x) k l (and_both (ltb (2 * k) p) (is_hidden_by words e x k) (lt-ltb (2 * k) p h) t)

  hides_some : (p x : ℕ) → hidden_below words count e p x ≡ true → (k : ℕ) × (k < count) × (2 * k < p) × (is_hidden_by words e x k ≡ true)
  unfolding hidden_below
  hides_some p x t =
      let s = any_some count (hides p x) t in
      let k = s.0 in
      (k, s.1, ltb-true (2 * k) p (and_left (ltb (2 * k) p) (is_hidden_by words e x k) s.2), and_right (ltb (2 * k) p) (is_hidden_by words e x k) s.2)

  -- no send between p and q is before e's send
  below_same : (p q x : ℕ) → p ≤ q → ((k : ℕ) → k < count → p ≤ 2 * k → 2 * k < q → holds width words (2 * e) (2 * k) ≡ false)
      → hidden_below words count e p x ≡ hidden_below words count e q x
  below_same p q x h clear =
      both_ways (hidden_below words count e p x) (hidden_below words count e q x)
      (λ t. let s = hides_some p x t in hides_from q x s.0 s.1 (omega (arith, s.2)) s.3)
      (λ t. let s = hides_some q x t in go s.0 s.1 s.2 s.3 (dec_lt (2 * s.0) p))
    where
      go : (k : ℕ) → k < count → 2 * k < q → is_hidden_by words e x k ≡ true → Dec (2 * k < p) → hidden_below words count e p x ≡ true
      go k l m t (yes i) = hides_from p x k l i t
      go k l m t (no i) =
          not_both (holds width words (2 * e) (2 * k)) (and_left (holds width words (2 * e) (2 * k)) (holds width words (2 * k) x) t)
          (clear k l (omega arith) m)

  -- a send that is before e's send hides what is before it
  below_with : (send x : ℕ) → send % 2 ≡ 0 → send < 2 * count → holds width words (2 * e) send ≡ true
      → hidden_below words count e (send + 1) x ≡ (hidden_below words count e send x || holds width words send x)
  below_with send x even h t =
      both_ways (hidden_below words count e (send + 1) x) (hidden_below words count e send x || holds width words send x)
      (λ u. let s = hides_some (send + 1) x u in go s.0 s.1 s.2 s.3 (ℕ_discrete (2 * s.0) send))
      (λ u.
      ⊎_elim
      (λ v. let s = hides_some send x v in hides_from (send + 1) x s.0 s.1 (omega (arith, s.2)) s.3)
      (λ v.
      let twice : send ≡ 2 * (send / 2) = omega arith in
      hides_from (send + 1) x (send / 2) (omega arith) (omega arith)
      (and_both (holds width words (2 * e) (2 * (send / 2))) (holds width words (2 * (send / 2)) x)
      (subst (λ (y : ℕ). holds width words (2 * e) y ≡ true) twice t)
      (subst (λ (y : ℕ). holds width words y x ≡ true) twice v)))
      (or_cases (hidden_below words count e send x) (holds width words send x) u))
    where
      go : (k : ℕ) → k < count → 2 * k < send + 1 → is_hidden_by words e x k ≡ true → Dec (2 * k ≡ send)
          → (hidden_below words count e send x || holds width words send x) ≡ true
      go k l m u (yes i) =
          or_right (hidden_below words count e send x) (holds width words send x)
          (subst (λ (y : ℕ). holds width words y x ≡ true) i (and_right (holds width words (2 * e) (2 * k)) (holds width words (2 * k) x) u))
      go k l m u (no i) =
          or_left (hidden_below words count e send x) (holds width words send x) (hides_from send x k l (omega arith) u)

  hidden_on : (p q : ℕ) (hidden : List ℕ) → Hidden words count e p hidden → p ≤ q
      → ((k : ℕ) → k < count → p ≤ 2 * k → 2 * k < q → holds width words (2 * e) (2 * k) ≡ false) → Hidden words count e q hidden
  hidden_on p q hidden g h clear = record { exact = λ x l. g.exact x l ∙ below_same p q x h clear; long = g.long }

  hidden_with : (send : ℕ) (hidden exit : List ℕ) → Hidden words count e send hidden → send % 2 ≡ 0 → holds width words (2 * e) send ≡ true
      → exit ≡ hidden_by words count send hidden → Hidden words count e (send + 1) exit
  unfolding hidden_by
  hidden_with send hidden exit g even t s = subst⁻¹ (Hidden words count e (send + 1)) s (go (dec_lt send (2 * count)))
    where
      go : Dec (send < 2 * count) → Hidden words count e (send + 1) (cond (ltb send (2 * count)) (joined_from width hidden 0 words send) hidden)
      go (yes h) =
          rw (lt-ltb send (2 * count) h)
          (record {
            exact = λ x l.
                holds_joined_from width hidden 0 words send 0 x (omega (arith, g.long)) l
                ∙ ap (λ (q : Bool). q || holds width words send x) (g.exact x l) ∙ sym (below_with send x even h t);
            long = length_joined_from width hidden 0 words send ∙ g.long;
          })
      go (no h) =
          rw (le-ltb send (2 * count) (omega arith)) (hidden_on send (send + 1) hidden g (omega arith) (λ k l m n. absurd (omega arith)))

  -- what the loop over a word keeps: the sends below a bit of it have hidden what is before them
  pub record Taking (i bit : ℕ) (hidden : List ℕ) : Type 0 where
    pub below : Hidden words count e (word_bits * i + bit) hidden
    pub within : bit ≤ word_bits

  pub taking_none : (i : ℕ) (hidden : List ℕ) → Hidden words count e (word_bits * i) hidden → Taking i 0 hidden
  taking_none i hidden g =
      let none : word_bits * i ≡ word_bits * i + 0 = omega arith in
      record { below = subst (λ (p : ℕ). Hidden words count e p hidden) none g; within = omega arith }

  module _ (i bit : ℕ) (hidden : List ℕ) (p : Taking i bit hidden) where
    abbrev word : ℕ
    word = get_or words (2 * e * width + i) 0

    abbrev sends : ℕ
    sends = bit_and word even_bits

    -- a send of the word is one of its bits that are left
    send_left : (k : ℕ) → word_bits * i + bit ≤ 2 * k → 2 * k < word_bits * (i + 1)
        → holds width words (2 * e) (2 * k) ≡ has (sends / 2 ^ bit) (2 * k - (word_bits * i + bit))
    send_left k l h =
        let b = 2 * k - word_bits * i in
        let at : 2 * k ≡ word_bits * i + b = omega arith in
        let from : b ≡ bit + (2 * k - (word_bits * i + bit)) = omega arith in
        let even : b % 2 ≡ 0 = omega arith in
        ap (holds width words (2 * e)) at ∙ word_holds width words (2 * e) i b (omega arith)
        ∙ sym (has_and word even_bits b ∙ ap (λ (q : Bool). has word b && q) (has_even_bits b (omega arith) ∙ eq-eqb (b % 2) 0 even) ∙ and_true (has word b))
        ∙ ap (has sends) from ∙ shifted sends bit (2 * k - (word_bits * i + bit))
      where
        and_true : (q : Bool) → (q && true) ≡ q
        and_true true = refl
        and_true false = refl

    pub taking_ends : sends / 2 ^ bit ≡ 0 → Hidden words count e (word_bits * (i + 1)) hidden
    taking_ends z =
        hidden_on (word_bits * i + bit) (word_bits * (i + 1)) hidden p.below (omega (arith, p.within))
        (λ k l m n. send_left k m n ∙ rw z (has_zero (2 * k - (word_bits * i + bit))))

    pub taking_all : word_bits ≤ bit → Hidden words count e (word_bits * (i + 1)) hidden
    taking_all h =
        let all : word_bits * i + bit ≡ word_bits * (i + 1) = omega (arith, p.within) in
        subst (λ (q : ℕ). Hidden words count e q hidden) all p.below

    module _ (some_left : sends / 2 ^ bit ≡ 0 → ⊥) (l : bit < word_bits)
        (zeros : ℕ) (z : zeros ≡ count_trailing_zeros word_bits (sends / 2 ^ bit)) where
      left_small : sends / 2 ^ bit < 2 ^ (word_bits - bit)
      left_small =
          let e : word_bits ≡ word_bits - bit + bit = omega arith in
          shr_lt (word_bits - bit) bit (subst (λ n. sends < 2 ^ n) e (omega (arith, and_le_r word even_bits)))

      pub here_below : bit + zeros < word_bits
      here_below = omega (arith, z, trailing_below (word_bits - bit) (sends / 2 ^ bit) left_small some_left)

      is_set : has sends (bit + zeros) ≡ true
      is_set =
          shifted sends bit zeros
          ∙ rw z
          (trailing_set word_bits (sends / 2 ^ bit) (lt_of_lt_of_le left_small (pow_mono {i = word_bits - bit} {j = word_bits} (omega arith))) some_left)

      pub taking_again : (exit : List ℕ) → exit ≡ hidden_by words count (word_bits * i + (bit + zeros)) hidden → Taking i (bit + zeros + 1) exit
      taking_again exit s =
          let both = sym (has_and word even_bits (bit + zeros)) ∙ is_set in
          let even : (bit + zeros) % 2 ≡ 0 =
          eqb-true ((bit + zeros) % 2) 0 (sym (has_even_bits (bit + zeros) here_below) ∙ and_right (has word (bit + zeros)) (has even_bits (bit + zeros)) both) in
          let sent : holds width words (2 * e) (word_bits * i + (bit + zeros)) ≡ true =
          word_holds width words (2 * e) i (bit + zeros) here_below ∙ and_left (has word (bit + zeros)) (has even_bits (bit + zeros)) both in
          let passed : Hidden words count e (word_bits * i + (bit + zeros)) hidden =
          hidden_on (word_bits * i + bit) (word_bits * i + (bit + zeros)) hidden p.below (omega arith)
          (λ k c m n. send_left k m (omega (arith, here_below)) ∙ trailing_clear word_bits (sends / 2 ^ bit) (2 * k - (word_bits * i + bit)) (omega (arith, z))) in
          let next : word_bits * i + (bit + zeros) + 1 ≡ word_bits * i + (bit + zeros + 1) = omega arith in
          record {
            below =
                subst (λ (q : ℕ). Hidden words count e q exit) next
                (hidden_with (word_bits * i + (bit + zeros)) hidden exit passed (omega arith) sent s);
            within = omega (arith, here_below);
          }

  -- the sends of the words below i
  pub record Hiding (i : ℕ) (hidden : List ℕ) : Type 0 where
    pub below : Hidden words count e (word_bits * i) hidden
    pub most : i ≤ width

  pub hiding_start : Hiding 0 (replicate width 0)
  hiding_start =
      record {
        below =
            record {
              exact = λ x h. alone_row width (replicate width 0) x ∙ zero_word (x / word_bits) (x % word_bits) ∙ sym (none_yet x);
              long = refl;
            };
        most = omega arith;
      }
    where
      zero_word : (i b : ℕ) → has (get_or (replicate width 0) i 0) b ≡ false
      zero_word i b = ap (λ (w : ℕ). has w b) (replicate_at width i 0) ∙ has_zero b

      none_yet : (x : ℕ) → hidden_below words count e 0 x ≡ false
      none_yet x =
          both_ways (hidden_below words count e 0 x) false (λ t. let s = hides_some 0 x t in absurd (omega (arith, s.2))) (λ t. not_both false t refl)

  pub hiding_more : (i : ℕ) (hidden exit : List ℕ) → Hiding i hidden → i < width → Hidden words count e (word_bits * (i + 1)) exit → Hiding (i + 1) exit
  hiding_more i hidden exit g h s = record { below = s; most = omega arith }

  pub hiding_end : (i : ℕ) (hidden : List ℕ) → Hiding i hidden → width ≤ i → count ≤ messages_most → RowOf (hidden_at words count e) hidden
  unfolding hidden_at
  hiding_end i hidden g h few x l = g.below.exact x l ∙ all
    where
      all : hidden_below words count e (word_bits * i) x ≡ any count (is_hidden_by words e x)
      all =
          both_ways (hidden_below words count e (word_bits * i) x) (any count (is_hidden_by words e x))
          (λ t. let s = hides_some (word_bits * i) x t in any_from count (is_hidden_by words e x) s.0 s.1 s.3)
          (λ t. let s = any_some count (is_hidden_by words e x) t in hides_from (word_bits * i) x s.0 s.1 (omega (arith, s.1)) s.2)

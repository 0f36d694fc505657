-- What `inserted` means, row x among the rows changed or not: unless x is before y already, each row from .. to - 1 that is y's or
-- holds y has x and row x besides.
-- Assumes nothing.
use mathlib.Core.Path.{◌≡◌, refl, ap, ◌∙◌}
use mathlib.Core.Bool.{Bool, true, false, not, cond, ◌&&◌, ◌||◌, or-false}
use mathlib.Core.List.{List}
use Prim.Native.Nat.{ℕ, zero, suc, ◌+◌, ◌-◌, ◌*◌, ◌<◌, ◌≤◌}
use native.Mathlib.Nat.{mul-le-mul_right}
use native.Mathlib.Decide.{ℕ_discrete, dec_le}
use native.Mathlib.Omega.{arith}
use lib.Dec.{eqb, leb, ltb}
use lib.ListN.{length}
use borrow.Author.Tests.{eq-eqb, ne_eqb, lt-ltb, le-ltb, le-leb, lt-leb}
use Rattle.relation.specs.Width.{word_bits}
use Rattle.relation.specs.Rows.{holds, marked}
use Rattle.relation.proofs.Tests.{ltb_same}
use Rattle.relation.proofs.Marked.{length_marked, holds_marked}
use Rattle.joined_rows.specs.Joins.{joined}
use Rattle.joined_rows.proofs.Joined.{length_joined, holds_joined}
use Rattle.closure.specs.Insertion.{behind, inserted_at, inserted_in, inserted}

module _ (W : ℕ) (x y : ℕ) where
  pub length_inserted_at : (l : List ℕ) (r : ℕ) → length (inserted_at W l x y r) ≡ length l
  unfolding inserted_at
  length_inserted_at l r = go (behind W l y r)
    where
      go : (t : Bool) → length (cond t (marked W (joined W l r x) r x) l) ≡ length l
      go true = length_marked W (joined W l r x) r x ∙ length_joined W l r x
      go false = refl

  length_inserted_in : (l : List ℕ) (from n : ℕ) → length (inserted_in W l x y from n) ≡ length l
  unfolding inserted_in
  length_inserted_in l from zero = refl
  length_inserted_in l from (suc n) = length_inserted_at (inserted_in W l x y from n) (from + n) ∙ length_inserted_in l from n

  module _ (hx : x < word_bits * W) where
    -- one row
    holds_inserted_at : (l : List ℕ) (r b a : ℕ) → r * W + W ≤ length l → a < word_bits * W
        → holds W (inserted_at W l x y r) b a ≡ (holds W l b a || eqb b r && behind W l y r && (eqb a x || holds W l x a))
    unfolding inserted_at
    holds_inserted_at l r b a room ha = go (behind W l y r)
      where
        gain : (h e s t : Bool) → (h || e && s || e && t) ≡ (h || e && true && (t || s))
        gain true e s t = refl
        gain false true true true = refl
        gain false true true false = refl
        gain false true false true = refl
        gain false true false false = refl
        gain false false s t = refl

        keep : (h e s : Bool) → h ≡ (h || e && false && s)
        keep true e s = refl
        keep false true s = refl
        keep false false s = refl

        go : (t : Bool)
            → holds W (cond t (marked W (joined W l r x) r x) l) b a ≡ (holds W l b a || eqb b r && t && (eqb a x || holds W l x a))
        go true =
            holds_marked W (joined W l r x) r x b a (omega (arith, length_joined W l r x)) hx ha
            ∙ ap (λ (t : Bool). t || eqb b r && eqb a x) (holds_joined W l r x b a room ha)
            ∙ gain (holds W l b a) (eqb b r) (holds W l x a) (eqb a x)
        go false = keep (holds W l b a) (eqb b r) (eqb a x || holds W l x a)

    module _ (hy : y < word_bits * W) (l : List ℕ) (from : ℕ) where
      -- what row b gains of event a
      abbrev gains : ℕ → ℕ → Bool
      gains b a = behind W l y b && (eqb a x || holds W l x a)

      abbrev Meaning : ℕ → ℕ → ℕ → Type 0
      Meaning n b a = holds W (inserted_in W l x y from n) b a ≡ (holds W l b a || leb from b && ltb b (from + n) && gains b a)

      -- row x may have been looked at before: it has then x and its own events again
      again : (s t c d : Bool) → (t || (s || c && (d && (t || s)))) ≡ (t || s)
      again s true c d = refl
      again true false c d = refl
      again false false true true = refl
      again false false true false = refl
      again false false false d = refl

      empty : (b : ℕ) → (leb from b && ltb b (from + 0)) ≡ false
      empty b = go (dec_le from b)
        where
          go : Dec (from ≤ b) → (leb from b && ltb b (from + 0)) ≡ false
          go (yes h) = rw (le-leb from b h, le-ltb b (from + 0) (omega arith))
          go (no n) = rw (lt-leb from b (omega arith))

      module _ (n : ℕ) (earlier : (b a : ℕ) → a < word_bits * W → Meaning n b a) where
        -- the row that is looked at has not changed yet
        fresh : (a : ℕ) → a < word_bits * W → holds W (inserted_in W l x y from n) (from + n) a ≡ holds W l (from + n) a
        fresh a ha =
            earlier (from + n) a ha
            ∙ rw (le-leb from (from + n) (omega arith), le-ltb (from + n) (from + n) (omega arith), or-false)

        row : (b a : ℕ) → (from + n) * W + W ≤ length l → a < word_bits * W → Meaning (suc n) b a
        unfolding inserted_in
        row b a room ha =
            holds_inserted_at (inserted_in W l x y from n) (from + n) b a (omega (arith, length_inserted_in l from n)) ha
            ∙ go (ℕ_discrete b (from + n))
          where
            go : Dec (b ≡ from + n)
                → (holds W (inserted_in W l x y from n) b a
                || eqb b (from + n) && behind W (inserted_in W l x y from n) y (from + n)
                && (eqb a x || holds W (inserted_in W l x y from n) x a))
                ≡ (holds W l b a || leb from b && ltb b (from + suc n) && gains b a)
            go (yes e) =
                rw (
                  e,
                  fresh a ha,
                  fresh y hy,
                  earlier x a ha,
                  eq-eqb (from + n) (from + n) refl,
                  le-leb from (from + n) (omega arith),
                  lt-ltb (from + n) (from + suc n) (omega arith),
                  again,
                )
            go (no f) =
                rw (
                  ne_eqb b (from + n) f,
                  or-false,
                  earlier b a ha,
                  ltb_same b (from + n) b (from + suc n) (λ h. omega arith) (λ h. omega arith),
                )

      holds_inserted_in : (n : ℕ) → ((i : ℕ) → i < n → (from + i) * W + W ≤ length l) → (b a : ℕ) → a < word_bits * W → Meaning n b a
      unfolding inserted_in
      holds_inserted_in zero rooms b a ha = rw (empty b, or-false)
      holds_inserted_in (suc n) rooms b a ha =
          row n (holds_inserted_in n (λ i h. rooms i (omega arith))) b a (rooms n (omega arith)) ha

      -- a count of rows from `from` on is the rows up to `to`
      range : (to b : ℕ) → (leb from b && ltb b (from + (to - from))) ≡ (leb from b && ltb b to)
      range to b = go (dec_le from b)
        where
          go : Dec (from ≤ b) → (leb from b && ltb b (from + (to - from))) ≡ (leb from b && ltb b to)
          go (yes h) =
              ap (λ (t : Bool). leb from b && t)
              (ltb_same b (from + (to - from)) b to (λ g. omega arith) (λ g. omega arith))
          go (no n) = rw (lt-leb from b (omega arith))

pub length_inserted : (W : ℕ) (l : List ℕ) (x y from to : ℕ) → length (inserted W l x y from to) ≡ length l
unfolding inserted
length_inserted W l x y from to = go (holds W l y x)
  where
    go : (t : Bool) → length (cond t l (inserted_in W l x y from (to - from))) ≡ length l
    go true = refl
    go false = length_inserted_in W x y l from (to - from)

pub holds_inserted : (W : ℕ) (l : List ℕ) (x y from to b a : ℕ) → to * W ≤ length l → x < word_bits * W → y < word_bits * W → a < word_bits * W
    → holds W (inserted W l x y from to) b a
    ≡ (holds W l b a
    || not (holds W l y x) && (leb from b && ltb b to && ((eqb b y || holds W l b y) && (eqb a x || holds W l x a))))
unfolding inserted
holds_inserted W l x y from to b a room hx hy ha = go (holds W l y x)
  where
    rooms : (i : ℕ) → i < to - from → (from + i) * W + W ≤ length l
    rooms i h = let g : suc (from + i) ≤ to = omega arith in omega (arith, mul-le-mul_right W g)

    go : (t : Bool) → holds W (cond t l (inserted_in W l x y from (to - from))) b a
        ≡ (holds W l b a || not t && (leb from b && ltb b to && ((eqb b y || holds W l b y) && (eqb a x || holds W l x a))))
    go true = rw or-false
    go false =
        holds_inserted_in W x y hx hy l from (to - from) rooms b a ha
        ∙ ap (λ (t : Bool). holds W l b a || t && gains W x y hx hy l from b a) (range W x y hx hy l from to b)

-- What `passed` means: each board's row has, besides what it had, the events passed that are on that board and all before them.
-- Assumes nothing.
use Prim.Native.Nat.{ℕ, zero, suc, ◌+◌, ◌-◌, ◌*◌, ◌<◌, ◌≤◌}
use native.Mathlib.Decide.{ℕ_discrete}
use native.Mathlib.Omega.{arith}
use mathlib.Core.Path.{◌≡◌, refl, sym, ◌∙◌, ap}
use mathlib.Core.Logic.{◌⊎◌, inl, inr, ⊎_elim}
use mathlib.Core.Bool.{Bool, true, ◌&&◌, ◌||◌}
use mathlib.Core.List.{List}
use lib.Dec.{eqb}
use lib.ListN.{length, get_or}
use borrow.Author.Tests.{eq-eqb, eqb-true}
use Rattle.model.proofs.Bounded.{and_left, and_right, and_both, or_cases, or_left, or_right}
use Rattle.relation.specs.Width.{word_bits}
use Rattle.relation.specs.Rows.{holds}
use Rattle.relation.proofs.Marked.{length_marked, holds_marked}
use Rattle.joined_rows.specs.Joins.{joined_from}
use Rattle.joined_rows.proofs.Joined.{length_joined_from, holds_joined_from}
use Rattle.blocks.specs.Store.{passed_at, passed_in, passed}

-- what a row had stays; it gains an event and what is before it; and nothing else
module _ (h e s t : Bool) where
  stays : h ≡ true → ((h || e && s) || e && t) ≡ true
  stays i = or_left (h || e && s) (e && t) (or_left h (e && s) i)

  joins : e ≡ true → s ≡ true → ((h || e && s) || e && t) ≡ true
  joins i j = or_left (h || e && s) (e && t) (or_right h (e && s) (and_both e s i j))

  own : e ≡ true → t ≡ true → ((h || e && s) || e && t) ≡ true
  own i j = or_right (h || e && s) (e && t) (and_both e t i j)

  apart : ((h || e && s) || e && t) ≡ true → (h ≡ true) ⊎ ((e ≡ true) × ((t ≡ true) ⊎ (s ≡ true)))
  apart i =
      ⊎_elim
      (λ a. ⊎_elim inl (λ b. inr (and_left e s b, inr (and_right e s b))) (or_cases h (e && s) a))
      (λ b. inr (and_left e t b, inl (and_right e t b)))
      (or_cases (h || e && s) (e && t) i)

module _ (W : ℕ) (past events words : List ℕ) where
  length_passed_in : (from n : ℕ) → length (passed_in W past events words from n) ≡ length past
  unfolding passed_in passed_at
  length_passed_in from zero = refl
  length_passed_in from (suc n) = length_marked W _ _ _ ∙ length_joined_from W _ _ _ _ ∙ length_passed_in from n

  pub length_passed : (from to : ℕ) → length (passed W past events words from to) ≡ length past
  unfolding passed
  length_passed from to = length_passed_in from (to - from)

  -- every board has its row
  module _ (rooms : (e : ℕ) → get_or events e 0 * W + W ≤ length past) where
    one_more : (from n p x : ℕ) → from + n < word_bits * W → x < word_bits * W
        → holds W (passed_in W past events words from (suc n)) p x
        ≡ ((holds W (passed_in W past events words from n) p x || eqb p (get_or events (from + n) 0) && holds W words (from + n) x)
        || eqb p (get_or events (from + n) 0) && eqb x (from + n))
    unfolding passed_in passed_at
    one_more from n p x he hx =
        let l = passed_in W past events words from n in
        let p₀ = get_or events (from + n) 0 in
        let room : p₀ * W + W ≤ length l = omega (arith, length_passed_in from n, rooms (from + n)) in
        holds_marked W (joined_from W l p₀ words (from + n)) p₀ (from + n) p x (omega (arith, length_joined_from W l p₀ words (from + n))) he hx
        ∙ ap (λ (t : Bool). t || eqb p p₀ && eqb x (from + n)) (holds_joined_from W l p₀ words (from + n) p x room hx)

    -- what was there stays
    passed_in_kept : (from n p x : ℕ) → from + n ≤ word_bits * W → x < word_bits * W → holds W past p x ≡ true
        → holds W (passed_in W past events words from n) p x ≡ true
    unfolding passed_in
    passed_in_kept from zero p x he hx h = h
    passed_in_kept from (suc n) p x he hx h =
        one_more from n p x (omega arith) hx ∙ stays (holds W (passed_in W past events words from n) p x) (eqb p (get_or events (from + n) 0)) (holds W words (from + n) x) (eqb x (from + n))
        (passed_in_kept from n p x (omega arith) hx h)

    -- an event passed is there, and so is what is before it
    passed_in_event : (from n e x : ℕ) → from + n ≤ word_bits * W → x < word_bits * W → from ≤ e → e < from + n
        → (x ≡ e) ⊎ (holds W words e x ≡ true)
        → holds W (passed_in W past events words from n) (get_or events e 0) x ≡ true
    passed_in_event from zero e x he hx g l h = absurd (omega arith)
    passed_in_event from (suc n) e x he hx g l h =
        one_more from n (get_or events e 0) x (omega arith) hx ∙ go (ℕ_discrete e (from + n)) h (λ l'. passed_in_event from n e x (omega arith) hx g l' h)
      where
        there : Bool
        there = holds W (passed_in W past events words from n) (get_or events e 0) x

        same : Bool
        same = eqb (get_or events e 0) (get_or events (from + n) 0)

        go : Dec (e ≡ from + n) → (x ≡ e) ⊎ (holds W words e x ≡ true) → (e < from + n → there ≡ true)
            → ((there || same && holds W words (from + n) x) || same && eqb x (from + n)) ≡ true
        go (yes i) (inl s) before = own there same (holds W words (from + n) x) (eqb x (from + n)) (eq-eqb (get_or events e 0) (get_or events (from + n) 0) (ap (λ (j : ℕ). get_or events j 0) i)) (eq-eqb x (from + n) (s ∙ i))
        go (yes i) (inr s) before = joins there same (holds W words (from + n) x) (eqb x (from + n)) (eq-eqb (get_or events e 0) (get_or events (from + n) 0) (ap (λ (j : ℕ). get_or events j 0) i)) (ap (λ (j : ℕ). holds W words j x) (sym i) ∙ s)
        go (no d) s before = stays there same (holds W words (from + n) x) (eqb x (from + n)) (before (omega arith))

    -- and nothing else is
    abbrev Through : ℕ → ℕ → ℕ → ℕ → Type 0
    Through from to p x = (e : ℕ) × (from ≤ e) × (e < to) × (get_or events e 0 ≡ p) × ((x ≡ e) ⊎ (holds W words e x ≡ true))

    passed_in_only : (from n p x : ℕ) → from + n ≤ word_bits * W → x < word_bits * W → holds W (passed_in W past events words from n) p x ≡ true
        → (holds W past p x ≡ true) ⊎ Through from (from + n) p x
    unfolding passed_in
    passed_in_only from zero p x he hx h = inl h
    passed_in_only from (suc n) p x he hx h =
        ⊎_elim
        (λ b. ⊎_elim inl (λ (t : Through from (from + n) p x). inr (t.0, t.1, omega (arith, t.2), t.3, t.4)) (passed_in_only from n p x (omega arith) hx b))
        (λ b. inr (
          from + n,
          omega arith,
          omega arith,
          sym (eqb-true p (get_or events (from + n) 0) b.0),
          ⊎_elim (λ t. inl (eqb-true x (from + n) t)) (λ s. inr s) b.1,
        ))
        (apart (holds W (passed_in W past events words from n) p x) (eqb p (get_or events (from + n) 0)) (holds W words (from + n) x) (eqb x (from + n)) (sym (one_more from n p x (omega arith) hx) ∙ h))

    module _ (from to : ℕ) (order : from ≤ to) (most : to ≤ word_bits * W) where
      range : from + (to - from) ≡ to
      range = omega arith

      pub passed_kept : (p x : ℕ) → x < word_bits * W → holds W past p x ≡ true → holds W (passed W past events words from to) p x ≡ true
      unfolding passed
      passed_kept p x hx h = passed_in_kept from (to - from) p x (omega arith) hx h

      pub passed_event : (e x : ℕ) → x < word_bits * W → from ≤ e → e < to → (x ≡ e) ⊎ (holds W words e x ≡ true)
          → holds W (passed W past events words from to) (get_or events e 0) x ≡ true
      unfolding passed
      passed_event e x hx g l h = passed_in_event from (to - from) e x (omega arith) hx g (omega arith) h

      pub passed_only : (p x : ℕ) → x < word_bits * W → holds W (passed W past events words from to) p x ≡ true
          → (holds W past p x ≡ true) ⊎ Through from to p x
      unfolding passed
      passed_only p x hx h =
          rw range at (passed_in_only from (to - from) p x (omega arith) hx h)

-- Warshall's closure of specs/Closure, over any bound and any test: it holds the test, is transitive, and lies inside
-- every transitive relation that holds the test. Assumes nothing.
use Prim.Native.Nat.{ℕ, zero, suc, ◌<◌, ◌≤◌}
use native.Mathlib.Nat.{not-suc-le-zero, le_of_suc-le-suc, eq-or-lt_of_le}
use mathlib.Core.Path.{◌≡◌, refl, sym, ◌∙◌, ap, subst}
use mathlib.Core.Logic.{◌⊎◌, inl, inr, ⊎_elim}
use mathlib.Core.Bool.{Bool, true, false, ◌&&◌, ◌||◌}
use mathlib.Core.List.{List, [], ◌∷◌}
use lib.Dec.{ltb}
use lib.ListN.{length, get_or, get_or-eq_default}
use borrow.Author.Tests.{ltb-true, ltb-false}
use Rattle.model.specs.Closure.{cells, tabled, reads, linked}
use Rattle.model.proofs.Bounded.{and_left, and_right, and_both, or_cases, or_left, or_right, which, not_both}

-- cells: so many of them, and each
pub cells_length : {A : Type 0} (n : ℕ) (f : ℕ → A) → length (cells n f) ≡ n
unfolding cells
cells_length zero f = refl
cells_length (suc n) f = ap suc (cells_length n (λ k. f (suc k)))

pub cells_at : {A : Type 0} (n : ℕ) (f : ℕ → A) (k : ℕ) (d : A) → k < n → get_or (cells n f) k d ≡ f k
unfolding cells
cells_at zero f k d h = absurd (not-suc-le-zero h)
cells_at (suc n) f zero d h = refl
cells_at (suc n) f (suc k) d h = cells_at n (λ j. f (suc j)) k d (le_of_suc-le-suc h)

pub cells_past : {A : Type 0} (n : ℕ) (f : ℕ → A) (k : ℕ) (d : A) → n ≤ k → get_or (cells n f) k d ≡ d
cells_past n f k d h = get_or-eq_default (cells n f) d (rw cells_length h)

pub cells_same : {A : Type 0} (n : ℕ) (f g : ℕ → A) → ((k : ℕ) → f k ≡ g k) → cells n f ≡ cells n g
unfolding cells
cells_same zero f g h = refl
cells_same (suc n) f g h = rw (h 0) (ap (λ l. g 0 ∷ l) (cells_same n (λ k. f (suc k)) (λ k. g (suc k)) (λ k. h (suc k))))

-- the rows of a table
abbrev row_in : ℕ → (ℕ → ℕ → Bool) → ℕ → List Bool
row_in n r x = cells n (λ y. r x y)

-- a table's test is the relation below n, and fails outside
pub reads_inside : (n : ℕ) (r : ℕ → ℕ → Bool) (x y : ℕ) → x < n → y < n → reads (tabled n r) x y ≡ r x y
unfolding reads tabled
reads_inside n r x y p q = rw (cells_at n (row_in n r) x [] p) (cells_at n (r x) y false q)

pub reads_outside : (n : ℕ) (r : ℕ → ℕ → Bool) (x y : ℕ) → (n ≤ x) ⊎ (n ≤ y) → reads (tabled n r) x y ≡ false
unfolding reads tabled
reads_outside n r x y (inl p) = rw (cells_past n (row_in n r) x [] p)
reads_outside n r x y (inr q) = go (ltb x n) refl
  where
    go : (b : Bool) → ltb x n ≡ b → get_or (get_or (cells n (row_in n r)) x []) y false ≡ false
    go true e = rw (cells_at n (row_in n r) x [] (ltb-true x n e)) (cells_past n (r x) y false q)
    go false e = rw (cells_past n (row_in n r) x [] (ltb-false x n e))

-- what a table holds: both numbers are below n, and the relation holds of them
pub reads_true : (n : ℕ) (r : ℕ → ℕ → Bool) (x y : ℕ) → reads (tabled n r) x y ≡ true → (x < n) × (y < n) × (r x y ≡ true)
reads_true n r x y h =
    let p : x < n = below x (λ q. inl q) in
    let q : y < n = below y (λ q. inr q) in
    (p, q, sym (reads_inside n r x y p q) ∙ h)
  where
    below : (k : ℕ) → (n ≤ k → (n ≤ x) ⊎ (n ≤ y)) → k < n
    below k out =
        ⊎_elim
        (λ t. ltb-true k n t)
        (λ f. not_both (reads (tabled n r) x y) h (reads_outside n r x y (out (ltb-false k n f))))
        (which (ltb k n))

module _ (n : ℕ) (r : ℕ → ℕ → Bool) where
  -- r links x to y over numbers below k: the test, and that it passes
  abbrev pub over : ℕ → ℕ → ℕ → Bool
  over k x y = reads (linked n r k) x y

  abbrev pub Over : ℕ → ℕ → ℕ → Type 0
  Over k x y = over k x y ≡ true

  -- the test over one number more
  abbrev one_more : ℕ → ℕ → ℕ → Bool
  one_more k x y = over k x y || over k x k && over k k y

  pub linked_below : (k x y : ℕ) → Over k x y → (x < n) × (y < n)
  unfolding linked
  linked_below zero x y h = let t = reads_true n r x y h in (t.0, t.1)
  linked_below (suc k) x y h = let t = reads_true n (one_more k) x y h in (t.0, t.1)

  -- one number more to link over: x was linked to y, or x to k and k to y
  linked_split : (k x y : ℕ) → Over (suc k) x y → Over k x y ⊎ (Over k x k × Over k k y)
  unfolding linked
  linked_split k x y h =
      ⊎_elim
      (λ a. inl a)
      (λ b. inr (and_left (over k x k) (over k k y) b, and_right (over k x k) (over k k y) b))
      (or_cases (over k x y) (over k x k && over k k y) (reads_true n (one_more k) x y h).2)

  linked_more : (k x y : ℕ) → Over k x y → Over (suc k) x y
  unfolding linked
  linked_more k x y h =
      let t = linked_below k x y h in
      rw (reads_inside n (one_more k) x y t.0 t.1) (or_left (over k x y) (over k x k && over k k y) h)

  linked_through : (k x y : ℕ) → Over k x k → Over k k y → Over (suc k) x y
  unfolding linked
  linked_through k x y p q =
      let b = and_both (over k x k) (over k k y) p q in
      rw (reads_inside n (one_more k) x y (linked_below k x k p).0 (linked_below k k y q).1)
      (or_right (over k x y) (over k x k && over k k y) b)

  -- the number linked over, k, is reached and left without it
  linked_to : (k x : ℕ) → Over (suc k) x k → Over k x k
  linked_to k x h = ⊎_elim (λ a. a) (λ b. b.0) (linked_split k x k h)

  linked_from : (k y : ℕ) → Over (suc k) k y → Over k k y
  linked_from k y h = ⊎_elim (λ a. a) (λ b. b.1) (linked_split k k y h)

  -- the invariant: transitive over the numbers below k
  pub linked_over : (k j x y : ℕ) → j < k → Over k x j → Over k j y → Over k x y
  linked_over zero j x y l p q = absurd (not-suc-le-zero l)
  linked_over (suc k) j x y l p q =
      ⊎_elim last
      (λ l'. within (λ a b. linked_over k j a b l') (linked_split k x j p) (linked_split k j y q))
      (eq-or-lt_of_le (le_of_suc-le-suc l))
    where
      last : j ≡ k → Over (suc k) x y
      last e =
          linked_through k x y
          (linked_to k x (subst (λ (i : ℕ). Over (suc k) x i) e p))
          (linked_from k y (subst (λ (i : ℕ). Over (suc k) i y) e q))

      within : ((a b : ℕ) → Over k a j → Over k j b → Over k a b)
          → Over k x j ⊎ (Over k x k × Over k k j) → Over k j y ⊎ (Over k j k × Over k k y)
          → Over (suc k) x y
      within joined (inl p₁) (inl q₁) = linked_more k x y (joined x y p₁ q₁)
      within joined (inl p₁) (inr q₂) = linked_through k x y (joined x k p₁ q₂.0) q₂.1
      within joined (inr p₂) (inl q₁) = linked_through k x y p₂.0 (joined k y p₂.1 q₁)
      within joined (inr p₂) (inr q₂) = linked_through k x y p₂.0 q₂.1

  linked_keeps : (k x y : ℕ) → x < n → y < n → r x y ≡ true → Over k x y
  unfolding linked
  linked_keeps zero x y p q h = rw (reads_inside n r x y p q) h
  linked_keeps (suc k) x y p q h = linked_more k x y (linked_keeps k x y p q h)

  -- The closure holds r on the numbers below n, is transitive, and lies inside every transitive relation that holds r there.
  pub closure_holds : (x y : ℕ) → x < n → y < n → r x y ≡ true → Over n x y
  closure_holds x y p q h = linked_keeps n x y p q h

  pub closure_transitive : (x y z : ℕ) → Over n x y → Over n y z → Over n x z
  closure_transitive x y z p q = linked_over n y x z (linked_below n x y p).1 p q

  module _ (Q : ℕ → ℕ → Type 0) (holds : (x y : ℕ) → x < n → y < n → r x y ≡ true → Q x y)
      (transitive : (x y z : ℕ) → Q x y → Q y z → Q x z) where
    pub linked_least : (k x y : ℕ) → Over k x y → Q x y
    unfolding linked
    linked_least zero x y h = let t = reads_true n r x y h in holds x y t.0 t.1 t.2
    linked_least (suc k) x y h =
        ⊎_elim
        (λ a. linked_least k x y a)
        (λ b. transitive x k y (linked_least k x k b.0) (linked_least k k y b.1))
        (linked_split k x y h)

    pub closure_least : (x y : ℕ) → Over n x y → Q x y
    closure_least x y h = linked_least n x y h

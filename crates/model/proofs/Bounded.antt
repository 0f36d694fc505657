-- What the tests of specs/Bounded say, one law each. Assumes nothing.
use Prim.Native.Nat.{ℕ, zero, suc, ◌+◌, ◌*◌, ◌<◌, ◌≤◌}
use native.Mathlib.Nat.{not-suc-le-zero, le_of_suc-le-suc, eq-or-lt_of_le, le_step, lt-suc_self}
use native.Mathlib.Decide.{dec_lt}
use native.Mathlib.Omega.{arith}
use mathlib.Core.Path.{◌≡◌, refl, sym, ◌∙◌, ap, subst}
use mathlib.Core.Logic.{◌⊎◌, inl, inr, ⊎_elim}
use mathlib.Core.Bool.{Bool, true, false, not, cond, ◌&&◌, ◌||◌}
use mathlib.Core.Option.{Option, none, some}
use borrow.Author.Tests.{not-true, not-false, leb-true, leb-false}
use lib.Dec.{leb}
use Rattle.model.specs.Bounded.{every, any, how_many, lowest}

-- the halves of a conjunction that holds
pub and_left : (a b : Bool) → (a && b) ≡ true → a ≡ true
and_left true b h = refl
and_left false b h = h

pub and_right : (a b : Bool) → (a && b) ≡ true → b ≡ true
and_right true b h = h
and_right false b h = let z : ◌≡◌ {A = ℕ} 0 1 = cc in absurd (omega arith)

pub and_both : (a b : Bool) → a ≡ true → b ≡ true → (a && b) ≡ true
and_both a b p q = rw (p, q)

-- a disjunction that holds
pub or_cases : (a b : Bool) → (a || b) ≡ true → (a ≡ true) ⊎ (b ≡ true)
or_cases true b h = inl refl
or_cases false b h = inr h

pub or_left : (a b : Bool) → a ≡ true → (a || b) ≡ true
or_left a b p = rw p

pub or_right : (a b : Bool) → b ≡ true → (a || b) ≡ true
or_right true b p = refl
or_right false b p = p

-- a test passes or fails, and not both
pub which : (b : Bool) → (b ≡ true) ⊎ (b ≡ false)
which true = inl refl
which false = inr refl

pub not_both : {C : Type 0} (b : Bool) → b ≡ true → b ≡ false → C
not_both b p q = let z : ◌≡◌ {A = ℕ} 0 1 = cc in absurd (omega arith)

-- a disjunction that fails
pub or_neither : (a b : Bool) → (a || b) ≡ false → (a ≡ false) × (b ≡ false)
or_neither true b h = not_both true refl h
or_neither false b h = (refl, h)

-- two tests of which each follows from the other
pub both_ways : (p q : Bool) → (p ≡ true → q ≡ true) → (q ≡ true → p ≡ true) → p ≡ q
both_ways true q f g = sym (f refl)
both_ways false true f g = g refl
both_ways false false f g = refl

pub not_is_true : (b : Bool) → b ≡ false → not b ≡ true
not_is_true b p = rw p

-- the numbers below n + 1
below_suc : {k n : ℕ} → k < suc n → (k ≡ n) ⊎ (k < n)
below_suc h = eq-or-lt_of_le (le_of_suc-le-suc h)

-- every: at each number below the bound, and from each
pub every_at : (n : ℕ) (p : ℕ → Bool) → every n p ≡ true → (k : ℕ) → k < n → p k ≡ true
unfolding every
every_at zero p h k l = absurd (not-suc-le-zero l)
every_at (suc n) p h k l =
    ⊎_elim
    (λ e. subst (λ (j : ℕ). p j ≡ true) (sym e) (and_right (every n p) (p n) h))
    (λ l'. every_at n p (and_left (every n p) (p n) h) k l')
    (below_suc l)

pub every_from : (n : ℕ) (p : ℕ → Bool) → ((k : ℕ) → k < n → p k ≡ true) → every n p ≡ true
unfolding every
every_from zero p h = refl
every_from (suc n) p h =
    and_both (every n p) (p n) (every_from n p (λ k l. h k (le_step l))) (h n (lt-suc_self n))

-- a number below the bound that fails the test, where not every one passes it
pub every_not : (n : ℕ) (p : ℕ → Bool) → every n p ≡ false → (k : ℕ) × (k < n) × (p k ≡ false)
unfolding every
every_not zero p h = not_both true refl h
every_not (suc n) p h =
    ⊎_elim
    (λ (t : p n ≡ true). let e : every n p ≡ false = fails (every n p) (p n) t h in
    let r = every_not n p e in
    (r.0, le_step r.1, r.2))
    (λ f. (n, lt-suc_self n, f))
    (which (p n))
  where
    fails : (a b : Bool) → b ≡ true → (a && b) ≡ false → a ≡ false
    fails true b t f = not_both b t f
    fails false b t f = refl

-- any: from one number, and some number
pub any_from : (n : ℕ) (p : ℕ → Bool) (k : ℕ) → k < n → p k ≡ true → any n p ≡ true
unfolding any
any_from n p k l h =
    ⊎_elim
    (λ (e : every n (λ j. not (p j)) ≡ true). not_both (p k) h (not-true (p k) (every_at n (λ j. not (p j)) e k l)))
    (λ (e : every n (λ j. not (p j)) ≡ false). not_is_true (every n (λ j. not (p j))) e)
    (which (every n (λ j. not (p j))))

pub any_some : (n : ℕ) (p : ℕ → Bool) → any n p ≡ true → (k : ℕ) × (k < n) × (p k ≡ true)
unfolding any
any_some n p h =
    let r = every_not n (λ j. not (p j)) (not-true (every n (λ j. not (p j))) h) in
    (r.0, r.1, not-false (p r.0) r.2)

pub any_none : (n : ℕ) (p : ℕ → Bool) → any n p ≡ false → (k : ℕ) → k < n → p k ≡ false
any_none n p h k l =
    ⊎_elim (λ (t : p k ≡ true). not_both (any n p) (any_from n p k l t) h) (λ f. f) (which (p k))

-- lowest: none below the bound passes; or the one found is below it, passes, and no lower one does
pub record IsLowest (n : ℕ) (p : ℕ → Bool) (k : ℕ) : Type 0 where
  pub below : k < n
  pub passes : p k ≡ true
  pub first : (j : ℕ) → j < k → p j ≡ false

-- what the search for the lowest found
abbrev pub Found : ℕ → (ℕ → Bool) → Option ℕ → Type 0
Found n p none = (k : ℕ) → k < n → p k ≡ false
Found n p (some k) = IsLowest n p k

found_step : (n : ℕ) (p : ℕ → Bool) (o : Option ℕ) → Found n p o
    → Found (suc n) p (elim o [ none ↦ cond (p n) (some n) none | some k ↦ some k ])
found_step n p (some k) h = record { below = le_step h.below; passes = h.passes; first = h.first }
found_step n p none h = go (p n) refl
  where
    go : (b : Bool) → p n ≡ b → Found (suc n) p (cond b (some n) none)
    go true e = record { below = lt-suc_self n; passes = e; first = h }
    go false e = λ k l. ⊎_elim (λ i. subst (λ (j : ℕ). p j ≡ false) (sym i) e) (λ l'. h k l') (below_suc l)

pub lowest_found : (n : ℕ) (p : ℕ → Bool) → Found n p (lowest n p)
unfolding lowest
lowest_found zero p = λ k l. absurd (not-suc-le-zero l)
lowest_found (suc n) p = found_step n p (lowest n p) (lowest_found n p)

pub lowest_none : (n : ℕ) (p : ℕ → Bool) → lowest n p ≡ none → (k : ℕ) → k < n → p k ≡ false
lowest_none n p e = subst (λ (o : Option ℕ). Found n p o) e (lowest_found n p)

pub lowest_some : (n : ℕ) (p : ℕ → Bool) (k : ℕ) → lowest n p ≡ some k → IsLowest n p k
lowest_some n p k e = subst (λ (o : Option ℕ). Found n p o) e (lowest_found n p)

-- two numbers are equal, or one of them is below the other
pub apart : (j i : ℕ) → (j ≡ i) ⊎ ((j < i) ⊎ (i < j))
apart j i =
    ⊎_elim
    (λ (t : leb j i ≡ true). ⊎_elim inl (λ h. inr (inl h)) (eq-or-lt_of_le (leb-true j i t)))
    (λ (f : leb j i ≡ false). inr (inr (leb-false j i f)))
    (which (leb j i))

-- a search that goes up from 0: nothing found below k; and then k is found, or k fails too
pub lowest_hit : (n k : ℕ) (p : ℕ → Bool) → lowest k p ≡ none → p k ≡ true → k < n → lowest n p ≡ some k
lowest_hit n k p e t l = go (lowest n p) (lowest_found n p)
  where
    go : (o : Option ℕ) → Found n p o → o ≡ some k
    go none f = not_both (p k) t (f k l)
    go (some j) f =
        ap some
        (⊎_elim (λ (i : j ≡ k). i)
        (⊎_elim
        (λ (h : j < k). not_both (p j) f.passes (lowest_none k p e j h))
        (λ (h : k < j). not_both (p k) t (f.first k h)))
        (apart j k))

pub lowest_miss : (k : ℕ) (p : ℕ → Bool) → lowest k p ≡ none → p k ≡ false → lowest (suc k) p ≡ none
unfolding lowest
lowest_miss k p e f = rw (e, lowest, f)

-- one number that fails is enough
pub every_fails : (n : ℕ) (p : ℕ → Bool) (k : ℕ) → k < n → p k ≡ false → every n p ≡ false
every_fails n p k l h = ⊎_elim (λ t. not_both (p k) (every_at n p t k l) h) (λ f. f) (which (every n p))

-- two tests that pass on the same numbers below the bound have the same lowest
pub lowest_same : (n : ℕ) (p q : ℕ → Bool) → ((k : ℕ) → k < n → p k ≡ true → q k ≡ true) → ((k : ℕ) → k < n → q k ≡ true → p k ≡ true)
    → lowest n p ≡ lowest n q
lowest_same n p q f g = go (lowest n p) (lowest n q) (lowest_found n p) (lowest_found n q)
  where
    go : (o u : Option ℕ) → Found n p o → Found n q u → o ≡ u
    go none none a b = refl
    go none (some k) a b = not_both (p k) (g k b.below b.passes) (a k b.below)
    go (some j) none a b = not_both (q j) (f j a.below a.passes) (b j a.below)
    go (some j) (some k) a b =
        ap some
        (⊎_elim (λ (i : j ≡ k). i)
        (⊎_elim
        (λ (h : j < k). not_both (q j) (f j a.below a.passes) (b.first j h))
        (λ (h : k < j). not_both (p k) (g k b.below b.passes) (a.first k h)))
        (apart j k))

-- no number below the bound passes
pub lowest_nowhere : (n : ℕ) (p : ℕ → Bool) → ((k : ℕ) → k < n → p k ≡ false) → lowest n p ≡ none
lowest_nowhere n p f = go (lowest n p) (lowest_found n p)
  where
    go : (o : Option ℕ) → Found n p o → o ≡ none
    go none h = refl
    go (some k) h = not_both (p k) h.passes (f k h.below)

-- tests that agree below n, of which the first fails from there to m
pub lowest_within : (n m : ℕ) (p q : ℕ → Bool) → n ≤ m → ((k : ℕ) → k < n → p k ≡ q k) → ((k : ℕ) → n ≤ k → k < m → p k ≡ false)
    → lowest m p ≡ lowest n q
lowest_within n m p q l same rest = go (lowest n q) refl
  where
    go : (o : Option ℕ) → lowest n q ≡ o → lowest m p ≡ o
    go none e = lowest_nowhere m p (λ k h. near k h (dec_lt k n))
      where
        near : (k : ℕ) → k < m → Dec (k < n) → p k ≡ false
        near k h (yes b) = same k b ∙ lowest_none n q e k b
        near k h (no b) = rest k (omega arith) h
    go (some k) e =
        let L = lowest_some n q k e in
        let inside : k < n = L.below in
        lowest_hit m k p (lowest_nowhere k p (λ j h. same j (omega arith) ∙ L.first j h)) (same k inside ∙ L.passes) (omega arith)

-- ---- how many pass the test

pub many_same : (n : ℕ) (p q : ℕ → Bool) → ((k : ℕ) → k < n → p k ≡ q k) → how_many n p ≡ how_many n q
unfolding how_many
many_same zero p q same = refl
many_same (suc n) p q same =
    rw (many_same n p q (λ k l. same k (omega (arith, l))), same n (omega arith))

pub many_most : (n : ℕ) (p : ℕ → Bool) → how_many n p ≤ n
unfolding how_many
many_most zero p = omega arith
many_most (suc n) p = omega (arith, many_most n p, one_most (p n))
  where
    one_most : (b : Bool) → cond {A = ℕ} b 1 0 ≤ 1
    one_most true = omega arith
    one_most false = omega arith

-- the first of them, and the rest
pub many_front : (n : ℕ) (p : ℕ → Bool) → how_many (suc n) p ≡ cond (p 0) 1 0 + how_many n (λ k. p (suc k))
unfolding how_many
many_front zero p = omega arith
many_front (suc n) p = omega (arith, many_front n p)

-- those below a, and b more
pub many_split : (a b : ℕ) (p : ℕ → Bool) → how_many (a + b) p ≡ how_many a p + how_many b (λ k. p (a + k))
unfolding how_many
many_split a zero p = let e : a + 0 ≡ a = omega arith in ap (λ m. how_many m p) e ∙ omega arith
many_split a (suc b) p =
    let e : a + suc b ≡ suc (a + b) = omega arith in
    let l : how_many (suc (a + b)) p ≡ how_many a p + (how_many b (λ k. p (a + k)) + cond (p (a + b)) 1 0) = omega (arith, many_split a b p) in
    ap (λ m. how_many m p) e ∙ l

-- where no odd number passes, those that pass are the doubles
pub many_doubles : (n : ℕ) (p : ℕ → Bool) → ((k : ℕ) → k < n → p (2 * k + 1) ≡ false) → how_many (2 * n) p ≡ how_many n (λ k. p (2 * k))
unfolding how_many
many_doubles zero p odd = refl
many_doubles (suc n) p odd =
    let e : 2 * suc n ≡ suc (suc (2 * n)) = omega arith in
    let f : 2 * n + 1 ≡ suc (2 * n) = omega arith in
    let none : p (suc (2 * n)) ≡ false = ap p (sym f) ∙ odd n (omega arith) in
    let zero_more : cond {A = ℕ} (p (suc (2 * n))) 1 0 ≡ 0 = rw none in
    let l : how_many (suc (suc (2 * n))) p ≡ how_many n (λ k. p (2 * k)) + cond (p (2 * n)) 1 0
    = omega (arith, many_doubles n p (λ k l. odd k (omega (arith, l))), zero_more) in
    ap (λ m. how_many m p) e ∙ l

-- What stands where in a list of numbers: the members, which is ahead of which, and lists that have each member once.
-- Assumes nothing.
use Prim.Native.Nat.{ℕ, zero, suc, ◌<◌}
use native.Mathlib.Nat.{not-suc-le-zero, le_of_suc-le-suc}
use mathlib.Core.Path.{◌≡◌, refl, sym, ◌∙◌, ap, subst}
use mathlib.Core.Logic.{◌⊎◌, inl, inr, ⊎_elim}
use mathlib.Core.Bool.{Bool, true, false, not, ◌&&◌, ◌||◌, or-false}
use mathlib.Core.List.{List, [], ◌∷◌, ◌++◌}
use lib.Dec.{eqb, ltb}
use lib.ListN.{length, get_or, take}
use borrow.Author.Tests.{eqb-true, eq-eqb, ne_eqb, ltb-true, lt-ltb, not-true}
use Rattle.model.specs.Bounded.{among, each_once}
use Rattle.model.specs.Taps.{ahead}
use Rattle.model.proofs.Bounded.{and_left, and_right, and_both, or_cases, or_left, or_right, not_both}

-- the members of a list with one more at its end
pub among_snoc : (x : ℕ) (l : List ℕ) (k : ℕ) → among x (l ++ (k ∷ [])) ≡ (among x l || eqb x k)
unfolding among
among_snoc x [] k = or-false (eqb x k)
among_snoc x (j ∷ l) k = go (eqb x j) (among_snoc x l k)
  where
    go : (t : Bool) → among x (l ++ (k ∷ [])) ≡ (among x l || eqb x k) → (t || among x (l ++ (k ∷ []))) ≡ (t || among x l || eqb x k)
    go true h = refl
    go false h = h

pub among_kept : (x : ℕ) (l : List ℕ) (k : ℕ) → among x l ≡ true → among x (l ++ (k ∷ [])) ≡ true
among_kept x l k h = rw among_snoc (or_left (among x l) (eqb x k) h)

-- a member of a list is its first, or one behind it
pub among_cases : (x k : ℕ) (l : List ℕ) → among x (k ∷ l) ≡ true → (x ≡ k) ⊎ (among x l ≡ true)
unfolding among
among_cases x k l h = ⊎_elim (λ e. inl (eqb-true x k e)) inr (or_cases (eqb x k) (among x l) h)

pub among_not : (x k : ℕ) (l : List ℕ) → (x ≡ k → ⊥) → among x l ≡ false → among x (k ∷ l) ≡ false
unfolding among
among_not x k l n h = rw (ne_eqb x k n) h

pub among_here : (x : ℕ) (l : List ℕ) → among x (x ∷ l) ≡ true
unfolding among
among_here x l = rw (eq-eqb x x refl)

pub among_there : (x k : ℕ) (l : List ℕ) → among x l ≡ true → among x (k ∷ l) ≡ true
unfolding among
among_there x k l h = or_right (eqb x k) (among x l) h

-- what stands at a place is a member
among_at : (l : List ℕ) (i : ℕ) → i < length l → among (get_or l i 0) l ≡ true
among_at [] i h = absurd (not-suc-le-zero h)
among_at (k ∷ l) zero h = among_here k l
among_at (k ∷ l) (suc i) h = among_there (get_or l i 0) k l (among_at l i (le_of_suc-le-suc h))

-- x is ahead of y: as the first, or behind it
pub ahead_cases : (k : ℕ) (l : List ℕ) (x y : ℕ) → ahead (k ∷ l) x y ≡ true → ((x ≡ k) × (among y l ≡ true)) ⊎ (ahead l x y ≡ true)
unfolding ahead
ahead_cases k l x y h =
    ⊎_elim
    (λ e. inl (eqb-true x k (and_left (eqb x k) (among y l) e), and_right (eqb x k) (among y l) e))
    inr
    (or_cases (eqb x k && among y l) (ahead l x y) h)

pub ahead_here : (k : ℕ) (l : List ℕ) (x y : ℕ) → x ≡ k → among y l ≡ true → ahead (k ∷ l) x y ≡ true
unfolding ahead
ahead_here k l x y e h =
    or_left (eqb x k && among y l) (ahead l x y) (and_both (eqb x k) (among y l) (eq-eqb x k e) h)

pub ahead_there : (k : ℕ) (l : List ℕ) (x y : ℕ) → ahead l x y ≡ true → ahead (k ∷ l) x y ≡ true
unfolding ahead
ahead_there k l x y h = or_right (eqb x k && among y l) (ahead l x y) h

-- in an empty list nothing is ahead of anything
pub ahead_empty : (l : List ℕ) → l ≡ [] → (x y : ℕ) → ahead l x y ≡ false
unfolding ahead
ahead_empty l e x y = ap (λ (k : List ℕ). ahead k x y) e

-- both are members
pub ahead_left : (l : List ℕ) (x y : ℕ) → ahead l x y ≡ true → among x l ≡ true
unfolding ahead
ahead_left [] x y h = not_both false h refl
ahead_left (k ∷ l) x y h =
    ⊎_elim
    (λ p. subst (λ (j : ℕ). among x (j ∷ l) ≡ true) p.0 (among_here x l))
    (λ q. among_there x k l (ahead_left l x y q))
    (ahead_cases k l x y h)

pub ahead_right : (l : List ℕ) (x y : ℕ) → ahead l x y ≡ true → among y l ≡ true
unfolding ahead
ahead_right [] x y h = not_both false h refl
ahead_right (k ∷ l) x y h =
    ⊎_elim (λ p. among_there y k l p.1) (λ q. among_there y k l (ahead_right l x y q)) (ahead_cases k l x y h)

-- one more at the end: those ahead stay so, and every member is ahead of it
pub ahead_kept : (l : List ℕ) (k x y : ℕ) → ahead l x y ≡ true → ahead (l ++ (k ∷ [])) x y ≡ true
unfolding ahead
ahead_kept [] k x y h = not_both false h refl
ahead_kept (j ∷ l) k x y h =
    ⊎_elim
    (λ p. ahead_here j (l ++ (k ∷ [])) x y p.0 (among_kept y l k p.1))
    (λ q. ahead_there j (l ++ (k ∷ [])) x y (ahead_kept l k x y q))
    (ahead_cases j l x y h)

pub ahead_last : (l : List ℕ) (k x : ℕ) → among x l ≡ true → ahead (l ++ (k ∷ [])) x k ≡ true
unfolding among
ahead_last [] k x h = not_both false h refl
ahead_last (j ∷ l) k x h =
    ⊎_elim
    (λ e. ahead_here j (l ++ (k ∷ [])) x k e (among_snoc k l k ∙ or_right (among k l) (eqb k k) (eq-eqb k k refl)))
    (λ m. ahead_there j (l ++ (k ∷ [])) x k (ahead_last l k x m))
    (among_cases x j l h)

-- each member once: the first is below n and not behind it, and so on
pub record Once (n k : ℕ) (l : List ℕ) : Type 0 where
  pub below : k < n
  pub fresh : among k l ≡ false
  pub rest : each_once n l ≡ true

pub once_parts : (n k : ℕ) (l : List ℕ) → each_once n (k ∷ l) ≡ true → Once n k l
unfolding each_once
once_parts n k l h =
    let a = and_left (ltb k n && not (among k l)) (each_once n l) h in
    record {
      below = ltb-true k n (and_left (ltb k n) (not (among k l)) a);
      fresh = not-true (among k l) (and_right (ltb k n) (not (among k l)) a);
      rest = and_right (ltb k n && not (among k l)) (each_once n l) h;
    }

pub once_make : (n k : ℕ) (l : List ℕ) → Once n k l → each_once n (k ∷ l) ≡ true
unfolding each_once
once_make n k l o = rw (lt-ltb k n o.below, o.fresh, o.rest)

pub once_below : (n : ℕ) (l : List ℕ) (x : ℕ) → each_once n l ≡ true → among x l ≡ true → x < n
unfolding among
once_below n [] x h m = not_both false m refl
once_below n (k ∷ l) x h m =
    let o = once_parts n k l h in
    ⊎_elim (λ e. subst (λ (j : ℕ). j < n) (sym e) o.below) (λ r. once_below n l x o.rest r) (among_cases x k l m)

pub ahead_inside : (n : ℕ) (l : List ℕ) → each_once n l ≡ true → (x y : ℕ) → ahead l x y ≡ true → (x < n) × (y < n)
ahead_inside n l once x y h = (once_below n l x once (ahead_left l x y h), once_below n l y once (ahead_right l x y h))

-- one more at the end, and what stands at a place: below n, and not among those ahead of it
pub once_snoc : (n : ℕ) (l : List ℕ) (k : ℕ) → each_once n l ≡ true → k < n → among k l ≡ false → each_once n (l ++ (k ∷ [])) ≡ true
unfolding each_once among
once_snoc n [] k h b f = rw (lt-ltb k n b)
once_snoc n (j ∷ l) k h b f =
    let o = once_parts n j l h in
    let apart : j ≡ k → ⊥ = λ e. not_both (eqb k j || among k l) (or_left (eqb k j) (among k l) (eq-eqb k j (sym e))) f in
    once_make n j (l ++ (k ∷ []))
    (record {
      below = o.below;
      fresh = among_snoc j l k ∙ rw o.fresh (ne_eqb j k apart);
      rest = once_snoc n l k o.rest b (later (eqb k j) f);
    })
  where
    later : (t : Bool) → (t || among k l) ≡ false → among k l ≡ false
    later true e = not_both true refl e
    later false e = e

pub once_at : (n : ℕ) (l : List ℕ) (i : ℕ) → each_once n l ≡ true → i < length l
    → (get_or l i 0 < n) × (among (get_or l i 0) (take i l) ≡ false)
unfolding among
once_at n [] i h b = absurd (not-suc-le-zero b)
once_at n (k ∷ l) zero h b = ((once_parts n k l h).below, refl)
once_at n (k ∷ l) (suc i) h b =
    let o = once_parts n k l h in
    let r = once_at n l i o.rest (le_of_suc-le-suc b) in
    let apart : get_or l i 0 ≡ k → ⊥ =
    λ e. not_both (among k l) (subst (λ (j : ℕ). among j l ≡ true) e (among_at l i (le_of_suc-le-suc b))) o.fresh in
    (r.0, among_not (get_or l i 0) k (take i l) apart r.1)

-- in such a list "ahead" is transitive, and nothing is ahead of itself
pub ahead_transitive : (n : ℕ) (l : List ℕ) (x y z : ℕ) → each_once n l ≡ true → ahead l x y ≡ true → ahead l y z ≡ true → ahead l x z ≡ true
unfolding ahead
ahead_transitive n [] x y z h p q = not_both false p refl
ahead_transitive n (k ∷ l) x y z h p q =
    let o = once_parts n k l h in
    ⊎_elim
    (λ a.
    ⊎_elim (λ b. ahead_here k l x z a.0 b.1) (λ b. ahead_here k l x z a.0 (ahead_right l y z b)) (ahead_cases k l y z q))
    (λ a.
    ⊎_elim
    (λ b. not_both (among k l) (subst (λ (j : ℕ). among j l ≡ true) b.0 (ahead_right l x y a)) o.fresh)
    (λ b. ahead_there k l x z (ahead_transitive n l x y z o.rest a b))
    (ahead_cases k l y z q))
    (ahead_cases k l x y p)

pub ahead_irreflexive : (n : ℕ) (l : List ℕ) (x : ℕ) → each_once n l ≡ true → ahead l x x ≡ true → ⊥
unfolding ahead
ahead_irreflexive n [] x h p = not_both false p refl
ahead_irreflexive n (k ∷ l) x h p =
    let o = once_parts n k l h in
    ⊎_elim
    (λ a. not_both (among k l) (subst (λ (j : ℕ). among j l ≡ true) a.0 a.1) o.fresh)
    (λ a. ahead_irreflexive n l x o.rest a)
    (ahead_cases k l x x p)

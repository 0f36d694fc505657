-- An order with one pair more stays transitive, and is the least such; and `inserted` is that order.
-- Assumes nothing.
use mathlib.Core.Path.{◌≡◌, refl, sym, ap, ◌∙◌, subst}
use mathlib.Core.Bool.{Bool, true, false, not, ◌&&◌, ◌||◌, and-eq-true_iff, and_comm, and-false, or-false, true≢false}
use mathlib.Core.Logic.{◌⊎◌, inl, inr, ⊎_elim}
use mathlib.Core.List.{List}
use Prim.Native.Nat.{ℕ, ◌*◌, ◌<◌, ◌≤◌}
use native.Mathlib.Omega.{arith}
use lib.Dec.{eqb, leb, ltb}
use lib.ListN.{length}
use borrow.Author.Tests.{eq-eqb, ne_eqb, eqb-true, le-leb, lt-ltb}
use Rattle.model.proofs.Bounded.{or_cases, or_left, or_right}
use Rattle.relation.specs.Width.{word_bits}
use Rattle.relation.specs.Rows.{holds}
use Rattle.relation.specs.Order.{before, Transitive}
use Rattle.relation.proofs.Tests.{both_ways}
use Rattle.relation.proofs.Order.{Within, Covers, linked}
use Rattle.closure.specs.Insertion.{inserted}
use Rattle.closure.proofs.Inserted.{holds_inserted}

-- what holds of z, and of b by the test r, holds of b where b is z or r is true
same_or : (C : ℕ → Type 0) (b z : ℕ) (r : Bool) → (eqb b z || r) ≡ true → C z → (r ≡ true → C b) → C b
same_or C b z r t same other = ⊎_elim (λ e. subst C (sym (eqb-true b z e)) same) other (or_cases (eqb b z) r t)

module _ (n : ℕ) (R : ℕ → ℕ → Bool) (x y : ℕ) where
  -- all at or before x is before all at or behind y
  crossing : (a b : ℕ) → (eqb a x || R a x) ≡ true → (eqb b y || R y b) ≡ true → linked R x y a b ≡ true
  crossing a b p q = or_right (R a b) _ ((and-eq-true_iff (eqb a x || R a x) (eqb b y || R y b)).1 (p, q))

  pub linked_holds : Within n R (linked R x y)
  linked_holds a b ha hb t = or_left (R a b) _ t

  pub linked_pair : linked R x y x y ≡ true
  linked_pair = crossing x y (or_left _ _ (eq-eqb x x refl)) (or_left _ _ (eq-eqb y y refl))

  linked_split : (a b : ℕ) → linked R x y a b ≡ true
      → (R a b ≡ true) ⊎ (((eqb a x || R a x) ≡ true) × ((eqb b y || R y b) ≡ true))
  linked_split a b t =
      ⊎_elim inl (λ both. inr ((and-eq-true_iff (eqb a x || R a x) (eqb b y || R y b)).0 both)) (or_cases (R a b) _ t)

  linked_transitive : Transitive n R → x < n → y < n → Transitive n (linked R x y)
  linked_transitive closed hx hy a b c ha hb hc p q =
      ⊎_elim
      (λ ab. ⊎_elim (λ bc. linked_holds a c ha hc (closed a b c ha hb hc ab bc)) (λ w. crossing a c (sooner ab w.0) w.1) (linked_split b c q))
      (λ v. ⊎_elim (λ bc. crossing a c v.0 (later v.1 bc)) (λ w. crossing a c v.0 w.1) (linked_split b c q))
      (linked_split a b p)
    where
      sooner : R a b ≡ true → (eqb b x || R b x) ≡ true → (eqb a x || R a x) ≡ true
      sooner ab t =
          or_right (eqb a x) (R a x)
          (same_or (λ (z : ℕ). R a z ≡ true → R a x ≡ true) b x (R b x) t (λ ax. ax) (λ bx ab. closed a b x ha hb hx ab bx) ab)

      later : (eqb b y || R y b) ≡ true → R b c ≡ true → (eqb c y || R y c) ≡ true
      later t bc =
          or_right (eqb c y) (R y c)
          (same_or (λ (z : ℕ). R z c ≡ true → R y c ≡ true) b y (R y b) t (λ yc. yc) (λ yb bc. closed y b c hy hb hc yb bc) bc)

  pub linked_least : (S : ℕ → ℕ → Bool) → Transitive n S → Within n R S → S x y ≡ true → x < n → y < n → Within n (linked R x y) S
  linked_least S closed holds_r xy hx hy a b ha hb t =
      ⊎_elim (λ ab. holds_r a b ha hb ab) (λ w. on w.1 (to_y w.0)) (linked_split a b t)
    where
      to_y : (eqb a x || R a x) ≡ true → S a y ≡ true
      to_y p = same_or (λ (z : ℕ). S z y ≡ true) a x (R a x) p xy (λ ax. closed a x y ha hx hy (holds_r a x ha hx ax) xy)

      on : (eqb b y || R y b) ≡ true → S a y ≡ true → S a b ≡ true
      on q ay = same_or (λ (z : ℕ). S a z ≡ true) b y (R y b) q ay (λ yb. closed a y b ha hy hb ay (holds_r y b hy hb yb))

module _ (W n : ℕ) (l : List ℕ) (x y from to : ℕ) (events : n ≤ word_bits * W) (hx : x < n) (hy : y < n) (room : to * W ≤ length l)
    (covers : Covers W l n y from to) (closed : Transitive n (before W l)) where
  -- a closed order that has the pair has all that the pair brings
  linked_already : (a b : ℕ) → a < n → b < n → holds W l y x ≡ true → holds W l b a ≡ linked (before W l) x y a b
  linked_already a b ha hb xy =
      both_ways (holds W l b a) (linked (before W l) x y a b) (linked_holds n (before W l) x y a b ha hb)
      (linked_least n (before W l) x y (before W l) closed (λ a b ha hb t. t) xy hx hy a b ha hb)

  pub inserted_linked : (a b : ℕ) → a < n → b < n → before W (inserted W l x y from to) a b ≡ linked (before W l) x y a b
  inserted_linked a b ha hb =
      holds_inserted W l x y from to b a room (omega arith) (omega arith) (omega arith)
      ∙ by_pair (holds W l y x) refl
    where
      go : (t : Bool) → (leb from b && ltb b to) ≡ t
          → (t && ((eqb b y || holds W l b y) && (eqb a x || holds W l x a))) ≡ ((eqb a x || holds W l x a) && (eqb b y || holds W l b y))
      go true e = and_comm (eqb b y || holds W l b y) (eqb a x || holds W l x a)
      go false e =
          let out : (b ≡ y → ⊥) × (holds W l b y ≡ false) = covers b hb (λ p q. true≢false (rw (le-leb from b p, lt-ltb b to q) at e)) in
          rw (ne_eqb b y out.0, out.1, and-false)

      by_pair : (t : Bool) → holds W l y x ≡ t
          → (holds W l b a || not t && (leb from b && ltb b to && ((eqb b y || holds W l b y) && (eqb a x || holds W l x a))))
          ≡ linked (before W l) x y a b
      by_pair true e = or-false (holds W l b a) ∙ linked_already a b ha hb e
      by_pair false e = ap (λ (t : Bool). holds W l b a || t) (go (leb from b && ltb b to) refl)

  pub inserted_closed : Transitive n (before W (inserted W l x y from to))
  inserted_closed a b c ha hb hc p q =
      inserted_linked a c ha hc
      ∙ linked_transitive n (before W l) x y closed hx hy a b c ha hb hc (sym (inserted_linked a b ha hb) ∙ p) (sym (inserted_linked b c hb hc) ∙ q)

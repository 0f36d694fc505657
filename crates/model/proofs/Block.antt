-- The order of a block: the computed table is exactly the least transitive relation, and what one P row and one message more add to
-- it. Assumes nothing.
use Prim.Native.Nat.{ℕ, ◌+◌, ◌*◌, ◌%◌, ◌<◌}
use native.Mathlib.Omega.{arith}
use native.Mathlib.Decide.{ℕ_discrete}
use mathlib.Core.Path.{◌≡◌, refl, sym, ◌∙◌, subst}
use mathlib.Core.Logic.{◌⊎◌, inl, inr, ⊎_elim, ◌↔◌}
use mathlib.Core.Bool.{Bool, true, false, ◌&&◌}
use mathlib.Core.List.{List, ◌∷◌}
use lib.Dec.{eqb, ltb}
use borrow.Author.Tests.{eqb-true, eq-eqb, ltb-true, lt-ltb}
use Rattle.model.specs.Closure.{listed, reads}
use Rattle.model.specs.Place.{is_own_pair, BlockBefore, given, paired, through, block_direct, block_table, block_circle}
use Rattle.model.proofs.Bounded.{and_left, and_right, or_cases, or_left, or_right, both_ways, not_both, any_from, any_none, any_some}
use Rattle.model.proofs.Closure.{linked_below, closure_holds, closure_transitive, closure_least}

-- a message's own pair: its parts, and from them
pub own_pair_parts : (n x y : ℕ) → is_own_pair n x y ≡ true → (x % 2 ≡ 0) × (y ≡ x + 1) × (y < n)
unfolding is_own_pair
own_pair_parts n x y h =
    let ab = and_left (eqb (x % 2) 0 && eqb y (x + 1)) (ltb y n) h in (
      eqb-true (x % 2) 0 (and_left (eqb (x % 2) 0) (eqb y (x + 1)) ab),
      eqb-true y (x + 1) (and_right (eqb (x % 2) 0) (eqb y (x + 1)) ab),
      ltb-true y n (and_right (eqb (x % 2) 0 && eqb y (x + 1)) (ltb y n) h),
    )

pub own_pair_from : (n x y : ℕ) → x % 2 ≡ 0 → y ≡ x + 1 → y < n → is_own_pair n x y ≡ true
unfolding is_own_pair
own_pair_from n x y a b c = rw (a, eq-eqb y (x + 1) b, lt-ltb y n c)

-- one pair more on a list
pub listed_more : (x y a b : ℕ) (orders : List (ℕ × ℕ)) → listed a b ((x, y) ∷ orders) ≡ true
    → ((a ≡ x) × (b ≡ y)) ⊎ (listed a b orders ≡ true)
unfolding listed
listed_more x y a b orders h =
    ⊎_elim
    (λ e. inl (eqb-true a x (and_left (eqb a x) (eqb b y) e), eqb-true b y (and_right (eqb a x) (eqb b y) e)))
    inr
    (or_cases (eqb a x && eqb b y) (listed a b orders) h)

pub listed_first : (x y : ℕ) (orders : List (ℕ × ℕ)) → listed x y ((x, y) ∷ orders) ≡ true
unfolding listed
listed_first x y orders = rw (eq-eqb x x refl, eq-eqb y y refl)

pub listed_later : (x y a b : ℕ) (orders : List (ℕ × ℕ)) → listed a b orders ≡ true → listed a b ((x, y) ∷ orders) ≡ true
unfolding listed
listed_later x y a b orders h = or_right (eqb a x && eqb b y) (listed a b orders) h

-- both numbers of every pair are below n
abbrev pub Inside : ℕ → List (ℕ × ℕ) → Type 0
Inside n orders = (x y : ℕ) → listed x y orders ≡ true → (x < n) × (y < n)

pub inside_more : (n x y : ℕ) (orders : List (ℕ × ℕ)) → Inside n orders → x < n → y < n → Inside n ((x, y) ∷ orders)
inside_more n x y orders h p q a b l = ⊎_elim (λ e. (omega (arith, e.0), omega (arith, e.1))) (h a b) (listed_more x y a b orders l)

-- the table's test
abbrev pub block_before : ℕ → List (ℕ × ℕ) → ℕ → ℕ → Bool
block_before n orders x y = reads (block_table n orders) x y

-- an event of the block is another, or before it
abbrev pub AtOrBefore : ℕ → List (ℕ × ℕ) → ℕ → ℕ → Type 0
AtOrBefore n orders x y = (x ≡ y) ⊎ BlockBefore n orders x y

-- no event of the block is before itself
abbrev pub NoCircle : ℕ → List (ℕ × ℕ) → Type 0
NoCircle n orders = (e : ℕ) → BlockBefore n orders e e → ⊥

module _ (n : ℕ) (orders : List (ℕ × ℕ)) where
  pub before_below : (x y : ℕ) → block_before n orders x y ≡ true → (x < n) × (y < n)
  unfolding block_table
  before_below x y h = linked_below n (block_direct n orders) n x y h

  pub before_transitive : (x y z : ℕ) → block_before n orders x y ≡ true → block_before n orders y z ≡ true → block_before n orders x z ≡ true
  unfolding block_table
  before_transitive x y z p q = closure_transitive n (block_direct n orders) x y z p q

  -- each source, and what a source is
  direct_given : (x y : ℕ) → listed x y orders ≡ true → block_direct n orders x y ≡ true
  unfolding block_direct
  direct_given x y h = or_left (listed x y orders) _ h

  direct_paired : (x y : ℕ) → is_own_pair n x y ≡ true → block_direct n orders x y ≡ true
  unfolding block_direct
  direct_paired x y h = or_right (listed x y orders) (is_own_pair n x y) h

  direct_relation : (x y : ℕ) → block_direct n orders x y ≡ true → BlockBefore n orders x y
  unfolding block_direct
  direct_relation x y d = ⊎_elim (λ l. given l) (λ o. paired o) (or_cases (listed x y orders) (is_own_pair n x y) d)

  table_relation : (x y : ℕ) → block_before n orders x y ≡ true → BlockBefore n orders x y
  unfolding block_table
  table_relation x y h =
      closure_least n (block_direct n orders) (BlockBefore n orders) (λ a b p q d. direct_relation a b d) (λ a b c p q. through p q) x y h

  relation_table : Inside n orders → {x y : ℕ} → BlockBefore n orders x y → block_before n orders x y ≡ true
  unfolding block_table
  relation_table inside (given {x = x} {y = y} h) =
      let p = inside x y h in closure_holds n (block_direct n orders) x y p.0 p.1 (direct_given x y h)
  relation_table inside (paired {x = x} {y = y} h) =
      let p = own_pair_parts n x y h in
      closure_holds n (block_direct n orders) x y (omega (arith, p.1, p.2)) p.2 (direct_paired x y h)
  relation_table inside (through {x = x} {y = y} {z = z} p q) =
      before_transitive x y z (relation_table inside p) (relation_table inside q)

  -- So the test is exactly the relation.
  pub block_exact : Inside n orders → (x y : ℕ) → block_before n orders x y ≡ true ↔ BlockBefore n orders x y
  block_exact inside x y = (table_relation x y, λ p. relation_table inside p)

  -- and so is the test for a circle
  pub circle_none : Inside n orders → block_circle n orders ≡ false → NoCircle n orders
  unfolding block_circle
  circle_none inside h e p =
      let t = relation_table inside p in
      not_both (block_before n orders e e) t (any_none n (λ k. block_before n orders k k) h e (before_below e e t).0)

  pub circle_some : block_circle n orders ≡ true → (e : ℕ) × BlockBefore n orders e e
  unfolding block_circle
  circle_some h = let s = any_some n (λ k. block_before n orders k k) h in (s.0, table_relation s.0 s.0 s.2)

  pub circle_from : Inside n orders → (e : ℕ) → BlockBefore n orders e e → block_circle n orders ≡ true
  unfolding block_circle
  circle_from inside e p =
      let t = relation_table inside p in any_from n (λ k. block_before n orders k k) e (before_below e e t).0 t

-- One P row more: a is before b, or it is x or before it and b is y or behind it.
module _ (n x y : ℕ) (orders : List (ℕ × ℕ)) where
  -- a is before b without the row, or by it
  abbrev pub ByRow : ℕ → ℕ → Type 0
  ByRow a b = BlockBefore n orders a b ⊎ (AtOrBefore n orders a x × AtOrBefore n orders y b)

  pub before_more : {a b : ℕ} → BlockBefore n orders a b → BlockBefore n ((x, y) ∷ orders) a b
  before_more (given {x = a} {y = b} h) = given (listed_later x y a b orders h)
  before_more (paired h) = paired h
  before_more (through p q) = through (before_more p) (before_more q)

  onward : {a b c : ℕ} → BlockBefore n orders a b → AtOrBefore n orders b c → BlockBefore n orders a c
  onward {a} p (inl e) = subst (λ (z : ℕ). BlockBefore n orders a z) e p
  onward p (inr q) = through p q

  ahead : {a b c : ℕ} → AtOrBefore n orders a b → BlockBefore n orders b c → BlockBefore n orders a c
  ahead {a} {b} {c} (inl e) q = subst (λ (z : ℕ). BlockBefore n orders z c) (sym e) q
  ahead (inr p) q = through p q

  pub more_split : {a b : ℕ} → BlockBefore n ((x, y) ∷ orders) a b → ByRow a b
  more_split (given {x = a} {y = b} h) = ⊎_elim (λ e. inr (inl e.0, inl (sym e.1))) (λ l. inl (given l)) (listed_more x y a b orders h)
  more_split (paired h) = inl (paired h)
  more_split (through p q) = joined (more_split p) (more_split q)
    where
      joined : {a b c : ℕ} → ByRow a b → ByRow b c → ByRow a c
      joined (inl p) (inl q) = inl (through p q)
      joined (inl p) (inr q) = inr (inr (onward p q.0), q.1)
      joined (inr p) (inl q) = inr (p.0, inr (ahead p.1 q))
      joined (inr p) (inr q) = inr (p.0, q.1)

  -- In a block without a circle, `P x y` makes one exactly if y is before x.
  module _ (inside : Inside n orders) (hx : x < n) (hy : y < n) (two : (x ≡ y → ⊥)) (none : NoCircle n orders) where
    makes_before : block_circle n ((x, y) ∷ orders) ≡ true → block_before n orders y x ≡ true
    makes_before h =
        let c = circle_some n ((x, y) ∷ orders) h in
        (block_exact n orders inside y x).1
        (⊎_elim (λ p. absurd (none c.0 p)) (λ w. meet w.0 w.1) (more_split c.1))
      where
        meet : {e : ℕ} → AtOrBefore n orders e x → AtOrBefore n orders y e → BlockBefore n orders y x
        meet (inl p) (inl q) = absurd (two (sym (q ∙ p)))
        meet (inl p) (inr q) = subst (λ (z : ℕ). BlockBefore n orders y z) p q
        meet (inr p) q = ahead q p

    before_makes : block_before n orders y x ≡ true → block_circle n ((x, y) ∷ orders) ≡ true
    before_makes h =
        circle_from n ((x, y) ∷ orders) (inside_more n x y orders inside hx hy) x
        (through (given (listed_first x y orders)) (before_more ((block_exact n orders inside y x).0 h)))

    pub circle_exactly : block_circle n ((x, y) ∷ orders) ≡ block_before n orders y x
    circle_exactly = both_ways (block_circle n ((x, y) ∷ orders)) (block_before n orders y x) makes_before before_makes

-- One message more: its send is before its receive, and nothing else is new.
module _ (m : ℕ) (orders : List (ℕ × ℕ)) (inside : Inside (2 * m) orders) where
  pub message_old : {a b : ℕ} → BlockBefore (2 * m) orders a b → BlockBefore (2 * m + 2) orders a b
  message_old (given h) = given h
  message_old (paired {x = a} {y = b} h) =
      let p = own_pair_parts (2 * m) a b h in paired (own_pair_from (2 * m + 2) a b p.0 p.1 (omega (arith, p.2)))
  message_old (through p q) = through (message_old p) (message_old q)

  pub message_new : BlockBefore (2 * m + 2) orders (2 * m) (2 * m + 1)
  message_new = paired (own_pair_from (2 * m + 2) (2 * m) (2 * m + 1) (omega arith) refl (omega arith))

  -- a is before b without the message, or the two are its own
  abbrev pub ByMessage : ℕ → ℕ → Type 0
  ByMessage a b = BlockBefore (2 * m) orders a b ⊎ ((a ≡ 2 * m) × (b ≡ 2 * m + 1))

  pub message_split : {a b : ℕ} → BlockBefore (2 * m + 2) orders a b → ByMessage a b
  message_split (given h) = inl (given h)
  message_split (paired {x = a} {y = b} h) = go (ℕ_discrete a (2 * m))
    where
      go : Dec (a ≡ 2 * m) → ByMessage a b
      go (yes e) = inr (e, let p = own_pair_parts (2 * m + 2) a b h in omega (arith, p.1))
      go (no f) =
          let p = own_pair_parts (2 * m + 2) a b h in
          inl (paired (own_pair_from (2 * m) a b p.0 p.1 (omega (arith, p.0, p.1, p.2))))
  message_split (through p q) = joined (message_split p) (message_split q)
    where
      below : {a b : ℕ} → BlockBefore (2 * m) orders a b → (a < 2 * m) × (b < 2 * m)
      below {a} {b} p = before_below (2 * m) orders a b ((block_exact (2 * m) orders inside a b).1 p)

      joined : {a b c : ℕ} → ByMessage a b → ByMessage b c → ByMessage a c
      joined (inl p) (inl q) = inl (through p q)
      joined (inl p) (inr q) = absurd (omega (arith, (below p).1, q.0))
      joined (inr p) (inl q) = absurd (omega (arith, p.1, (below q).0))
      joined (inr p) (inr q) = absurd (omega (arith, p.1, q.0))

  pub message_no_circle : NoCircle (2 * m) orders → NoCircle (2 * m + 2) orders
  message_no_circle none e p = ⊎_elim (λ q. none e q) (λ q. omega (arith, q.0, q.1)) (message_split p)

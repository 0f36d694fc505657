-- A course: number after number is taken, always the lowest with nothing left before it. Where R links no number to itself it goes on
-- until all are taken, each once, and it obeys R; and the closure of R gives the same course. Assumes nothing.
use Prim.Native.Nat.{ℕ, zero, suc, ◌+◌, ◌<◌, ◌≤◌}
use native.Mathlib.Nat.{not-suc-le-zero, le_of_suc-le-suc, eq-or-lt_of_le, le_step}
use native.Mathlib.Omega.{arith}
use mathlib.Core.Path.{◌≡◌, refl, sym, ◌∙◌, ap, subst, subst⁻¹}
use mathlib.Core.Logic.{◌⊎◌, inl, inr, ⊎_elim}
use mathlib.Core.Bool.{Bool, true, false, not, cond, ◌||◌}
use mathlib.Core.List.{List, [], ◌∷◌, ◌++◌}
use mathlib.Core.Option.{Option, none, some}
use lib.Dec.{eqb}
use lib.ListN.{length, get_or, take, length-append}
use lib.Seq.{take_all, take-append-le, get_or-take, get_or_at}
use borrow.Author.Tests.{eqb-true, eq-eqb, ne_eqb, not-true}
use Rattle.model.specs.Bounded.{every, lowest, among, each_once}
use Rattle.model.specs.Taps.{ahead, is_next, with_next, course_of}
use Rattle.model.proofs.Bounded.{and_left, and_right, and_both, or_cases, or_right, which, not_both, not_is_true, every_at, every_from, every_not, IsLowest, Found, lowest_found, lowest_same}
use Rattle.model.proofs.Least.{least_below}
use Rattle.model.proofs.Closure.{Over, over, closure_holds, closure_transitive, closure_least}
use Rattle.model.proofs.Ahead.{among_snoc, ahead_left, ahead_kept, ahead_last, once_snoc}

-- how many of the numbers below n are left
pub left : ℕ → List ℕ → ℕ
left zero t = 0
left (suc n) t = left n t + cond (among n t) 0 1

left_start : (n : ℕ) → left n [] ≡ n
unfolding left among
left_start zero = refl
left_start (suc n) = omega (arith, left_start n)

-- the same are left where the same are taken
left_same : (n : ℕ) (t s : List ℕ) → ((k : ℕ) → k < n → among k t ≡ among k s) → left n t ≡ left n s
unfolding left
left_same zero t s h = refl
left_same (suc n) t s h = rw (left_same n t s (λ k l. h k (le_step l)), h n (omega arith))

-- one more is taken
left_next : (n : ℕ) (t : List ℕ) (k : ℕ) → k < n → among k t ≡ false → left n t ≡ suc (left n (t ++ (k ∷ [])))
unfolding left
left_next zero t k l f = absurd (not-suc-le-zero l)
left_next (suc n) t k l f =
    ⊎_elim
    (λ (e : k ≡ n).
    let rest : left n (t ++ (k ∷ [])) ≡ left n t = left_same n (t ++ (k ∷ [])) t (λ j b. other j (λ i. omega arith)) in
    let was : among n t ≡ false = subst (λ (j : ℕ). among j t ≡ false) e f in
    let now : among n (t ++ (k ∷ [])) ≡ true = among_snoc n t k ∙ or_right (among n t) (eqb n k) (eq-eqb n k (sym e)) in
    rw (was, now) (omega arith))
    (λ (b : k < n).
    let same : among n (t ++ (k ∷ [])) ≡ among n t = other n (λ i. omega arith) in
    rw same (omega (arith, left_next n t k b f)))
    (eq-or-lt_of_le (le_of_suc-le-suc l))
  where
    or_right_false : (a : Bool) → (a || false) ≡ a
    or_right_false true = refl
    or_right_false false = refl

    other : (j : ℕ) → (j ≡ k → ⊥) → among j (t ++ (k ∷ [])) ≡ among j t
    other j i = among_snoc j t k ∙ rw (ne_eqb j k i) (or_right_false (among j t))

-- where none is left all are taken, and where all are taken none is left
left_none : (n : ℕ) (t : List ℕ) → left n t ≡ 0 → (k : ℕ) → k < n → among k t ≡ true
left_none n t h k l = ⊎_elim (λ m. m) (λ f. absurd (omega (arith, left_next n t k l f))) (which (among k t))

left_all : (n : ℕ) (t : List ℕ) → ((k : ℕ) → k < n → among k t ≡ true) → left n t ≡ 0
unfolding left
left_all zero t h = refl
left_all (suc n) t h = rw (h n (omega arith)) (omega (arith, left_all n t (λ k l. h k (le_step l))))

module _ (n : ℕ) (R : ℕ → ℕ → Bool) where
  -- what the test for the next says
  pub record Next (taken : List ℕ) (k : ℕ) : Type 0 where
    pub left : among k taken ≡ false
    pub before : (x : ℕ) → x < n → R x k ≡ true → among x taken ≡ true

  pub next_use : (taken : List ℕ) (k : ℕ) → is_next n R taken k ≡ true → Next taken k
  unfolding is_next
  next_use taken k h =
      let e = and_right (not (among k taken)) (every n (λ x. not (R x k) || among x taken)) h in
      record {
        left = not-true (among k taken) (and_left (not (among k taken)) (every n (λ x. not (R x k) || among x taken)) h);
        before = λ x l r. taken_there x r (every_at n (λ y. not (R y k) || among y taken) e x l);
      }
    where
      taken_there : (x : ℕ) → R x k ≡ true → (not (R x k) || among x taken) ≡ true → among x taken ≡ true
      taken_there x r o = ⊎_elim (λ f. not_both (R x k) r (not-true (R x k) f)) (λ m. m) (or_cases (not (R x k)) (among x taken) o)

  pub next_on : (taken : List ℕ) (k : ℕ) → Next taken k → is_next n R taken k ≡ true
  unfolding is_next
  next_on taken k N =
      and_both (not (among k taken)) (every n (λ x. not (R x k) || among x taken)) (not_is_true (among k taken) N.left)
      (every_from n (λ x. not (R x k) || among x taken) (λ x l. go x l (R x k) refl))
    where
      go : (x : ℕ) → x < n → (b : Bool) → R x k ≡ b → (not b || among x taken) ≡ true
      go x l true e = N.before x l e
      go x l false e = refl

  -- Where R links no number to itself.
  module _ (no_circle : (x : ℕ) → Over n R n x x → ⊥) where
    -- some number left has nothing left before it
    some_next : (taken : List ℕ) (k : ℕ) → k < n → among k taken ≡ false → (j : ℕ) × (j < n) × (is_next n R taken j ≡ true)
    some_next taken k l f =
        let p = least_below (λ j. not (among j taken)) (over n R n) (closure_transitive n R) no_circle n k l (not_is_true (among k taken) f) in
        let j = p.0 in
        let m = p.1 in (
          j,
          m.below,
          next_on taken j
              (record {
                left = not-true (among j taken) m.passes;
                before = λ x b r.
                    ⊎_elim (λ t. t) (λ (o : among x taken ≡ false). absurd (m.least x b (not_is_true (among x taken) o) (closure_holds n R x j b m.below r)))
                    (which (among x taken));
              }),
        )

    -- what holds of the first i of the course
    pub record Course (i : ℕ) (t : List ℕ) : Type 0 where
      pub long : length t ≡ i
      pub once : each_once n t ≡ true
      pub count : left n t + i ≡ n
      pub obeys : (x y : ℕ) → x < n → among y t ≡ true → R x y ≡ true → ahead t x y ≡ true

    -- the next one, and what holds with it
    pub record Goes (t : List ℕ) (more : List ℕ) : Type 0 where
      pub event : ℕ
      pub lowest_next : IsLowest n (is_next n R t) event
      pub appended : more ≡ t ++ (event ∷ [])

    goes_on : (i : ℕ) (t : List ℕ) → Course i t → i < n → Goes t (with_next n R t)
    unfolding with_next
    goes_on i t C l = go (lowest n (is_next n R t)) (lowest_found n (is_next n R t))
      where
        stays : ((k : ℕ) → k < n → is_next n R t k ≡ false) → ⊥
        stays f =
            ⊎_elim
            (λ (e : every n (λ k. among k t) ≡ true).
            omega (arith, C.count, left_all n t (every_at n (λ k. among k t) e)))
            (λ (e : every n (λ k. among k t) ≡ false).
            let k = every_not n (λ k. among k t) e in
            let j = some_next t k.0 k.1 k.2 in
            not_both (is_next n R t j.0) j.2 (f j.0 j.1))
            (which (every n (λ k. among k t)))

        go : (o : Option ℕ) → Found n (is_next n R t) o → Goes t (elim o [ none ↦ t | some k ↦ t ++ (k ∷ []) ])
        go none f = absurd (stays f)
        go (some k) f = record { event = k; lowest_next = f; appended = refl }

    course_next : (i : ℕ) (t more : List ℕ) → Course i t → Goes t more → Course (suc i) more
    course_next i t more C G =
        let k = G.event in
        let N = next_use t k G.lowest_next.passes in
        subst⁻¹ (Course (suc i)) G.appended
        (record {
          long = length-append t (k ∷ []) ∙ omega (arith, C.long);
          once = once_snoc n t k C.once G.lowest_next.below N.left;
          count = omega (arith, C.count, left_next n t k G.lowest_next.below N.left);
          obeys = λ x y b m r. obeyed x y b r (or_cases (among y t) (eqb y k) (sym (among_snoc y t k) ∙ m));
        })
      where
        obeyed : (x y : ℕ) → x < n → R x y ≡ true → (among y t ≡ true) ⊎ (eqb y G.event ≡ true) → ahead (t ++ (G.event ∷ [])) x y ≡ true
        obeyed x y b r (inl m) = ahead_kept t G.event x y (C.obeys x y b m r)
        obeyed x y b r (inr e) =
            let k = G.event in
            let i : y ≡ k = eqb-true y k e in
            subst⁻¹ (λ (z : ℕ). ahead (t ++ (k ∷ [])) x z ≡ true) i
            (ahead_last t k x ((next_use t k G.lowest_next.passes).before x b (subst (λ (z : ℕ). R x z ≡ true) i r)))

    pub course_holds : (i : ℕ) → i ≤ n → Course i (course_of n R i)
    unfolding course_of among ahead each_once
    course_holds zero l = record { long = refl; once = refl; count = omega (arith, left_start n); obeys = λ x y b m r. not_both false m refl }
    course_holds (suc i) l =
        let C = course_holds i (omega arith) in
        course_next i (course_of n R i) (with_next n R (course_of n R i)) C (goes_on i (course_of n R i) C l)

    -- one place of the course
    pub course_goes : (i : ℕ) → i < n → Goes (course_of n R i) (course_of n R (suc i))
    unfolding course_of
    course_goes i l = goes_on i (course_of n R i) (course_holds i (omega arith)) l

    -- all are taken in the end
    pub course_all : (x : ℕ) → x < n → among x (course_of n R n) ≡ true
    course_all x l = left_none n (course_of n R n) (omega (arith, (course_holds n (omega arith)).count)) x l

    -- a course begins as a shorter one
    pub course_take : (m i : ℕ) → m ≤ n → i ≤ m → take i (course_of n R m) ≡ course_of n R i
    unfolding course_of
    course_take zero zero l h = refl
    course_take zero (suc i) l h = absurd (not-suc-le-zero h)
    course_take (suc m) i l h =
        ⊎_elim
        (λ (e : i ≡ suc m).
        let C = course_holds (suc m) l in
        take_all i (course_of n R (suc m)) (omega (arith, C.long)) ∙ ap (course_of n R) (sym e))
        (λ (b : i < suc m).
        let C = course_holds m (omega arith) in
        let G = course_goes m l in
        ap (take i) G.appended ∙ take-append-le i (course_of n R m) (G.event ∷ []) (omega (arith, C.long))
        ∙ course_take m i (omega arith) (le_of_suc-le-suc b))
        (eq-or-lt_of_le h)

    -- at each place stands the lowest with nothing left before it
    pub course_place : (m i : ℕ) → m ≤ n → i < m → IsLowest n (is_next n R (course_of n R i)) (get_or (course_of n R m) i 0)
    course_place m i l h =
        let G = course_goes i (omega arith) in
        let at : get_or (course_of n R m) i 0 ≡ G.event =
        sym (get_or-take (suc i) (course_of n R m) i 0 (omega arith)) ∙ ap (λ (t : List ℕ). get_or t i 0) (course_take m (suc i) l h ∙ G.appended)
        ∙ get_or_at (course_of n R i) G.event [] 0 i (course_holds i (omega arith)).long in
        subst⁻¹ (IsLowest n (is_next n R (course_of n R i))) at G.lowest_next

-- A test that is the closure of R, on the numbers below n, gives R's course, if no number is linked to itself.
module _ (n : ℕ) (R Q : ℕ → ℕ → Bool) (closed : (x y : ℕ) → x < n → y < n → Q x y ≡ over n R n x y)
    (no_circle : (x : ℕ) → Over n R n x x → ⊥) where
  -- what is taken of a course is closed downwards, so what is linked to the next is taken where what is before it is
  next_closed : (t : List ℕ) → ((x y : ℕ) → x < n → among y t ≡ true → R x y ≡ true → among x t ≡ true) → (k : ℕ) → k < n
      → Next n R t k → Next n Q t k
  next_closed t down k l N =
      record {
        left = N.left;
        before = λ x b q.
            closure_least n R (λ y z. (z ≡ k) ⊎ (among z t ≡ true) → among y t ≡ true)
            (λ y z p c r. ⊎_elim (λ e. N.before y p (subst (λ (j : ℕ). R y j ≡ true) e r)) (λ m. down y z p m r))
            (λ y z w f g m. f (inr (g m))) x k (sym (closed x k b l) ∙ q) (inl refl);
      }

  next_open : (t : List ℕ) (k : ℕ) → k < n → Next n Q t k → Next n R t k
  next_open t k l N =
      record { left = N.left; before = λ x b r. N.before x b (closed x k b l ∙ closure_holds n R x k b l r) }

  pub course_closure : (i : ℕ) → i ≤ n → course_of n R i ≡ course_of n Q i
  unfolding course_of with_next
  course_closure zero l = refl
  course_closure (suc i) l =
      let t = course_of n R i in
      let C = course_holds n R no_circle i (omega arith) in
      let down : (x y : ℕ) → x < n → among y t ≡ true → R x y ≡ true → among x t ≡ true =
      λ x y b m r. ahead_left t x y (C.obeys x y b m r) in
      ap (λ (o : Option ℕ). elim o [ none ↦ t | some k ↦ t ++ (k ∷ []) ])
      (lowest_same n (is_next n R t) (is_next n Q t)
      (λ k b h. next_on n Q t k (next_closed t down k b (next_use n R t k h)))
      (λ k b h. next_on n R t k (next_open t k b (next_use n Q t k h))))
      ∙ ap (with_next n Q) (course_closure i (omega arith))

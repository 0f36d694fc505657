-- What the loop keeps that writes the course: so many events of it are written, and the row has those that are left. Assumes nothing.
use mathlib.Core.Path.{◌≡◌, refl, sym, ap, ◌∙◌, subst, subst⁻¹}
use mathlib.Core.Bool.{Bool, true, false, not, ◌&&◌, ◌||◌, and-true}
use mathlib.Core.Logic.{⊎_elim}
use mathlib.Core.List.{List, [], ◌∷◌, ◌++◌}
use mathlib.Core.Option.{some}
use Prim.Native.Nat.{ℕ, suc, ◌+◌, ◌<◌, ◌≤◌}
use native.Mathlib.Numerals.{add-one}
use native.Mathlib.Omega.{arith}
use lib.Dec.{eqb, ltb}
use lib.ListN.{length, set, drop, length-set}
use lib.Seq.{set_at, drop-cons, append_snoc}
use borrow.Author.Tests.{lt-ltb, ltb-true, not-true}
use Rattle.model.specs.Bounded.{every, among, lowest}
use Rattle.model.specs.Taps.{is_next, course_of}
use Rattle.model.proofs.Bounded.{and_left, and_right, and_both, which, not_both, every_at, every_from, lowest_none, lowest_hit, lowest_nowhere}
use Rattle.model.proofs.Closure.{Over, closure_least}
use Rattle.model.proofs.Ahead.{among_snoc}
use Rattle.model.proofs.Course.{next_use, next_on, course_holds, course_goes}
use Rattle.relation.specs.Width.{width}
use Rattle.relation.specs.Rows.{holds}
use Rattle.relation.specs.Order.{before}
use Rattle.relation.specs.Own.{is_own}
use Rattle.run.specs.State.{in_row, Without}
use Rattle.std.specs.Prelude as code
use Rattle.std.specs.Prelude.{Some, None}
use Rattle.std.specs.Option.{is_some}
use Rattle.std.proofs.Math.Option.{some-injective, none-ne-some}
use Rattle.outcome.specs.Options.{found_in}
use Rattle.free_event.specs.Free.{row_bits, nothing_left, is_free}
use Rattle.course.specs.Left.{AllLeft, NoCircle}

-- the first i events of the course are written, and the row has the events that are left
pub record Writing (n : ℕ) (words out : List ℕ) (i : ℕ) (now left : List ℕ) : Type 0 where
  pub exact : now ≡ course_of n (before width words) i ++ drop i out
  pub left_are : (k : ℕ) → k < row_bits → in_row left k ≡ (ltb k n && not (among k (course_of n (before width words) i)))
  pub most : i ≤ n
  pub row_long : length left ≡ width
  pub keeps : length now ≡ length out

pub writing_start : (n : ℕ) (words out left : List ℕ) → AllLeft n left → length left ≡ width → Writing n words out 0 out left
unfolding course_of among
writing_start n words out left all long =
    record { exact = refl; left_are = λ k h. all k h ∙ sym (and-true (ltb k n)); most = omega arith; row_long = long; keeps = refl }

-- what was found is there
found_some : (o : code.Option ℕ) (k : ℕ) → found_in o ≡ some k → is_some o ≡ true
found_some (Some j) k e = refl
found_some None k e = absurd (none-ne-some k e)

module _ (n : ℕ) (words : List ℕ) (C : NoCircle n words) where
  -- a closed relation is its own closure, so it links no event to itself
  over_holds : (x y : ℕ) → Over n (before width words) n x y → (x < n) × (y < n) × (before width words x y ≡ true)
  over_holds =
      closure_least n (before width words) (λ x y. (x < n) × (y < n) × (before width words x y ≡ true)) (λ x y p q h. (p, q, h))
      (λ x y z f g. (f.0, g.1, C.closed x y z f.0 f.1 g.1 f.2 g.2))

  pub none_own_holds : (x : ℕ) → Over n (before width words) n x x → ⊥
  none_own_holds x o =
      let h = over_holds x x o in
      not_both (holds width words x x) h.2 (lowest_none n (is_own width words) C.none_own x h.0)

  -- the first i of the course
  abbrev course : ℕ → List ℕ
  course = course_of n (before width words)

  module _ (out : List ℕ) (i : ℕ) (now left : List ℕ) (w : Writing n words out i now left) (few : n ≤ row_bits) where
    -- an event is free by the row of those left exactly if it is the course's next
    left_event : (k : ℕ) → k < row_bits → in_row left k ≡ true → (k < n) × (among k (course i) ≡ false)
    left_event k h t =
        let both = sym (w.left_are k h) ∙ t in
        (ltb-true k n (and_left (ltb k n) (not (among k (course i))) both), not-true (among k (course i)) (and_right (ltb k n) (not (among k (course i))) both))

    event_left : (k : ℕ) → k < n → among k (course i) ≡ false → in_row left k ≡ true
    event_left k h f = w.left_are k (omega arith) ∙ rw (lt-ltb k n h, f)

    free_next : (k : ℕ) → k < row_bits → is_free words left k ≡ true → (k < n) × (is_next n (before width words) (course i) k ≡ true)
    unfolding is_free nothing_left
    free_next k h t =
        let l = left_event k h (and_left (in_row left k) (every row_bits (λ x. not (holds width words k x && in_row left x))) t) in
        let free = every_at row_bits (λ x. not (holds width words k x && in_row left x)) (and_right (in_row left k) (every row_bits (λ x. not (holds width words k x && in_row left x))) t) in (
          l.0,
          next_on n (before width words) (course i) k
              (record {
                left = l.1;
                before = λ x b r.
                    ⊎_elim (λ m. m)
                    (λ f. not_both (holds width words k x && in_row left x) (and_both (holds width words k x) (in_row left x) r (event_left x b f)) (not-true _ (free x (omega arith))))
                    (which (among x (course i)));
              }),
        )

    next_free : (k : ℕ) → k < n → is_next n (before width words) (course i) k ≡ true → is_free words left k ≡ true
    unfolding is_free nothing_left
    next_free k h t =
        let N = next_use n (before width words) (course i) k t in
        and_both (in_row left k) (every row_bits (λ x. not (holds width words k x && in_row left x))) (event_left k h N.left)
        (every_from row_bits (λ x. not (holds width words k x && in_row left x)) (λ x b. go x b (holds width words k x && in_row left x) refl))
      where
        go : (x : ℕ) → x < row_bits → (q : Bool) → (holds width words k x && in_row left x) ≡ q → not q ≡ true
        go x b false e = refl
        go x b true e =
            let l = left_event x b (and_right (holds width words k x) (in_row left x) e) in
            not_both (among x (course i))
            ((next_use n (before width words) (course i) k t).before x l.0 (and_left (holds width words k x) (in_row left x) e)) l.1

    module _ (h : i < n) where
      -- the lowest event that is free is the course's next
      lowest_next : lowest row_bits (is_free words left) ≡ some (course_goes n (before width words) none_own_holds i h).event
      lowest_next =
          let G = course_goes n (before width words) none_own_holds i h in
          let L = G.lowest_next in
          lowest_hit row_bits G.event (is_free words left)
          (lowest_nowhere G.event (is_free words left)
          (λ j b.
          ⊎_elim
          (λ t. not_both (is_next n (before width words) (course i) j) (free_next j (omega (arith, L.below)) t).1 (L.first j b))
          (λ f. f)
          (which (is_free words left j))))
          (next_free G.event L.below L.passes) (omega (arith, L.below))

      -- so the search finds one while the course is not whole
      pub finds : (o : code.Option ℕ) → found_in o ≡ lowest row_bits (is_free words left) → is_some o ≡ true
      finds o e = found_some o _ (e ∙ lowest_next)

    module _ (h : i < n) (o : code.Option ℕ) (r : ℕ) (f : found_in o ≡ lowest row_bits (is_free words left)) (u : o ≡ Some r) where
      found_next : r ≡ (course_goes n (before width words) none_own_holds i h).event
      found_next = some-injective _ _ (ap found_in (sym u) ∙ f ∙ lowest_next h)

      pub found_below : r < n
      found_below =
          subst⁻¹ (λ (k : ℕ). k < n) found_next (course_goes n (before width words) none_own_holds i h).lowest_next.below

      appended : course (suc i) ≡ course i ++ (r ∷ [])
      appended =
          (course_goes n (before width words) none_own_holds i h).appended ∙ ap (λ (k : ℕ). course i ++ (k ∷ [])) (sym found_next)

      pub writing_more : (after less : List ℕ) → n ≤ length out → after ≡ set now i r → Without left r less → length less ≡ width
          → Writing n words out (i + 1) after less
      writing_more after less room s without row =
          let long = (course_holds n (before width words) none_own_holds i w.most).long in
          record {
            exact =
                s ∙ ap (λ (l : List ℕ). set l i r) (w.exact ∙ ap (λ (l : List ℕ). course i ++ l) (drop-cons out i 0 (omega arith)))
                ∙ set_at (course i) _ (drop (suc i) out) r i long
                ∙ sym (append_snoc (course i) r (drop (suc i) out))
                ∙ rw (add-one, appended);
            left_are = λ k b.
                without k ∙ ap (λ (q : Bool). q && not (eqb k r)) (w.left_are k b)
                ∙ fewer (ltb k n) (among k (course i)) (eqb k r)
                ∙ rw (add-one, appended, among_snoc k (course i) r);
            most = omega arith;
            row_long = row;
            keeps = ap length s ∙ length-set now i r ∙ w.keeps;
          }
        where
          fewer : (a b c : Bool) → (a && not b && not c) ≡ (a && not (b || c))
          fewer true true c = refl
          fewer true false c = refl
          fewer false b c = refl

pub writing_end : (n : ℕ) (words out : List ℕ) (i : ℕ) (now left : List ℕ) → Writing n words out i now left → n ≤ i
    → now ≡ course_of n (before width words) n ++ drop n out
writing_end n words out i now left w h =
    let all : i ≡ n = omega (arith, w.most) in
    subst (λ (m : ℕ). now ≡ course_of n (before width words) m ++ drop m out) all w.exact

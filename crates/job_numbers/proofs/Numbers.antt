-- The search for the job with a number, and the queue without it. Assumes nothing.
use mathlib.Core.Path.{◌≡◌, refl, sym, ◌∙◌, ap}
use mathlib.Core.Bool.{Bool, true, false, cond, ◌||◌}
use mathlib.Core.List.{List, [], ◌∷◌, ◌++◌}
use Prim.Native.Nat.{ℕ, suc, ◌+◌, ◌<◌, ◌≤◌}
use native.Mathlib.Decide.{ℕ_discrete}
use native.Mathlib.Numerals.{add-one}
use native.Mathlib.Omega.{arith}
use borrow.Author.Tests.{eq-eqb, ne_eqb, lt-ltb, le-ltb, ltb-true}
use lib.Dec.{eqb, ltb}
use lib.ListN.{length, get_or, take, drop}
use lib.Seq.{take-take, get_or-take, split_at, length-take-le}
use Rattle.model.specs.Bounded.{among}
use Rattle.model.specs.Dispatcher as model
use Rattle.model.specs.Dispatcher.{numbers_in, without}
use Rattle.model.proofs.Bounded.{not_both, both_ways, or_left}
use Rattle.model.proofs.Ahead.{among_snoc}
use Rattle.queue.specs.declared.Job.{Job}
use Rattle.queue.specs.declared.Queue.{Queue}
use Rattle.queue.specs.Bridge.{job_in, jobs_in, queue_in, Counted}
use Rattle.queue.proofs.Jobs.{jobs_append, jobs_length, jobs_more, counted_length}
use Rattle.std.specs.Prelude.{Option, Some, None}
use Rattle.std.specs.Option.{is_some}
use Rattle.job_numbers.specs.Position.{position_of, IsPosition}

other_number : (n k : ℕ) (rest : Bool) → (eqb n k || rest) ≡ false → (k ≡ n → ⊥) × (rest ≡ false)
other_number n k rest h = (λ i. not_both _ (or_left _ rest (eq-eqb n k (sym i))) h, or_rest (eqb n k) rest h)
  where
    or_rest : (x y : Bool) → (x || y) ≡ false → y ≡ false
    or_rest true y h = not_both true refl h
    or_rest false y h = h

position_behind : (n : ℕ) (a : List model.Job) (j : model.Job) (b : List model.Job) → among n (numbers_in a) ≡ false → j.number ≡ n
    → position_of n (a ++ j ∷ b) ≡ length a
unfolding among numbers_in position_of
position_behind n [] j b h e = rw (eq-eqb j.number n e)
position_behind n (k ∷ a) j b h e =
    let o = other_number n k.number (among n (numbers_in a)) h in
    rw (ne_eqb k.number n o.0) (ap suc (position_behind n a j b o.1 e))

position_none : (n : ℕ) (a : List model.Job) → among n (numbers_in a) ≡ false → position_of n a ≡ length a
unfolding among numbers_in position_of
position_none n [] h = refl
position_none n (k ∷ a) h =
    let o = other_number n k.number (among n (numbers_in a)) h in
    rw (ne_eqb k.number n o.0) (ap suc (position_none n a o.1))

numbers_append : (x y : List model.Job) → numbers_in (x ++ y) ≡ numbers_in x ++ numbers_in y
unfolding numbers_in
numbers_append [] y = refl
numbers_append (j ∷ x) y = ap (λ (l : List ℕ). j.number ∷ l) (numbers_append x y)

-- none of the first i jobs has the number
pub record Looked (q : Queue) (number count i : ℕ) : Type 0 where
  pub none : among number (numbers_in (jobs_in (take i q.jobs))) ≡ false
  pub within : i ≤ count

module _ (q : Queue) (number count : ℕ) where
  pub looked_none : Looked q number count 0
  unfolding among numbers_in jobs_in
  looked_none = record { none = refl; within = omega arith }

  pub looked_one : (i : ℕ) (other : Job) → Counted q count → Looked q number count i → ((get_or q.jobs i other).number ≡ number → ⊥) → i < count
      → Looked q number count (i + 1)
  unfolding numbers_in
  looked_one i other C p n l =
      record {
        none =
            rw (add-one, jobs_more q.jobs i other (omega (arith, C.room, C.most)), numbers_append, among_snoc, p.none)
            (ne_eqb number (get_or q.jobs i other).number (λ e. n (sym e)));
        within = omega arith;
      }

  pub looked_here : (i : ℕ) (other : Job) → Counted q count → Looked q number count i → (get_or q.jobs i other).number ≡ number → i < count
      → IsPosition number (queue_in q) (Some i)
  unfolding jobs_in
  looked_here i other C p e l =
      let L = take count q.jobs in
      let long : length L ≡ count = length-take-le count q.jobs (omega (arith, C.room, C.most)) in
      let cut : L ≡ take i q.jobs ++ get_or q.jobs i other ∷ drop (suc i) L =
      split_at L i other (omega arith) ∙ rw (take-take i count q.jobs (omega arith), get_or-take count q.jobs i other l) in (
        sym
            (ap (position_of number) (C.first ∙ ap jobs_in cut ∙ jobs_append (take i q.jobs) (get_or q.jobs i other ∷ drop (suc i) L))
            ∙ position_behind number (jobs_in (take i q.jobs)) (job_in (get_or q.jobs i other)) (jobs_in (drop (suc i) L)) p.none e
            ∙ jobs_length (take i q.jobs) ∙ length-take-le i q.jobs (omega (arith, C.room, C.most))),
        omega (arith, counted_length q count C),
      )

  pub looked_all : (i : ℕ) → Counted q count → Looked q number count i → count ≤ i → IsPosition number (queue_in q) None
  looked_all i C p l =
      let e : i ≡ count = omega (arith, p.within) in
      ap (λ s. among number (numbers_in s)) C.first ∙ ap (λ n. among number (numbers_in (jobs_in (take n q.jobs)))) (sym e) ∙ p.none

position_held : (n : ℕ) (js : List model.Job) → ltb (position_of n js) (length js) ≡ among n (numbers_in js)
unfolding among numbers_in position_of
position_held n [] = le-ltb 0 0 (omega arith)
position_held n (j ∷ js) = go (position_held n js) (ℕ_discrete n j.number)
  where
    shift : (a b : ℕ) → ltb (suc a) (suc b) ≡ ltb a b
    shift a b =
        both_ways _ _ (λ t. lt-ltb a b (omega (arith, ltb-true (suc a) (suc b) t))) (λ t. lt-ltb (suc a) (suc b) (omega (arith, ltb-true a b t)))

    go : ltb (position_of n js) (length js) ≡ among n (numbers_in js) → Dec (n ≡ j.number)
        → ltb (cond (eqb j.number n) 0 (suc (position_of n js))) (suc (length js)) ≡ (eqb n j.number || among n (numbers_in js))
    go rest (yes e) = rw (eq-eqb j.number n (sym e), eq-eqb n j.number e) (lt-ltb 0 (suc (length js)) (omega arith))
    go rest (no h) = rw (ne_eqb j.number n (λ i. h (sym i)), ne_eqb n j.number h) (shift (position_of n js) (length js) ∙ rest)

pub holds_as : (q : Queue) (number : ℕ) (r : Option ℕ) (b : Bool) → IsPosition number (queue_in q) r → b ≡ is_some r → b ≡ among number (numbers_in (queue_in q))
holds_as q number (Some at) b p e = e ∙ sym (sym (position_held number (queue_in q)) ∙ rw (← p.0) (lt-ltb at (length (queue_in q)) p.1))
holds_as q number None b p e = e ∙ sym p

without_at : (n : ℕ) (js : List model.Job) → take (position_of n js) js ++ drop (suc (position_of n js)) js ≡ without n js
unfolding position_of without
without_at n [] = refl
without_at n (j ∷ js) = go (without_at n js) (eqb j.number n)
  where
    go : take (position_of n js) js ++ drop (suc (position_of n js)) js ≡ without n js → (b : Bool)
        → take (cond b 0 (suc (position_of n js))) (j ∷ js) ++ drop (suc (cond b 0 (suc (position_of n js)))) (j ∷ js) ≡ cond b js (j ∷ without n js)
    go rest true = refl
    go rest false = ap (λ (l : List model.Job). j ∷ l) rest

pub without_as : (q r : Queue) (number at : ℕ) → at ≡ position_of number (queue_in q) → queue_in r ≡ take at (queue_in q) ++ drop (at + 1) (queue_in q)
    → queue_in r ≡ without number (queue_in q)
without_as q r number at e h = h ∙ rw (e, add-one) (without_at number (queue_in q))

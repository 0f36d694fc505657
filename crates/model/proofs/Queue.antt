-- Request (k), the queue: each job of an orderly dispatcher has a place and a number of its own, at most so many are held, and every call
-- keeps this. Said once for whatever is read of a job, its place or its number. Assumes nothing.
use Prim.Native.Nat.{ℕ, zero, suc, ◌+◌, ◌<◌, ◌≤◌}
use native.Mathlib.Nat.{not-suc-le-zero, le_of_suc-le-suc, eq-or-lt_of_le, le_step}
use native.Mathlib.Omega.{arith}
use mathlib.Core.Path.{◌≡◌, refl, sym, ◌∙◌, ap, subst, subst⁻¹}
use mathlib.Core.Logic.{◌↔◌, ⊎_elim}
use mathlib.Core.Bool.{Bool, true, false, not, ◌||◌}
use mathlib.Core.List.{List, [], ◌∷◌, ◌++◌, map, map-append}
use mathlib.Core.Option.{none, some}
use lib.Dec.{eqb}
use lib.ListN.{length, length-map}
use borrow.Author.Tests.{eqb-true, eqb-false, eq-eqb, ne_eqb, not-true, not-false}
use Rattle.model.specs.Limits.{jobs_most}
use Rattle.model.specs.Bounded.{how_many, among, each_once}
use Rattle.model.specs.Dispatcher.{code_at, Job, DispatcherState, empty_dispatcher, places_of, numbers_in, is_free, free_place, new_job, admitting, without, Call, Outcome, outcome_of, behind, Orderly}
use Rattle.model.proofs.Bounded.{which, many_same, many_most, lowest_some, lowest_none, lowest_nowhere, or_neither}
use Rattle.model.proofs.CallCases.{again, Does, refuses, idles, admits, takes, answers, cancels, call_does}
use Rattle.model.proofs.Ahead.{among_snoc, among_here, among_there, among_not, once_parts, once_make, once_below, once_snoc}

-- ---- lists of numbers

once_wider : (n : ℕ) (ns : List ℕ) → each_once n ns ≡ true → each_once (suc n) ns ≡ true
unfolding each_once
once_wider n [] h = refl
once_wider n (k ∷ ns) h =
    let o = once_parts n k ns h in
    once_make (suc n) k ns (record { below = le_step o.below; fresh = o.fresh; rest = once_wider n ns o.rest })

-- the bound itself is not there
pub once_bound : (n : ℕ) (ns : List ℕ) → each_once n ns ≡ true → among n ns ≡ false
once_bound n ns h = ⊎_elim (λ m. absurd (omega (arith, once_below n ns n h m))) (λ f. f) (which (among n ns))

-- one number more passes the test
many_one : (n k : ℕ) (p : ℕ → Bool) → k < n → p k ≡ false → how_many n (λ j. eqb j k || p j) ≡ suc (how_many n p)
unfolding how_many
many_one zero k p l f = absurd (not-suc-le-zero l)
many_one (suc n) k p l f =
    ⊎_elim
    (λ (e : k ≡ n).
    let new : (eqb n k || p n) ≡ true = rw (eq-eqb n k (sym e)) in
    let was : p n ≡ false = subst (λ (j : ℕ). p j ≡ false) e f in
    let same : how_many n (λ j. eqb j k || p j) ≡ how_many n p = many_same n _ p (λ j b. other j (λ i. omega arith)) in
    rw (new, was) (omega arith))
    (λ (b : k < n). rw (other n (λ i. omega arith)) (omega (arith, many_one n k p b f)))
    (eq-or-lt_of_le (le_of_suc-le-suc l))
  where
    other : (j : ℕ) → (j ≡ k → ⊥) → (eqb j k || p j) ≡ p j
    other j i = rw (ne_eqb j k i)

-- all of them pass, or as many as there are
many_every : (n : ℕ) (p : ℕ → Bool) → ((k : ℕ) → k < n → p k ≡ true) → how_many n p ≡ n
unfolding how_many
many_every zero p h = refl
many_every (suc n) p h = rw (h n (omega arith)) (omega (arith, many_every n p (λ k l. h k (le_step l))))

many_all : (n : ℕ) (p : ℕ → Bool) → how_many n p ≡ n → (k : ℕ) → k < n → p k ≡ true
unfolding how_many
many_all zero p h k l = absurd (not-suc-le-zero l)
many_all (suc n) p h k l =
    let both = go (p n) refl in
    ⊎_elim (λ e. ap p e ∙ both.0) (λ b. many_all n p both.1 k b) (eq-or-lt_of_le (le_of_suc-le-suc l))
  where
    go : (b : Bool) → p n ≡ b → (p n ≡ true) × (how_many n p ≡ n)
    go true e = let one : how_many n p + 1 ≡ suc n = rw e at h in (e, omega arith)
    go false e = let none' : how_many n p + 0 ≡ suc n = rw e at h in absurd (omega (arith, many_most n p))

-- as many numbers below n are there as the list is long: none stands there twice
once_many : (n : ℕ) (ns : List ℕ) → each_once n ns ≡ true → how_many n (λ k. among k ns) ≡ length ns
unfolding among how_many
once_many n [] h = nowhere n
  where
    nowhere : (m : ℕ) → how_many m (λ k. false) ≡ 0
    nowhere zero = refl
    nowhere (suc m) = omega (arith, nowhere m)
once_many n (k ∷ ns) h =
    let o = once_parts n k ns h in
    many_one n k (λ j. among j ns) o.below o.fresh ∙ ap suc (once_many n ns o.rest)

pub once_most : (n : ℕ) (ns : List ℕ) → each_once n ns ≡ true → length ns ≤ n
once_most n ns h = omega (arith, once_many n ns h, many_most n (λ k. among k ns))

-- ---- lists of jobs

-- what is read of a job
abbrev pub place_of : Job → ℕ
place_of j = j.place

abbrev pub number_of : Job → ℕ
number_of j = j.number

pub places_map : (js : List Job) → places_of js ≡ map place_of js
unfolding places_of
places_map [] = refl
places_map (j ∷ js) = ap (λ ns. j.place ∷ ns) (places_map js)

pub numbers_map : (js : List Job) → numbers_in js ≡ map number_of js
unfolding numbers_in
numbers_map [] = refl
numbers_map (j ∷ js) = ap (λ ns. j.number ∷ ns) (numbers_map js)

-- a job cancelled leaves, and the others stay in their order
cancelled_leaves : (n : ℕ) (j : Job) (js : List Job) → eqb j.number n ≡ true → without n (j ∷ js) ≡ js
unfolding without
cancelled_leaves n j js e = rw e

others_stay : (n : ℕ) (j : Job) (js : List Job) → eqb j.number n ≡ false → without n (j ∷ js) ≡ j ∷ without n js
unfolding without
others_stay n j js e = rw e

without_either : (P : List Job → Type 0) (n : ℕ) (j : Job) (js : List Job) → (eqb j.number n ≡ true → P js)
    → (eqb j.number n ≡ false → P (j ∷ without n js)) → P (without n (j ∷ js))
without_either P n j js leaves stays = go (eqb j.number n) refl
  where
    go : (this : Bool) → eqb j.number n ≡ this → P (without n (j ∷ js))
    go true e = subst⁻¹ P (cancelled_leaves n j js e) (leaves e)
    go false e = subst⁻¹ P (others_stay n j js e) (stays e)

-- Whatever is read of each job.
module _ (f : Job → ℕ) where
  -- one more behind the last
  pub among_behind : (x : ℕ) (js : List Job) (j : Job) → among x (map f js) ≡ false → (x ≡ f j → ⊥) → among x (map f (js ++ (j ∷ []))) ≡ false
  among_behind x js j h n = rw (map-append f js (j ∷ []), among_snoc x (map f js) (f j), h) (ne_eqb x (f j) n)

  once_behind : (n : ℕ) (js : List Job) (j : Job) → each_once n (map f js) ≡ true → f j < n → among (f j) (map f js) ≡ false
      → each_once n (map f (js ++ (j ∷ []))) ≡ true
  once_behind n js j h b new = rw (map-append f js (j ∷ [])) (once_snoc n (map f js) (f j) h b new)

  -- one leaves, wherever it stands
  pub among_without : (x n : ℕ) (js : List Job) → among x (map f js) ≡ false → among x (map f (without n js)) ≡ false
  unfolding among without
  among_without x n [] h = h
  among_without x n (j ∷ js) h =
      let parts = or_neither (eqb x (f j)) (among x (map f js)) h in
      without_either (λ ks. among x (map f ks) ≡ false) n j js (λ e. parts.1) (λ e. rw parts.0 (among_without x n js parts.1))

  once_without : (b n : ℕ) (js : List Job) → each_once b (map f js) ≡ true → each_once b (map f (without n js)) ≡ true
  unfolding without
  once_without b n [] h = h
  once_without b n (j ∷ js) h =
      let o = once_parts b (f j) (map f js) h in
      without_either (λ ks. each_once b (map f ks) ≡ true) n j js
      (λ e. o.rest)
      (λ e.
      once_make b (f j) (map f (without n js))
      (record { below = o.below; fresh = among_without (f j) n js o.fresh; rest = once_without b n js o.rest }))

  -- the head, whose f a turn does not change, goes behind the last
  once_again : (b : ℕ) (j : Job) (js : List Job) → f (again j) ≡ f j → each_once b (map f (j ∷ js)) ≡ true
      → each_once b (map f (js ++ (again j ∷ []))) ≡ true
  once_again b j js same h =
      let o = once_parts b (f j) (map f js) h in
      once_behind b js (again j) o.rest
      (subst⁻¹ (λ (k : ℕ). k < b) same o.below) (subst⁻¹ (λ (k : ℕ). among k (map f js) ≡ false) same o.fresh)

-- a job in the queue is found there
pub among_held : (f : Job → ℕ) (ahead : List Job) (j : Job) (rest : List Job) → among (f j) (map f (ahead ++ (j ∷ rest))) ≡ true
among_held f [] j rest = among_here (f j) (map f rest)
among_held f (h ∷ ahead) j rest = among_there (f j) (f h) (map f (ahead ++ (j ∷ rest))) (among_held f ahead j rest)

-- a number cancelled is no longer there
pub number_leaves : (b n : ℕ) (js : List Job) → each_once b (map number_of js) ≡ true → among n (map number_of (without n js)) ≡ false
unfolding among without
number_leaves b n [] h = refl
number_leaves b n (j ∷ js) h =
    let o = once_parts b j.number (map number_of js) h in
    let later = number_leaves b n js o.rest in
    without_either (λ ks. among n (map number_of ks) ≡ false) n j js
    (λ e. subst (λ (k : ℕ). among k (map number_of js) ≡ false) (eqb-true j.number n e) o.fresh)
    (λ e. among_not n j.number (map number_of (without n js)) (λ i. eqb-false j.number n e (sym i)) later)

-- another job cancelled: the job stays, with no more of them ahead of it
pub record Kept (j : Job) (x : ℕ) (js : List Job) : Type 0 where
  pub ahead : List Job
  pub rest : List Job
  pub queue : js ≡ ahead ++ (j ∷ rest)
  pub not_more : length ahead ≤ x

pub without_kept : (n : ℕ) (ahead : List Job) (j : Job) (rest : List Job) → eqb j.number n ≡ false
    → Kept j (length ahead) (without n (ahead ++ (j ∷ rest)))
without_kept n [] j rest e = record { ahead = []; rest = without n rest; queue = others_stay n j rest e; not_more = omega arith }
without_kept n (h ∷ ahead) j rest e =
    let k = without_kept n ahead j rest e in
    without_either (Kept j (suc (length ahead))) n h (ahead ++ (j ∷ rest))
    (λ i. record { ahead = ahead; rest = rest; queue = refl; not_more = omega arith })
    (λ i.
    record {
      ahead = h ∷ k.ahead;
      rest = k.rest;
      queue = ap (λ js. h ∷ js) k.queue;
      not_more = omega (arith, k.not_more);
    })

-- ---- orderly dispatchers

-- each job has a place and a number of its own
pub record OneEach (d : DispatcherState) : Type 0 where
  pub places : each_once jobs_most (map place_of d.queue) ≡ true
  pub numbers : each_once d.given (map number_of d.queue) ≡ true

pub orderly_of : (d : DispatcherState) → OneEach d → Orderly d
orderly_of d o =
    record { places = rw (places_map d.queue) o.places; numbers = rw (numbers_map d.queue) o.numbers }

pub one_each_empty : OneEach empty_dispatcher
unfolding each_once
one_each_empty = record { places = refl; numbers = refl }

-- an admission takes a free place, and the next number
one_each_admitting : (d : DispatcherState) (p code count : ℕ) → OneEach d → free_place d ≡ some p → OneEach (admitting d p code count)
unfolding admitting free_place is_free
one_each_admitting d p code count o e =
    let L = lowest_some jobs_most (is_free d) p e in
    record {
      places =
          once_behind place_of jobs_most d.queue (new_job d p code count) o.places L.below
          (rw (places_map d.queue) at (not-true (among p (places_of d.queue)) L.passes));
      numbers =
          once_behind number_of (suc d.given) d.queue (new_job d p code count)
          (once_wider d.given _ o.numbers) (omega arith) (once_bound d.given _ o.numbers);
    }

-- the same of the queue as it comes apart
pub one_each_of : (d : DispatcherState) (js : List Job) → d.queue ≡ js → OneEach d → OneEach (record { queue = js; given = d.given })
one_each_of d js e o = subst (λ (q : List Job). OneEach (record { queue = q; given = d.given })) e o

-- every call keeps it
one_each_next : (d : DispatcherState) (c : Call) (next : DispatcherState) (u : Outcome) → Does d c next u → OneEach d → OneEach next
one_each_next d c next u refuses o = o
one_each_next d c next u (idles e) o = o
one_each_next d c next u (admits {l = l} {p = p} {S = S} a) o = one_each_admitting d p (code_at l p) S.count o a.place
one_each_next d c next u (takes {j = j} {js = js} e early) o =
    let h = one_each_of d (j ∷ js) e o in
    record {
      places = once_again place_of jobs_most j js refl h.places;
      numbers = once_again number_of d.given j js refl h.numbers;
    }
one_each_next d c next u (answers {j = j} {js = js} e due long) o =
    let h = one_each_of d (j ∷ js) e o in
    record {
      places = (once_parts jobs_most j.place (map place_of js) h.places).rest;
      numbers = (once_parts d.given j.number (map number_of js) h.numbers).rest;
    }
one_each_next d c next u (cancels {n = n} m) o =
    record {
      places = once_without place_of jobs_most n d.queue o.places;
      numbers = once_without number_of d.given n d.queue o.numbers;
    }

pub one_each_behind : (d : DispatcherState) (c : Call) → OneEach d → OneEach (behind d c)
one_each_behind d c o = one_each_next d c (behind d c) (outcome_of d c) (call_does d c) o

-- at most so many jobs are held as there are places
pub jobs_most_holds : (d : DispatcherState) → OneEach d → length d.queue ≤ jobs_most
jobs_most_holds d o = subst (λ (n : ℕ). n ≤ jobs_most) (length-map d.queue place_of) (once_most jobs_most _ o.places)

-- and no place is free exactly if so many are held
places_taken : (d : DispatcherState) → OneEach d → how_many jobs_most (λ k. among k (map place_of d.queue)) ≡ length d.queue
places_taken d o = once_many jobs_most (map place_of d.queue) o.places ∙ length-map d.queue place_of

pub full_when : (d : DispatcherState) → OneEach d → (free_place d ≡ none) ↔ (length d.queue ≡ jobs_most)
unfolding free_place is_free
full_when d o = (full, filled)
  where
    places : ℕ → Bool
    places k = among k (map place_of d.queue)

    same : (k : ℕ) → is_free d k ≡ not (places k)
    same k = ap (λ ns. not (among k ns)) (places_map d.queue)

    full : free_place d ≡ none → length d.queue ≡ jobs_most
    full e =
        sym (places_taken d o)
        ∙ many_every jobs_most places (λ k l. not-false (places k) (sym (same k) ∙ lowest_none jobs_most (is_free d) e k l))

    filled : length d.queue ≡ jobs_most → free_place d ≡ none
    filled e =
        lowest_nowhere jobs_most (is_free d) (λ k l. same k ∙ ap not (many_all jobs_most places (places_taken d o ∙ e) k l))

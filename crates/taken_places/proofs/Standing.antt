-- The search for the jobs that stand, each in a place of its own, and for the lowest free place. Assumes nothing.
use mathlib.Core.Path.{◌≡◌, refl, sym, ◌∙◌, ap, subst}
use mathlib.Core.Bool.{Bool, true, false, not, ◌&&◌}
use mathlib.Core.List.{List, [], ◌∷◌, ◌++◌, append-nil}
use mathlib.Core.Option.{none, some}
use Prim.Native.Nat.{ℕ, suc, ◌+◌, ◌*◌, ◌/◌, ◌%◌, ◌^◌, ◌<◌, ◌≤◌}
use native.Mathlib.Nat.{one-mul}
use native.Mathlib.Decide.{dec_lt}
use native.Mathlib.Numerals.{add-one}
use native.Mathlib.Omega.{arith}
use borrow.Author.Tests.{eq-eqb, ne_eqb, lt-ltb, le-ltb, ltb-true, not-true, not-false}
use lib.Bits.{bit_and, bit_or, and_mask}
use lib.Dec.{eqb, ltb}
use lib.ListN.{length, get_or, take, drop, length-take, drop_of_length-le}
use lib.Pow.{shl_exact}
use lib.Seq.{get_or-take, drop-cons, append_snoc}
use Rattle.std.specs.Prelude as code
use Rattle.std.specs.Prelude.{Some, None, unwrap_or}
use Rattle.outcome.specs.Options.{found_in}
use Rattle.model.specs.Limits.{jobs_most}
use Rattle.model.specs.Bounded.{among, each_once, lowest}
use Rattle.model.specs.Dispatcher as model
use Rattle.model.specs.Dispatcher.{places_of}
use Rattle.model.proofs.Bounded.{and_left, lowest_hit, lowest_miss, lowest_same, lowest_some}
use Rattle.model.proofs.Ahead.{among_snoc}
use Rattle.relation.specs.Rows.{has}
use Rattle.relation.proofs.Bits.{has_zero, has_or, has_power}
use Rattle.queue.specs.declared.Job.{Job}
use Rattle.queue.specs.declared.Queue.{Queue}
use Rattle.queue.specs.Bridge.{job_in, jobs_in, apart_from, queue_in, PlacesOf, is_free_in, free_place_in}
use Rattle.queue.proofs.Jobs.{jobs_more}
use Rattle.queue.proofs.Apart.{swaps, among_first, places_snoc}
use Rattle.taken_places.specs.Places.{MayStand, TakenIn, SparePlace}

-- one bit of a word
small_power : (p : ℕ) → p < 64 → 1 * 2 ^ p % 2 ^ 64 ≡ 2 ^ p
small_power p h = shl_exact 1 p 64 (omega arith) (omega arith) ∙ one-mul (2 ^ p)

-- the search for them: the first i stand, in the places whose bits are set
pub record Standing (q : Queue) (i bits : ℕ) : Type 0 where
  pub within : i ≤ jobs_most
  pub seen : List ℕ
  pub bit : (p : ℕ) → p < jobs_most → has bits p ≡ among p seen
  pub same : (p : ℕ) → among p seen ≡ among p (places_of (jobs_in (take i q.jobs)))
  pub split : queue_in q ≡ jobs_in (take i q.jobs) ++ apart_from seen (jobs_in (drop i (take q.held q.jobs)))

module _ (q : Queue) where
  pub standing_none : Standing q 0 0
  unfolding among places_of jobs_in each_once
  standing_none = record { within = omega arith; seen = []; bit = λ p h. has_zero p; same = λ p. refl; split = refl }

  module _ (long : length q.jobs ≡ jobs_most) (i bits : ℕ) (s : Standing q i bits) where
    -- no more of them stand
    ends : apart_from s.seen (jobs_in (drop i (take q.held q.jobs))) ≡ [] → TakenIn q (record { count = i; places = bits })
    ends e =
        let whole : queue_in q ≡ jobs_in (take i q.jobs) = s.split ∙ ap (λ l. jobs_in (take i q.jobs) ++ l) e ∙ append-nil (jobs_in (take i q.jobs)) in
        record {
          counted = record { first = whole; most = s.within; room = long };
          taken = record { bit = λ p h. s.bit p h ∙ s.same p ∙ ap (λ js. among p (places_of js)) (sym whole) };
        }

    none_left : length (take q.held q.jobs) ≤ i → TakenIn q (record { count = i; places = bits })
    unfolding apart_from jobs_in
    none_left h = ends (rw (drop_of_length-le (take q.held q.jobs) {i = i} h))

    pub standing_held : q.held ≤ i → TakenIn q (record { count = i; places = bits })
    standing_held h = none_left (rw length-take (omega arith))

    pub standing_all : jobs_most ≤ i → TakenIn q (record { count = jobs_most; places = bits })
    standing_all h =
        let e : i ≡ jobs_most = omega (arith, s.within) in
        subst (λ n. TakenIn q (record { count = n; places = bits })) e (none_left (rw (length-take, long) (omega arith)))

    module _ (other : Job) (r : Bool) (e : MayStand bits (get_or q.jobs i other).place r) (l : i < q.held) (h : i < jobs_most) where
      next : Job
      next = get_or q.jobs i other

      -- the next job, and those behind it
      next_left : jobs_in (drop i (take q.held q.jobs)) ≡ job_in next ∷ jobs_in (drop (suc i) (take q.held q.jobs))
      unfolding jobs_in next
      next_left =
          ap jobs_in
          (drop-cons (take q.held q.jobs) i other (rw (length-take, long) (omega arith))
          ∙ ap (λ (j : Job). j ∷ drop (suc i) (take q.held q.jobs)) (get_or-take q.held q.jobs i other l))

      -- it may stand if its place is one of the eight and not seen
      test_is : r ≡ (ltb next.place jobs_most && not (among next.place s.seen))
      unfolding next
      test_is = e.is ∙ go (dec_lt (get_or q.jobs i other).place jobs_most)
        where
          go : Dec ((get_or q.jobs i other).place < jobs_most)
              → (ltb (get_or q.jobs i other).place jobs_most && not (has bits (get_or q.jobs i other).place))
              ≡ (ltb (get_or q.jobs i other).place jobs_most && not (among (get_or q.jobs i other).place s.seen))
          go (yes b) = rw (s.bit (get_or q.jobs i other).place b)
          go (no b) = rw (le-ltb (get_or q.jobs i other).place jobs_most (omega arith))

      pub standing_barred : not r ≡ true → TakenIn q (record { count = i; places = bits })
      unfolding apart_from
      standing_barred t = ends (rw next_left (rw (sym test_is ∙ not-true r t)))

      pub standing_one : not r ≡ false → Standing q (i + 1) (bit_or bits (1 * 2 ^ (get_or q.jobs i other).place % 2 ^ 64))
      unfolding apart_from next
      standing_one t =
          let p = (get_or q.jobs i other).place in
          let stands : (ltb p jobs_most && not (among p s.seen)) ≡ true = sym test_is ∙ not-false r t in
          let below : p < jobs_most = ltb-true p jobs_most (and_left (ltb p jobs_most) (not (among p s.seen)) stands) in
          let power : 1 * 2 ^ p % 2 ^ 64 ≡ 2 ^ p = small_power p (omega arith) in
          let first = take i q.jobs in
          let left = jobs_in (drop (suc i) (take q.held q.jobs)) in
          let more : jobs_in (take (suc i) q.jobs) ≡ jobs_in first ++ (job_in (get_or q.jobs i other) ∷ []) = jobs_more q.jobs i other (omega arith) in
          let places : places_of (jobs_in (take (suc i) q.jobs)) ≡ places_of (jobs_in first) ++ (p ∷ []) =
          ap places_of more ∙ places_snoc (jobs_in first) (job_in (get_or q.jobs i other)) in
          let goes : apart_from s.seen (jobs_in (drop i (take q.held q.jobs))) ≡ job_in (get_or q.jobs i other) ∷ apart_from (p ∷ s.seen) left =
          ap (apart_from s.seen) next_left ∙ rw stands in
          record {
            within = omega arith;
            seen = p ∷ s.seen;
            bit = λ k b. rw (power, has_or, has_power, s.bit k b) (swaps (among k s.seen) (eqb k p) ∙ sym (among_first k p s.seen));
            same = λ k. among_first k p s.seen ∙ rw (s.same k) (swaps (eqb k p) (among k (places_of (jobs_in first))) ∙ sym (among_snoc k (places_of (jobs_in first)) p) ∙ ap (among k) (sym places) ∙ rw add-one);
            split =
                s.split ∙ ap (λ l. jobs_in first ++ l) goes
                ∙ sym (append_snoc (jobs_in first) (job_in (get_or q.jobs i other)) (apart_from (p ∷ s.seen) left))
                ∙ rw (← more, add-one);
          }

-- ---- the lowest free place: none below the place looked at is free
pub record NoneFree (bits place : ℕ) : Type 0 where
  pub nowhere : lowest place (λ p. not (has bits p)) ≡ none
  pub within : place ≤ jobs_most

pub none_free : (bits : ℕ) → NoneFree bits 0
unfolding lowest
none_free bits = record { nowhere = refl; within = omega arith }

-- the places whose bits are not set are the free ones
free_as : (js : List model.Job) (bits : ℕ) → PlacesOf js bits → lowest jobs_most (λ p. not (has bits p)) ≡ free_place_in js
free_as js bits P =
    lowest_same jobs_most (λ p. not (has bits p)) (is_free_in js) (λ p h t. ap not (sym (P.bit p h)) ∙ t) (λ p h t. ap not (P.bit p h) ∙ t)

module _ (bits place : ℕ) (r : Bool) (e : MayStand bits place r) (l : place < jobs_most) where
  as_free : r ≡ not (has bits place)
  as_free = e.is ∙ rw (lt-ltb place jobs_most l)

  pub free_here : (js : List model.Job) → NoneFree bits place → PlacesOf js bits → r ≡ true → some place ≡ free_place_in js
  free_here js p P t = sym (lowest_hit jobs_most place (λ p. not (has bits p)) p.nowhere (sym as_free ∙ t) l) ∙ free_as js bits P

  pub free_not : NoneFree bits place → r ≡ false → NoneFree bits (place + 1)
  free_not p f = record { nowhere = rw add-one (lowest_miss place (λ p. not (has bits p)) p.nowhere (sym as_free ∙ f)); within = omega arith }

pub free_nowhere : (js : List model.Job) (bits place : ℕ) → NoneFree bits place → PlacesOf js bits → jobs_most ≤ place → none ≡ free_place_in js
free_nowhere js bits place p P l =
    let e : place ≡ jobs_most = omega (arith, p.within) in
    sym (ap (λ n. lowest n (λ p. not (has bits p))) (sym e) ∙ p.nowhere) ∙ free_as js bits P

-- the lowest free place, or 0
pub spare_of : (js : List model.Job) (v : code.Option ℕ) → found_in v ≡ free_place_in js → SparePlace js (unwrap_or v 0)
spare_of js (Some p) found =
    record { below = (lowest_some jobs_most (is_free_in js) p (sym found)).below; lowest = λ k f. let both : some p ≡ some k = found ∙ f in cc }
spare_of js None found =
    record {
      below = omega arith;
      lowest = λ k f.
          let both : none ≡ some k = found ∙ f in
          let z : ◌≡◌ {A = ℕ} 0 1 = cc in
          absurd (omega arith);
    }

-- ---- a place may be taken
module _ (taken place : ℕ) where
  pub stands_not : jobs_most ≤ place → MayStand taken place (ltb place jobs_most)
  stands_not l = record { is = rw (le-ltb place jobs_most l) }

  pub stands_so : place < jobs_most → MayStand taken place (not (eqb (bit_and (taken / 2 ^ place) 1) 1))
  unfolding has
  stands_so l = record { is = rw (lt-ltb place jobs_most l) (ap (λ k. not (eqb k 1)) (and_mask (taken / 2 ^ place) 1)) }

  pub stands_below : (r : Bool) → MayStand taken place r → not r ≡ false → place < jobs_most
  stands_below r e t = ltb-true place jobs_most (and_left (ltb place jobs_most) (not (has taken place)) (sym e.is ∙ not-false r t))

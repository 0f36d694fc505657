-- A job behind the last, a job that leaves, and a turn of the queue. Assumes nothing.
use mathlib.Core.Path.{◌≡◌, refl, sym, ◌∙◌, ap}
use mathlib.Core.Bool.{Bool, true, false, not}
use mathlib.Core.List.{List, [], ◌∷◌, ◌++◌}
use mathlib.Core.Option.{some}
use Prim.Native.Nat.{ℕ, zero, suc, ◌+◌, ◌-◌, ◌*◌, ◌^◌, ◌<◌, ◌≤◌}
use native.Mathlib.Numerals.{add-one}
use native.Mathlib.Omega.{arith}
use borrow.Author.Tests.{eq-eqb, leb-false, not-true}
use lib.Dec.{eqb}
use lib.ListN.{length, get_or, take, drop, set, length-append, length-drop}
use lib.Seq.{take-nil, take-suc-set, take-take, get_or-drop, paste, paste-zero, paste-suc, take-paste, drop-paste, length-paste}
use Rattle.model.specs.Limits.{jobs_most}
use Rattle.model.specs.Bounded.{among, each_once}
use Rattle.model.specs.Dispatcher as model
use Rattle.model.specs.Dispatcher.{places_of, is_last, turned}
use Rattle.model.proofs.Bounded.{not_both, or_left, or_neither}
use Rattle.model.proofs.Ahead.{among_not, among_snoc, once_parts, once_make, once_snoc}
use Rattle.model.proofs.Queue.{once_most}
use Rattle.queue.specs.declared.Job.{Job}
use Rattle.queue.specs.declared.Queue.{Queue}
use Rattle.queue.specs.Bridge.{job_in, jobs_in, apart_from, queue_in, Counted, PlacesOf, is_free_in, head_of}
use Rattle.queue.proofs.Apart.{swaps, among_first, places_snoc, once_whole, apart_once}
use Rattle.queue.proofs.Jobs.{jobs_append, jobs_take, jobs_drop, counted_length}

-- each job of a queue has a place of its own
abbrev each : (q : Queue) → each_once jobs_most (places_of (queue_in q)) ≡ true
each q = apart_once [] (jobs_in (take q.held q.jobs))

places_length : (js : List model.Job) → length (places_of js) ≡ length js
unfolding places_of
places_length [] = refl
places_length (j ∷ js) = ap suc (places_length js)

-- a number not in a list is not its first, nor behind it
other_key : (n k : ℕ) (l : List ℕ) → among n (k ∷ l) ≡ false → (n ≡ k → ⊥) × (among n l ≡ false)
unfolding among
other_key n k l h = (λ e. not_both _ (or_left _ (among n l) (eq-eqb n k e)) h, (or_neither (eqb n k) (among n l) h).1)

-- without one of them each has a place of its own still
among_cut : (p : ℕ) (js : List model.Job) (at : ℕ) → among p (places_of js) ≡ false → among p (places_of (take at js ++ drop (suc at) js)) ≡ false
unfolding places_of
among_cut p [] at h = cut at h
  where
    cut : (at : ℕ) → among p [] ≡ false → among p (places_of (take at [] ++ drop (suc at) [])) ≡ false
    cut zero h = h
    cut (suc at) h = h
among_cut p (j ∷ js) zero h = (other_key p j.place (places_of js) h).1
among_cut p (j ∷ js) (suc at) h =
    let o = other_key p j.place (places_of js) h in
    among_not p j.place (places_of (take at js ++ drop (suc at) js)) (λ e. o.0 e) (among_cut p js at o.1)

once_cut : (js : List model.Job) (at : ℕ) → each_once jobs_most (places_of js) ≡ true → each_once jobs_most (places_of (take at js ++ drop (suc at) js)) ≡ true
unfolding places_of
once_cut [] zero h = h
once_cut [] (suc at) h = h
once_cut (j ∷ js) zero h = (once_parts jobs_most j.place (places_of js) h).rest
once_cut (j ∷ js) (suc at) h =
    let o = once_parts jobs_most j.place (places_of js) h in
    once_make jobs_most j.place (places_of (take at js ++ drop (suc at) js))
    (record { below = o.below; fresh = among_cut j.place js at o.fresh; rest = once_cut js at o.rest })

drop_take : {A : Type 0} (a b : ℕ) (l : List A) → drop a (take b l) ≡ take (b - a) (drop a l)
drop_take zero b l = let e : b - 0 ≡ b = omega arith in rw e
drop_take (suc a) zero l = let e : 0 - suc a ≡ 0 = omega arith in rw e
drop_take (suc a) (suc b) [] = sym (take-nil (suc b - suc a))
drop_take (suc a) (suc b) (x ∷ l) = let e : suc b - suc a ≡ b - a = omega arith in rw e (drop_take a b l)

module _ (q : Queue) (count : ℕ) (C : Counted q count) where
  module _ (job : Job) (free : (job.place < jobs_most) × (is_free_in (queue_in q) job.place ≡ true)) where
    once_more : each_once jobs_most (places_of (queue_in q ++ (job_in job ∷ []))) ≡ true
    once_more =
        rw (places_snoc (queue_in q) (job_in job))
        (once_snoc jobs_most (places_of (queue_in q)) job.place (each q) free.0 (not-true (among job.place (places_of (queue_in q))) free.1))

    -- there is room where a place is free
    pub room_left : count < jobs_most
    room_left =
        omega (
          arith,
          once_most jobs_most (places_of (queue_in q ++ (job_in job ∷ []))) once_more,
          ap length (places_snoc (queue_in q) (job_in job)),
          length-append (places_of (queue_in q)) (job.place ∷ []),
          places_length (queue_in q),
          counted_length q count C,
        )

    pub lasts : queue_in (record { jobs = set q.jobs count job; held = count + 1 }) ≡ queue_in q ++ (job_in job ∷ [])
    unfolding jobs_in
    lasts =
        let more : jobs_in (take (count + 1) (set q.jobs count job)) ≡ queue_in q ++ (job_in job ∷ []) =
        rw add-one
        (ap jobs_in (take-suc-set q.jobs count job (omega (arith, C.room, room_left)))
        ∙ jobs_append (take count q.jobs) (job ∷ []) ∙ ap (λ (l : List model.Job). l ++ (job_in job ∷ [])) (sym C.first)) in
        ap (apart_from []) more ∙ once_whole (queue_in q ++ (job_in job ∷ [])) once_more

-- the jobs behind the one at `at` move up: those as far as i have
pub record Moved (q₀ q : Queue) (at last i : ℕ) : Type 0 where
  pub moved : q.jobs ≡ paste q₀.jobs at (drop (suc at) q₀.jobs) (i - at)
  pub from : at ≤ i
  pub to : i ≤ last

module _ (q₀ : Queue) (count at : ℕ) (C : Counted q₀ count) (h : at < length (queue_in q₀)) where
  pub inside : at < count
  inside = omega (arith, counted_length q₀ count C)

  pub moved_none : Moved q₀ q₀ at (count - 1) at
  moved_none =
      record {
        moved = rw (sub_self at) (paste-zero q₀.jobs at (drop (suc at) q₀.jobs));
        from = omega arith;
        to = omega (arith, inside);
      }
    where
      sub_self : (n : ℕ) → n - n ≡ 0
      sub_self n = omega arith

  module _ (q : Queue) (i : ℕ) (m : Moved q₀ q at (count - 1) i) where
    rest_long : length (drop (suc at) q₀.jobs) ≡ jobs_most - suc at
    rest_long = length-drop (suc at) q₀.jobs ∙ rw C.room

    pub moved_one : (other : Job) → i < count - 1
        → Moved q₀ (record { jobs = set q.jobs i (get_or q.jobs (i + 1) other); held = q.held }) at (count - 1) (i + 1)
    moved_one other l =
        let jobs = q₀.jobs in
        let s = drop (suc at) jobs in
        let n = i - at in
        let within : at ≤ length jobs = omega (arith, inside, C.most, C.room) in
        let few : n < length s = omega (arith, inside, C.most, rest_long, m.from) in
        let at_i : at + n ≡ i = omega (arith, m.from) in
        let next : i + 1 ≡ at + n + 1 = omega (arith, m.from) in
        let shift : at + n + 1 ≡ suc at + n = omega arith in
        let more : suc n ≡ i + 1 - at = omega (arith, m.from) in
        let read : get_or q.jobs (i + 1) other ≡ get_or s n other =
        ap (λ (l : List Job). get_or l (i + 1) other) m.moved
        ∙ ap (λ k. get_or (paste jobs at s n) k other) next
        ∙ sym (get_or-drop (at + n) (paste jobs at s n) 1 other)
        ∙ ap (λ (l : List Job). get_or l 1 other) (drop-paste jobs at s n within (omega arith))
        ∙ get_or-drop (at + n) jobs 1 other
        ∙ ap (λ k. get_or jobs k other) shift
        ∙ sym (get_or-drop (suc at) jobs n other) in
        record {
          moved =
              rw read
              (ap (λ (l : List Job). set l i (get_or s n other)) m.moved
              ∙ ap (λ k. set (paste jobs at s n) k (get_or s n other)) (sym at_i)
              ∙ paste-suc jobs at s n other (omega (arith, inside, C.most, C.room)) few
              ∙ ap (λ k. paste jobs at s k) more);
          from = omega (arith, m.from);
          to = omega arith;
        }

    moved_up : count - 1 ≤ i → jobs_in (take (count - 1) q.jobs) ≡ take at (queue_in q₀) ++ drop (at + 1) (queue_in q₀)
    moved_up l =
        let jobs = q₀.jobs in
        let s = drop (suc at) jobs in
        let few : i - at ≤ length s = omega (arith, inside, C.most, rest_long, m.from, m.to) in
        let span : count - 1 ≡ at + (i - at) = omega (arith, m.from, m.to) in
        let less : i - at ≡ count - suc at = omega (arith, inside, m.to) in
        ap (λ (l : List Job). jobs_in (take (count - 1) l)) m.moved
        ∙ ap (λ k. jobs_in (take k (paste jobs at s (i - at)))) span
        ∙ ap jobs_in (take-paste jobs at s (i - at) (omega (arith, inside, C.most, C.room)) few)
        ∙ jobs_append (take at jobs) (take (i - at) s)
        ∙ rw (← take-take at count jobs (omega (arith, inside)), less, ← drop_take (suc at) count jobs, jobs_take at (take count jobs), jobs_drop (suc at) (take count jobs), ← C.first, add-one)

    pub moved_all : count - 1 ≤ i → queue_in (record { jobs = q.jobs; held = count - 1 }) ≡ take at (queue_in q₀) ++ drop (at + 1) (queue_in q₀)
    moved_all l = ap (apart_from []) (moved_up l) ∙ once_whole (take at (queue_in q₀) ++ drop (at + 1) (queue_in q₀)) (rw add-one (once_cut (queue_in q₀) at (each q₀)))

    pub moved_counted : count - 1 ≤ i → Counted (record { jobs = q.jobs; held = count - 1 }) (count - 1)
    moved_counted l =
        record {
          first = moved_all l ∙ sym (moved_up l);
          most = omega (arith, C.most);
          room =
              ap length m.moved
              ∙ length-paste q₀.jobs at (drop (suc at) q₀.jobs) (i - at) (omega (arith, inside, C.most, C.room)) (omega (arith, inside, C.most, rest_long, m.from, m.to))
              ∙ C.room;
        }

-- ---- a turn
-- a job that is not at its last turn has one more
pub turn_fits : (job : Job) (r : Bool) → r ≡ is_last (job_in job) → r ≡ false → job.count < 2 ^ 16 → job.turns + 1 < 2 ^ 32
unfolding is_last
turn_fits job r e f h = omega (arith, leb-false (2 * job.count) job.turns (sym e ∙ f))

module _ (q : Queue) (job : Job) (first : head_of (queue_in q) ≡ some (job_in job)) where
  comes_apart : queue_in q ≡ job_in job ∷ drop 1 (queue_in q)
  comes_apart = go (queue_in q) first
    where
      go : (js : List model.Job) → head_of js ≡ some (job_in job) → js ≡ job_in job ∷ drop 1 js
      go [] e = let z : ◌≡◌ {A = ℕ} 0 1 = cc in absurd (omega arith)
      go (j ∷ js) e = let k : j ≡ job_in job = cc in ap (λ (k : model.Job). k ∷ js) k

  pub some_held : 0 < length (queue_in q)
  some_held = rw comes_apart (omega arith)

  module _ (rest : Queue) (count : ℕ) (closed : (queue_in rest ≡ take 0 (queue_in q) ++ drop (0 + 1) (queue_in q)) × Counted rest (count - 1)) where
    pub turned_last : (r : Bool) → r ≡ is_last (job_in job) → r ≡ true → queue_in rest ≡ turned (queue_in q)
    unfolding turned
    turned_last r e t = closed.0 ∙ sym (ap turned comes_apart ∙ rw (sym e ∙ t))

    abbrev again : Job
    again = record { number = job.number; turns = job.turns + 1; count = job.count; place = job.place; code = job.code }

    -- behind the head that left, its place is free
    head_free : (job.place < jobs_most) × (is_free_in (queue_in rest) job.place ≡ true)
    unfolding places_of
    head_free =
        let h : each_once jobs_most (places_of (job_in job ∷ drop 1 (queue_in q))) ≡ true = ap (λ js. each_once jobs_most (places_of js)) (sym comes_apart) ∙ each q in
        let o = once_parts jobs_most job.place (places_of (drop 1 (queue_in q))) h in
        (o.below, rw closed.0 (ap not o.fresh))

    pub turned_again : 1 ≤ count → (r : Bool) → r ≡ is_last (job_in job) → r ≡ false → queue_in (record { jobs = set rest.jobs (count - 1) again; held = count }) ≡ turned (queue_in q)
    unfolding turned
    turned_again held r e f =
        let whole : count ≡ count - 1 + 1 = omega arith in
        ap (λ k. queue_in (record { jobs = set rest.jobs (count - 1) again; held = k })) whole
        ∙ lasts rest (count - 1) closed.1 again head_free
        ∙ rw closed.0
        (ap (λ k. drop 1 (queue_in q) ++ (record { number = job.number; place = job.place; code = job.code; count = job.count; turns = k } ∷ [])) (add-one job.turns)
        ∙ sym (ap turned comes_apart ∙ rw (sym e ∙ f)))

-- the places are the same behind a turn that does not answer
pub turned_places : (js : List model.Job) (j : model.Job) (bits : ℕ) → head_of js ≡ some j → is_last j ≡ false → PlacesOf js bits → PlacesOf (turned js) bits
unfolding turned places_of
turned_places [] j bits e f P = let z : ◌≡◌ {A = ℕ} 0 1 = cc in absurd (omega arith)
turned_places (k ∷ js) j bits e f P =
    let i : k ≡ j = cc in
    let more : model.Job = record { number = k.number; place = k.place; code = k.code; count = k.count; turns = suc k.turns } in
    rw (ap is_last i ∙ f)
    (record {
      bit = λ p h.
          P.bit p h ∙ among_first p k.place (places_of js) ∙ swaps (eqb p k.place) (among p (places_of js))
          ∙ sym (among_snoc p (places_of js) k.place) ∙ ap (among p) (sym (places_snoc js more));
    })

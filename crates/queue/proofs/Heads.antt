-- The head of a queue is the first job of the array. Assumes nothing.
use mathlib.Core.Path.{◌≡◌, sym, ◌∙◌, ap}
use mathlib.Core.Bool.{Bool, true, false, not, cond, ◌&&◌}
use mathlib.Core.List.{List, [], ◌∷◌}
use mathlib.Core.Option.{none, some}
use Prim.Native.Nat.{ℕ, zero, suc, ◌%◌}
use native.Mathlib.Omega.{arith}
use lib.Dec.{ltb}
use lib.ListN.{length, get_or, take, drop}
use lib.Seq.{get_or-take, drop-cons, length-take-le}
use Rattle.model.specs.Limits.{jobs_most}
use Rattle.model.specs.Bounded.{among}
use Rattle.model.specs.Dispatcher as model
use Rattle.queue.specs.declared.Job.{Job}
use Rattle.queue.specs.declared.Queue.{Queue}
use Rattle.queue.specs.Bridge.{job_in, jobs_in, apart_from, queue_in, Counted, head_of, FirstPlace}

module _ (q : Queue) (count : ℕ) (C : Counted q count) where
  pub head_none : count ≡ 0 → none ≡ head_of (queue_in q)
  unfolding jobs_in
  head_none e = sym (ap head_of (C.first ∙ ap (λ n. jobs_in (take n q.jobs)) e))

  pub head_some : (other : Job) → (count ≡ 0 → ⊥) → some (job_in (get_or q.jobs 0 other)) ≡ head_of (queue_in q)
  unfolding jobs_in
  head_some other h =
      let L = take count q.jobs in
      let long : length L ≡ count = length-take-le count q.jobs (omega (arith, C.room, C.most)) in
      sym
      (ap head_of
      (C.first ∙ ap jobs_in (drop-cons L 0 other (omega arith) ∙ ap (λ (j : Job). j ∷ drop 1 L) (get_or-take count q.jobs 0 other (omega arith)))))

-- the head, where there is one, is the first job of the array
head_is_first : (jobs : List Job) (held : ℕ) (other : Job) (j : model.Job) → head_of (apart_from [] (jobs_in (take held jobs))) ≡ some j
    → job_in (get_or jobs 0 other) ≡ j
unfolding jobs_in apart_from
head_is_first [] zero other j e = let z : ◌≡◌ {A = ℕ} 0 1 = cc in absurd (omega arith)
head_is_first [] (suc n) other j e = let z : ◌≡◌ {A = ℕ} 0 1 = cc in absurd (omega arith)
head_is_first (k ∷ ks) zero other j e = let z : ◌≡◌ {A = ℕ} 0 1 = cc in absurd (omega arith)
head_is_first (k ∷ ks) (suc n) other j e = go (ltb k.place jobs_most && not (among k.place [])) e
  where
    go : (b : Bool) → head_of (cond b (job_in k ∷ apart_from (k.place ∷ []) (jobs_in (take n ks))) []) ≡ some j → job_in k ≡ j
    go true e = cc
    go false e = let z : ◌≡◌ {A = ℕ} 0 1 = cc in absurd (omega arith)

pub first_is : (q : Queue) (other : Job) → FirstPlace (queue_in q) ((get_or q.jobs 0 other).place % jobs_most)
first_is q other =
    record { below = omega arith; head = λ j e. ap (λ (k : model.Job). k.place % jobs_most) (head_is_first q.jobs q.held other j e) }

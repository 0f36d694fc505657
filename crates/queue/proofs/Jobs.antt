-- The jobs of the array, and how many are held. Assumes nothing.
use mathlib.Core.Path.{◌≡◌, refl, ◌∙◌, ap}
use mathlib.Core.List.{List, [], ◌∷◌, ◌++◌}
use Prim.Native.Nat.{ℕ, zero, suc, ◌<◌}
use native.Mathlib.Omega.{arith}
use lib.ListN.{length, get_or, take, drop}
use lib.Seq.{take-suc, length-take-le}
use Rattle.model.specs.Dispatcher as model
use Rattle.queue.specs.declared.Job.{Job}
use Rattle.queue.specs.declared.Queue.{Queue}
use Rattle.queue.specs.Bridge.{job_in, jobs_in, queue_in, Counted}

-- ---- lists of jobs

pub jobs_append : (a b : List Job) → jobs_in (a ++ b) ≡ jobs_in a ++ jobs_in b
unfolding jobs_in
jobs_append [] b = refl
jobs_append (j ∷ a) b = ap (λ (l : List model.Job). job_in j ∷ l) (jobs_append a b)

pub jobs_length : (l : List Job) → length (jobs_in l) ≡ length l
unfolding jobs_in
jobs_length [] = refl
jobs_length (j ∷ l) = ap suc (jobs_length l)

pub jobs_take : (n : ℕ) (l : List Job) → jobs_in (take n l) ≡ take n (jobs_in l)
unfolding jobs_in
jobs_take zero l = refl
jobs_take (suc n) [] = refl
jobs_take (suc n) (j ∷ l) = ap (λ (s : List model.Job). job_in j ∷ s) (jobs_take n l)

pub jobs_drop : (n : ℕ) (l : List Job) → jobs_in (drop n l) ≡ drop n (jobs_in l)
unfolding jobs_in
jobs_drop zero l = refl
jobs_drop (suc n) [] = refl
jobs_drop (suc n) (j ∷ l) = jobs_drop n l

-- the first jobs of the array, with one more
pub jobs_more : (l : List Job) (i : ℕ) (other : Job) → i < length l → jobs_in (take (suc i) l) ≡ jobs_in (take i l) ++ (job_in (get_or l i other) ∷ [])
unfolding jobs_in
jobs_more l i other h = ap jobs_in (take-suc l i other h) ∙ jobs_append (take i l) (get_or l i other ∷ [])

-- how many there are
pub counted_length : (q : Queue) (count : ℕ) → Counted q count → length (queue_in q) ≡ count
counted_length q count C = ap length C.first ∙ jobs_length (take count q.jobs) ∙ length-take-le count q.jobs (omega (arith, C.room, C.most))

-- The jobs of a queue as far as each has a place of its own. Assumes nothing.
use mathlib.Core.Path.{◌≡◌, refl, sym, ◌∙◌, ap}
use mathlib.Core.Bool.{Bool, true, false, not, cond, ◌&&◌, ◌||◌}
use mathlib.Core.List.{List, [], ◌∷◌, ◌++◌}
use Prim.Native.Nat.{ℕ}
use borrow.Author.Tests.{lt-ltb, ltb-true, not-true}
use lib.Dec.{eqb, ltb}
use Rattle.model.specs.Limits.{jobs_most}
use Rattle.model.specs.Bounded.{among, each_once}
use Rattle.model.specs.Dispatcher as model
use Rattle.model.specs.Dispatcher.{places_of}
use Rattle.model.proofs.Bounded.{and_left, and_right, not_both}
use Rattle.model.proofs.Ahead.{among_here, among_there, among_not, once_parts, once_make}
use Rattle.queue.specs.Bridge.{jobs_in, apart_from, empty_queue, queue_in}

pub swaps : (a b : Bool) → (a || b) ≡ (b || a)
swaps true true = refl
swaps true false = refl
swaps false true = refl
swaps false false = refl

pub among_first : (n k : ℕ) (l : List ℕ) → among n (k ∷ l) ≡ (eqb n k || among n l)
unfolding among
among_first n k l = refl

pub places_snoc : (js : List model.Job) (j : model.Job) → places_of (js ++ (j ∷ [])) ≡ places_of js ++ (j.place ∷ [])
unfolding places_of
places_snoc [] j = refl
places_snoc (k ∷ js) j = ap (λ (l : List ℕ). k.place ∷ l) (places_snoc js j)

-- ---- the jobs as far as each has a place of its own

-- all of them, where each has, and none is in a place seen
pub once_apart : (seen : List ℕ) (js : List model.Job) → each_once jobs_most (places_of js) ≡ true
    → ((p : ℕ) → among p (places_of js) ≡ true → among p seen ≡ false) → apart_from seen js ≡ js
unfolding apart_from places_of
once_apart seen [] h n = refl
once_apart seen (j ∷ js) h n =
    let o = once_parts jobs_most j.place (places_of js) h in
    let new : (ltb j.place jobs_most && not (among j.place seen)) ≡ true =
    rw (lt-ltb j.place jobs_most o.below, n j.place (among_here j.place (places_of js))) in
    rw new
    (ap (λ (l : List model.Job). j ∷ l)
    (once_apart (j.place ∷ seen) js o.rest
    (λ p m.
    among_not p j.place seen
    (λ e. not_both (among j.place (places_of js)) (ap (λ k. among k (places_of js)) (sym e) ∙ m) o.fresh)
    (n p (among_there p j.place (places_of js) m)))))

pub once_whole : (js : List model.Job) → each_once jobs_most (places_of js) ≡ true → apart_from [] js ≡ js
unfolding among
once_whole js h = once_apart [] js h (λ p m. refl)

-- and each of them has
apart_unseen : (p : ℕ) (seen : List ℕ) (js : List model.Job) → among p seen ≡ true → among p (places_of (apart_from seen js)) ≡ false
unfolding apart_from places_of among
apart_unseen p seen [] m = refl
apart_unseen p seen (j ∷ js) m =
    go (ltb j.place jobs_most && not (among j.place seen)) refl (apart_unseen p (j.place ∷ seen) js (among_there p j.place seen m))
  where
    go : (b : Bool) → (ltb j.place jobs_most && not (among j.place seen)) ≡ b → among p (places_of (apart_from (j.place ∷ seen) js)) ≡ false
        → among p (places_of (cond b (j ∷ apart_from (j.place ∷ seen) js) [])) ≡ false
    go false e later = refl
    go true e later =
        let new : among j.place seen ≡ false = not-true (among j.place seen) (and_right (ltb j.place jobs_most) (not (among j.place seen)) e) in
        among_not p j.place (places_of (apart_from (j.place ∷ seen) js)) (λ i. not_both (among j.place seen) (ap (λ k. among k seen) (sym i) ∙ m) new) later

pub apart_once : (seen : List ℕ) (js : List model.Job) → each_once jobs_most (places_of (apart_from seen js)) ≡ true
unfolding apart_from places_of each_once
apart_once seen [] = refl
apart_once seen (j ∷ js) = go (ltb j.place jobs_most && not (among j.place seen)) refl (apart_once (j.place ∷ seen) js)
  where
    go : (b : Bool) → (ltb j.place jobs_most && not (among j.place seen)) ≡ b → each_once jobs_most (places_of (apart_from (j.place ∷ seen) js)) ≡ true
        → each_once jobs_most (places_of (cond b (j ∷ apart_from (j.place ∷ seen) js) [])) ≡ true
    go false e later = refl
    go true e later =
        once_make jobs_most j.place (places_of (apart_from (j.place ∷ seen) js))
        (record {
          below = ltb-true j.place jobs_most (and_left (ltb j.place jobs_most) (not (among j.place seen)) e);
          fresh = apart_unseen j.place (j.place ∷ seen) js (among_here j.place seen);
          rest = later;
        })

-- the empty queue holds none
pub empty_none : queue_in empty_queue ≡ []
unfolding jobs_in apart_from
empty_none = refl

-- The jobs of an orderly dispatcher: each has a place and a number of its own. Assumes nothing.
use mathlib.Core.Path.{◌≡◌, sym, ◌∙◌, ap, subst⁻¹}
use mathlib.Core.Logic.{◌⊎◌, inl, inr, ⊎_elim}
use mathlib.Core.Bool.{Bool, true, false, not, cond}
use mathlib.Core.List.{List, [], ◌∷◌, ◌++◌, map}
use Prim.Native.Nat.{ℕ, ◌<◌}
use lib.Dec.{eqb}
use Rattle.model.specs.Limits.{jobs_most}
use Rattle.model.specs.Bounded.{among, each_once}
use Rattle.model.specs.Dispatcher.{Job, without, DispatcherState, is_free, Member, Orderly}
use Rattle.model.proofs.Bounded.{not_both}
use Rattle.model.proofs.Ahead.{among_here, among_there, once_parts, once_below}
use Rattle.model.proofs.Queue.{place_of, number_of, places_map, numbers_map}

-- ---- whatever is read of each job
module _ (f : Job → ℕ) where
  member_among : (j : Job) (js : List Job) → Member j js → among (f j) (map f js) ≡ true
  member_among j [] m = absurd m
  member_among j (k ∷ ks) m =
      ⊎_elim
      (λ e. subst⁻¹ (λ (i : Job). among (f i) (map f (k ∷ ks)) ≡ true) e (among_here (f k) (map f ks)))
      (λ i. among_there (f j) (f k) (map f ks) (member_among j ks i))
      m

  -- two jobs that agree in it are one
  member_same : (n : ℕ) (j k : Job) (js : List Job) → each_once n (map f js) ≡ true → Member j js → Member k js → f j ≡ f k → j ≡ k
  member_same n j k [] o a b e = absurd a
  member_same n j k (h ∷ js) o a b e =
      let parts = once_parts n (f h) (map f js) o in
      ⊎_elim
      (λ i.
      ⊎_elim (λ u. i ∙ sym u)
      (λ u. not_both (among (f h) (map f js)) (ap (λ x. among x (map f js)) (ap f (sym i) ∙ e) ∙ member_among k js u) parts.fresh)
      b)
      (λ i.
      ⊎_elim (λ u. not_both (among (f h) (map f js)) (ap (λ x. among x (map f js)) (ap f (sym u) ∙ sym e) ∙ member_among j js i) parts.fresh)
      (λ u. member_same n j k js parts.rest i u e)
      b)
      a

  member_below : (n : ℕ) (j : Job) (js : List Job) → each_once n (map f js) ≡ true → Member j js → f j < n
  member_below n j js o m = once_below n (map f js) (f j) o (member_among j js m)

  -- the first differs from every one behind it
  head_apart : (n : ℕ) (j k : Job) (js : List Job) → each_once n (map f (j ∷ js)) ≡ true → Member k js → f k ≡ f j → ⊥
  head_apart n j k js o m e =
      not_both (among (f j) (map f js)) (ap (λ x. among x (map f js)) (sym e) ∙ member_among k js m) (once_parts n (f j) (map f js) o).fresh

-- ---- members of the lists that calls make
pub member_last : (k n : Job) (js : List Job) → Member k (js ++ (n ∷ [])) → Member k js ⊎ (k ≡ n)
member_last k n [] m = ⊎_elim inr (λ i. absurd i) m
member_last k n (j ∷ js) m = ⊎_elim (λ e. inl (inl e)) (λ i. ⊎_elim (λ u. inl (inr u)) inr (member_last k n js i)) m

pub member_without : (k : Job) (n : ℕ) (js : List Job) → Member k (without n js) → Member k js
unfolding without
member_without k n [] m = m
member_without k n (j ∷ js) m = go (eqb j.number n) (λ u. member_without k n js u) m
  where
    go : (b : Bool) → (Member k (without n js) → Member k js) → Member k (cond b js (j ∷ without n js)) → Member k (j ∷ js)
    go true later u = inr u
    go false later u = ⊎_elim inl (λ i. inr (later i)) u

-- ---- orderly dispatchers
module _ (d : DispatcherState) (o : Orderly d) where
  once_numbers : each_once d.given (map number_of d.queue) ≡ true
  once_numbers = ap (each_once d.given) (sym (numbers_map d.queue)) ∙ o.numbers

  once_places : each_once jobs_most (map place_of d.queue) ≡ true
  once_places = ap (each_once jobs_most) (sym (places_map d.queue)) ∙ o.places

  -- two jobs of one number are one
  pub one_job : (j k : Job) → Member j d.queue → Member k d.queue → j.number ≡ k.number → j ≡ k
  one_job j k a b e = member_same number_of d.given j k d.queue once_numbers a b e

  pub number_below : (j : Job) → Member j d.queue → j.number < d.given
  number_below j m = member_below number_of d.given j d.queue once_numbers m

  pub place_below : (j : Job) → Member j d.queue → j.place < jobs_most
  place_below j m = member_below place_of jobs_most j d.queue once_places m

  pub place_apart : (j k : Job) (js : List Job) → d.queue ≡ j ∷ js → Member k js → k.place ≡ j.place → ⊥
  place_apart j k js e m i = head_apart place_of jobs_most j k js (ap (λ q. each_once jobs_most (map place_of q)) (sym e) ∙ once_places) m i

-- the place of a job is not free
pub place_held : (d : DispatcherState) (j : Job) → Member j d.queue → is_free d j.place ≡ false
unfolding is_free
place_held d j m = ap not (ap (among j.place) (places_map d.queue) ∙ member_among place_of j d.queue m)

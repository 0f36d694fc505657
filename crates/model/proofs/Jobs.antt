-- Request (k), one job followed: where it stands in the queue, and what each call does to it. It stays, with no more jobs ahead of it, and
-- fewer behind every turn that is not refused; it has a turn and goes behind the last; it is answered, or cancelled, and is gone for good.
-- Assumes nothing.
use Prim.Native.Nat.{ℕ, suc, ◌*◌, ◌<◌, ◌≤◌}
use native.Mathlib.Omega.{arith}
use mathlib.Core.Path.{◌≡◌, refl, sym, ◌∙◌, ap, subst, subst⁻¹}
use mathlib.Core.Bool.{Bool, true, false}
use mathlib.Core.List.{List, [], ◌∷◌, ◌++◌, map, append_assoc, append-nil}
use lib.Dec.{eqb}
use lib.ListN.{length}
use borrow.Author.Tests.{eqb-true, eqb-false, ne_eqb}
use Rattle.model.specs.Bounded.{among, each_once}
use Rattle.model.specs.Dispatcher.{code_at, Job, DispatcherState, new_job, admitting, without, Call, Outcome, admitted, idle, taken, answered, cancelled, refused, outcome_of, behind}
use Rattle.model.proofs.Bounded.{not_both, or_neither}
use Rattle.model.proofs.Ahead.{once_parts, once_below}
use Rattle.model.proofs.CallCases.{again, Does, refuses, idles, admits, takes, answers, cancels, call_does}
use Rattle.model.proofs.Queue.{number_of, numbers_map, among_behind, among_without, among_held, number_leaves, without_kept, OneEach, one_each_of}

-- the outcome is a turn of job n, or its cancellation
abbrev pub names : ℕ → Outcome → Bool
names n (admitted m p) = false
names n idle = false
names n (taken m) = eqb m n
names n (answered m) = eqb m n
names n (cancelled m) = eqb m n
names n (refused number line) = false

-- it is that of a turn which is not refused
abbrev pub is_unrefused : Outcome → Bool
is_unrefused (admitted m p) = false
is_unrefused idle = true
is_unrefused (taken m) = true
is_unrefused (answered m) = true
is_unrefused (cancelled m) = false
is_unrefused (refused number line) = false

-- A job's number.
module _ (n : ℕ) where
  -- it was given out, and is not held
  pub record Gone (d : DispatcherState) : Type 0 where
    pub absent : among n (map number_of d.queue) ≡ false
    pub was_given : n < d.given

  -- What is so of a job that is gone, and stays so: no outcome names it again.
  pub record StaysGone (d : DispatcherState) (o : Outcome) : Type 0 where
    pub gone : Gone d
    pub unnamed : names n o ≡ false

  -- the head is another job, and it is not behind it either
  head_apart : (d : DispatcherState) (j : Job) (js : List Job) → d.queue ≡ j ∷ js → Gone d
      → (eqb n j.number ≡ false) × (among n (map number_of js) ≡ false)
  unfolding among
  head_apart d j js e g = or_neither _ _ (subst (λ (q : List Job). among n (map number_of q) ≡ false) e g.absent)

  gone_next : (d : DispatcherState) (c : Call) (next : DispatcherState) (o : Outcome) → Does d c next o → Gone d → StaysGone next o
  unfolding admitting
  gone_next d c next o refuses g = record { gone = g; unnamed = refl }
  gone_next d c next o (idles e) g = record { gone = g; unnamed = refl }
  gone_next d c next o (admits a) g =
      let given : n < d.given = g.was_given in
      record {
        gone = record { absent = among_behind number_of n d.queue _ g.absent (λ e. omega arith); was_given = omega arith };
        unnamed = refl;
      }
  gone_next d c next o (takes {j = j} {js = js} e early) g =
      let h = head_apart d j js e g in
      record {
        gone = record { absent = among_behind number_of n js (again j) h.1 (eqb-false n j.number h.0); was_given = g.was_given };
        unnamed = ne_eqb j.number n (λ i. eqb-false n j.number h.0 (sym i));
      }
  gone_next d c next o (answers {j = j} {js = js} e due long) g =
      let h = head_apart d j js e g in
      record {
        gone = record { absent = h.1; was_given = g.was_given };
        unnamed = ne_eqb j.number n (λ i. eqb-false n j.number h.0 (sym i));
      }
  gone_next d c next o (cancels {n = m} held) g =
      record {
        gone = record { absent = among_without number_of n m d.queue g.absent; was_given = g.was_given };
        unnamed =
            ne_eqb m n
            (λ i.
            not_both (among m (map number_of d.queue)) (rw (numbers_map d.queue) at held)
            (subst⁻¹ (λ (k : ℕ). among k (map number_of d.queue) ≡ false) i g.absent));
      }

  pub gone_call : (d : DispatcherState) (c : Call) → Gone d → StaysGone (behind d c) (outcome_of d c)
  gone_call d c g = gone_next d c (behind d c) (outcome_of d c) (call_does d c) g

-- The job n, in place p, with its code and its count of messages.
module _ (n p code count : ℕ) where
  -- after t turns
  abbrev pub job_at : ℕ → Job
  job_at t = record { number = n; place = p; code = code; count = count; turns = t }

  -- it had t turns, and x jobs are ahead of it
  pub record Stands (d : DispatcherState) (t x : ℕ) : Type 0 where
    pub ahead : List Job
    pub rest : List Job
    pub queue : d.queue ≡ ahead ++ (job_at t ∷ rest)
    pub position : length ahead ≡ x

  -- What a call does to it, by the dispatcher behind the call and its outcome.
  pub data Moved (t x : ℕ) (d : DispatcherState) (o : Outcome) : Type 0 where
    stays : {y : ℕ} → Stands d t y → y ≤ x → (is_unrefused o ≡ true → y < x) → names n o ≡ false → Moved t x d o
    goes_on : {y : ℕ} → Stands d (suc t) y → t < 2 * count → o ≡ taken n → Moved t x d o
    is_answered : Gone n d → x ≡ 0 → 2 * count ≤ t → o ≡ answered n → Moved t x d o
    is_cancelled : Gone n d → o ≡ cancelled n → Moved t x d o

  -- the head of the queue is this job, or another one with it behind
  data Head (t x : ℕ) (j : Job) (js : List Job) : Type 0 where
    is_this : j ≡ job_at t → x ≡ 0 → Head t x j js
    is_other : (ahead rest : List Job) → js ≡ ahead ++ (job_at t ∷ rest) → x ≡ suc (length ahead) → eqb j.number n ≡ false → Head t x j js

  head : (d : DispatcherState) (t x : ℕ) (j : Job) (js : List Job) → d.queue ≡ j ∷ js → OneEach d → Stands d t x → Head t x j js
  head d t x j js e o s = go s.ahead s.rest (sym e ∙ s.queue) (sym s.position)
    where
      fresh : among j.number (map number_of js) ≡ false
      fresh = (once_parts d.given j.number (map number_of js) (one_each_of d (j ∷ js) e o).numbers).fresh

      go : (ahead rest : List Job) → j ∷ js ≡ ahead ++ (job_at t ∷ rest) → x ≡ length ahead → Head t x j js
      go [] rest i l = let same : j ≡ job_at t = cc in is_this same l
      go (k ∷ ahead) rest i l =
          let tail : js ≡ ahead ++ (job_at t ∷ rest) = cc in
          let here : among n (map number_of js) ≡ true =
          subst⁻¹ (λ (q : List Job). among n (map number_of q) ≡ true) tail (among_held number_of ahead (job_at t) rest) in
          is_other ahead rest tail l
          (ne_eqb j.number n
          (λ h. not_both (among n (map number_of js)) here (subst (λ (m : ℕ). among m (map number_of js) ≡ false) h fresh)))

  -- a turn of another job: one fewer is ahead of this one, with the tail, and what is put behind it
  other_turn : (t x given : ℕ) (ahead rest behind : List Job) (js : List Job) (o : Outcome) → js ≡ ahead ++ (job_at t ∷ rest)
      → x ≡ suc (length ahead) → names n o ≡ false → Moved t x (record { queue = js ++ behind; given = given }) o
  other_turn t x given ahead rest behind js o e l unnamed =
      stays
      (record {
        ahead = ahead;
        rest = rest ++ behind;
        queue = ap (λ q. q ++ behind) e ∙ append_assoc ahead (job_at t ∷ rest) behind;
        position = refl;
      })
      (omega arith) (λ u. omega arith) unnamed

  take_moves : (d : DispatcherState) (t x : ℕ) (j : Job) (js : List Job) → j.turns < 2 * j.count → Head t x j js
      → Moved t x (record { queue = js ++ (again j ∷ []); given = d.given }) (taken j.number)
  take_moves d t x j js early (is_this e first) =
      goes_on
      (record { ahead = js; rest = []; queue = ap (λ k. js ++ (again k ∷ [])) e; position = refl })
      (subst (λ (k : Job). k.turns < 2 * k.count) e early) (ap (λ k. taken k.number) e)
  take_moves d t x j js early (is_other ahead rest e l other) = other_turn t x d.given ahead rest (again j ∷ []) js (taken j.number) e l other

  answer_moves : (d : DispatcherState) (t x : ℕ) (j : Job) (js : List Job) → 2 * j.count ≤ j.turns → OneEach (record { queue = j ∷ js; given = d.given })
      → Head t x j js → Moved t x (record { queue = js; given = d.given }) (answered j.number)
  answer_moves d t x j js due o (is_this e first) =
      let parts = once_parts d.given j.number (map number_of js) o.numbers in
      let number : j.number ≡ n = ap number_of e in
      is_answered
      (record {
        absent = subst (λ (m : ℕ). among m (map number_of js) ≡ false) number parts.fresh;
        was_given = subst (λ (m : ℕ). m < d.given) number parts.below;
      })
      first (subst (λ (k : Job). 2 * k.count ≤ k.turns) e due) (ap answered number)
  answer_moves d t x j js due o (is_other ahead rest e l other) =
      subst (λ (q : List Job). Moved t x (record { queue = q; given = d.given }) (answered j.number)) (append-nil js)
      (other_turn t x d.given ahead rest [] js (answered j.number) e l other)

  -- a cancellation: of this job, or of another one
  cancel_moves : (m given : ℕ) (ahead : List Job) (t : ℕ) (rest : List Job)
      → each_once given (map number_of (ahead ++ (job_at t ∷ rest))) ≡ true
      → Moved t (length ahead) (record { queue = without m (ahead ++ (job_at t ∷ rest)); given = given }) (cancelled m)
  cancel_moves m given ahead t rest h = go (eqb n m) refl
    where
      go : (this : Bool) → eqb n m ≡ this
          → Moved t (length ahead) (record { queue = without m (ahead ++ (job_at t ∷ rest)); given = given }) (cancelled m)
      go true e =
          let same = eqb-true n m e in
          subst (λ (i : ℕ). Moved t (length ahead) (record { queue = without i (ahead ++ (job_at t ∷ rest)); given = given }) (cancelled i)) same
          (is_cancelled
          (record {
            absent = number_leaves given n (ahead ++ (job_at t ∷ rest)) h;
            was_given = once_below given (map number_of (ahead ++ (job_at t ∷ rest))) n h (among_held number_of ahead (job_at t) rest);
          })
          refl)
      go false e =
          let k = without_kept m ahead (job_at t) rest e in
          stays
          (record { ahead = k.ahead; rest = k.rest; queue = k.queue; position = refl })
          k.not_more (λ u. not_both false u refl) (ne_eqb m n (λ i. eqb-false n m e (sym i)))

  -- what is so of the queue by its parts is so of the queue
  as_standing : (d : DispatcherState) (t x : ℕ) (s : Stands d t x) (P : ℕ → List Job → Type 0)
      → P (length s.ahead) (s.ahead ++ (job_at t ∷ s.rest)) → P x d.queue
  as_standing d t x s P h =
      subst⁻¹ (λ (q : List Job). P x q) s.queue (subst (λ (y : ℕ). P y (s.ahead ++ (job_at t ∷ s.rest))) s.position h)

  -- the queue is not empty
  not_empty : {C : Type 0} (d : DispatcherState) (t x : ℕ) → Stands d t x → d.queue ≡ [] → C
  not_empty {C} d t x s e = go s.ahead (sym e ∙ s.queue)
    where
      go : (ahead : List Job) → [] ≡ ahead ++ (job_at t ∷ s.rest) → C
      go [] i = let z : ◌≡◌ {A = ℕ} 0 1 = cc in absurd (omega arith)
      go (k ∷ ahead) i = let z : ◌≡◌ {A = ℕ} 0 1 = cc in absurd (omega arith)

  moves : (d : DispatcherState) (c : Call) (next : DispatcherState) (o : Outcome) (t x : ℕ) → Does d c next o → OneEach d → Stands d t x → Moved t x next o
  unfolding admitting
  moves d c next o t x refuses each s = stays s (omega arith) (λ u. not_both false u refl) refl
  moves d c next o t x (idles e) each s = not_empty d t x s e
  moves d c next o t x (admits {l = l} {p = q} {S = S} a) each s =
      stays
      (record {
        ahead = s.ahead;
        rest = s.rest ++ (new_job d q (code_at l q) S.count ∷ []);
        queue = ap (λ js. js ++ (new_job d q (code_at l q) S.count ∷ [])) s.queue ∙ append_assoc s.ahead (job_at t ∷ s.rest) _;
        position = s.position;
      })
      (omega arith) (λ u. not_both false u refl) refl
  moves d c next o t x (takes {j = j} {js = js} e early) each s = take_moves d t x j js early (head d t x j js e each s)
  moves d c next o t x (answers {j = j} {js = js} e due long) each s =
      answer_moves d t x j js due (one_each_of d (j ∷ js) e each) (head d t x j js e each s)
  moves d c next o t x (cancels {n = m} held) each s =
      as_standing d t x s (λ y q. Moved t y (record { queue = without m q; given = d.given }) (cancelled m))
      (cancel_moves m d.given s.ahead t s.rest
      (subst (λ (q : List Job). each_once d.given (map number_of q) ≡ true) s.queue each.numbers))

  -- every call
  pub one_call : (d : DispatcherState) (c : Call) (t x : ℕ) → OneEach d → Stands d t x → Moved t x (behind d c) (outcome_of d c)
  one_call d c t x o s = moves d c (behind d c) (outcome_of d c) t x (call_does d c) o s

-- What every call's promise is made of: the words that it leaves, the jobs that it does not touch, and the calls that leave the dispatcher as it
-- was. Assumes nothing.
use mathlib.Core.Path.{◌≡◌, refl, sym, ◌∙◌, ap, subst, subst⁻¹}
use mathlib.Core.Logic.{inl}
use mathlib.Core.Bool.{true, false}
use mathlib.Core.List.{List}
use Prim.Native.Nat.{ℕ, ◌<◌, ◌≤◌}
use native.Mathlib.Omega.{arith}
use borrow.Author.Tests.{le-leb}
use lib.ListN.{length, drop}
use Rattle.model.specs.Limits.{jobs_most, job_words_least}
use Rattle.model.specs.Refusal.{bench_refusal}
use Rattle.model.specs.Order.{Scenario}
use Rattle.model.specs.Answer.{Numbers, locked_word}
use Rattle.model.specs.Dispatcher as model
use Rattle.model.specs.Dispatcher.{place_words, DispatcherState, is_free, Call, lent_to, trace_to, Outcome, admitted, idle, taken, answered, cancelled, refused, outcome_of, behind, no_answer, told_as, touches_nothing, leaves_all, WordsLeft, Served, Member, Orderly, Serves, refused_word}
use Rattle.model.proofs.Bounded.{not_both}
use Rattle.queue.specs.Bridge.{queue_in}
use Rattle.share.specs.declared.Race.{Race}
use Rattle.places.specs.Words.{FreeCleared}
use Rattle.held_jobs.specs.Held.{Held, dispatcher_of, boards_at, race_at, HoldsIn, HoldsJob, told_with}
use Rattle.held_jobs.proofs.Members.{one_job, place_below, place_held}
use Rattle.held_jobs.proofs.Cases.{Case, admit_admitted}

-- ---- the words
pub words_untouched : (d : DispatcherState) (c : Call) → touches_nothing (outcome_of d c) ≡ true → WordsLeft d c (lent_to c).words
words_untouched d c t =
    record {
      untouched = λ e. refl;
      length_kept = refl;
      rest_kept = refl;
      free_zero = λ f p h e. not_both (touches_nothing (outcome_of d c)) t f;
      held_kept = λ p h a b. refl;
    }

-- the free places are cleared behind it; ahead of that, those of held jobs were as they are lent
pub words_cleared : (d : DispatcherState) (c : Call) (written exit : List ℕ) → touches_nothing (outcome_of d c) ≡ false → FreeCleared (behind d c).queue written exit
    → length written ≡ length (lent_to c).words → drop job_words_least written ≡ drop job_words_least (lent_to c).words
    → ((p : ℕ) → p < jobs_most → is_free d p ≡ false → place_words p written ≡ place_words p (lent_to c).words) → WordsLeft d c exit
unfolding is_free
words_cleared d c written exit f F long rest held =
    record {
      untouched = λ e. not_both (touches_nothing (outcome_of d c)) e f;
      length_kept = F.kept ∙ long;
      rest_kept = F.rest ∙ rest;
      free_zero = λ e p h t. F.free p h t;
      held_kept = λ p h a b. F.held p h b ∙ held p h a;
    }

-- ---- a job that a call does not touch
pub holds_same : (d e : Held) (words exit : List ℕ) (j : model.Job) (S : Scenario) → boards_at e j.place ≡ boards_at d j.place
    → race_at e j.place ≡ race_at d j.place → exit ≡ words → HoldsJob d words j S → HoldsJob e exit j S
holds_same d e words exit j S b r w H =
    subst⁻¹ (λ (boards : List ℕ). HoldsIn boards (race_at e j.place) exit j S) b
    (subst⁻¹ (λ (race : Race). HoldsIn (boards_at d j.place) race exit j S) r
    (subst⁻¹ (λ (l : List ℕ). HoldsIn (boards_at d j.place) (race_at d j.place) l j S) w H))

-- the words of a job that is held before and behind a call
pub words_same : (d : DispatcherState) (c : Call) (exit : List ℕ) (j : model.Job) → WordsLeft d c exit → Orderly d → Member j d.queue → Member j (behind d c).queue
    → place_words j.place exit ≡ place_words j.place (lent_to c).words
words_same d c exit j W o a b = W.held_kept j.place (place_below d o j a) (place_held d j a) (place_held (behind d c) j b)

-- ---- calls that leave the dispatcher as it was
answers_none : (o : Outcome) → (told_as o no_answer).answer ≡ no_answer
answers_none (admitted n p) = refl
answers_none idle = refl
answers_none (taken n) = refl
answers_none (answered n) = refl
answers_none (cancelled n) = refl
answers_none (refused n k) = refl

pub served_alone : (d : Held) (c : Call) (o : Outcome) (exit : List ℕ) (r : Served Held) → Case (dispatcher_of d) c o (dispatcher_of d) → leaves_all o ≡ true
    → r ≡ record { told = told_as o no_answer; next = d } → WordsLeft (dispatcher_of d) c exit → Serves dispatcher_of HoldsJob d c exit (trace_to c) r
unfolding leaves_all
served_alone d c o exit r C alone e W =
    subst⁻¹ (λ (s : Served Held). Serves dispatcher_of HoldsJob d c exit (trace_to c) s) e
    (record {
      told = ap (told_as o) (sym (answers_none o)) ∙ ap (λ u. told_as u (told_as o no_answer).answer) (sym C.outcome);
      next = sym C.leaves;
      left_alone = λ t. refl;
      words_left = W;
      free_or_locked = inl (answers_none o);
      trace_kept = λ n. refl;
      trace_locked = λ t. let z : no_answer.word ≡ locked_word = sym (ap (λ (a : Numbers). a.word) (answers_none o)) ∙ t in absurd (omega (arith, z));
      admits = λ l p S i f a. not_both (leaves_all o) alone (ap leaves_all (sym C.outcome ∙ ap (outcome_of (dispatcher_of d)) i ∙ (admit_admitted (dispatcher_of d) l p S f a).outcome));
      keeps = λ n j k S a b m H.
          let b' : Member k (dispatcher_of d).queue = subst (λ (q : DispatcherState). Member k q.queue) C.leaves b in
          let same : j ≡ k = one_job (dispatcher_of d) n j k a b' m in
          subst (λ (i : model.Job). HoldsJob d (place_words i.place exit) i S) same
          (holds_same d d (place_words j.place (lent_to c).words) (place_words j.place exit) j S refl refl
          (words_same (dispatcher_of d) c exit j W n a (subst⁻¹ (λ (q : DispatcherState). Member j q.queue) C.leaves a)) H);
      answers = λ n j js S q i H. not_both (leaves_all o) alone (ap leaves_all (sym C.outcome ∙ i));
    })

module _ (d : Held) (c : Call) where
  -- refusals 1 and 2
  pub untouched : (number line : ℕ) (r : Served Held) → Case (dispatcher_of d) c (refused number line) (dispatcher_of d) → number ≤ bench_refusal
      → r ≡ told_with refused_word number line d → Serves dispatcher_of HoldsJob d c (lent_to c).words (trace_to c) r
  unfolding touches_nothing leaves_all
  untouched number line r C few e =
      served_alone d c (refused number line) (lent_to c).words r C refl e
      (words_untouched (dispatcher_of d) c (ap touches_nothing C.outcome ∙ le-leb number bench_refusal few))

  -- all others: the free places are cleared
  pub cleared_by : (o : Outcome) (written exit : List ℕ) (r : Served Held) → Case (dispatcher_of d) c o (dispatcher_of d) → leaves_all o ≡ true → touches_nothing o ≡ false
      → r ≡ record { told = told_as o no_answer; next = d } → FreeCleared (queue_in d.queue) written exit → length written ≡ length (lent_to c).words
      → drop job_words_least written ≡ drop job_words_least (lent_to c).words
      → ((p : ℕ) → p < jobs_most → is_free (dispatcher_of d) p ≡ false → place_words p written ≡ place_words p (lent_to c).words) → Serves dispatcher_of HoldsJob d c exit (trace_to c) r
  cleared_by o written exit r C alone touched e F long rest held =
      served_alone d c o exit r C alone e
      (words_cleared (dispatcher_of d) c written exit (ap touches_nothing C.outcome ∙ touched)
      (subst (λ (q : DispatcherState). FreeCleared q.queue written exit) (sym C.leaves) F) long rest held)

  pub cleared : (o : Outcome) (exit : List ℕ) (r : Served Held) → Case (dispatcher_of d) c o (dispatcher_of d) → leaves_all o ≡ true → touches_nothing o ≡ false
      → r ≡ record { told = told_as o no_answer; next = d } → FreeCleared (queue_in d.queue) (lent_to c).words exit → Serves dispatcher_of HoldsJob d c exit (trace_to c) r
  cleared o exit r C alone touched e F = cleared_by o (lent_to c).words exit r C alone touched e F refl refl (λ p h f. refl)

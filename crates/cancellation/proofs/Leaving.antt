-- A job cancelled leaves. Assumes nothing.
use mathlib.Core.Path.{◌≡◌, refl, sym, ◌∙◌, ap, subst, subst⁻¹}
use mathlib.Core.Bool.{true}
use mathlib.Core.List.{List, []}
use Prim.Native.Nat.{ℕ, ◌≤◌}
use mathlib.Core.Logic.{inl}
use native.Mathlib.Omega.{arith}
use lib.ListN.{length}
use Rattle.model.specs.Limits.{job_words_least}
use Rattle.model.specs.Bounded.{among}
use Rattle.model.specs.Dispatcher as model
use Rattle.model.specs.Dispatcher.{Lent, place_words, DispatcherState, numbers_in, without, Call, cancel, cancelled, answered, outcome_of, behind, no_answer, told_as, cancelled_word, touches_nothing, leaves_all, WordsLeft, Served, Member, Serves}
use Rattle.model.proofs.Bounded.{not_both}
use Rattle.queue.specs.declared.Queue.{Queue}
use Rattle.queue.specs.Bridge.{queue_in}
use Rattle.places.specs.Words.{FreeCleared}
use Rattle.held_jobs.specs.Held.{Held, dispatcher_of, HoldsJob}
use Rattle.held_jobs.proofs.Members.{member_without, one_job}
use Rattle.held_jobs.proofs.Cases.{Case, cancel_held}
use Rattle.held_jobs.proofs.Serving.{words_cleared, holds_same, words_same}

module _ (d : Held) (n : ℕ) (l : Lent) (long : job_words_least ≤ length l.words) (held : among n (numbers_in (queue_in d.queue)) ≡ true)
    (left : Queue) (is_left : queue_in left ≡ without n (queue_in d.queue)) (exit : List ℕ) (F : FreeCleared (queue_in left) l.words exit) where
  abbrev c : Call
  c = cancel n l

  abbrev rest : Held
  rest = record { queue = left; given = d.given; races = d.races; boards = d.boards }

  C : Case (dispatcher_of d) c (cancelled n) (record { queue = without n (queue_in d.queue); given = d.given })
  C = cancel_held (dispatcher_of d) n l long held

  rest_is : dispatcher_of rest ≡ behind (dispatcher_of d) c
  rest_is = ap (λ (q : List model.Job). record { queue = q; given = d.given }) is_left ∙ sym C.leaves

  W : WordsLeft (dispatcher_of d) c exit
  unfolding touches_nothing
  W =
      words_cleared (dispatcher_of d) c l.words exit (ap touches_nothing C.outcome)
      (subst (λ (q : DispatcherState). FreeCleared q.queue l.words exit) rest_is F) refl refl (λ p h f. refl)

  pub cancelled_serves : (r : Served Held) → r ≡ record { told = record { word = cancelled_word; one = n; two = 0; answer = no_answer }; next = rest }
      → Serves dispatcher_of HoldsJob d c exit [] r
  unfolding leaves_all
  cancelled_serves r e =
      subst⁻¹ (λ (s : Served Held). Serves dispatcher_of HoldsJob d c exit [] s) e
      (record {
        told = ap (λ u. told_as u no_answer) (sym C.outcome);
        next = rest_is;
        left_alone = λ u. not_both (leaves_all (outcome_of (dispatcher_of d) c)) u (ap leaves_all C.outcome);
        words_left = W;
        free_or_locked = inl refl;
        trace_kept = λ u. refl;
        trace_locked = λ u. absurd (omega (arith, u));
        admits = λ m p S i f a. let z : ◌≡◌ {A = ℕ} 0 1 = cc in absurd (omega arith);
        keeps = λ o j k S a b m H.
            let u : Member k (queue_in d.queue) = member_without k n (queue_in d.queue) (subst (λ (q : DispatcherState). Member k q.queue) C.leaves b) in
            let i : j ≡ k = one_job (dispatcher_of d) o j k a u m in
            holds_same d rest (place_words k.place l.words) (place_words k.place exit) k S refl refl
            (words_same (dispatcher_of d) c exit k W o u b)
            (subst (λ (h : model.Job). HoldsJob d (place_words h.place l.words) h S) i H);
        answers = λ o j ks S q i H.
            let clash : cancelled n ≡ answered j.number = sym C.outcome ∙ i in
            let z : ◌≡◌ {A = ℕ} 0 1 = cc in
            absurd (omega arith);
      })

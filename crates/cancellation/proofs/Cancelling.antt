-- What each return of `leave` is to show, from what led there. Assumes nothing.
use mathlib.Core.Path.{◌≡◌, refl, sym, ◌∙◌, ap, subst⁻¹}
use mathlib.Core.Bool.{Bool, true, false, not}
use mathlib.Core.List.{List, []}
use Prim.Native.Nat.{ℕ, ◌<◌, ◌≤◌, ◌^◌}
use native.Mathlib.Omega.{arith}
use borrow.Author.Tests.{not-true, not-false, lt-leb}
use lib.ListN.{length}
use Rattle.model.specs.Limits.{job_words_least}
use Rattle.model.specs.Bounded.{among}
use Rattle.model.specs.Refusal.{bench_refusal, held_refusal}
use Rattle.model.specs.Dispatcher as model
use Rattle.model.specs.Dispatcher.{numbers_in, without, cancel, refused, cancelled_word, refused_word, touches_nothing, leaves_all, Served, Serves}
use Rattle.queue.specs.declared.Queue.{Queue}
use Rattle.queue.specs.Bridge.{queue_in, PlacesOf}
use Rattle.places.specs.Words.{FreeCleared, ClearedBut}
use Rattle.held_jobs.specs.Held.{Held, dispatcher_of, HoldsJob, lent, told_with}
use Rattle.held_jobs.proofs.Cases.{cancel_words, cancel_unheld}
use Rattle.held_jobs.proofs.Serving.{untouched, cleared}
use Rattle.std.specs.Prelude.{Ok, Err}
use Rattle.outcome.specs.declared.Refusal.{Refusal}
use Rattle.outcome.specs.declared.Reason.{Reason}
use Rattle.outcome.specs.declared.Reason.TheVariants.{Bench}
use Rattle.outcome.specs.declared.Reason.TheVariants as reason
use Rattle.cancellation.specs.Cancelling.{left_by, LeavesIn}
use Rattle.cancellation.proofs.Leaving.{cancelled_serves}

-- ---- cancelling of one dispatcher, whatever sheets and codes it is lent
module _ (d : Held) (n : ℕ) (words : List ℕ) (r : Served Held) where
  pub cancel_short : length words < job_words_least → r ≡ told_with refused_word bench_refusal 0 d → (sheets lengths codes : List ℕ)
      → Serves dispatcher_of HoldsJob d (cancel n (lent sheets lengths codes words)) words [] r
  cancel_short h e sheets lengths codes = untouched d _ bench_refusal 0 r (cancel_words (dispatcher_of d) n (lent sheets lengths codes words) h) (omega arith) e

  pub cancel_none : (exit : List ℕ) (b : Bool) → b ≡ among n (numbers_in (queue_in d.queue)) → not b ≡ true → job_words_least ≤ length words
      → FreeCleared (queue_in d.queue) words exit → r ≡ told_with refused_word held_refusal 0 d → (sheets lengths codes : List ℕ)
      → Serves dispatcher_of HoldsJob d (cancel n (lent sheets lengths codes words)) exit [] r
  unfolding touches_nothing leaves_all
  cancel_none exit b i t w F e sheets lengths codes =
      cleared d _ (refused held_refusal 0) exit r (cancel_unheld (dispatcher_of d) n (lent sheets lengths codes words) w (sym i ∙ not-true b t)) refl (lt-leb held_refusal bench_refusal (omega arith)) e F

pub is_held : (n : ℕ) (js : List model.Job) (b : Bool) → b ≡ among n (numbers_in js) → not b ≡ false → among n (numbers_in js) ≡ true
is_held n js b e t = sym e ∙ not-false b t

-- ---- cancelling, as it is of every dispatcher with the queue
module _ (queue : Queue) (n : ℕ) (words : List ℕ) where
  pub leave_short : (r : Refusal) → r ≡ record { reason = Bench; line = 0 } → length words < job_words_least → LeavesIn queue n words words (Err r)
  leave_short r i h =
      record {
        serves = λ d e. cancel_short d n words _ h (ap (λ (q : Refusal). left_by d n (Err q)) i);
      }

  pub leave_none : (r : Refusal) → r ≡ record { reason = reason.Held; line = 0 } → (exit : List ℕ) (b : Bool) (bits : ℕ) → b ≡ among n (numbers_in (queue_in queue)) → not b ≡ true
      → job_words_least ≤ length words → PlacesOf (queue_in queue) bits → ClearedBut bits words exit → LeavesIn queue n words exit (Err r)
  leave_none r j exit b bits i t w B C =
      record {
        serves = λ d e.
            cancel_none d n words _ exit b (subst⁻¹ (λ (q : Queue). b ≡ among n (numbers_in (queue_in q))) e i) t w
            (subst⁻¹ (λ (q : Queue). FreeCleared (queue_in q) words exit) e (C.cleared (queue_in queue) B)) (ap (λ (q : Refusal). left_by d n (Err q)) j);
      }

  pub leave_leaves : (exit : List ℕ) (left : Queue) (b : Bool) (bits : ℕ) → queue_in left ≡ without n (queue_in queue) → b ≡ among n (numbers_in (queue_in queue))
      → not b ≡ false → job_words_least ≤ length words → PlacesOf (queue_in left) bits → ClearedBut bits words exit
      → LeavesIn queue n words exit (Ok left)
  leave_leaves exit left b bits is_left i t w B C =
      record {
        serves = λ d e sheets lengths codes.
            cancelled_serves d n (lent sheets lengths codes words) w
            (is_held n (queue_in d.queue) b (subst⁻¹ (λ (q : Queue). b ≡ among n (numbers_in (queue_in q))) e i) t) left
            (subst⁻¹ (λ (q : Queue). queue_in left ≡ without n (queue_in q)) e is_left) exit (C.cleared (queue_in left) B) _ refl;
      }

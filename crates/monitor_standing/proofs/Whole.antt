-- The whole promise, from what the parts of the call hand on. Assumes nothing.
use Rattle.std.specs.Prelude.{Err}
use mathlib.Core.Logic.{⊎_elim}
use Rattle.outcome.specs.declared.Reason.{Reason}
use Rattle.outcome.specs.declared.Reason.TheVariants.{Channel, Bench}
use Rattle.outcome.specs.declared.Refusal.{Refusal}
use Rattle.outcome.specs.Refusals.{number_in}
use mathlib.Core.Path.{◌≡◌, refl, sym, ◌∙◌, ap, subst⁻¹}
use mathlib.Core.List.{List, ◌++◌}
use Prim.Native.Nat.{ℕ, ◌<◌, ◌≤◌}
use native.Mathlib.Omega.{arith}
use borrow.Author.Tests.{lt-ltb, le-ltb, le-leb}
use lib.ListN.{length, drop}
use Rattle.model.specs.Limits.{boards, channels, scratch_least}
use Rattle.model.specs.Refusal.{Out, refusal, channel_refusal, bench_refusal}
use Rattle.model.specs.Order.{Scenario}
use Rattle.model.specs.Run.{State}
use Rattle.model.specs.Answer.{sheet_of, scratch_behind}
use Rattle.model.specs.Waits.{each_board}
use Rattle.model.specs.Monitor.{Held, watchable}
use Rattle.model.specs.Standing.{refused_word, standing_answer, standing_wait, Stands}
use Rattle.model.proofs.Monitor.{Inside}
use Rattle.model.proofs.Stands.{stands}
use Rattle.relation.specs.Rows.{cleared}
use Rattle.relation.proofs.Cleared.{cleared_all}
use Rattle.scenario.proofs.Laws.{scratch_behind_holds}
use Rattle.run.proofs.Written.{state_back}
use Rattle.monitor.specs.declared.Monitor.{Monitor}
use Rattle.monitor.specs.Bridge.{held_in, monitor_of, Lends}
use Rattle.monitor_standing.specs.declared.MonitorStandingAnswer.{MonitorStandingAnswer}
use Rattle.monitor_standing.specs.Bridge.{numbers_in, unwaited_as, answer_of, Tells}

read_back : (h : Held) → Inside h → held_in (monitor_of h) ≡ h
read_back h i = ap (λ (s : State). record { state = s; code = h.code }) (state_back h.state i.done i.way i.boards_hold)

module _ (m : Monitor) (text scratch : List ℕ) (r : MonitorStandingAnswer) where
  abbrev outcome : Out Scenario
  outcome = watchable text m.code (length scratch)

  abbrev Promise : List ℕ → Type 0
  Promise scratch_exit = Stands held_in monitor_of m text scratch scratch_exit (numbers_in r) r.waits

  -- an answer for the outcome, and the scratch after it
  promised : (scratch_exit : List ℕ) (o : Out Scenario) → outcome ≡ o → Tells o (held_in m) r → scratch_exit ≡ scratch_behind o scratch → Promise scratch_exit
  promised scratch_exit o e t s =
      stands held_in monitor_of read_back m text scratch scratch_exit (numbers_in r) r.waits
      (t.numbers ∙ ap (λ (q : Out Scenario). standing_answer q (held_in m)) (sym e))
      (t.waits ∙ ap (λ (q : Out Scenario). each_board boards (standing_wait q (held_in m))) (sym e))
      (s ∙ ap (λ (q : Out Scenario). scratch_behind q scratch) (sym e))

  -- refusals 1 and 2 touch nothing
  refuses : (number : ℕ) → number ≤ bench_refusal → outcome ≡ refusal number 0 → r ≡ unwaited_as refused_word number 0 → Promise scratch
  unfolding scratch_behind standing_answer standing_wait each_board
  refuses number l e i =
      promised scratch (refusal number 0) e (subst⁻¹ (Tells (refusal number 0) (held_in m)) i (record { numbers = refl; waits = refl })) (rw (le-leb number bench_refusal l))

  stands_unknown : channels ≤ m.code → r ≡ unwaited_as refused_word channel_refusal 0 → Promise scratch
  unfolding watchable
  stands_unknown h i = refuses channel_refusal (omega arith) (rw (le-ltb m.code channels h)) i

  stands_short : m.code < channels → length scratch < scratch_least → r ≡ unwaited_as refused_word bench_refusal 0 → Promise scratch
  unfolding watchable
  stands_short h l i = refuses bench_refusal (omega arith) (rw (lt-ltb m.code channels h, lt-ltb (length scratch) scratch_least l)) i

  pub stands_judged : (scratch_exit used : List ℕ) (n k : ℕ) → m.code < channels → scratch_least ≤ length scratch → length used ≡ n → n ≤ scratch_least
      → scratch_exit ≡ cleared k (used ++ drop n scratch) → k ≡ scratch_least → Tells (sheet_of text) (held_in m) r → Promise scratch_exit
  unfolding watchable
  stands_judged scratch_exit used n k h l e f s all t =
      promised scratch_exit (sheet_of text) (rw (lt-ltb m.code channels h, le-ltb (length scratch) scratch_least l)) t
      (cleared_all scratch_least k (used ++ drop n scratch) scratch_exit s all ∙ scratch_behind_holds text scratch used n e f)

-- refusals 1 and 2 of a call
pub stands_unlent : (m : Monitor) (text scratch : List ℕ) (e : Refusal) → Lends m.code (length scratch) (Err e)
    → Stands held_in monitor_of m text scratch scratch (numbers_in (answer_of (Err e))) (answer_of (Err e)).waits
stands_unlent m text scratch e u =
    ⊎_elim (λ q. stands_unknown m text scratch _ q.0 (refuses_as Channel q.1)) (λ q. stands_short m text scratch _ q.0 q.1 (refuses_as Bench q.2)) u
  where
    refuses_as : (reason : Reason) → e ≡ record { reason = reason; line = 0 } → answer_of (Err e) ≡ unwaited_as refused_word (number_in reason) 0
    refuses_as reason i = ap (λ (q : Refusal). unwaited_as refused_word (number_in q.reason) q.line) i

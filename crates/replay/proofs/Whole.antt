-- The whole promise, from what the parts of the call hand on. Assumes nothing.
use Rattle.std.specs.Prelude.{Result, Err}
use mathlib.Core.Path.{◌≡◌, refl, sym, ◌∙◌, ap, subst⁻¹}
use mathlib.Core.Bool.{Bool, true, false, not, ◌&&◌}
use mathlib.Core.List.{List, ◌++◌}
use Prim.Native.Nat.{ℕ, ◌%◌, ◌<◌, ◌≤◌}
use native.Mathlib.Omega.{arith}
use borrow.Author.Tests.{lt-ltb, le-ltb, le-leb, leb-true, eqb-true, not-true, not-false}
use lib.Dec.{eqb, leb}
use lib.ListN.{length, drop}
use Rattle.model.specs.Limits.{boards, channels, scratch_least, trace_least}
use Rattle.model.specs.Refusal.{Out, refusal, bench_refusal, trace_refusal}
use Rattle.model.specs.Order.{Scenario}
use Rattle.model.specs.Channel.{channel_of}
use Rattle.model.specs.Answer.{sheet_of, scratch_behind}
use Rattle.model.specs.Replay.{ReplayNumbers, replay_numbers, is_trace, replayable, replay_for, replay_of, ByTheRules, Replayed}
use Rattle.model.specs.Waits.{each_board, wait_for, waits_of, TraceChecked}
use Rattle.model.proofs.Bounded.{and_left, and_right}
use Rattle.model.proofs.Accepted.{sheet_meets}
use Rattle.model.proofs.Waits.{traced}
use Rattle.model.proofs.Replay.{word, replay_parts, replay_by_the_rules, empty_trace_holds, schedules_stick_holds, replay_small}
use Rattle.relation.specs.Rows.{cleared}
use Rattle.scenario.proofs.Laws.{scratch_behind_holds}
use Rattle.outcome.specs.declared.Reason.{Reason}
use Rattle.outcome.specs.declared.Reason.TheVariants.{Channel, Bench, Trace}
use Rattle.outcome.specs.declared.Refusal.{Refusal}
use Rattle.outcome.specs.Refusals.{number_in}
use Rattle.trace_steps.specs.declared.Outcome.{Outcome}
use Rattle.trace_answer.specs.declared.TraceCheckAnswer.{TraceCheckAnswer}
use Rattle.trace_answer.specs.Numbers.{verdict_in, waits_in, numbers_in, Numbers, Small}
use Rattle.replay.specs.Bridge.{Judged}

-- What is answered, and left in the scratch, as the model says of the sheet handed on or refused.
replayed_from : (text : List ℕ) (code : ℕ) (scratch scratch_exit trace : List ℕ) (r : ReplayNumbers) (o : Out Scenario)
    → replayable text code (length scratch) (length trace) ≡ o → r ≡ replay_numbers (replay_for o code trace) → scratch_exit ≡ scratch_behind o scratch
    → Replayed text code scratch scratch_exit trace r
unfolding replay_of
replayed_from text code scratch scratch_exit trace r o e i s =
    let said : r ≡ replay_numbers (replay_of text code (length scratch) trace) = i ∙ ap (λ p. replay_numbers (replay_for p code trace)) (sym e) in
    record {
      verdict = said;
      scratch_left = s ∙ ap (λ p. scratch_behind p scratch) (sym e);
      causal_order = λ S h. sheet_meets text S (replay_parts text code (length scratch) trace S h).2;
      by_the_rules = λ S h.
          subst⁻¹ (λ (n : ReplayNumbers). ByTheRules S (channel_of code) trace n) said (replay_by_the_rules text code (length scratch) trace S h);
      empty_trace = λ S h t. ap (λ (q : ReplayNumbers). q.word) said ∙ empty_trace_holds text code (length scratch) trace S h t;
      schedules_stick = λ m n a x ts h t l.
          subst⁻¹ (λ (q : ReplayNumbers). q.word ≡ 1) said (ap word (schedules_stick_holds text code (length scratch) trace m n a x ts h t l));
    }

checked_from : (text : List ℕ) (code : ℕ) (scratch scratch_exit trace : List ℕ) (r : Result Outcome Refusal) (o : Out Scenario)
    → replayable text code (length scratch) (length trace) ≡ o → Judged o code trace r → scratch_exit ≡ scratch_behind o scratch
    → TraceChecked text code scratch scratch_exit trace (replay_numbers (verdict_in r)) (waits_in r)
unfolding waits_of
checked_from text code scratch scratch_exit trace r o e J s =
    traced text code scratch scratch_exit trace (replay_numbers (verdict_in r)) (waits_in r)
    (replayed_from text code scratch scratch_exit trace (replay_numbers (verdict_in r)) o e (ap replay_numbers J.verdict) s)
    (J.numbers ∙ ap (λ (q : Out Scenario). each_board boards (wait_for q code trace)) (sym e))

-- a trace that passed has an even length, within the limit
pub trace_fits : (n : ℕ) (t : Bool) → not t ≡ false → t ≡ is_trace n → (n % 2 ≡ 0) × (n ≤ trace_least)
unfolding is_trace
trace_fits n t f i =
    let both : (eqb (n % 2) 0 && leb n trace_least) ≡ true = sym i ∙ not-false t f in
    (eqb-true (n % 2) 0 (and_left (eqb (n % 2) 0) (leb n trace_least) both), leb-true n trace_least (and_right (eqb (n % 2) 0) (leb n trace_least) both))

-- What each return of `judge_trace` is to show.
module _ (text : List ℕ) (code : ℕ) (scratch trace : List ℕ) where
  abbrev Promised : List ℕ → Result Outcome Refusal → Type 0
  Promised scratch_exit r = TraceChecked text code scratch scratch_exit trace (replay_numbers (verdict_in r)) (waits_in r)

  module _ (e : Refusal) where
    -- a refusal of the call's own
    own_refusal : (reason : Reason) → e ≡ record { reason = reason; line = 0 } → Judged (refusal (number_in reason) 0) code trace (Err e)
    unfolding replay_for wait_for
    own_refusal reason i = rw i (record { verdict = refl; numbers = refl })

    untouched : (reason : Reason) → number_in reason ≤ bench_refusal → e ≡ record { reason = reason; line = 0 }
        → replayable text code (length scratch) (length trace) ≡ refusal (number_in reason) 0 → Promised scratch (Err e)
    unfolding scratch_behind
    untouched reason l i w =
        checked_from text code scratch scratch trace (Err e) (refusal (number_in reason) 0) w (own_refusal reason i) (rw (le-leb (number_in reason) bench_refusal l))

    pub refuses_channel : e ≡ record { reason = Channel; line = 0 } → channels ≤ code → Promised scratch (Err e)
    unfolding replayable
    refuses_channel i h = untouched Channel (omega arith) i (rw (le-ltb code channels h))

    pub refuses_scratch : e ≡ record { reason = Bench; line = 0 } → code < channels → length scratch < scratch_least → Promised scratch (Err e)
    unfolding replayable
    refuses_scratch i h l = untouched Bench (omega arith) i (rw (lt-ltb code channels h, lt-ltb (length scratch) scratch_least l))

    pub refuses_trace : (t : Bool) (scratch_exit : List ℕ) → e ≡ record { reason = Trace; line = 0 } → not t ≡ true → t ≡ is_trace (length trace) → code < channels → scratch_least ≤ length scratch
        → scratch_exit ≡ cleared scratch_least scratch → Promised scratch_exit (Err e)
    unfolding replayable scratch_behind cleared
    refuses_trace t scratch_exit j f i h l s =
        checked_from text code scratch scratch_exit trace (Err e) (refusal trace_refusal 0)
        (rw (lt-ltb code channels h, le-ltb (length scratch) scratch_least l, ← i, not-true t f)) (own_refusal Trace j) s

  pub replays : (r : Result Outcome Refusal) (t : Bool) (scratch_exit used : List ℕ) (n : ℕ) → not t ≡ false → t ≡ is_trace (length trace) → code < channels → scratch_least ≤ length scratch
      → length used ≡ n → n ≤ scratch_least → scratch_exit ≡ cleared scratch_least (used ++ drop n scratch) → Judged (sheet_of text) code trace r → Promised scratch_exit r
  unfolding replayable
  replays r t scratch_exit used n f i h l e m s J =
      checked_from text code scratch scratch_exit trace r (sheet_of text)
      (rw (lt-ltb code channels h, le-ltb (length scratch) scratch_least l, ← i, not-false t f))
      J (s ∙ scratch_behind_holds text scratch used n e m)

-- the verdict's numbers are small, and handing them on keeps the promise
pub small_replayed : (text : List ℕ) (code : ℕ) (scratch scratch_exit trace : List ℕ) (r : ReplayNumbers) (waits : List ℕ) → TraceChecked text code scratch scratch_exit trace r waits → Small r
small_replayed text code scratch scratch_exit trace r waits h = subst⁻¹ Small h.replayed.verdict (small text code (length scratch) trace)
  where
    small : (t : List ℕ) (k m : ℕ) (l : List ℕ) → Small (replay_numbers (replay_of t k m l))
    small t k m l = let b = replay_small t k m l in record { one = omega (arith, b.0); two = omega (arith, b.1) }

pub same_numbers : (text : List ℕ) (code : ℕ) (scratch scratch_exit trace : List ℕ) (outcome : Result Outcome Refusal) (q : TraceCheckAnswer)
    → TraceChecked text code scratch scratch_exit trace (replay_numbers (verdict_in outcome)) (waits_in outcome) → Numbers outcome q
    → TraceChecked text code scratch scratch_exit trace (numbers_in q) q.waits
same_numbers text code scratch scratch_exit trace outcome q h n =
    subst⁻¹ (λ (r : ReplayNumbers). TraceChecked text code scratch scratch_exit trace r q.waits) n.verdict
    (subst⁻¹ (λ (w : List ℕ). TraceChecked text code scratch scratch_exit trace (replay_numbers (verdict_in outcome)) w) n.boards h)

-- The whole promise, from what the parts of the call hand on. Assumes nothing.
use Prim.Native.Nat.{ℕ, ◌<◌, ◌≤◌}
use native.Mathlib.Omega.{arith}
use mathlib.Core.Path.{◌≡◌, refl, sym, ◌∙◌, ap, subst⁻¹}
use mathlib.Core.Bool.{or-true}
use mathlib.Core.List.{List, ◌++◌}
use borrow.Author.Tests.{lt-ltb, le-ltb, le-leb, lt-leb}
use lib.Dec.{ltb}
use lib.ListN.{length, drop}
use Rattle.model.specs.Limits.{channels, rows_most, scratch_least, trace_least}
use Rattle.model.specs.Refusal.{Out, ok, refusal, bench_refusal}
use Rattle.model.specs.Place.{line_of}
use Rattle.model.specs.Order.{Exchange}
use Rattle.model.specs.Answer.{Numbers, numbers_of, scratch_behind, trace_after}
use Rattle.model.specs.Rounds.{repeatable, rounds_answer, RoundsChecked}
use Rattle.model.proofs.Lines.{Well}
use Rattle.model.proofs.RoundsChecked.{rounds_checked}
use Rattle.relation.specs.Rows.{cleared}
use Rattle.relation.proofs.Cleared.{cleared_behind, cleared_all}
use Rattle.second_walk.specs.declared.Rounds.{Rounds}
use Rattle.std.specs.Prelude.{Result, Err}
use Rattle.outcome.specs.declared.Reason.{Reason}
use Rattle.outcome.specs.declared.Reason.TheVariants.{Channel, Bench}
use Rattle.outcome.specs.declared.Refusal.{Refusal}
use Rattle.outcome.specs.Refusals.{number_in}
use Rattle.second_walk.specs.Judged.{numbers_for, rounds_for, Judges}
use Rattle.rounds.specs.declared.RoundsCheckAnswer.{RoundsCheckAnswer}
use Rattle.rounds.specs.Numbers.{numbers_in, Told, text_repeatable}
use Rattle.rounds.proofs.Bounds.{first_met, repeatable_well}

-- What each return of `check` is to show: refusal 1 for a code above 5, refusal 2 for a short buffer, else what two walks decide.
module _ (text : List ℕ) (code : ℕ) (scratch trace : List ℕ) where
  checked_from : (scratch_exit trace_exit : List ℕ) (r : Result Rounds Refusal) (o : Out Exchange) → repeatable text code (length scratch) (length trace) ≡ o
      → Judges (rounds_answer o code) trace trace_exit r → scratch_exit ≡ scratch_behind o scratch
      → RoundsChecked text code scratch scratch_exit trace trace_exit (rounds_for r) (numbers_for r)
  checked_from scratch_exit trace_exit r o e j s =
      rounds_checked text code scratch scratch_exit trace trace_exit (rounds_for r) (numbers_for r)
      (j.answer ∙ ap (λ (p : Out Exchange). numbers_of (rounds_answer p code).1) (sym e))
      (j.how_often ∙ ap (λ (p : Out Exchange). (rounds_answer p code).0) (sym e))
      (s ∙ ap (λ (p : Out Exchange). scratch_behind p scratch) (sym e))
      (j.trace_left ∙ ap (λ (p : Out Exchange). trace_after (rounds_answer p code).1 trace) (sym e))

  refuses : (why : Reason) → number_in why ≤ bench_refusal → repeatable text code (length scratch) (length trace) ≡ refusal (number_in why) 0
      → (r : Refusal) → r ≡ record { reason = why; line = 0 } → RoundsChecked text code scratch scratch trace trace (rounds_for (Err r)) (numbers_for (Err r))
  unfolding scratch_behind rounds_answer trace_after
  refuses why l e r i =
      rw i
      (checked_from scratch trace (Err (record { reason = why; line = 0 })) (refusal (number_in why) 0) e (record { answer = refl; how_often = refl; trace_left = refl })
      (sym (rw (le-leb (number_in why) bench_refusal l))))

  pub refuses_channel : channels ≤ code → (r : Refusal) → r ≡ record { reason = Channel; line = 0 }
      → RoundsChecked text code scratch scratch trace trace (rounds_for (Err r)) (numbers_for (Err r))
  unfolding repeatable
  refuses_channel h = refuses Channel (omega arith) (rw (le-ltb code channels h))

  pub refuses_scratch : code < channels → length scratch < scratch_least → (r : Refusal) → r ≡ record { reason = Bench; line = 0 }
      → RoundsChecked text code scratch scratch trace trace (rounds_for (Err r)) (numbers_for (Err r))
  unfolding repeatable
  refuses_scratch h l = refuses Bench (omega arith) (rw (lt-ltb code channels h, lt-ltb (length scratch) scratch_least l))

  pub refuses_trace : code < channels → length trace < trace_least → (r : Refusal) → r ≡ record { reason = Bench; line = 0 }
      → RoundsChecked text code scratch scratch trace trace (rounds_for (Err r)) (numbers_for (Err r))
  unfolding repeatable
  refuses_trace h l =
      refuses Bench (omega arith)
      (rw (lt-ltb code channels h, lt-ltb (length trace) trace_least l, or-true (ltb (length scratch) scratch_least)))

  -- the first words of the scratch were used and the rest not, and then the first `scratch_least` cleared
  scratch_after : (used : List ℕ) (n : ℕ) → length used ≡ n → n ≤ scratch_least
      → cleared scratch_least (used ++ drop n scratch) ≡ scratch_behind (text_repeatable text) scratch
  unfolding scratch_behind cleared
  scratch_after used n e l = cleared_behind scratch_least used scratch n e l ∙ go (text_repeatable text) (repeatable_well text)
    where
      go : (o : Out Exchange) → Well (line_of rows_most) o → cleared scratch_least scratch ≡ scratch_behind o scratch
      go (refusal number line) w = rw (lt-leb number bench_refusal w.behind)
      go (ok E) w = refl

  pub answers : (scratch_exit trace_exit used : List ℕ) (n : ℕ) (r : Result Rounds Refusal) (w : ℕ) → code < channels → scratch_least ≤ length scratch → trace_least ≤ length trace
      → length used ≡ n → n ≤ scratch_least → scratch_exit ≡ cleared w (used ++ drop n scratch) → w ≡ scratch_least
      → Judges (rounds_answer (text_repeatable text) code) trace trace_exit r
      → RoundsChecked text code scratch scratch_exit trace trace_exit (rounds_for r) (numbers_for r)
  unfolding repeatable
  answers scratch_exit trace_exit used n r w h l k e m s all j =
      checked_from scratch_exit trace_exit r (text_repeatable text)
      (rw (lt-ltb code channels h, le-ltb (length scratch) scratch_least l, le-ltb (length trace) trace_least k) (first_met text))
      j (cleared_all scratch_least w (used ++ drop n scratch) scratch_exit s all ∙ scratch_after used n e m)

-- handing the numbers on keeps the promise
pub told_checked : (text : List ℕ) (code : ℕ) (scratch scratch_exit trace trace_exit : List ℕ) (a : Result Rounds Refusal) (r : RoundsCheckAnswer)
    → RoundsChecked text code scratch scratch_exit trace trace_exit (rounds_for a) (numbers_for a) → Told a r
    → RoundsChecked text code scratch scratch_exit trace trace_exit r.rounds (numbers_in r)
told_checked text code scratch scratch_exit trace trace_exit a r h t =
    subst⁻¹ (λ (n : Numbers). RoundsChecked text code scratch scratch_exit trace trace_exit r.rounds n) t.numbers
    (subst⁻¹ (λ (k : ℕ). RoundsChecked text code scratch scratch_exit trace trace_exit k (numbers_for a)) t.rounds h)

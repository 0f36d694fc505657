-- The whole promise, from what the parts of the check hand on. Assumes nothing.
use mathlib.Core.Path.{◌≡◌, refl, ◌∙◌, subst⁻¹}
use mathlib.Core.Bool.{or-true}
use mathlib.Core.List.{List, ◌++◌}
use Prim.Native.Nat.{ℕ, ◌<◌, ◌≤◌}
use native.Mathlib.Omega.{arith}
use borrow.Author.Tests.{lt-ltb, le-ltb, le-leb}
use lib.Dec.{ltb}
use lib.ListN.{length, drop}
use Rattle.model.specs.Limits.{channels, scratch_least, trace_least}
use Rattle.model.specs.Refusal.{refusal, channel_refusal, bench_refusal}
use Rattle.model.specs.Answer.{refused_word, sheet_of, accepted_of, answer_for, scratch_behind, trace_after}
use Rattle.model.specs.Verdict.{Checked}
use Rattle.model.proofs.PointThree.{checked_from}
use Rattle.relation.specs.Rows.{cleared}
use Rattle.relation.proofs.Cleared.{cleared_all}
use Rattle.scenario.proofs.Laws.{scratch_behind_holds}
use Rattle.verdict.specs.declared.Verdict.{Verdict}
use Rattle.std.specs.Prelude.{Result, Ok, Err}
use Rattle.outcome.specs.declared.Refusal.{Refusal}
use Rattle.outcome.specs.declared.Reason.TheVariants.{Channel, Bench}
use Rattle.outcome.specs.Refusals.{number_in}
use Rattle.verdict.specs.Parts.{numbers_for, Decides}

-- What each return of `check` is to show: refusal 1 for a code above 5, refusal 2 for a short buffer, else what the sheet decides.
module _ (text : List ℕ) (code : ℕ) (scratch trace : List ℕ) where
  refuses : (f : Refusal) → number_in f.reason ≤ bench_refusal → accepted_of text code (length scratch) (length trace) ≡ refusal (number_in f.reason) f.line
      → Checked text code scratch scratch trace trace (numbers_for (Err f))
  unfolding scratch_behind answer_for trace_after
  refuses f l e =
      checked_from text code scratch scratch trace trace _ (refusal (number_in f.reason) f.line) e refl (rw (le-leb (number_in f.reason) bench_refusal l)) refl

  pub refuses_channel : (r : Refusal) → r ≡ record { reason = Channel; line = 0 } → channels ≤ code → Checked text code scratch scratch trace trace (numbers_for (Err r))
  unfolding accepted_of
  refuses_channel r i h = subst⁻¹ (λ (q : Refusal). Checked text code scratch scratch trace trace (numbers_for (Err q))) i
      (refuses (record { reason = Channel; line = 0 }) (omega arith) (rw (le-ltb code channels h)))

  refuses_bench : (r : Refusal) → r ≡ record { reason = Bench; line = 0 } → accepted_of text code (length scratch) (length trace) ≡ refusal bench_refusal 0
      → Checked text code scratch scratch trace trace (numbers_for (Err r))
  refuses_bench r i e = subst⁻¹ (λ (q : Refusal). Checked text code scratch scratch trace trace (numbers_for (Err q))) i
      (refuses (record { reason = Bench; line = 0 }) (omega arith) e)

  pub refuses_scratch : (r : Refusal) → r ≡ record { reason = Bench; line = 0 } → code < channels → length scratch < scratch_least
      → Checked text code scratch scratch trace trace (numbers_for (Err r))
  unfolding accepted_of
  refuses_scratch r i h l = refuses_bench r i (rw (lt-ltb code channels h, lt-ltb (length scratch) scratch_least l))

  pub refuses_trace : (r : Refusal) → r ≡ record { reason = Bench; line = 0 } → code < channels → length trace < trace_least
      → Checked text code scratch scratch trace trace (numbers_for (Err r))
  unfolding accepted_of
  refuses_trace r i h l =
      refuses_bench r i
      (rw (lt-ltb code channels h, lt-ltb (length trace) trace_least l, or-true (ltb (length scratch) scratch_least)))

  pub answers : (scratch_exit trace_exit used : List ℕ) (n : ℕ) (r : Result Verdict Refusal) (w : ℕ) → code < channels → scratch_least ≤ length scratch → trace_least ≤ length trace
      → length used ≡ n → n ≤ scratch_least → scratch_exit ≡ cleared w (used ++ drop n scratch) → w ≡ scratch_least → Decides (sheet_of text) code trace trace_exit r
      → Checked text code scratch scratch_exit trace trace_exit (numbers_for r)
  unfolding accepted_of
  answers scratch_exit trace_exit used n r w h l k e m s all d =
      checked_from text code scratch scratch_exit trace trace_exit (numbers_for r) (sheet_of text)
      (rw (lt-ltb code channels h, le-ltb (length scratch) scratch_least l, le-ltb (length trace) trace_least k))
      d.answer (cleared_all scratch_least w (used ++ drop n scratch) scratch_exit s all ∙ scratch_behind_holds text scratch used n e m) d.trace_left

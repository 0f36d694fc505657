-- The whole promise, from what the parts of the call hand on. Assumes nothing.
use mathlib.Core.Path.{◌≡◌, refl, sym, ◌∙◌, ap}
use mathlib.Core.Bool.{or-true}
use mathlib.Core.List.{List, ◌++◌}
use Prim.Native.Nat.{ℕ, ◌<◌, ◌≤◌}
use native.Mathlib.Omega.{arith}
use borrow.Author.Tests.{lt-ltb, le-ltb, le-leb, lt-leb}
use lib.Dec.{ltb}
use lib.ListN.{length, drop}
use Rattle.model.specs.Limits.{channels, scratch_least, trace_least}
use Rattle.model.specs.Refusal.{Out, ok, refusal, bench_refusal}
use Rattle.model.specs.Order.{Scenario}
use Rattle.model.specs.Answer.{answer_for, numbers_of, scratch_behind, trace_after}
use Rattle.model.specs.Senders.{permitted_of, PermittedCheck}
use Rattle.model.proofs.Permitted.{permitted_check}
use Rattle.relation.specs.Rows.{cleared}
use Rattle.relation.proofs.Cleared.{cleared_behind, cleared_all}
use Rattle.std.specs.Prelude.{Result, Err}
use Rattle.outcome.specs.declared.Reason.TheVariants.{Channel, Bench}
use Rattle.outcome.specs.declared.Refusal.{Refusal}
use Rattle.outcome.specs.Refusals.{number_in, refused_in}
use Rattle.verdict.specs.declared.Verdict.{Verdict}
use Rattle.verdict.specs.Parts.{numbers_for, Decides}
use Rattle.permitted.specs.Parts.{sheet_with}
use Rattle.permitted.proofs.Well.{WellNamed, with_well}

-- the first words of the scratch were used and the rest not, and then the first `scratch_least` cleared
scratch_left : (text table scratch used : List ℕ) (n : ℕ) → length used ≡ n → n ≤ scratch_least
    → cleared scratch_least (used ++ drop n scratch) ≡ scratch_behind (sheet_with text table) scratch
unfolding scratch_behind cleared
scratch_left text table scratch used n e l = cleared_behind scratch_least used scratch n e l ∙ go (sheet_with text table) (with_well text table)
  where
    go : (o : Out Scenario) → WellNamed o → cleared scratch_least scratch ≡ scratch_behind o scratch
    go (refusal number line) w = rw (lt-leb number bench_refusal w.behind)
    go (ok S) w = refl

-- What each return of `check` is to show: refusal 1 for a code above 5, refusal 2 for a short buffer, else what sheet and table decide.
module _ (text : List ℕ) (code : ℕ) (scratch trace table : List ℕ) where
  abbrev outcome : Out Scenario
  outcome = permitted_of text code (length scratch) (length trace) table

  refuses : (r : Refusal) → number_in r.reason ≤ bench_refusal → outcome ≡ refused_in r
      → PermittedCheck text code scratch scratch trace trace table (numbers_for (Err r))
  unfolding scratch_behind answer_for trace_after
  refuses r l e = permitted_check text code scratch scratch trace trace table _ (rw e) (rw (e, le-leb (number_in r.reason) bench_refusal l)) (rw e)

  abbrev no_channel : Refusal
  no_channel = record { reason = Channel; line = 0 }

  abbrev short : Refusal
  short = record { reason = Bench; line = 0 }

  pub refuses_channel : channels ≤ code
      → PermittedCheck text code scratch scratch trace trace table (numbers_for (Err no_channel))
  unfolding permitted_of
  refuses_channel h = refuses no_channel (omega arith) (rw (le-ltb code channels h))

  pub refuses_scratch : code < channels → length scratch < scratch_least
      → PermittedCheck text code scratch scratch trace trace table (numbers_for (Err short))
  unfolding permitted_of
  refuses_scratch h l = refuses short (omega arith) (rw (lt-ltb code channels h, lt-ltb (length scratch) scratch_least l))

  pub refuses_trace : code < channels → length trace < trace_least
      → PermittedCheck text code scratch scratch trace trace table (numbers_for (Err short))
  unfolding permitted_of
  refuses_trace h l =
      refuses short (omega arith)
      (rw (lt-ltb code channels h, lt-ltb (length trace) trace_least l, or-true (ltb (length scratch) scratch_least)))

  pub answers : (scratch_exit trace_exit used : List ℕ) (n : ℕ) (r : Result Verdict Refusal) (w : ℕ) → code < channels → scratch_least ≤ length scratch → trace_least ≤ length trace
      → length used ≡ n → n ≤ scratch_least → scratch_exit ≡ cleared w (used ++ drop n scratch) → w ≡ scratch_least → Decides (sheet_with text table) code trace trace_exit r
      → PermittedCheck text code scratch scratch_exit trace trace_exit table (numbers_for r)
  unfolding permitted_of sheet_with
  answers scratch_exit trace_exit used n r w h l k e m s all d =
      let same : outcome ≡ sheet_with text table =
      rw (lt-ltb code channels h, le-ltb (length scratch) scratch_least l, le-ltb (length trace) trace_least k) in
      permitted_check text code scratch scratch_exit trace trace_exit table (numbers_for r)
      (d.answer ∙ ap (λ (o : Out Scenario). numbers_of (answer_for o code)) (sym same))
      (cleared_all scratch_least w (used ++ drop n scratch) scratch_exit s all ∙ scratch_left text table scratch used n e m ∙ ap (λ (o : Out Scenario). scratch_behind o scratch) (sym same))
      (d.trace_left ∙ ap (λ (o : Out Scenario). trace_after (answer_for o code) trace) (sym same))

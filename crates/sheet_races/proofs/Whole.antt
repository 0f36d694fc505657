-- The whole promise, from what the parts of the call hand on. Assumes nothing.
use mathlib.Core.Path.{◌≡◌, refl, sym, ◌∙◌, ap}
use mathlib.Core.List.{List, ◌++◌}
use Prim.Native.Nat.{ℕ, ◌<◌, ◌≤◌}
use native.Mathlib.Omega.{arith}
use borrow.Author.Tests.{lt-ltb, le-ltb, le-leb}
use lib.ListN.{length, drop}
use Rattle.model.specs.Limits.{channels, scratch_least, rows_most}
use Rattle.model.specs.Place.{line_of}
use Rattle.model.specs.Refusal.{Out, refusal, channel_refusal, bench_refusal}
use Rattle.model.specs.Order.{Scenario}
use Rattle.model.specs.Answer.{sheet_of, scratch_behind}
use Rattle.model.specs.Monitor.{watchable}
use Rattle.model.specs.Holdings.{HoldingNumbers, races_answer, races_left, RacesTold}
use Rattle.model.proofs.Holdings.{races_told}
use Rattle.relation.specs.Rows.{cleared}
use Rattle.relation.proofs.Cleared.{cleared_all}
use Rattle.scenario.proofs.Laws.{scratch_behind_holds}
use Rattle.std.specs.Prelude.{Err}
use Rattle.outcome.specs.declared.Refusal.{Refusal}
use Rattle.outcome.specs.declared.Reason.{Reason}
use Rattle.outcome.specs.declared.Reason.TheVariants.{Channel, Bench}
use Rattle.sheet_races.specs.Numbers.{refused_numbers, numbers_for, Answers}

-- a refusal without a line
pub no_line : {f : Refusal} {r : Reason} → f ≡ record { reason = r; line = 0 } → f.line ≤ line_of rows_most
no_line i = rw i (omega arith)

-- What each return of `check` is to show: refusal 1 for a code above 5, refusal 2 for a short scratch, else what is answered of the sheet.
module _ (text : List ℕ) (code : ℕ) (scratch output : List ℕ) where
  told_from : (scratch_exit output_exit : List ℕ) (n : HoldingNumbers) (o : Out Scenario) → watchable text code (length scratch) ≡ o
      → n ≡ races_answer o code (length output) → scratch_exit ≡ scratch_behind o scratch → output_exit ≡ races_left o code output
      → RacesTold text code scratch scratch_exit output output_exit n
  told_from scratch_exit output_exit n o e a s l =
      races_told text code scratch scratch_exit output output_exit n (a ∙ ap (λ (p : Out Scenario). races_answer p code (length output)) (sym e))
      (s ∙ ap (λ (p : Out Scenario). scratch_behind p scratch) (sym e)) (l ∙ ap (λ (p : Out Scenario). races_left p code output) (sym e))

  refuses : (f : Refusal) (number : ℕ) → number ≤ bench_refusal → watchable text code (length scratch) ≡ refusal number 0
      → numbers_for (Err f) ≡ refused_numbers number 0 → RacesTold text code scratch scratch output output (numbers_for (Err f))
  unfolding scratch_behind races_answer races_left
  refuses f number l e i = told_from scratch output (numbers_for (Err f)) (refusal number 0) e i (sym (rw (le-leb number bench_refusal l))) refl

  pub refuses_channel : (f : Refusal) → f ≡ record { reason = Channel; line = 0 } → channels ≤ code → RacesTold text code scratch scratch output output (numbers_for (Err f))
  unfolding watchable
  refuses_channel f i h = refuses f channel_refusal (omega arith) (rw (le-ltb code channels h)) (ap (λ (q : Refusal). numbers_for (Err q)) i)

  pub refuses_scratch : (f : Refusal) → f ≡ record { reason = Bench; line = 0 } → code < channels → length scratch < scratch_least
      → RacesTold text code scratch scratch output output (numbers_for (Err f))
  unfolding watchable
  refuses_scratch f i h l =
      refuses f bench_refusal (omega arith) (rw (lt-ltb code channels h, lt-ltb (length scratch) scratch_least l)) (ap (λ (q : Refusal). numbers_for (Err q)) i)

  pub answers : (scratch_exit output_exit used : List ℕ) (k : ℕ) (n : HoldingNumbers) (w : ℕ) → code < channels → scratch_least ≤ length scratch
      → length used ≡ k → k ≤ scratch_least → scratch_exit ≡ cleared w (used ++ drop k scratch) → w ≡ scratch_least → Answers (sheet_of text) code output output_exit n
      → RacesTold text code scratch scratch_exit output output_exit n
  unfolding watchable
  answers scratch_exit output_exit used k n w h l e m s all a =
      told_from scratch_exit output_exit n (sheet_of text) (rw (lt-ltb code channels h, le-ltb (length scratch) scratch_least l)) a.answer
      (cleared_all scratch_least w (used ++ drop k scratch) scratch_exit s all ∙ scratch_behind_holds text scratch used k e m) a.output_left

-- The whole promise, from what the parts of the call hand on. Assumes nothing.
use Prim.Native.Nat.{ℕ, ◌<◌, ◌≤◌}
use native.Mathlib.Omega.{arith}
use mathlib.Core.Path.{◌≡◌, refl, ◌∙◌, subst⁻¹}
use mathlib.Core.Bool.{true, or-true}
use mathlib.Core.List.{List, ◌++◌}
use borrow.Author.Tests.{lt-ltb, le-ltb, le-leb, lt-leb}
use lib.Dec.{ltb}
use lib.ListN.{length, drop}
use Rattle.model.specs.Limits.{channels, scratch_least, trace_least}
use Rattle.model.specs.Refusal.{Out, ok, refusal, bench_refusal}
use Rattle.model.specs.Rows.{Row}
use Rattle.model.specs.Place.{read_with}
use Rattle.model.specs.Answer.{scratch_behind}
use Rattle.model.specs.Choice.{choosable, choice_answer_for, choice_answer_of, ChoiceNumbers, choice_numbers, trace_chosen, ChoiceChecked}
use Rattle.model.proofs.Lines.{Reads, read_well}
use Rattle.model.proofs.WithoutChoices.{choice_checked_from}
use Rattle.model.proofs.ChoiceBounds.{choice_small}
use Rattle.relation.specs.Rows.{cleared}
use Rattle.relation.proofs.Cleared.{cleared_behind, cleared_all}
use Rattle.choice_answer.specs.Bridge.{numbers_for, Small}
use Rattle.choice_verdict.specs.Judged.{Judged}
use Rattle.choice_answer.specs.declared.Choice.{Choice}
use Rattle.std.specs.Prelude.{Result, Err}
use Rattle.outcome.specs.declared.Reason.{Reason}
use Rattle.outcome.specs.declared.Reason.TheVariants.{Channel, Bench}
use Rattle.outcome.specs.declared.Refusal.{Refusal}
use Rattle.outcome.specs.Refusals.{number_in}

-- What each return of `check` is to show: refusal 1 for a code above 5, refusal 2 for a short buffer, else what the text decides.
module _ (text : List ℕ) (code : ℕ) (scratch trace : List ℕ) where
  refuses : (why : Reason) → number_in why ≤ bench_refusal → choosable text code (length scratch) (length trace) ≡ refusal (number_in why) 0
      → (r : Refusal) → r ≡ record { reason = why; line = 0 } → ChoiceChecked text code scratch scratch trace trace (numbers_for (Err r))
  unfolding scratch_behind choice_answer_for trace_chosen
  refuses why l e r i =
      rw i
      (choice_checked_from text code scratch scratch trace trace (numbers_for (Err (record { reason = why; line = 0 }))) (refusal (number_in why) 0) e refl
      (rw (le-leb (number_in why) bench_refusal l)) refl)

  pub refuses_channel : channels ≤ code → (r : Refusal) → r ≡ record { reason = Channel; line = 0 } → ChoiceChecked text code scratch scratch trace trace (numbers_for (Err r))
  unfolding choosable
  refuses_channel h = refuses Channel (omega arith) (rw (le-ltb code channels h))

  pub refuses_scratch : code < channels → length scratch < scratch_least → (r : Refusal) → r ≡ record { reason = Bench; line = 0 }
      → ChoiceChecked text code scratch scratch trace trace (numbers_for (Err r))
  unfolding choosable
  refuses_scratch h l = refuses Bench (omega arith) (rw (lt-ltb code channels h, lt-ltb (length scratch) scratch_least l))

  pub refuses_trace : code < channels → length trace < trace_least → (r : Refusal) → r ≡ record { reason = Bench; line = 0 }
      → ChoiceChecked text code scratch scratch trace trace (numbers_for (Err r))
  unfolding choosable
  refuses_trace h l =
      refuses Bench (omega arith)
      (rw (lt-ltb code channels h, lt-ltb (length trace) trace_least l, or-true (ltb (length scratch) scratch_least)))

  -- the first words of the scratch were used and the rest not, and then the first `scratch_least` cleared
  scratch_behind_holds : (used : List ℕ) (n : ℕ) → length used ≡ n → n ≤ scratch_least
      → cleared scratch_least (used ++ drop n scratch) ≡ scratch_behind (read_with true text) scratch
  unfolding scratch_behind cleared Reads
  scratch_behind_holds used n e l = cleared_behind scratch_least used scratch n e l ∙ go (read_with true text) (read_well true text)
    where
      go : (o : Out (List Row)) → Reads o → cleared scratch_least scratch ≡ scratch_behind o scratch
      go (refusal number line) w = rw (lt-leb number bench_refusal w.behind)
      go (ok rows) w = refl

  pub answers : (scratch_exit trace_exit used : List ℕ) (n : ℕ) (r : Result Choice Refusal) (w : ℕ) → code < channels → scratch_least ≤ length scratch → trace_least ≤ length trace
      → length used ≡ n → n ≤ scratch_least → scratch_exit ≡ cleared w (used ++ drop n scratch) → w ≡ scratch_least
      → Judged (choice_answer_for (read_with true text) code) trace trace_exit r
      → ChoiceChecked text code scratch scratch_exit trace trace_exit (numbers_for r)
  unfolding choosable
  answers scratch_exit trace_exit used n r w h l k e m s all d =
      choice_checked_from text code scratch scratch_exit trace trace_exit (numbers_for r) (read_with true text)
      (rw (lt-ltb code channels h, le-ltb (length scratch) scratch_least l, le-ltb (length trace) trace_least k))
      d.answer (cleared_all scratch_least w (used ++ drop n scratch) scratch_exit s all ∙ scratch_behind_holds used n e m) d.trace_left

-- the numbers answered are small, and handing them on keeps the promise
pub small_checked : (text : List ℕ) (code : ℕ) (scratch scratch_exit trace trace_exit : List ℕ) (r : ChoiceNumbers)
    → ChoiceChecked text code scratch scratch_exit trace trace_exit r → Small r
small_checked text code scratch scratch_exit trace trace_exit r h = subst⁻¹ Small h.answer (small text code (length scratch) (length trace))
  where
    small : (t : List ℕ) (k m n : ℕ) → Small (choice_numbers (choice_answer_of t k m n))
    small t k m n =
        let b = choice_small t k m n in
        record { one = omega (arith, b.one); two = omega (arith, b.two); three = omega (arith, b.three); options = omega (arith, b.options); choices = omega (arith, b.choices) }

pub same_numbers : (text : List ℕ) (code : ℕ) (scratch scratch_exit trace trace_exit : List ℕ) (r q : ChoiceNumbers)
    → ChoiceChecked text code scratch scratch_exit trace trace_exit r → q ≡ r → ChoiceChecked text code scratch scratch_exit trace trace_exit q
same_numbers text code scratch scratch_exit trace trace_exit r q h i =
    subst⁻¹ (λ (n : ChoiceNumbers). ChoiceChecked text code scratch scratch_exit trace trace_exit n) i h

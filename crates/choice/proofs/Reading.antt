-- What `judge` is to show, from the text's rows and what was decided over them. Assumes nothing.
use Prim.Native.Nat.{ℕ}
use native.Mathlib.Omega.{arith}
use mathlib.Core.Path.{◌≡◌, subst⁻¹}
use mathlib.Core.Bool.{true}
use mathlib.Core.List.{List}
use Rattle.model.specs.Refusal.{Out}
use Rattle.model.specs.Rows.{Row}
use Rattle.model.specs.Place.{read_with}
use Rattle.model.specs.Choice.{lists_of, judged_over, choice_answer_for}
use Rattle.sheet.specs.Bridge.{rows_of, ReadAs}
use Rattle.std.specs.Prelude.{Result, Ok, Err}
use Rattle.outcome.specs.declared.Refusal.{Refusal}
use Rattle.sheet.proofs.Bridge.{refused_is, rows_are, starts_are, count_most, kind_long_holds, one_long_holds, two_long_holds}
use Rattle.expansion.specs.Lent.{RowsRead}
use Rattle.choice_answer.specs.declared.Choice.{Choice}
use Rattle.choice_verdict.specs.Judged.{Judged}
use Rattle.choice_verdict.proofs.Deciding.{refuses}

module _ (text kind one two start : List ℕ) (v : Result ℕ Refusal) (p : ReadAs true text kind one two start v) where
  pub text_refused : (code : ℕ) (e : Refusal) (trace : List ℕ) → v ≡ Err e → Judged (choice_answer_for (read_with true text) code) trace trace (Err e)
  unfolding choice_answer_for
  text_refused code e trace i =
      subst⁻¹ (λ (o : Out (List Row)). Judged (choice_answer_for o code) trace trace (Err e))
      (refused_is true text kind one two start v p e i) (refuses e trace)

  module _ (count : ℕ) (i : v ≡ Ok count) where
    pub text_rows : RowsRead kind one two count start
    text_rows =
        let few = count_most true text kind one two start v p count i in
        record {
          read = (true, text, rows_are true text kind one two start v p count i);
          starts = starts_are true text kind one two start v p count i;
          kind_long = omega (arith, kind_long_holds true text kind one two start v p count i);
          one_long = omega (arith, one_long_holds true text kind one two start v p count i);
          two_long = omega (arith, two_long_holds true text kind one two start v p count i);
        }

    pub text_judged : (code : ℕ) (trace trace_exit : List ℕ) (r : Result Choice Refusal)
        → Judged (judged_over (rows_of kind one two count) code (lists_of (rows_of kind one two count))) trace trace_exit r
        → Judged (choice_answer_for (read_with true text) code) trace trace_exit r
    unfolding choice_answer_for
    text_judged code trace trace_exit r j =
        subst⁻¹ (λ (o : Out (List Row)). Judged (choice_answer_for o code) trace trace_exit r) (rows_are true text kind one two start v p count i) j

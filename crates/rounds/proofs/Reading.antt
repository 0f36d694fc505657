-- What `judge` is to show, from the text's rows and what was decided of them. Assumes nothing.
use Prim.Native.Nat.{ℕ}
use native.Mathlib.Omega.{arith}
use mathlib.Core.Path.{◌≡◌, refl, subst⁻¹}
use mathlib.Core.Bool.{false}
use mathlib.Core.List.{List}
use Rattle.model.specs.Refusal.{Out, and_then}
use Rattle.model.specs.Rows.{Row}
use Rattle.model.specs.Choice.{Plain}
use Rattle.model.specs.Answer.{trace_after}
use Rattle.model.specs.Rounds.{rounds_answer}
use Rattle.model.proofs.WithoutChoices.{read_plain}
use Rattle.sheet.specs.Bridge.{rows_of, ReadAs}
use Rattle.std.specs.Prelude.{Result, Ok, Err}
use Rattle.outcome.specs.declared.Refusal.{Refusal}
use Rattle.sheet.proofs.Bridge.{refused_is, rows_are, starts_are, count_most, kind_long_holds, one_long_holds, two_long_holds}
use Rattle.expansion.specs.Lent.{RowsRead}
use Rattle.second_walk.specs.declared.Rounds.{Rounds}
use Rattle.second_walk.specs.Walks.{rows_repeatable}
use Rattle.second_walk.specs.Judged.{Judges}
use Rattle.rounds.specs.Numbers.{text_repeatable}

module _ (text kind one two start : List ℕ) (v : Result ℕ Refusal) (p : ReadAs false text kind one two start v) where
  pub text_refused : (code : ℕ) (e : Refusal) (trace : List ℕ) → v ≡ Err e → Judges (rounds_answer (text_repeatable text) code) trace trace (Err e)
  unfolding text_repeatable and_then rounds_answer trace_after
  text_refused code e trace i =
      subst⁻¹ (λ (o : Out (List Row)). Judges (rounds_answer (and_then o rows_repeatable) code) trace trace (Err e))
      (refused_is false text kind one two start v p e i) (record { answer = refl; how_often = refl; trace_left = refl })

  module _ (count : ℕ) (i : v ≡ Ok count) where
    pub text_rows : RowsRead kind one two count start
    text_rows =
        let few = count_most false text kind one two start v p count i in
        record {
          read = (false, text, rows_are false text kind one two start v p count i);
          starts = starts_are false text kind one two start v p count i;
          kind_long = omega (arith, kind_long_holds false text kind one two start v p count i);
          one_long = omega (arith, one_long_holds false text kind one two start v p count i);
          two_long = omega (arith, two_long_holds false text kind one two start v p count i);
        }

    pub text_plain : Plain (rows_of kind one two count)
    text_plain = read_plain text (rows_of kind one two count) (rows_are false text kind one two start v p count i)

    pub text_judged : (code : ℕ) (trace trace_exit : List ℕ) (r : Result Rounds Refusal) → Judges (rounds_answer (rows_repeatable (rows_of kind one two count)) code) trace trace_exit r
        → Judges (rounds_answer (text_repeatable text) code) trace trace_exit r
    unfolding text_repeatable and_then
    text_judged code trace trace_exit r j =
        subst⁻¹ (λ (o : Out (List Row)). Judges (rounds_answer (and_then o rows_repeatable) code) trace trace_exit r)
        (rows_are false text kind one two start v p count i) j

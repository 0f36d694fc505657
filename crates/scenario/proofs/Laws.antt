-- What a caller uses of the answer, case by case. Assumes nothing.
use mathlib.Core.Path.{◌≡◌, refl, sym, ◌∙◌, ap, subst}
use mathlib.Core.List.{List, ◌++◌}
use Prim.Native.Nat.{ℕ, ◌*◌, ◌≤◌}
use borrow.Author.Tests.{lt-leb}
use lib.ListN.{length, drop}
use Rattle.model.specs.Limits.{messages_most, rows_most, scratch_least}
use Rattle.model.specs.Refusal.{Out, ok, refusal, bench_refusal}
use Rattle.model.specs.Place.{line_of}
use Rattle.model.specs.Order.{Scenario}
use Rattle.model.specs.Answer.{sheet_of, scratch_behind}
use Rattle.model.proofs.Lines.{Well, sheet_well}
use Rattle.relation.specs.Rows.{cleared}
use Rattle.relation.proofs.Cleared.{cleared_behind}
use Rattle.relation.specs.Scenario.{scenario_in}
use Rattle.std.specs.Prelude.{Result, Ok, Err}
use Rattle.outcome.specs.declared.Refusal.{Refusal}
use Rattle.outcome.specs.Refusals.{refused_in}
use Rattle.expansion.specs.Outcome.{outcome_of}
use Rattle.scenario.specs.Contract.{Fit, FitOn, SheetIn}

module _ (text boards words : List ℕ) (r : Result ℕ Refusal) (p : SheetIn text boards words r) where
  pub sheet_refused : (e : Refusal) → r ≡ Err e → sheet_of text ≡ refused_in e
  sheet_refused e i = sym p.outcome ∙ ap (λ (w : Result ℕ Refusal). outcome_of w boards words) i

  module _ (count : ℕ) (i : r ≡ Ok count) where
    pub sheet_is : sheet_of text ≡ ok (scenario_in count boards words)
    sheet_is = sym p.outcome ∙ ap (λ (w : Result ℕ Refusal). outcome_of w boards words) i

    pub sheet_fits : Fit count boards words
    sheet_fits = subst (λ (w : Result ℕ Refusal). FitOn w boards words) i p.fit

    -- as a caller needs it that lends the boards as a slice
    pub boards_long_holds : 2 * messages_most ≡ length boards
    boards_long_holds = sym sheet_fits.boards_long

-- the first words of the scratch were used and the rest not, and then the first `scratch_least` cleared
pub scratch_behind_holds : (text scratch used : List ℕ) (n : ℕ) → length used ≡ n → n ≤ scratch_least
    → cleared scratch_least (used ++ drop n scratch) ≡ scratch_behind (sheet_of text) scratch
unfolding scratch_behind cleared
scratch_behind_holds text scratch used n e l = cleared_behind scratch_least used scratch n e l ∙ go (sheet_of text) (sheet_well text)
  where
    go : (o : Out Scenario) → Well (line_of rows_most) o → cleared scratch_least scratch ≡ scratch_behind o scratch
    go (refusal number line) w = rw (lt-leb number bench_refusal w.behind)
    go (ok S) w = refl

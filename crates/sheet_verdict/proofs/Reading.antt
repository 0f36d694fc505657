-- What `judge` is to show, from the way to the scenario and what was decided of it. Assumes nothing.
use mathlib.Core.Path.{◌≡◌, refl, subst⁻¹}
use mathlib.Core.List.{List}
use Prim.Native.Nat.{ℕ}
use Rattle.model.specs.Refusal.{Out, ok, refusal}
use Rattle.model.specs.Order.{Scenario}
use Rattle.model.specs.Answer.{sheet_of, answer_for, trace_after}
use Rattle.relation.specs.Scenario.{scenario_in}
use Rattle.std.specs.Prelude.{Result, Ok, Err}
use Rattle.outcome.specs.declared.Refusal.{Refusal}
use Rattle.outcome.specs.declared.Reason.TheVariants.{Bench}
use Rattle.outcome.specs.Refusals.{number_in}
use Rattle.scenario.specs.Contract.{SheetIn}
use Rattle.scenario.proofs.Laws.{sheet_refused, sheet_is}
use Rattle.verdict.specs.declared.Verdict.{Verdict}
use Rattle.verdict.specs.Parts.{Decides}

-- a refusal handed on
refuses : (f : Refusal) (code : ℕ) (trace : List ℕ) → Decides (refusal (number_in f.reason) f.line) code trace trace (Err f)
unfolding answer_for trace_after
refuses f code trace = record { answer = refl; trace_left = refl }

-- What the way to the scenario hands on.
module _ (text boards words : List ℕ) (v : Result ℕ Refusal) (p : SheetIn text boards words v) where
  pub scenario_refused : (f : Refusal) (code : ℕ) (trace : List ℕ) → v ≡ Err f
      → Decides (sheet_of text) code trace trace (Err f)
  scenario_refused f code trace i =
      subst⁻¹ (λ (o : Out Scenario). Decides o code trace trace (Err f))
      (sheet_refused text boards words v p f i) (refuses f code trace)

  pub scenario_decided : (count : ℕ) → v ≡ Ok count → (code : ℕ) (trace behind : List ℕ) (r : Result Verdict Refusal)
      → Decides (ok (scenario_in count boards words)) code trace behind r → Decides (sheet_of text) code trace behind r
  scenario_decided count i code trace behind r d =
      subst⁻¹ (λ (o : Out Scenario). Decides o code trace behind r) (sheet_is text boards words v p count i) d

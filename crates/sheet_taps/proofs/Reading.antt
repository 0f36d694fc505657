-- What `judge` is to show, from the way to the scenario and what the lists decide on it. Assumes nothing.
use mathlib.Core.Path.{◌≡◌, sym, ◌∙◌, ap, subst⁻¹}
use mathlib.Core.List.{List}
use Prim.Native.Nat.{ℕ, ◌*◌, ◌≤◌}
use lib.ListN.{length}
use Rattle.model.specs.Limits.{tap_numbers_least}
use Rattle.model.specs.Refusal.{Out, and_then}
use Rattle.model.specs.Order.{event, Scenario}
use Rattle.model.specs.Answer.{sheet_of}
use Rattle.model.specs.Taps.{with_lists}
use Rattle.model.proofs.Accepted.{sheet_causal}
use Rattle.relation.specs.Width.{width}
use Rattle.relation.specs.Order.{before, Transitive}
use Rattle.relation.specs.Scenario.{scenario_in}
use Rattle.relation.proofs.Scenario.{before_at}
use Rattle.std.specs.Prelude.{Result, Ok, Err}
use Rattle.outcome.specs.declared.Refusal.{Refusal}
use Rattle.outcome.specs.declared.Reason.TheVariants.{Bench}
use Rattle.outcome.specs.Refusals.{number_in}
use Rattle.scenario.specs.Contract.{SheetIn}
use Rattle.scenario.proofs.Laws.{sheet_refused, sheet_is, sheet_fits}
use Rattle.taps.specs.declared.Taps.{Taps}
use Rattle.taps.specs.Parts.{Lent, Decides, DecidesFor}
use Rattle.taps.proofs.Deciding.{refuses_as}

module _ (text boards words : List ℕ) (v : Result ℕ Refusal) (p : SheetIn text boards words v) (first second output : List ℕ) where
  pub scenario_refused : (f : Refusal) → v ≡ Err f
      → Decides first second (and_then (sheet_of text) (with_lists first second)) output output (Err f)
  unfolding and_then
  scenario_refused f i =
      refuses_as first second f _ output
      (ap (λ (o : Out Scenario). and_then o (with_lists first second)) (sheet_refused text boards words v p f i))

  module _ (count : ℕ) (i : v ≡ Ok count) where
    -- the relation of an accepted sheet is closed
    scenario_closed : Transitive (2 * count) (before width words)
    scenario_closed x y z hx hy hz a b =
        let C = sheet_causal text (scenario_in count boards words) (sheet_is text boards words v p count i) in
        sym (before_at count boards words x z hx hz)
        ∙ C.trans (event x) (event y) (event z) (before_at count boards words x y hx hy ∙ a) (before_at count boards words y z hy hz ∙ b)

    pub scenario_lent : tap_numbers_least ≤ length output → Lent count words output
    scenario_lent h =
        let F = sheet_fits text boards words v p count i in
        record { few = F.few; words_long = F.words_long; output_long = h; closed = scenario_closed }

    pub scenario_decided : (behind : List ℕ) (r : Result Taps Refusal) → DecidesFor count words first second output behind r
        → Decides first second (and_then (sheet_of text) (with_lists first second)) output behind r
    unfolding and_then
    scenario_decided behind r d =
        subst⁻¹ (λ (o : Out Scenario). Decides first second (and_then o (with_lists first second)) output behind r)
        (sheet_is text boards words v p count i) (d boards)

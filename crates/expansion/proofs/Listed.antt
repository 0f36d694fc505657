-- What a caller uses of the walk on a list of options: the scenario of the rows, or the refusal. Assumes nothing.
use Prim.Native.Nat.{ℕ}
use mathlib.Core.Path.{◌≡◌, refl, sym, ◌∙◌, ap}
use mathlib.Core.Bool.{Bool}
use mathlib.Core.List.{List, []}
use Rattle.model.specs.Refusal.{Out, ok, refusal, and_then}
use Rattle.model.specs.Rows.{Row}
use Rattle.model.specs.Expansion.{Progress}
use Rattle.model.specs.Expansion.{expand as expand_rows}
use Rattle.model.specs.Order.{Scenario, Met, met_ops, nothing_met, exchange_of, scenario_of}
use Rattle.model.specs.Answer.{expanded_with}
use Rattle.model.specs.Choice.{Plain}
use Rattle.model.proofs.WithoutChoices.{expanded_plain}
use Rattle.relation.specs.Scenario.{scenario_in}
use Rattle.blocks.specs.Store.{counted_with}
use Rattle.expansion.specs.Outcome.{counted_of}
use Rattle.expansion.specs.declared.Counted.{Counted}
use Rattle.std.specs.Prelude.{Result, Ok, Err}
use Rattle.outcome.specs.declared.Refusal.{Refusal}
use Rattle.outcome.specs.Refusals.{refused_in}

-- Without the A rows met: the scenario of the rows on a list of options, and of rows without an A row.
uncounted_same : (options : List Bool) (rows : List Row) → expanded_with options rows ≡ and_then (counted_with options rows) (λ p. ok p.0)
unfolding expanded_with counted_with and_then
uncounted_same options rows = go (expand_rows met_ops options rows nothing_met)
  where
    go : (o : Out (Progress Met)) → and_then o (λ s. ok (scenario_of (exchange_of s)))
        ≡ and_then (and_then {B = Scenario × ℕ} o (λ s. ok (scenario_of (exchange_of s), s.walk.choices))) (λ p. ok p.0)
    go (ok u) = refl
    go (refusal number line) = refl

module _ (boards words : List ℕ) (r : Result Counted Refusal) (options : List Bool) (rows : List Row) (h : counted_of r boards words ≡ counted_with options rows) where
  listed : (o : Out (Scenario × ℕ)) → counted_of r boards words ≡ o → and_then o (λ p. ok p.0) ≡ expanded_with options rows
  listed o e = ap (λ (q : Out (Scenario × ℕ)). and_then q (λ p. ok p.0)) (sym e ∙ h) ∙ sym (uncounted_same options rows)

  pub listed_refused : (e : Refusal) → r ≡ Err e → refused_in e ≡ expanded_with options rows
  unfolding and_then
  listed_refused e i = listed (refused_in e) (ap (λ (c : Result Counted Refusal). counted_of c boards words) i)

  pub listed_messages : (c : Counted) → r ≡ Ok c → ok (scenario_in c.messages boards words) ≡ expanded_with options rows
  unfolding and_then
  listed_messages c i = listed (ok (scenario_in c.messages boards words, c.choices)) (ap (λ (c : Result Counted Refusal). counted_of c boards words) i)

  -- rows without an A row
  module _ (plain : Plain rows) where
    pub plain_refused : (e : Refusal) → r ≡ Err e → refused_in e ≡ expanded_with [] rows
    plain_refused e i = listed_refused e i ∙ expanded_plain rows plain options

    pub plain_messages : (c : Counted) → r ≡ Ok c → ok (scenario_in c.messages boards words) ≡ expanded_with [] rows
    plain_messages c i = listed_messages c i ∙ expanded_plain rows plain options

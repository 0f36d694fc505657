-- A walk that ends with the next block open, and the walk made once more after it. Assumes nothing.
use Prim.Native.Nat.{ℕ}
use mathlib.Core.Path.{◌≡◌, refl, sym, ◌∙◌, ap, subst}
use mathlib.Core.Bool.{Bool}
use mathlib.Core.List.{List, []}
use lib.ListN.{drop}
use Rattle.model.specs.Limits.{levels}
use Rattle.model.specs.Refusal.{Out, ok, refusal, and_then}
use Rattle.model.specs.Rows.{Row}
use Rattle.model.specs.Place.{line_of}
use Rattle.model.specs.Expansion.{Walk, fresh_walk, Progress, start_of, block_opened, walk_rows, call_at, expand}
use Rattle.model.specs.Order.{Met, met_ops, nothing_met, exchange_of, scenario_of}
use Rattle.model.proofs.Refusal.{not_refused}
use Rattle.model.proofs.Standing.{Fits}
use Rattle.model.proofs.Walked.{Sound}
use Rattle.relation.specs.Scenario.{scenario_in}
use Rattle.blocks.specs.Store.{Store, store_ops, concluded, counted_with, walked_on}
use Rattle.blocks.proofs.Sim.{Sim, Begins}
use Rattle.blocks.proofs.Together.{met, stored, Match, going, stopped, expand_match, again_match}
use Rattle.blocks.proofs.Scenarios.{scenario_same, expanded_same}

-- closing the last block changes nothing of what a walk ends in
closed_concluded : (o : Out (Progress Store)) → and_then (and_then o (λ u. ok (block_opened store_ops u))) concluded ≡ and_then o concluded
unfolding and_then block_opened store_ops
closed_concluded (ok s) = refl
closed_concluded (refusal number line) = refl

-- what the model's walk comes to, where the store's has ended in a state with the next block open
pub record Alongside (o : Out (Progress Met)) (u : Progress Store) : Type 0 where
  pub walk : Walk
  pub kept : Met
  pub store : Store
  pub is_met : o ≡ ok (met walk kept)
  pub is_closed : block_opened store_ops (stored walk store) ≡ u
  pub sound : Sound (met walk kept)
  pub sim : Sim walk kept store

match_ended : {o : Out (Progress Met)} {o' : Out (Progress Store)} (u : Progress Store) → Match o o' → and_then o' (λ s. ok (block_opened store_ops s)) ≡ ok u → Alongside o u
unfolding and_then
match_ended u (going {w = w} {m = m} {t = t} h r) e =
    let closed : block_opened store_ops (stored w t) ≡ u = cc in
    record { walk = w; kept = m; store = t; is_met = refl; is_closed = closed; sound = h; sim = r }
match_ended u stopped e = not_refused e

match_refused : {o : Out (Progress Met)} {o' : Out (Progress Store)} (number line : ℕ) → Match o o'
    → and_then o' (λ s. ok (block_opened store_ops s)) ≡ refusal number line → o ≡ refusal number line
unfolding and_then
match_refused number line (going h r) e = not_refused (sym e)
match_refused number line stopped e = cc

-- the scenario that the store holds is that of what is met
pub ended_scenario : {o : Out (Progress Met)} {u : Progress Store} (e : Alongside o u)
    → scenario_in u.walk.count u.kept.events u.kept.words ≡ scenario_of (exchange_of (met e.walk e.kept))
unfolding block_opened store_ops
ended_scenario e =
    ap (λ (s : Progress Store). scenario_in s.walk.count s.kept.events s.kept.words) (sym e.is_closed)
    ∙ scenario_same e.walk e.kept e.store e.sound e.sim

module _ (options : List Bool) (file : List Row) (fits : Fits [] file) where
  module _ (t : Store) (z : Begins t) where
    -- The rows of a sheet file that fits, walked from the beginning: the paper's scenario or refusal.
    pub counted_same : and_then (walked_on options file (stored fresh_walk t)) concluded ≡ counted_with options file
    unfolding walked_on expand
    counted_same = closed_concluded (expand store_ops options file t) ∙ expanded_same options file fits t z

    pub once_ended : (u : Progress Store) → walked_on options file (stored fresh_walk t) ≡ ok u → Alongside (expand met_ops options file nothing_met) u
    unfolding walked_on expand
    once_ended u e = match_ended u (expand_match options file fits t z) e

    pub once_refused : (number line : ℕ) → walked_on options file (stored fresh_walk t) ≡ refusal number line
        → expand met_ops options file nothing_met ≡ refusal number line
    unfolding walked_on expand
    once_refused number line e = match_refused number line (expand_match options file fits t z) e

  -- the walk made once more
  abbrev pub again : Progress Met → Out (Progress Met)
  again s =
      walk_rows met_ops options (call_at met_ops options levels file) (drop (start_of 0 file) file) (line_of (start_of 0 file)) (block_opened met_ops s)

  module _ {o : Out (Progress Met)} {u : Progress Store} (e : Alongside o u) where
    matched : Match (again (met e.walk e.kept))
        (walk_rows store_ops options (call_at store_ops options levels file) (drop (start_of 0 file) file) (line_of (start_of 0 file)) u)
    matched =
        subst (λ (s : Progress Store). Match (again (met e.walk e.kept))
        (walk_rows store_ops options (call_at store_ops options levels file) (drop (start_of 0 file) file) (line_of (start_of 0 file)) s))
        e.is_closed (again_match options file fits e.walk e.kept e.store e.sound e.sim)

    pub again_ended : (v : Progress Store) → walked_on options file u ≡ ok v → Alongside (again (met e.walk e.kept)) v
    unfolding walked_on
    again_ended v w = match_ended v matched w

    pub again_refused : (number line : ℕ) → walked_on options file u ≡ refusal number line → again (met e.walk e.kept) ≡ refusal number line
    unfolding walked_on
    again_refused number line w = match_refused number line matched w

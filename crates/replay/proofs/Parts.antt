-- What the parts of the call are to show, from what its own parts handed on. Assumes nothing.
use mathlib.Core.Path.{◌≡◌, refl, subst, subst⁻¹}
use Rattle.std.specs.Prelude.{Result, Ok, Err}
use mathlib.Core.List.{List}
use Prim.Native.Nat.{ℕ, ◌*◌, ◌≤◌}
use native.Mathlib.Omega.{arith}
use lib.ListN.{length}
use Rattle.model.specs.Refusal.{Out}
use Rattle.model.specs.Order.{Scenario}
use Rattle.model.specs.Channel as model
use Rattle.model.specs.Channel.{channel_of}
use Rattle.model.specs.Answer.{sheet_of}
use Rattle.model.specs.Replay.{replay_for}
use Rattle.model.specs.Waits.{wait_for}
use Rattle.relation.specs.Width.{width}
use Rattle.relation.specs.Scenario.{scenario_in}
use Rattle.outcome.specs.declared.Refusal.{Refusal}
use Rattle.scenario.specs.Contract.{SheetIn}
use Rattle.scenario.proofs.Laws.{sheet_refused, sheet_is, sheet_fits}
use Rattle.channel_table.specs.declared.Channel.{Channel}
use Rattle.channel_table.specs.Table.{channel_in}
use Rattle.board.specs.Masks.{mask_rows, MasksOf, Standing}
use Rattle.trace_steps.specs.declared.Outcome.{Outcome}
use Rattle.trace_steps.specs.Bridge.{Taken}
use Rattle.replay.specs.Bridge.{Judged}

-- What the way to the scenario hands on.
module _ (text boards words : List ℕ) (v : Result ℕ Refusal) (p : SheetIn text boards words v) where
  pub scenario_refused : (e : Refusal) (code : ℕ) (trace : List ℕ) → v ≡ Err e → Judged (sheet_of text) code trace (Err e)
  unfolding replay_for wait_for
  scenario_refused e code trace i =
      subst⁻¹ (λ (o : Out Scenario). Judged o code trace (Err e)) (sheet_refused text boards words v p e i) (record { verdict = refl; numbers = refl })

  module _ (count : ℕ) (i : v ≡ Ok count) where
    pub scenario_replayed : (code : ℕ) (trace : List ℕ) (c : Channel) (r : Outcome) → Taken (scenario_in count boards words) (channel_in c) trace r
        → channel_in c ≡ channel_of code → Judged (sheet_of text) code trace (Ok r)
    unfolding replay_for wait_for
    scenario_replayed code trace c r h k =
        subst⁻¹ (λ (o : Out Scenario). Judged o code trace (Ok r)) (sheet_is text boards words v p count i)
        (let t : Taken (scenario_in count boards words) (channel_of code) trace r = subst (λ (q : model.Channel). Taken (scenario_in count boards words) q trace r) k h in
        record { verdict = t.verdict; numbers = t.numbers })

    pub scenario_stands : (masks : List ℕ) → mask_rows * width ≤ length masks → MasksOf count boards masks → Standing count boards words masks
    scenario_stands masks l m =
        let f = sheet_fits text boards words v p count i in
        record {
          few = f.few;
          boards_long = omega (arith, f.boards_long, f.few);
          words_long = omega (arith, f.words_long, f.few);
          masks_long = l;
          boards_below = f.boards_below;
          masks_of = m;
        }

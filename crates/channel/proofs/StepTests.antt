-- A step is allowed: what a row of those held says of it, by its buffer and by the buffers in rows. Assumes nothing.
use mathlib.Core.Path.{◌≡◌, sym, ◌∙◌, ap, subst}
use mathlib.Core.Bool.{Bool, true, false, not}
use mathlib.Core.List.{List}
use Prim.Native.Nat.{ℕ, ◌<◌, ◌≤◌}
use native.Mathlib.Omega.{arith}
use Rattle.model.proofs.Rules.{unknown_step}
use Rattle.relation.specs.Scenario.{scenario_in}
use Rattle.channel_table.specs.declared.Channel.{Channel}
use Rattle.channel_table.specs.Table.{channel_in}
use Rattle.board.specs.Masks.{Standing}
use Rattle.run.specs.declared.Buffer.{Buffer}
use Rattle.run.specs.declared.Run.{Run}
use Rattle.step.specs.declared.Step.{Step}
use Rattle.step.specs.Steps.{step_in, message_in}
use Rattle.run.specs.State.{in_row, state_of, BoardAt}
use Rattle.buffers.proofs.Rows.{row_holds}
use Rattle.rules.specs.Rules.{BufferRow}
use Rattle.step_rules.specs.Steps.{held_up, Says, SaysRow}
use Rattle.step_rules.proofs.StepKinds.{never}
use Rattle.channel.specs.Steps.{SaysStep, SaysIn}

-- the step, by a row that is the buffer of its board: with that buffer, and in every run with these buffers in rows
module _ (count : ℕ) (on words : List ℕ) (c : Channel) (done way : List ℕ) (t : Step) where
  pub by_buffer : (r : Bool) (buffer : Buffer) → SaysRow count on words c done way buffer.held 0 t r → SaysStep count on words c done way buffer t r
  by_buffer r buffer says run d w b = says run d w (λ k l. ap (λ (u : Buffer). in_row u.held k) b)

  pub by_rows : (r : Bool) (rows : List ℕ) (b : ℕ) → SaysRow count on words c done way rows b t r → BoardAt on t b → SaysIn count on words c done way rows t r
  by_rows r rows b says at run d w h =
      says run d w (subst (λ (a : ℕ). BufferRow run a rows b) at.place (λ k l. row_holds run rows b k h at.below l))

  module _ (masks : List ℕ) (standing : Standing count on words masks) (u : Bool) (up : u ≡ true) where
    pub never_with : (buffer : Buffer) → u ≡ held_up c.eager masks buffer.held 0 t → SaysStep count on words c done way buffer t (not u)
    never_with buffer e = rw up (by_buffer false buffer (never count on words masks standing c done way buffer.held 0 t (sym e ∙ up)))

    pub never_in : (rows : List ℕ) (b : ℕ) → u ≡ held_up c.eager masks rows b t → BoardAt on t b → SaysIn count on words c done way rows t (not u)
    never_in rows b e at = rw up (by_rows false rows b (never count on words masks standing c done way rows b t (sym e ∙ up)) at)

-- its message, as it is read
pub known : (step : Step) (m count : ℕ) → m ≡ message_in step → m < count → message_in step < count
known step m count e h = omega arith

pub unknown : (count : ℕ) (on words : List ℕ) (c : Channel) (run : Run) (step : Step) (m : ℕ) → m ≡ message_in step → count ≤ m
    → Says count on words c run step false
unknown count on words c run step m e h = unknown_step (scenario_in count on words) (channel_in c) (state_of run) (step_in step) (omega arith)

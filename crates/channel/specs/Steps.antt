-- What the tests of a step say, with the buffer of its board and with the buffers in rows. Assumes nothing.
use Rattle.std.specs.Prelude.{◌≡◌, Bool, List, ℕ, get_or}
use Rattle.channel_table.specs.declared.Channel.{Channel}
use Rattle.run.specs.declared.Buffer.{Buffer}
use Rattle.run.specs.declared.Run.{Run}
use Rattle.step.specs.declared.Step.{Step}
use Rattle.step.specs.Steps.{event_in}
use Rattle.run.specs.State.{buffer_of}
use Rattle.buffers.specs.Held.{HeldIn}
use Rattle.step_rules.specs.Steps.{Says}

-- the scenario of `count` messages, event k being on board `get_or on k 0`
module _ (count : ℕ) (on words : List ℕ) where
  -- the step is allowed in every run with these events done, these messages under way, and this buffer on the step's board
  abbrev pub SaysStep : Channel → List ℕ → List ℕ → Buffer → Step → Bool → Type 0
  SaysStep c done way buffer step r =
      (run : Run) → run.done ≡ done → run.way ≡ way → buffer_of run (get_or on (event_in step) 0) ≡ buffer → Says count on words c run step r

  -- and of every run with these buffers in rows
  abbrev pub SaysIn : Channel → List ℕ → List ℕ → List ℕ → Step → Bool → Type 0
  SaysIn c done way rows step r = (run : Run) → run.done ≡ done → run.way ≡ way → HeldIn run rows → Says count on words c run step r

-- Where a run stands, as the model's verdict, and what the tests say of a run. Assumes nothing.
use Rattle.std.specs.Prelude.{◌≡◌, Bool, not, ◌&&◌, List, ℕ, ◌+◌, ◌*◌}
use Rattle.model.specs.Bounded.{every}
use Rattle.model.specs.Run.{send, deliver, consume, allowed}
use Rattle.model.specs.Replay.{Replay, finishes, sticks, open'}
use Rattle.relation.specs.Scenario.{scenario_in}
use Rattle.channel_table.specs.declared.Channel.{Channel}
use Rattle.channel_table.specs.Table.{channel_in}
use Rattle.run.specs.declared.Run.{Run}
use Rattle.run.specs.State.{in_row, state_of}
use Rattle.buffers.specs.Held.{HeldIn}
use Rattle.standing.specs.declared.Stand.{Stand}
use Rattle.standing.specs.declared.Stand.TheVariants.{Finished, Stuck, Open}

abbrev pub stand_in : Stand → Replay
stand_in Finished = finishes
stand_in Stuck = sticks
stand_in Open = open'

-- the row has the send and the receive of each of the first `count` messages
abbrev pub all_done : ℕ → List ℕ → Bool
all_done count done = every count (λ m. in_row done (2 * m) && in_row done (2 * m + 1))

-- no step on message m is allowed in the run
abbrev pub no_step_at : ℕ → List ℕ → List ℕ → Channel → Run → ℕ → Bool
no_step_at count on words c run m =
    let may = allowed (scenario_in count on words) (channel_in c) (state_of run) in
    not (may (send m)) && not (may (deliver m)) && not (may (consume m))

-- the same of every run with these events done, these messages under way and these buffers in rows
abbrev pub SaysNoStep : ℕ → List ℕ → List ℕ → Channel → List ℕ → List ℕ → List ℕ → ℕ → Bool → Type 0
SaysNoStep count on words c done way rows m r =
    (run : Run) → run.done ≡ done → run.way ≡ way → HeldIn run rows → r ≡ no_step_at count on words c run m

-- `run::board_at` meets its contract. Assumes nothing.
use Rattle.run.proofs.States.{event_last, board_read}
use native.Mathlib.Omega.{arith}
use Rattle.run.proofs.board_at.Goals as goal

pub board_of-requires : goal.board_of-requires
board_of-requires c = omega (arith, event_last c.args.step)

pub returns : goal.returns
returns c = search board_read

-- `channel::allowed_in` meets its contract. Assumes nothing.
use mathlib.Core.Path.{refl}
use Rattle.run.proofs.States.{buffers_long, buffer_read, reaches}
use Rattle.channel.proofs.StepTests.{known, unknown}
use Rattle.channel.proofs.allowed_in.Goals as goal

pub returns-then-scenario-m : goal.returns-then-scenario-m
returns-then-scenario-m c = search unknown

pub board_at-board-requires : goal.board_at-board-requires
board_at-board-requires c = search (reaches, known)

pub returns : goal.returns
returns c = let long = buffers_long c.args.run _ c.well_formed.0 in
    c.allowed.ensures c.args.run refl refl (buffer_read c.args.run _ _ _ _ c.board_at-board.ensures long)

-- `channel::may_step` meets its contract. Assumes nothing.
use mathlib.Core.Path.{sym, ◌∙◌}
use borrow.Author.Rules.{rules}
use Rattle.run.proofs.States.{reaches}
use Rattle.channel.proofs.StepTests.{by_rows, never_in}
use Rattle.channel.proofs.may_step.Goals as goal

pub board_at-board-requires : goal.board_at-board-requires
board_at-board-requires c = search reaches

pub returns-else-not-held_up : goal.returns-else-not-held_up
returns-else-not-held_up c = search never_in

pub allowed_by-requires : goal.allowed_by-requires
allowed_by-requires c = record { step_bound = search rules; step_value = sym c.held_up.ensures ∙ c.if-not-held_up.true }

pub returns-then-not-held_up : goal.returns-then-not-held_up
returns-then-not-held_up c = search by_rows

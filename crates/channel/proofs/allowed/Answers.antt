-- `channel::allowed` meets its contract: the buffer is row 0 of its own words. Assumes nothing.
use mathlib.Core.Path.{sym, ◌∙◌}
use borrow.Author.Rules.{rules}
use Rattle.channel.proofs.StepTests.{by_buffer, never_with}
use Rattle.channel.proofs.allowed.Goals as goal

pub returns-else-not-held_up : goal.returns-else-not-held_up
returns-else-not-held_up c = search never_with

pub allowed_by-requires : goal.allowed_by-requires
allowed_by-requires c = record { step_bound = search rules; step_value = sym c.held_up.ensures ∙ c.if-not-held_up.true }

pub returns-then-not-held_up : goal.returns-then-not-held_up
returns-then-not-held_up c = search by_buffer

-- `came_of` is safe and ends. Assumes nothing.
use Rattle.std.proofs.Common.{length, ◌≤◌}
use Rattle.sheets_to_try.proofs.came_of.Given as goal

abbrev pub invariant-loop-code : goal.invariant-loop-code
invariant-loop-code l = l.at ≤ length l.line

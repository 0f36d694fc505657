-- `behind_blocks` meets its contract: every row that its loop has passed is a B row. Assumes nothing.
use Rattle.std.proofs.Common.{◌≡◌, ℕ, ◌<◌, ◌≤◌, get_or}
use Rattle.next_block.proofs.behind_blocks.Given as goal

abbrev pub invariant-loop-at : goal.invariant-loop-at
invariant-loop-at l = (l.row ≤ l.at) × ((k : ℕ) → l.row ≤ k → k < l.at → get_or l.kind k 0 ≡ 66)

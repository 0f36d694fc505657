-- `joined_rows::join` meets its contract. The loop keeps `Merging`: the words passed have gained theirs.
use Prim.Native.Nat.{◌-◌}
use borrow.Author.Rules.{rules}
use Rattle.joined_rows.specs.Joins.{joined, joined_from}
use Rattle.joined_rows.proofs.Loops.{merging_start, merging_end, merging_own}
use Rattle.joined_rows.proofs.join.Goals as goal

pub loop-i-init : goal.loop-i-init
loop-i-init c = search merging_start

pub loop-i-preserved : goal.loop-i-preserved
loop-i-preserved c = search (merging_own, rules)

pub returns : goal.returns
unfolding joined joined_from
returns c = search merging_end

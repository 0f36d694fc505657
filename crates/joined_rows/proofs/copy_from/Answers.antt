-- `joined_rows::copy_from` meets its contract. The loop keeps `Merging`: the words passed are the other row's.
use Prim.Native.Nat.{◌-◌}
use borrow.Author.Rules.{rules}
use Rattle.joined_rows.specs.Joins.{theirs, copied_from}
use Rattle.joined_rows.proofs.Loops.{merging_start, merging_end, merging_more}
use Rattle.joined_rows.proofs.copy_from.Goals as goal

pub loop-j-init : goal.loop-j-init
loop-j-init c = search merging_start

pub loop-j-preserved : goal.loop-j-preserved
loop-j-preserved c = search (merging_more theirs, rules)

pub returns : goal.returns
unfolding copied_from
returns c = search merging_end

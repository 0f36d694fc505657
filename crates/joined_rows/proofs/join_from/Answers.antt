-- `joined_rows::join_from` meets its contract. The loop keeps `Merging`, as that of `join`, over the other words.
use Prim.Native.Nat.{◌-◌}
use lib.Bits.{bit_or}
use borrow.Author.Rules.{rules}
use Rattle.joined_rows.specs.Joins.{joined_from}
use Rattle.joined_rows.proofs.Loops.{merging_start, merging_end, merging_more}
use Rattle.joined_rows.proofs.join_from.Goals as goal

pub loop-k-init : goal.loop-k-init
loop-k-init c = search merging_start

pub loop-k-preserved : goal.loop-k-preserved
loop-k-preserved c = search (merging_more bit_or, rules)

pub returns : goal.returns
unfolding joined_from
returns c = search merging_end

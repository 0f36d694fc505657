-- `covers::cover_rows` meets its contract. Assumes nothing.
use borrow.Author.Rules.{rules}
use Prim.Native.Nat.{◌-◌}
use Rattle.covers.proofs.Covering.{made_start, made_standing, made_more, made_end}
use Rattle.covers.proofs.cover_rows.Goals as goal

pub loop-e-init : goal.loop-e-init
loop-e-init c = search made_start

pub invariant_of-scenario : goal.invariant_of-scenario
invariant_of-scenario c = search (made_standing, rules)

pub loop-e-preserved : goal.loop-e-preserved
loop-e-preserved c = search made_more

pub returns : goal.returns
returns c = search made_end

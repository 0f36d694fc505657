-- `are_bytes` meets its contract. The loop's invariant: the name and the field agree up to `i`. Assumes nothing.
use Rattle.fields.proofs.Scan.{name_other, name_begin, name_more, name_unlike, name_end}
use Rattle.fields.proofs.are_bytes.Goals as goal

pub returns-then-to-from : goal.returns-then-to-from
returns-then-to-from c = search name_other

pub loop-i-init : goal.loop-i-init
loop-i-init c = search name_begin

pub returns-then-name-i : goal.returns-then-name-i
returns-then-name-i c = search name_unlike

pub loop-i-preserved : goal.loop-i-preserved
loop-i-preserved c = search name_more

pub returns : goal.returns
returns c = search name_end

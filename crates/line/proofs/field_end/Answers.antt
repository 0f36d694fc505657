-- `field_end` meets its contract. The loop's invariant: the field's bytes up to `i` are scanned. Assumes nothing.
use Rattle.line.proofs.Scan.{scan_begin, scan_more, scan_end, scan_mark}
use Rattle.line.proofs.field_end.Goals as goal

pub loop-i-init : goal.loop-i-init
loop-i-init c = search scan_begin

pub returns-then-b-eq-SPACE : goal.returns-then-b-eq-SPACE
returns-then-b-eq-SPACE c = scan_mark _ _ _ c.then-b-eq-SPACE.either c.loop-i-test.true c.loop-i.invariant

pub loop-i-preserved : goal.loop-i-preserved
loop-i-preserved c = search scan_more

pub returns : goal.returns
returns c = search scan_end

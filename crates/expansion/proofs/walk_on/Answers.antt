-- `expansion::walk_on` meets its contract. Assumes nothing.
use native.Mathlib.Omega.{arith}
use Rattle.std.proofs.lemmas.Result.{err_from_is_err_and}
use Rattle.next_block.proofs.Seeking.{reaches_as}
use Rattle.expansion.proofs.Reading.{start_long, sheets_lent}
use Rattle.expansion.proofs.Whole.{walking_start, walking_stopped, walking_end, block_ready, walking_refused, walking_less, walking_on}
use Rattle.expansion.proofs.walk_on.Goals as goal

pub bounds-rows-0 : goal.bounds-rows-0
bounds-rows-0 c = omega (arith, start_long _ _ _ _ _ c.requires.rows_read)

pub loop-reached-init : goal.loop-reached-init
loop-reached-init c = search walking_start

pub next_block-requires : goal.next_block-requires
next_block-requires c = record { sheets = sheets_lent _ _ _ _ _ c.requires.rows_read _; between = c.loop-reached.invariant.between }

pub returns-in_err-reached : goal.returns-in_err-reached
returns-in_err-reached c = let p = err_from_is_err_and c.from_residual.result c.from_residual.ensures.1 in rw (p.1, p.2) (walking_stopped _ _ _ _ _ _ _ _ _ _ _ c.loop-reached.invariant _ _ c.in_err-reached.ensures)

pub returns-in-End : goal.returns-in-End
returns-in-End c = walking_end _ _ _ _ _ _ _ _ _ _ _ c.loop-reached.invariant _ _ _ (reaches_as c.in-End.is c.in_ok-reached.ensures) _ c.opened.ensures

pub walk_block-requires : goal.walk_block-requires
walk_block-requires c = record { rows_few = (sheets_lent _ _ _ _ _ c.requires.rows_read 0).rows; ready = block_ready _ _ _ _ _ _ _ _ _ _ _ c.loop-reached.invariant _ _ _ _ _ (reaches_as c.in-Block.is c.in_ok-reached.ensures) _ c.opened-walk.ensures }

pub returns-in_err-behind-in-Block : goal.returns-in_err-behind-in-Block
returns-in_err-behind-in-Block c = let p = err_from_is_err_and c.from_residual-in_err-behind-in-Block.result c.from_residual-in_err-behind-in-Block.ensures.1 in rw (p.1, p.2) (walking_refused _ _ _ _ _ _ _ _ _ _ _ c.loop-reached.invariant _ _ _ _ _ (reaches_as c.in-Block.is c.in_ok-reached.ensures) _ c.opened-walk.ensures _ _ c.in_err-behind-in-Block.ensures)

pub loop-reached-smaller : goal.loop-reached-smaller
loop-reached-smaller c = walking_less _ _ _ _ _ _ _ _ _ _ _ c.loop-reached.invariant _ _ _ _ _ (reaches_as c.in-Block.is c.in_ok-reached.ensures) _ c.opened-walk.ensures _ _ _ c.in_ok-behind-in-Block.ensures

pub loop-reached-preserved : goal.loop-reached-preserved
loop-reached-preserved c = walking_on _ _ _ _ _ _ _ _ _ _ _ c.loop-reached.invariant _ _ _ _ _ (reaches_as c.in-Block.is c.in_ok-reached.ensures) _ c.opened-walk.ensures _ _ _ c.in_ok-behind-in-Block.ensures

-- `calls_absent` meets its contract. Assumes nothing.
use native.Mathlib.Omega.{arith}
use Rattle.presence.proofs.Searching.{absent_call, absent_first, absent_second, absent_other}
use Rattle.presence.proofs.calls_absent.Goals as goal

pub returns-in-67 : goal.returns-in-67
returns-in-67 c = search absent_call

pub returns-then-not-is_open : goal.returns-then-not-is_open
returns-then-not-is_open c = absent_first _ _ _ _ _ c.is_open-in-65.ensures c.in-65.is c.if-not-is_open.true

pub returns-else-not-is_open : goal.returns-else-not-is_open
returns-else-not-is_open c = absent_second _ _ _ _ _ _ c.is_open-in-65.ensures c.in-65.is c.if-not-is_open.false c.is_open-else-not-is_open.ensures

pub returns-in_default : goal.returns-in_default
returns-in_default c = absent_other _ _ _ _ (λ e. grind arith) (λ e. grind arith)

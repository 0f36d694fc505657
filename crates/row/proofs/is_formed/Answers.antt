-- `is_formed` meets its contract. Assumes nothing.
use Rattle.row.proofs.Forms.{form_pair, form_choice, form_one, form_block, form_used, form_none}
use native.Mathlib.Omega.{arith}
use Rattle.row.proofs.is_formed.Goals as goal

pub returns-in-77 : goal.returns-in-77
returns-in-77 c = form_pair _ _ _ _ c.in-77.is

pub returns-in-65 : goal.returns-in-65
returns-in-65 c = form_choice _ _ _ _ c.in-65.is

pub returns-in-83 : goal.returns-in-83
returns-in-83 c = form_one _ _ _ _ c.in-83.is

pub returns-then-one-eq0 : goal.returns-then-one-eq0
returns-then-one-eq0 c = search form_block

pub returns-else-one-eq0 : goal.returns-else-one-eq0
returns-else-one-eq0 c = search form_used

pub returns-in_default : goal.returns-in_default
returns-in_default c = form_none _ _ _ _ (λ e. grind arith) (λ e. grind arith) (λ e. grind arith) (λ e. grind arith) (λ e. grind arith) (λ e. grind arith)

-- `in_block` meets its contract. Assumes nothing.
use native.Mathlib.Omega.{arith}
use Rattle.place.proofs.Standing.{block_message, block_order, block_call, block_choice, block_next}
use borrow.Author.Rules.{rules}
use Rattle.place.proofs.in_block.Goals as goal

pub returns-in-77 : goal.returns-in-77
returns-in-77 c = search (block_message, rules)

pub returns-in-80 : goal.returns-in-80
returns-in-80 c = search (block_order, rules)

pub returns-in-67 : goal.returns-in-67
returns-in-67 c = search block_call

pub returns-in-65 : goal.returns-in-65
returns-in-65 c = search block_choice

pub returns-in_default : goal.returns-in_default
returns-in_default c =
    block_next _ _ _ _ _ c.requires.1 c.requires.2 c.requires.0 (λ e. grind arith) (λ e. grind arith) (λ e. grind arith) (λ e. grind arith)

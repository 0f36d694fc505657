-- `permitted::judge` meets its contract. Assumes nothing.
use native.Mathlib.Omega.{arith}
use borrow.Author.Rules.{rules}
use Rattle.permitted.proofs.Table.{text_unmeasured, table_refused, table_decides}
use Rattle.permitted.proofs.judge.Goals as goal

pub returns-then-is_empty : goal.returns-then-is_empty
returns-then-is_empty c = rw c.at.ensures (text_unmeasured _ _ _ _ _ c.is_empty.ensures c.then-is_empty.either)

pub returns-in-Err : goal.returns-in-Err
returns-in-Err c = table_refused _ _ _ _ _ c.is_empty.ensures c.if-is_empty.false (omega arith) _ c.in-Err.ensures

pub judge_rules-requires : goal.judge_rules-requires
judge_rules-requires c = record { words_len = search rules; code_lt_channels = search rules; count_le_rules_most = c.in-Ok.ensures.few }

pub returns-in-Ok : goal.returns-in-Ok
returns-in-Ok c = table_decides _ _ _ _ _ c.is_empty.ensures c.if-is_empty.false (omega arith) _ c.in-Ok.ensures _ _ c.judge_rules.ensures

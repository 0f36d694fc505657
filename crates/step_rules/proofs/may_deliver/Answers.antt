-- `may_deliver` meets its contract: under way, and the further condition, in this order. Assumes nothing.
use Prim.Native.Nat.{◌+◌, ◌*◌}
use native.Mathlib.Omega.{arith}
use Rattle.step_rules.proofs.StepKinds.{deliver_absent, deliver_ruled}
use borrow.Author.Rules.{rules}
use Rattle.step_rules.proofs.may_deliver.Goals as goal

pub returns-then-not-test : goal.returns-then-not-test
returns-then-not-test c = deliver_absent _ _ _ _ c.args.scenario.now.standing _ c.requires.m_lt_count c.args.c _ _ c.if-not-test.true c.test.ensures

pub deliver_rule-requires : goal.deliver_rule-requires
deliver_rule-requires c = let target = c.args.scenario.now.standing.boards_below (2 * c.args.m + 1) (omega arith) in
    search rules

pub returns : goal.returns
returns c = deliver_ruled _ _ _ _ c.args.scenario.now.standing _ c.requires.m_lt_count c.args.c _ _ _ _ c.deliver_rule.ensures c.if-not-test.false
    c.test.ensures c.board_of-target.ensures

-- `rules::deliver_rule` meets its contract, condition by condition.
use Rattle.rules.proofs.Conditions.{deliver_rule_always, deliver_rule_ordered, deliver_rule_alone}
use Rattle.rules.proofs.deliver_rule.Goals as goal

pub returns-in-Always : goal.returns-in-Always
returns-in-Always c = search (deliver_rule_always, c.in-Always.is)

pub returns-in-InOrder : goal.returns-in-InOrder
returns-in-InOrder c = search (deliver_rule_ordered, c.in-InOrder.is)

pub returns-in-Alone : goal.returns-in-Alone
returns-in-Alone c = search (deliver_rule_alone, c.in-Alone.is)

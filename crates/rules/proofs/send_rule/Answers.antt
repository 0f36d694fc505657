-- `rules::send_rule` meets its contract, condition by condition.
use Rattle.rules.proofs.Conditions.{send_rule_always, send_rule_earlier, send_rule_empty}
use Rattle.rules.proofs.send_rule.Goals as goal

pub returns-in-Always : goal.returns-in-Always
returns-in-Always c = search (send_rule_always, c.in-Always.is)

pub returns-in-NoEarlierUnderWay : goal.returns-in-NoEarlierUnderWay
returns-in-NoEarlierUnderWay c = search (send_rule_earlier, c.in-NoEarlierUnderWay.is)

pub returns-in-ChannelEmpty : goal.returns-in-ChannelEmpty
returns-in-ChannelEmpty c = search (send_rule_empty, c.in-ChannelEmpty.is)

-- `may_send` meets its contract: ready, and the further condition, in this order.
use Rattle.step_rules.proofs.StepKinds.{send_unready, send_ruled}
use Rattle.step_rules.proofs.may_send.Goals as goal

pub returns-in-Ready : goal.returns-in-Ready
returns-in-Ready c = search send_ruled

pub returns-in_default : goal.returns-in_default
returns-in_default c = search (send_unready, c.in_default.not-Ready)

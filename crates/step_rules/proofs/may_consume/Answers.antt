-- `may_consume` meets its contract: held, and ready. Assumes nothing.
use Rattle.step_rules.proofs.StepKinds.{consume_absent, consume_ready, consume_unready}
use Rattle.step_rules.proofs.may_consume.Goals as goal

pub returns-then-not-test : goal.returns-then-not-test
returns-then-not-test c = search consume_absent

pub returns-in-Ready : goal.returns-in-Ready
returns-in-Ready c = search consume_ready

pub returns-in_default : goal.returns-in_default
returns-in_default c = search (consume_unready, c.in_default.not-Ready)

-- `allowed_by` meets its contract. Assumes nothing.
use borrow.Author.Rules.{rules}
use Rattle.step.specs.declared.Step.TheVariants.{Send, Deliver, Consume}
use Rattle.step_rules.proofs.StepKinds.{inside, step_sends, step_delivers, step_consumes}
use Rattle.step_rules.proofs.allowed_by.Goals as goal

pub may_send-requires : goal.may_send-requires
may_send-requires c = record { m_lt_count = search (inside Send) }

pub may_deliver-requires : goal.may_deliver-requires
may_deliver-requires c = record { m_lt_count = search (inside Deliver) }

pub may_consume-requires : goal.may_consume-requires
may_consume-requires c = record { m_lt_count = (search (inside Consume), search rules) }

pub returns-in-Send : goal.returns-in-Send
returns-in-Send c = search step_sends

pub returns-in-Deliver : goal.returns-in-Deliver
returns-in-Deliver c = search step_delivers

pub returns-in-Consume : goal.returns-in-Consume
returns-in-Consume c = search step_consumes

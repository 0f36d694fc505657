-- `standing::is_held_up` meets its contract. Assumes nothing.
use Rattle.standing.proofs.AtEnd.{may_send, may_deliver, may_consume, no_value}
use Rattle.standing.proofs.is_held_up.Goals.{then-not-may_step, else-not-may_step}
use Rattle.standing.proofs.is_held_up.Goals as goal

pub returns-then-not-may_step-2 : goal.returns-then-not-may_step-2
returns-then-not-may_step-2 c = elim c.if-not-may_step.branch [
  | then-not-may_step w ↦ search may_consume
  | else-not-may_step w ↦ absurd (no_value _ _ w.if-not-may_step.false w.value-is c.if-not-may_step-2.true)
]

pub returns-else-not-may_step-2 : goal.returns-else-not-may_step-2
returns-else-not-may_step-2 c = elim c.if-not-may_step.branch [
  | then-not-may_step w ↦ search may_deliver
  | else-not-may_step w ↦ search may_send
]

-- The code's classes of steps as the model's. Assumes nothing.
use Rattle.std.specs.Prelude.{ℕ}
use Rattle.model.specs.Order.{Scenario}
use Rattle.model.specs.Schedule as plan
use Rattle.step.specs.declared.Step.{Step}
use Rattle.step.specs.declared.Step.TheVariants.{Send, Deliver, Consume}
use Rattle.step_classes.specs.declared.Class.{Class}
use Rattle.step_classes.specs.declared.Class.TheVariants.{AnyConsume, DeliveryOf, NeededDelivery, NeededSend, AnyDelivery, AnySend}

-- a class of the schedule for e
abbrev pub class_in : Scenario → ℕ → Class → plan.Class
class_in S e AnyConsume = plan.any_consume
class_in S e DeliveryOf = plan.delivery_of e
class_in S e NeededDelivery = plan.needed_delivery S e
class_in S e NeededSend = plan.needed_send S e
class_in S e AnyDelivery = plan.any_delivery
class_in S e AnySend = plan.any_send

-- the step of a class on message m
abbrev pub step_for : Class → ℕ → Step
step_for AnyConsume m = Consume m
step_for DeliveryOf m = Deliver m
step_for NeededDelivery m = Deliver m
step_for NeededSend m = Send m
step_for AnyDelivery m = Deliver m
step_for AnySend m = Send m

-- The classes, one by one. Assumes nothing.
use mathlib.Core.Path.{◌≡◌, refl, sym, ◌∙◌, ap, ap₂}
use mathlib.Core.Bool.{Bool}
use mathlib.Core.List.{List, [], ◌∷◌}
use Prim.Native.Nat.{ℕ, ◌+◌, ◌*◌, ◌<◌}
use native.Mathlib.Omega.{arith}
use lib.ListN.{get_or}
use denote.Enum.Declared.{tag_of}
use Rattle.model.specs.Order.{event, at_or_before, Scenario}
use Rattle.model.proofs.Events.{send_event, receive_event}
use Rattle.relation.specs.Width.{width}
use Rattle.relation.specs.Rows.{holds}
use Rattle.relation.specs.Scenario.{scenario_in}
use Rattle.relation.proofs.Scenario.{before_at}
use Rattle.step.specs.Steps.{step_in, message_in}
use Rattle.step_classes.specs.declared.Class.{Class}
use Rattle.step_classes.specs.declared.Class.TheVariants.{AnyConsume, DeliveryOf, NeededDelivery, NeededSend, AnyDelivery, AnySend}
use Rattle.step_classes.specs.Classes.{class_in, step_for}
use Rattle.step_classes.specs.contracts.Class.{the_type}

-- what each return of `takes` is to show
module _ (count : ℕ) (boards words : List ℕ) (e : ℕ) (q : Class) (m : ℕ) where
  pub takes_delivery : (r : Bool) → q ≡ NeededDelivery → r ≡ holds width words (2 * e) (2 * m + 1) → (e < count) × (m < count)
      → r ≡ (class_in (scenario_in count boards words) e q).takes m
  takes_delivery r i h l =
      h ∙ sym (before_at count boards words (2 * m + 1) (2 * e) (omega arith) (omega arith))
      ∙ ap₂ (λ x y. (scenario_in count boards words).before x y) (receive_event m) (send_event e)
      ∙ ap (λ k. (class_in (scenario_in count boards words) e k).takes m) (sym i)

  pub takes_send : (r : Bool) → q ≡ NeededSend → r ≡ at_or_before (scenario_in count boards words) (event (2 * m)) (event (2 * e))
      → r ≡ (class_in (scenario_in count boards words) e q).takes m
  takes_send r i h =
      h ∙ ap₂ (λ x y. at_or_before (scenario_in count boards words) x y) (send_event m) (send_event e)
      ∙ ap (λ k. (class_in (scenario_in count boards words) e k).takes m) (sym i)

-- a class is known by its tag
abbrev class_at : ℕ → Class
class_at n = get_or (AnyConsume ∷ DeliveryOf ∷ NeededDelivery ∷ NeededSend ∷ AnyDelivery ∷ AnySend ∷ []) n AnyConsume

class_at_holds : (q : Class) → class_at (tag_of the_type q) ≡ q
class_at_holds AnyConsume = refl
class_at_holds DeliveryOf = refl
class_at_holds NeededDelivery = refl
class_at_holds NeededSend = refl
class_at_holds AnyDelivery = refl
class_at_holds AnySend = refl

class_of : (q k : Class) → tag_of the_type q ≡ tag_of the_type k → q ≡ k
class_of q k t = sym (class_at_holds q) ∙ ap class_at t ∙ class_at_holds k

-- the step of a class is the model's, and its message is m
pub step_is : (S : Scenario) (e : ℕ) (q : Class) (m : ℕ) → step_in (step_for q m) ≡ (class_in S e q).step m
step_is S e AnyConsume m = refl
step_is S e DeliveryOf m = refl
step_is S e NeededDelivery m = refl
step_is S e NeededSend m = refl
step_is S e AnyDelivery m = refl
step_is S e AnySend m = refl

pub message_is : (q : Class) (m : ℕ) → message_in (step_for q m) ≡ m
message_is AnyConsume m = refl
message_is DeliveryOf m = refl
message_is NeededDelivery m = refl
message_is NeededSend m = refl
message_is AnyDelivery m = refl
message_is AnySend m = refl

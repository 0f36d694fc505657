-- Where a run stands: the two searches over the messages. Assumes nothing.
use mathlib.Core.Path.{◌≡◌, refl, sym, ◌∙◌, subst}
use mathlib.Core.Bool.{Bool, true, false, not, ◌&&◌}
use mathlib.Core.List.{List}
use Prim.Native.Nat.{ℕ, ◌+◌, ◌*◌, ◌<◌, ◌≤◌}
use native.Mathlib.Numerals.{add-one}
use native.Mathlib.Omega.{arith}
use borrow.Author.Tests.{not-true, not-false}
use Rattle.model.specs.Bounded.{every}
use Rattle.model.specs.Run.{no_step, finished, every_event, stuck}
use Rattle.model.specs.Order.{number}
use Rattle.model.specs.Replay.{standing}
use Rattle.model.proofs.Bounded.{and_both, every_fails}
use Rattle.relation.specs.Width.{width}
use Rattle.relation.specs.Rows.{holds}
use Rattle.relation.specs.Scenario.{scenario_in}
use Rattle.channel_table.specs.declared.Channel.{Channel}
use Rattle.channel_table.specs.Table.{channel_in}
use Rattle.run.specs.declared.Run.{Run}
use Rattle.step.specs.declared.Step.TheVariants as step
use Rattle.run.specs.State.{in_row, state_of}
use Rattle.buffers.specs.Held.{HeldIn}
use Rattle.channel.specs.Steps.{SaysIn}
use Rattle.standing.specs.Bridge.{stand_in, all_done, no_step_at, SaysNoStep}
use Rattle.standing.specs.declared.Stand.TheVariants.{Finished, Stuck, Open}

-- so far every number passes
pub record Passing (count : ℕ) (p : ℕ → Bool) (i : ℕ) : Type 0 where
  pub within : i ≤ count
  pub passed : every i p ≡ true

module _ (count : ℕ) (p : ℕ → Bool) where
  passing_start : Passing count p 0
  unfolding every
  passing_start = record { within = omega arith; passed = refl }

  passing_more : (i : ℕ) → Passing count p i → i < count → p i ≡ true → Passing count p (i + 1)
  unfolding every
  passing_more i P l h = record { within = omega arith; passed = rw add-one (and_both (every i p) (p i) P.passed h) }

  passing_end : (i : ℕ) → Passing count p i → count ≤ i → true ≡ every count p
  passing_end i P l = let e : i ≡ count = omega (arith, P.within) in sym (subst (λ (n : ℕ). every n p ≡ true) e P.passed)

  failing : (i : ℕ) → i < count → p i ≡ false → false ≡ every count p
  failing i l h = sym (every_fails count p i l h)

and_false : (a : Bool) → (a && false) ≡ false
and_false true = refl
and_false false = refl

-- the search for an event that is not done
module _ (done : List ℕ) (count : ℕ) where
  abbrev pub Finishing : ℕ → Type 0
  Finishing m = Passing count (λ k. in_row done (2 * k) && in_row done (2 * k + 1)) m

  pub finishing_starts : Finishing 0
  finishing_starts = passing_start count _

  pub send_undone : (m : ℕ) (t : Bool) → t ≡ false → t ≡ holds width done 0 (2 * m) → m < count → false ≡ all_done count done
  send_undone m t f h l = failing count _ m l (rw (← h, f))

  pub receive_undone : (m : ℕ) (t : Bool) → t ≡ false → t ≡ holds width done 0 (2 * m + 1) → m < count → false ≡ all_done count done
  receive_undone m t f h l = failing count _ m l (rw (← h, f) (and_false (in_row done (2 * m))))

  pub both_done : (m : ℕ) (t u : Bool) → t ≡ true → t ≡ holds width done 0 (2 * m) → u ≡ true → u ≡ holds width done 0 (2 * m + 1)
      → m < count → Finishing m → Finishing (m + 1)
  both_done m t u f h g k l P =
      passing_more count _ m P l (and_both (in_row done (2 * m)) (in_row done (2 * m + 1)) (sym h ∙ f) (sym k ∙ g))

  pub all_done_holds : (m : ℕ) → Finishing m → count ≤ m → true ≡ all_done count done
  all_done_holds m P l = passing_end count _ m P l

pub no_value : (p v : Bool) → p ≡ true → v ≡ not p → v ≡ true → ⊥
no_value true v e f g = cc
no_value false v e f g = cc

-- What each return of `is_held_up` is to show.
module _ (count : ℕ) (on words : List ℕ) (c : Channel) (done way rows : List ℕ) where
  module _ (m : ℕ) where
    pub may_send : (p v : Bool) → p ≡ true → v ≡ false → SaysIn count on words c done way rows (step.Send m) p → SaysNoStep count on words c done way rows m v
    may_send p v e i h run d w s = rw (i, ← h run d w s, e)

    pub may_deliver : (p q v : Bool) → p ≡ false → v ≡ not q → v ≡ false → SaysIn count on words c done way rows (step.Send m) p
        → SaysIn count on words c done way rows (step.Deliver m) q → SaysNoStep count on words c done way rows m v
    may_deliver p q v e f i g h run d w s = rw (i, ← g run d w s, ← h run d w s, e, sym f ∙ i)

    pub may_consume : (p q r v : Bool) → p ≡ false → v ≡ not q → v ≡ true → SaysIn count on words c done way rows (step.Send m) p
        → SaysIn count on words c done way rows (step.Deliver m) q → SaysIn count on words c done way rows (step.Consume m) r
        → SaysNoStep count on words c done way rows m (not r)
    may_consume p q r v e f j g h i run d w s = rw (← g run d w s, ← h run d w s, ← i run d w s, e, sym f ∙ j)

-- the search for a message that may move, in every run with these parts
module _ (count : ℕ) (on words : List ℕ) (c : Channel) (done way rows : List ℕ) where
  pub record WithoutStep (m : ℕ) : Type 0 where
    pub within : m ≤ count
    pub passed : (run : Run) → run.done ≡ done → run.way ≡ way → HeldIn run rows → every m (no_step_at count on words c run) ≡ true

  pub without_step_starts : WithoutStep 0
  unfolding every
  without_step_starts = record { within = omega arith; passed = λ run d w h. refl }

  module _ (m : ℕ) (r : Bool) (says : SaysNoStep count on words c done way rows m r) where
    pub step_left : (run : Run) → not r ≡ true → m < count → run.done ≡ done → run.way ≡ way → HeldIn run rows
        → false ≡ no_step (scenario_in count on words) (channel_in c) (state_of run)
    unfolding no_step
    step_left run f l d w h = sym (every_fails count _ m l (sym (says run d w h) ∙ not-true r f))

    pub no_step_more : not r ≡ false → m < count → WithoutStep m → WithoutStep (m + 1)
    unfolding every
    no_step_more f l P =
        record {
          within = omega arith;
          passed = λ run d w h.
              rw add-one (and_both (every m (no_step_at count on words c run)) _ (P.passed run d w h) (sym (says run d w h) ∙ not-false r f));
        }

  pub no_step_at_all : (run : Run) (m : ℕ) → WithoutStep m → count ≤ m → run.done ≡ done → run.way ≡ way → HeldIn run rows
      → true ≡ no_step (scenario_in count on words) (channel_in c) (state_of run)
  unfolding no_step
  no_step_at_all run m P l d w h =
      let e : m ≡ count = omega (arith, P.within) in
      sym (subst (λ (n : ℕ). every n (no_step_at count on words c run) ≡ true) e (P.passed run d w h))

-- where the run stands
module _ (count : ℕ) (on words : List ℕ) (c : Channel) (run : Run) where
  finished_by : (b : Bool) → b ≡ all_done count run.done → finished (scenario_in count on words) (state_of run) ≡ b
  unfolding finished every_event number
  finished_by b h = sym h

  pub stands_finished : (b : Bool) → b ≡ true → b ≡ all_done count run.done → stand_in Finished ≡ standing (scenario_in count on words) (channel_in c) (state_of run)
  unfolding standing
  stands_finished b t h = rw (finished_by b h, t)

  module _ (b k : Bool) (f : b ≡ false) (h : b ≡ all_done count run.done) (i : k ≡ no_step (scenario_in count on words) (channel_in c) (state_of run)) where
    pub stands_stuck : k ≡ true → stand_in Stuck ≡ standing (scenario_in count on words) (channel_in c) (state_of run)
    unfolding standing stuck
    stands_stuck t = rw (finished_by b h, f, ← i, t)

    pub stands_open : k ≡ false → stand_in Open ≡ standing (scenario_in count on words) (channel_in c) (state_of run)
    unfolding standing stuck
    stands_open t = rw (finished_by b h, f, ← i, t)

-- What the parts of the calls are to show, from what their own parts handed on. Assumes nothing.
use Rattle.std.specs.Prelude as code
use Rattle.std.specs.Prelude.{Err}
use Rattle.outcome.specs.declared.Refusal.{Refusal}
use mathlib.Core.Path.{◌≡◌, refl, sym, ◌∙◌, ap, subst}
use mathlib.Core.Bool.{Bool, true, false}
use mathlib.Core.List.{List}
use Prim.Native.Nat.{ℕ, ◌*◌, ◌^◌, ◌<◌, ◌≤◌}
use native.Mathlib.Omega.{arith}
use lib.ListN.{length}
use Rattle.model.specs.Limits.{rows_most}
use Rattle.model.specs.Refusal.{Out}
use Rattle.model.specs.Place.{line_of}
use Rattle.model.specs.Order.{Scenario}
use Rattle.model.specs.Channel.{channel_of}
use Rattle.model.specs.Run.{next, allowed}
use Rattle.model.specs.Monitor as model
use Rattle.model.specs.Monitor.{is_barred, may_take, taking}
use Rattle.model.proofs.Lines.{Well, sheet_well}
use Rattle.model.proofs.Bounded.{not_both}
use Rattle.relation.specs.Width.{width}
use Rattle.relation.specs.Scenario.{scenario_in}
use Rattle.scenario.specs.Contract.{Fit, SheetIn}
use Rattle.scenario.proofs.Laws.{sheet_refused}
use Rattle.channel_table.specs.declared.Channel.{Channel}
use Rattle.channel_table.specs.Table.{channel_in}
use Rattle.board.specs.Masks.{mask_rows, MasksOf, Standing}
use Rattle.step.specs.declared.Step.{Step}
use Rattle.step.specs.Steps.{step_in, step_or_none}
use Rattle.run.specs.declared.Run.{Run}
use Rattle.run.specs.State.{state_of, run_of, OnlySends, Reaches}
use Rattle.run.proofs.States.{reaches}
use Rattle.run.proofs.Typed.{Typed}
use Rattle.run.proofs.Written.{run_back}
use Rattle.next_state.specs.Behind.{NextRun}
use Rattle.model.proofs.Rules.{allowed_inside}
use Rattle.step_rules.specs.Steps.{Says}
use Rattle.monitor.specs.declared.Monitor.{Monitor}
use Rattle.monitor.specs.Bridge.{held_in, monitor_of, forbidden_as, taken_as, Takes}

abbrev Reply : Type 0
Reply = model.MonitorAnswer Monitor

-- What the way to the scenario hands on.
pub line_small : (text boards words : List ℕ) (e : Refusal) → SheetIn text boards words (Err e) → e.line < 2 ^ 32
line_small text boards words e p =
    let w = subst (λ (o : Out Scenario). Well (line_of rows_most) o) (sheet_refused text boards words (Err e) p e refl) (sheet_well text) in
    omega (arith, w.within)

-- What the step told comes to.
module _ (count : ℕ) (on words : List ℕ) (m : Monitor) (t : code.Option Step) (r : Reply) where
  abbrev S : Scenario
  S = scenario_in count on words

  forbid : may_take S (held_in m) (step_or_none t) ≡ false → r ≡ forbidden_as m → Takes S m (step_or_none t) r
  forbid f e = record { taken = λ y. not_both (may_take S (held_in m) (step_or_none t)) y f; monitor = λ y. not_both (may_take S (held_in m) (step_or_none t)) y f; forbidden = λ n. e }

  pub none_told : t ≡ code.None → r ≡ forbidden_as m → Takes S m (step_or_none t) r
  unfolding may_take
  none_told i e = forbid (ap (λ (u : code.Option Step). may_take S (held_in m) (step_or_none u)) i) e

  module _ (s : Step) (i : t ≡ code.Some s) (c : Channel) (b : Bool) (says : Says count on words c m.run s b)
      (k : channel_in c ≡ channel_of m.code) where
    may : may_take S (held_in m) (step_or_none t) ≡ b
    unfolding may_take
    may =
        ap (λ (u : code.Option Step). may_take S (held_in m) (step_or_none u)) i
        ∙ ap (λ q. allowed S q (state_of m.run) (step_in s)) (sym k) ∙ sym says

    pub step_forbidden : b ≡ false → r ≡ forbidden_as m → Takes S m (step_or_none t) r
    step_forbidden f e = forbid (may ∙ f) e

    pub step_taken : (run : Run) → b ≡ true → NextRun on m.run (step_in s) run → Typed run → r ≡ taken_as run m.code
        → Takes S m (step_or_none t) r
    unfolding taking
    step_taken run n follows typed e =
        let told : taking S (held_in m) (step_or_none t) ≡ record { state = next S (state_of m.run) (step_in s); code = m.code }
        = ap (λ (u : code.Option Step). taking S (held_in m) (step_or_none u)) i in
        let words : OnlySends m.run → run ≡ run_of (next S (state_of m.run) (step_in s))
        = λ only. run_back run typed (follows.sends only) ∙ ap run_of (follows.state count words) in
        record {
          taken = λ y. (ap (λ (a : Reply). a.word) e, ap (λ (a : Reply). a.one) e, ap (λ (a : Reply). a.two) e);
          monitor = λ y only.
              ap (λ (a : Reply). a.next) e ∙ ap (λ (q : Run). record { run = q; code = m.code }) (words only) ∙ ap monitor_of (sym told);
          forbidden = λ f. not_both true (sym (may ∙ n) ∙ may ∙ n) (sym (may ∙ n) ∙ f);
        }

-- the masks beside what the way to the scenario handed on
pub stands : (count : ℕ) (boards words masks : List ℕ) → Fit count boards words → mask_rows * width ≤ length masks → MasksOf count boards masks
    → Standing count boards words masks
stands count boards words masks f l m =
    record {
      few = f.few;
      boards_long = omega (arith, f.boards_long, f.few);
      words_long = omega (arith, f.words_long, f.few);
      masks_long = l;
      boards_below = f.boards_below;
      masks_of = m;
    }

-- what the masks are made from
pub masks_wanted : (count : ℕ) (boards words : List ℕ) → Fit count boards words → 2 * count ≤ length boards
masks_wanted count boards words f = omega (arith, f.boards_long, f.few)

-- a step that is allowed is on a message that has a sender and a receiver
pub step_reaches : (count : ℕ) (on words masks : List ℕ) (c : Channel) (run : Run) (s : Step) (b : Bool) → Says count on words c run s b → b ≡ true
    → Fit count on words → mask_rows * width ≤ length masks → MasksOf count on masks → Reaches on s
step_reaches count on words masks c run s b says n f l m =
    reaches count on words masks s (stands count on words masks f l m)
    (allowed_inside (scenario_in count on words) (channel_in c) (state_of run) (step_in s) (sym says ∙ n))

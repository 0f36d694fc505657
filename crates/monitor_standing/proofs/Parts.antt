-- What the parts of the call are to show, from what their own parts handed on. Assumes nothing.
use Rattle.std.specs.Prelude.{Ok, Err}
use mathlib.Core.Path.{◌≡◌, refl, sym, ◌∙◌, ap, subst⁻¹, fun_ext}
use mathlib.Core.Bool.{Bool, true, false, cond}
use mathlib.Core.List.{List}
use Prim.Native.Nat.{ℕ}
use lib.Dec.{eqb}
use lib.ListN.{replicate}
use Rattle.model.specs.Limits.{boards}
use Rattle.model.specs.Refusal.{Out, ok}
use Rattle.model.specs.Order.{Scenario}
use Rattle.model.specs.Channel.{channel_of}
use Rattle.model.specs.Run.{finished, stuck}
use Rattle.model.specs.Answer.{sheet_of}
use Rattle.model.specs.Replay.{Replay, finishes, sticks, open', not_allowed, refused, standing}
use Rattle.model.specs.Waits.{no_wait, wait_of, each_board}
use Rattle.model.specs.Monitor.{Held}
use Rattle.model.specs.Standing.{finished_word, stuck_word, open_word, refused_word, stands_at, standing_answer, standing_wait}
use Rattle.relation.specs.Scenario.{scenario_in}
use Rattle.outcome.specs.declared.Refusal.{Refusal}
use Rattle.scenario.specs.Contract.{SheetIn}
use Rattle.scenario.proofs.Laws.{sheet_refused, sheet_is}
use Rattle.channel_table.specs.declared.Channel.{Channel}
use Rattle.channel_table.specs.Table.{channel_in}
use Rattle.run.specs.State.{state_of}
use Rattle.standing.specs.declared.Stand.{Stand}
use Rattle.standing.specs.declared.Stand.TheVariants as stand
use Rattle.standing.specs.Bridge.{stand_in}
use Rattle.monitor.specs.declared.Monitor.{Monitor}
use Rattle.monitor.specs.Bridge.{held_in}
use Rattle.monitor_standing.specs.declared.Stood.{Stood}
use Rattle.monitor_standing.specs.Bridge.{word_of, answer_of, Tells}

-- the word of a verdict on a run's state
abbrev word_for : Replay → ℕ
word_for finishes = finished_word
word_for sticks = stuck_word
word_for open' = open_word
word_for (not_allowed i) = open_word
word_for (refused number line) = refused_word

stands_word : (S : Scenario) (h : Held) → stands_at S h ≡ word_for (standing S (channel_of h.code) h.state)
unfolding stands_at standing
stands_word S h = go (finished S h.state) (stuck S (channel_of h.code) h.state)
  where
    go : (f s : Bool) → cond f finished_word (cond s stuck_word open_word) ≡ word_for (cond f finishes (cond s sticks open'))
    go true s = refl
    go false true = refl
    go false false = refl

-- What the way to the scenario hands on.
module _ (text boards words : List ℕ) where
  pub sheet_refuses : (e : Refusal) (m : Monitor) → SheetIn text boards words (Err e) → Tells (sheet_of text) (held_in m) (answer_of (Err e))
  unfolding standing_answer standing_wait each_board
  sheet_refuses e m p =
      subst⁻¹ (λ (o : Out Scenario). Tells o (held_in m) (answer_of (Err e))) (sheet_refused text boards words (Err e) p e refl) (record { numbers = refl; waits = refl })

  pub sheet_stands : (count : ℕ) (m : Monitor) (s : Stood) → SheetIn text boards words (Ok count) → Tells (ok (scenario_in count boards words)) (held_in m) (answer_of (Ok s))
      → Tells (sheet_of text) (held_in m) (answer_of (Ok s))
  sheet_stands count m s p h =
      subst⁻¹ (λ (o : Out Scenario). Tells o (held_in m) (answer_of (Ok s))) (sheet_is text boards words (Ok count) p count refl) h

no_waits : replicate boards no_wait ≡ each_board boards (λ b. no_wait)
unfolding each_board
no_waits = refl

-- Where the run stands.
module _ (S : Scenario) (m : Monitor) (c : Channel) (k : channel_in c ≡ channel_of m.code) (d : Stand)
    (says : stand_in d ≡ standing S (channel_in c) (state_of m.run)) where
  word_is : stands_at S (held_in m) ≡ word_of d
  word_is = stands_word S (held_in m) ∙ ap word_for (ap (λ q. standing S q (state_of m.run)) (sym k) ∙ sym says) ∙ same d
    where
      same : (e : Stand) → word_for (stand_in e) ≡ word_of e
      same stand.Finished = refl
      same stand.Stuck = refl
      same stand.Open = refl

  waiting : (row : List ℕ) (f : ℕ → ℕ) → (λ b. cond (eqb (stands_at S (held_in m)) stuck_word) (wait_of S (state_of m.run) b) no_wait) ≡ f
      → row ≡ each_board boards f → Tells (ok S) (held_in m) (answer_of (Ok (record { stand = d; waits = row })))
  unfolding standing_answer standing_wait
  waiting row f all e =
      record { numbers = ap (λ (x : ℕ). record { word = x; one = 0; two = 0 }) (sym word_is); waits = e ∙ ap (each_board boards) (sym all) }

  pub stands_stuck : (row : List ℕ) → d ≡ stand.Stuck → row ≡ each_board boards (wait_of S (state_of m.run))
      → Tells (ok S) (held_in m) (answer_of (Ok (record { stand = d; waits = row })))
  stands_stuck row i e = waiting row (wait_of S (state_of m.run)) (fun_ext (λ b. rw (word_is ∙ ap word_of i))) e

  pub stands_elsewhere : (row : List ℕ) → (d ≡ stand.Stuck → ⊥) → row ≡ replicate boards no_wait
      → Tells (ok S) (held_in m) (answer_of (Ok (record { stand = d; waits = row })))
  stands_elsewhere row n e = waiting row (λ b. no_wait) (fun_ext (λ b. rw (word_is, none d n))) (e ∙ no_waits)
    where
      none : (e : Stand) → (e ≡ stand.Stuck → ⊥) → eqb (word_of e) stuck_word ≡ false
      none stand.Finished f = refl
      none stand.Stuck f = absurd (f refl)
      none stand.Open f = refl

-- Where a monitored run stands: what is held after any list of calls is a state of phases, so that the numbers of a stuck run are right, whatever codes
-- were switched to. Assumes nothing.
use Prim.Native.Nat.{ℕ, ◌<◌}
use mathlib.Core.Path.{◌≡◌, refl, sym, ◌∙◌, ap, subst, subst⁻¹}
use mathlib.Core.Bool.{Bool, true, false, cond}
use mathlib.Core.List.{List, [], ◌∷◌}
use mathlib.Core.Option.{Option, none, some}
use borrow.Author.Tests.{eq-eqb, ne_eqb}
use lib.Dec.{eqb, ltb}
use lib.ListN.{length, get_or}
use Rattle.model.specs.Limits.{boards, channels, scratch_least}
use Rattle.model.specs.Refusal.{Out, ok, refusal}
use Rattle.model.specs.Order.{Scenario}
use Rattle.model.specs.Channel.{channel_of}
use Rattle.model.specs.Run.{State, Step, next, allowed}
use Rattle.model.specs.Schedule.{message_of_step, step_told}
use Rattle.model.specs.Answer.{sheet_of, scratch_behind}
use Rattle.model.specs.Waits.{no_wait, wait_of, each_board, Says}
use Rattle.model.specs.Monitor.{Held, taken_word, forbidden_word, Call, step, switch, watchable, may_take, taking, word_to, leaving, behind, held_from, fresh}
use Rattle.model.specs.Monitor as monitor
use Rattle.model.specs.Standing.{StandingNumbers, stuck_word, stands_at, standing_answer, standing_wait, Stands}
use Rattle.model.proofs.Accepted.{sheet_causal, sheet_count, sheet_meets}
use Rattle.model.proofs.Causal.{Causal}
use Rattle.model.proofs.Phases.{bump, view, view_start, view_next}
use Rattle.model.proofs.Rules.{may_use}
use Rattle.model.proofs.Invariants.{may_phase}
use Rattle.model.proofs.Monitor.{Inside, list_inside, watch_parts}
use Rattle.model.proofs.Waits.{wait_says, board_at}

-- a state of phases
record IsView (S : Scenario) (s : State) : Type 0 where
  phases : ℕ → ℕ
  state : s ≡ view S phases

module _ (S : Scenario) (C : Causal S) where
  next_view : (h : Held) (t : Step) → allowed S (channel_of h.code) h.state t ≡ true → IsView S h.state → IsView S (next S h.state t)
  next_view h t a v =
      let c = channel_of h.code in
      let M = may_use S v.phases c C t (subst (λ s. allowed S c s t ≡ true) v.state a) in
      record {
        phases = bump v.phases (message_of_step t);
        state = ap (λ s. next S s t) v.state ∙ view_next S v.phases t (may_phase S C c v.phases t M);
      }

  behind_view : (h : Held) (c : Call) → IsView S h.state → IsView S (behind S h c).state
  unfolding behind word_to leaving may_take taking
  behind_view h (step kind m scratch_length) v = go (ltb scratch_length scratch_least) (step_told kind m) (may_take S h (step_told kind m)) refl
    where
      go : (short : Bool) (told : Option Step) (may : Bool) → may_take S h told ≡ may
          → IsView S (cond (eqb (cond short monitor.refused_word (cond may taken_word forbidden_word)) taken_word) (taking S h told) h).state
      go true told may e = v
      go false none true e = v
      go false none false e = v
      go false (some t) true e = next_view h t e v
      go false (some t) false e = v
  behind_view h (switch code scratch_length) v = go (eqb (word_to S h (switch code scratch_length)) taken_word)
    where
      go : (b : Bool) → IsView S (cond b (record { state = h.state; code = code }) h).state
      go true = v
      go false = v

  from_view : (cs : List Call) (h : Held) → IsView S h.state → IsView S (held_from S h cs).state
  unfolding held_from
  from_view [] h v = v
  from_view (c ∷ cs) h v = from_view cs (behind S h c) (behind_view h c v)

-- so each number of a board is right for what any list of calls leaves
list_says : (text : List ℕ) (S : Scenario) → sheet_of text ≡ ok S → (code : ℕ) (cs : List Call) (b : ℕ)
    → Says S (held_from S (fresh code) cs).state b (wait_of S (held_from S (fresh code) cs).state b)
list_says text S e code cs b =
    let v = from_view S (sheet_causal text S e) cs (fresh code) (record { phases = λ m. 0; state = view_start S }) in
    subst⁻¹ (λ (s : State). Says S s b (wait_of S s b)) v.state (wait_says S v.phases (sheet_count text S e) b)

module _ {M : Type 0} (held : M → Held) (words_of : Held → M) (back : (h : Held) → Inside h → held (words_of h) ≡ h)
    (m : M) (text scratch scratch_exit : List ℕ) (r : StandingNumbers) (waits : List ℕ) where
  abbrev outcome : Out Scenario
  outcome = watchable text (held m).code (length scratch)

  wait_at : waits ≡ each_board boards (standing_wait outcome (held m)) → (b : ℕ) → b < boards → get_or waits b 0 ≡ standing_wait outcome (held m) b
  wait_at w b l = ap (λ (ws : List ℕ). get_or ws b 0) w ∙ board_at boards (standing_wait outcome (held m)) b l

  elsewhere : (o : Out Scenario) → (standing_answer o (held m)).word ≡ r.word → (r.word ≡ stuck_word → ⊥) → (b : ℕ) → standing_wait o (held m) b ≡ no_wait
  unfolding standing_answer standing_wait
  elsewhere (ok S) e n b = rw (ne_eqb (stands_at S (held m)) stuck_word (λ i. n (sym e ∙ i)))
  elsewhere (refusal number line) e n b = refl

  of_the_run_holds : r ≡ standing_answer outcome (held m) → waits ≡ each_board boards (standing_wait outcome (held m))
      → (S : Scenario) (code : ℕ) (cs : List Call) → outcome ≡ ok S → code < channels → m ≡ words_of (held_from S (fresh code) cs)
      → (r.word ≡ stands_at S (held_from S (fresh code) cs))
      × (r.word ≡ stuck_word → (b : ℕ) → b < boards → Says S (held_from S (fresh code) cs).state b (get_or waits b 0))
  unfolding standing_answer standing_wait
  of_the_run_holds a w S code cs e known i =
      let sheet = (watch_parts text (held m).code (length scratch) S e).2 in
      let h = held_from S (fresh code) cs in
      let same : held m ≡ h = ap held i ∙ back h (list_inside text S sheet code cs) in
      let word : r.word ≡ stands_at S h = ap (λ (n : StandingNumbers). n.word) (a ∙ ap (λ (o : Out Scenario). standing_answer o (held m)) e) ∙ ap (stands_at S) same in (
        word,
        (λ s b l.
            let told : get_or waits b 0 ≡ wait_of S h.state b
            = wait_at w b l ∙ ap (λ (o : Out Scenario). standing_wait o (held m) b) e ∙ ap (λ (g : Held). standing_wait (ok S) g b) same
            ∙ rw (eq-eqb (stands_at S h) stuck_word (sym word ∙ s)) in
            subst⁻¹ (λ (n : ℕ). Says S h.state b n) told (list_says text S sheet code cs b)),
      )

  -- What is answered and left in the scratch, as the model says: then the whole promise holds.
  pub stands : r ≡ standing_answer outcome (held m) → waits ≡ each_board boards (standing_wait outcome (held m)) → scratch_exit ≡ scratch_behind outcome scratch
      → Stands held words_of m text scratch scratch_exit r waits
  stands a w s =
      record {
        answer = a;
        numbers = w;
        scratch_left = s;
        causal_order = λ S e. sheet_meets text S (watch_parts text (held m).code (length scratch) S e).2;
        elsewhere = λ n b l. wait_at w b l ∙ elsewhere outcome (ap (λ (k : StandingNumbers). k.word) (sym a)) n b;
        of_the_run = of_the_run_holds a w;
      }

-- Request (g): what the calls promise one by one, over whole lists of calls.
use Prim.Native.Nat.{ℕ, ◌*◌, ◌<◌, ◌≤◌}
use native.Mathlib.Omega.{arith}
use mathlib.Core.Path.{◌≡◌, refl, sym, ◌∙◌, ap, subst, subst⁻¹}
use mathlib.Core.Logic.{⊎_elim}
use mathlib.Core.Bool.{Bool, true, false, not, cond, ◌&&◌}
use mathlib.Core.List.{List, [], ◌∷◌, ◌++◌}
use mathlib.Core.Option.{Option, none, some}
use lib.Dec.{eqb, ltb}
use lib.ListN.{length}
use borrow.Author.Tests.{ltb-true, ltb-false, eqb-true, not-true, not-false}
use Rattle.model.proofs.Accepted.{sheet_causal, sheet_count, sheet_boards, sheet_meets}
use Rattle.model.proofs.Bounded.{and_left, and_right, or_cases, not_both}
use Rattle.model.proofs.Causal.{Causal}
use Rattle.model.proofs.Orders.{after_append, order_append, order_rest}
use Rattle.model.proofs.PointThree.{decided, verdict_for}
use Rattle.model.proofs.Refusal.{cond_ok, cond_refused}
use Rattle.model.proofs.Rules.{allowed_inside}
use Rattle.model.specs.Limits.{boards, messages_most, channels, scratch_least}
use Rattle.model.specs.Refusal.{Out, ok, refusal}
use Rattle.model.specs.Order.{Event, send_of, receive_of, number, board_of, Scenario, board}
use Rattle.model.specs.Channel.{channel_of}
use Rattle.model.specs.Run.{State, start, Step, send, deliver, consume, with, with_done, with_held, next, is_order_from, after, finished, IsOrder}
use Rattle.model.specs.Schedule.{message_of_step, step_told}
use Rattle.model.specs.Answer.{sheet_of, verdict_of, numbers_of}
use Rattle.model.specs.Monitor.{Held, taken_word, forbidden_word, refused_word, watchable, is_barred, Call, step, switch, may_take, taking, word_to, leaving, behind, held_from, words_from, fresh, step_taken, steps_taken, is_switch, stays_on, RunOf, MonitorAnswer, Opened, ByTheRules, Session, opening, stepping, switching, WholeList, WholeLists}

module _ (S : Scenario) where
  -- one call more
  held_more : (h : Held) (cs : List Call) (c : Call) → held_from S h (cs ++ (c ∷ [])) ≡ behind S (held_from S h cs) c
  unfolding held_from
  held_more h [] c = refl
  held_more h (d ∷ cs) c = held_more (behind S h d) cs c

  words_more : (h : Held) (cs : List Call) (c : Call)
      → words_from S h (cs ++ (c ∷ [])) ≡ words_from S h cs ++ (word_to S (held_from S h cs) c ∷ [])
  unfolding words_from held_from
  words_more h [] c = refl
  words_more h (d ∷ cs) c = ap (λ ws. word_to S h d ∷ ws) (words_more (behind S h d) cs c)

  -- what a call leaves and what its log says of it, where it was no switch to another code
  abbrev Logged : Held → Held → List Step → Type 0
  Logged h g ts = (is_order_from S (channel_of h.code) h.state ts ≡ true) × (g ≡ record { state = after S h.state ts; code = h.code })

  step_logged : (h : Held) (kind m scratch_length : ℕ)
      → Logged h (behind S h (step kind m scratch_length)) (step_taken (step kind m scratch_length) (word_to S h (step kind m scratch_length)))
  unfolding behind word_to leaving may_take taking step_taken is_order_from after
  step_logged h kind m scratch_length = go (ltb scratch_length scratch_least) (step_told kind m) (may_take S h (step_told kind m)) refl
    where
      go : (short : Bool) (told : Option Step) (may : Bool) → may_take S h told ≡ may
          → Logged h (cond (eqb (cond short refused_word (cond may taken_word forbidden_word)) taken_word) (taking S h told) h)
          (elim (cond (eqb (cond short refused_word (cond may taken_word forbidden_word)) taken_word) told none) [ none ↦ [] | some t ↦ t ∷ [] ])
      go true told may e = (refl, refl)
      go false none true e = let z : ◌≡◌ {A = ℕ} 0 1 = cc in absurd (omega arith)
      go false none false e = (refl, refl)
      go false (some t) true e = (rw e, refl)
      go false (some t) false e = (refl, refl)

  switch_logged : (h : Held) (other scratch_length : ℕ)
      → is_switch h.code (switch other scratch_length) (word_to S h (switch other scratch_length)) ≡ false
      → Logged h (behind S h (switch other scratch_length)) (step_taken (switch other scratch_length) (word_to S h (switch other scratch_length)))
  unfolding behind leaving step_taken is_switch is_order_from after
  switch_logged h other scratch_length = go (eqb (word_to S h (switch other scratch_length)) taken_word)
    where
      go : (b : Bool) → (b && not (eqb other h.code)) ≡ false → Logged h (cond b (record { state = h.state; code = other }) h) []
      go true e = (refl, ap (λ (k : ℕ). record { state = h.state; code = k }) (eqb-true other h.code (not-false (eqb other h.code) e)))
      go false e = (refl, refl)

  call_logged : (h : Held) (c : Call) → is_switch h.code c (word_to S h c) ≡ false → Logged h (behind S h c) (step_taken c (word_to S h c))
  call_logged h (step kind m scratch_length) i = step_logged h kind m scratch_length
  call_logged h (switch other scratch_length) i = switch_logged h other scratch_length i

  -- a list without a switch to another code takes an allowed order
  list_logged : (cs : List Call) (h : Held) → stays_on h.code cs (words_from S h cs) ≡ true → Logged h (held_from S h cs) (steps_taken cs (words_from S h cs))
  unfolding stays_on steps_taken words_from held_from is_order_from after
  list_logged [] h on = (refl, refl)
  list_logged (c ∷ cs) h on =
      let g = behind S h c in
      let us = steps_taken cs (words_from S g cs) in
      let stays = stays_on h.code cs (words_from S g cs) in
      let one = call_logged h c (not-true (is_switch h.code c (word_to S h c)) (and_left (not (is_switch h.code c (word_to S h c))) stays on)) in
      let code : g.code ≡ h.code = ap (λ (q : Held). q.code) one.1 in
      let rest = list_logged cs g (subst⁻¹ (λ (k : ℕ). stays_on k cs (words_from S g cs) ≡ true) code (and_right (not (is_switch h.code c (word_to S h c))) stays on)) in
      let ts = step_taken c (word_to S h c) in (
        order_append S (channel_of h.code) h.state ts us one.0
            (subst (λ (q : Held). is_order_from S (channel_of q.code) q.state us ≡ true) one.1 rest.0),
        rest.1 ∙ ap (λ (q : Held). record { state = after S q.state us; code = q.code }) one.1
            ∙ ap (λ (s : State). record { state = s; code = h.code }) (sym (after_append S h.state ts us)),
      )

  -- an allowed order, and the state that it leaves, are a run of which point 3 speaks
  run_of : Causal S → (code : ℕ) → code < channels → (ts : List Step) (h : Held) → IsOrder S (channel_of code) ts
      → h ≡ record { state = after S start ts; code = code } → RunOf S code ts h
  run_of C code known ts h o e =
      let c = channel_of code in
      subst⁻¹ (RunOf S code ts) e
      (record {
        is_order = o;
        reached = refl;
        is_finished = ((λ f. record { is_order = o; is_finished = f }), (λ E. E.is_finished));
        is_stuck = ((λ f. record { is_order = o; is_stuck = f }), (λ E. E.is_stuck));
        can_finish = (
          (λ (more, p, f). (more, record { is_order = order_append S c start ts more o p; is_finished = subst⁻¹ (λ s. finished S s ≡ true) (after_append S start ts more) f })),
          (λ (more, E). (more, order_rest S c start ts more E.is_order, subst (λ s. finished S s ≡ true) (after_append S start ts more) E.is_finished)),
        );
        goes_on = λ free. (verdict_for S C code known (verdict_of S code) (decided S C code known) []).free_when_finishing.0 (ap (λ a. (numbers_of a).word) free) ts o;
      })

-- What is held of a sheet's run lies inside its limits: events, messages and boards that it has not are in no part of the state.
pub record Inside (h : Held) : Type 0 where
  pub done : (x : Event) → h.state.done x ≡ true → number x < 2 * messages_most
  pub way : (m : ℕ) → h.state.under_way m ≡ true → m < messages_most
  pub boards_hold : (b m : ℕ) → h.state.holds b m ≡ true → (b < boards) × (m < messages_most)

module _ (S : Scenario) (few : S.count ≤ messages_most) (low : (x : Event) → board S x < boards) where
  done_inside : (f : Event → Bool) (x : Event) → number x < 2 * messages_most → ((y : Event) → f y ≡ true → number y < 2 * messages_most)
      → (y : Event) → with_done f x y ≡ true → number y < 2 * messages_most
  unfolding with_done
  done_inside f x l h y t =
      ⊎_elim (λ (e : eqb (number y) (number x) ≡ true). let i = eqb-true (number y) (number x) e in omega arith) (λ d. h y d)
      (or_cases (eqb (number y) (number x)) (f y) t)

  with_inside : (f : ℕ → Bool) (m : ℕ) (v : Bool) → m < messages_most → ((k : ℕ) → f k ≡ true → k < messages_most)
      → (k : ℕ) → with f m v k ≡ true → k < messages_most
  unfolding with
  with_inside f m v l h k = go (eqb k m) refl
    where
      go : (b : Bool) → eqb k m ≡ b → cond b v (f k) ≡ true → k < messages_most
      go true e t = let i = eqb-true k m e in omega arith
      go false e t = h k t

  held_inside : (f : ℕ → ℕ → Bool) (b m : ℕ) (v : Bool) → b < boards → m < messages_most → ((c k : ℕ) → f c k ≡ true → (c < boards) × (k < messages_most))
      → (c k : ℕ) → with_held f b m v c k ≡ true → (c < boards) × (k < messages_most)
  unfolding with_held
  held_inside f b m v i l h c k = go (eqb c b && eqb k m) refl
    where
      go : (t : Bool) → (eqb c b && eqb k m) ≡ t → cond t v (f c k) ≡ true → (c < boards) × (k < messages_most)
      go true e t =
          let p = eqb-true c b (and_left (eqb c b) (eqb k m) e) in
          let q = eqb-true k m (and_right (eqb c b) (eqb k m) e) in
          (omega arith, omega arith)
      go false e t = h c k t

  next_inside : (h : Held) (t : Step) → message_of_step t < S.count → Inside h → Inside (record { state = next S h.state t; code = h.code })
  unfolding next number board_of
  next_inside h (send m) l i =
      record {
        done = done_inside h.state.done (send_of m) (omega arith) i.done;
        way = with_inside h.state.under_way m true (omega arith) i.way;
        boards_hold = i.boards_hold;
      }
  next_inside h (deliver m) l i =
      record {
        done = i.done;
        way = with_inside h.state.under_way m false (omega arith) i.way;
        boards_hold = held_inside h.state.holds (S.target m) m true (low (receive_of m)) (omega arith) i.boards_hold;
      }
  next_inside h (consume m) l i =
      record {
        done = done_inside h.state.done (receive_of m) (omega arith) i.done;
        way = i.way;
        boards_hold = held_inside h.state.holds (S.target m) m false (low (receive_of m)) (omega arith) i.boards_hold;
      }

  behind_inside : (h : Held) (c : Call) → Inside h → Inside (behind S h c)
  unfolding behind word_to leaving may_take taking
  behind_inside h (step kind m scratch_length) i = go (ltb scratch_length scratch_least) (step_told kind m) (may_take S h (step_told kind m)) refl
    where
      go : (short : Bool) (told : Option Step) (may : Bool) → may_take S h told ≡ may
          → Inside (cond (eqb (cond short refused_word (cond may taken_word forbidden_word)) taken_word) (taking S h told) h)
      go true told may e = i
      go false none true e = i
      go false none false e = i
      go false (some t) true e = next_inside h t (allowed_inside S (channel_of h.code) h.state t e) i
      go false (some t) false e = i
  behind_inside h (switch code scratch_length) i = go (eqb (word_to S h (switch code scratch_length)) taken_word)
    where
      go : (b : Bool) → Inside (cond b (record { state = h.state; code = code }) h)
      go true = record { done = i.done; way = i.way; boards_hold = i.boards_hold }
      go false = i

  from_inside : (cs : List Call) (h : Held) → Inside h → Inside (held_from S h cs)
  unfolding held_from
  from_inside [] h i = i
  from_inside (c ∷ cs) h i = from_inside cs (behind S h c) (behind_inside h c i)

-- whatever list of calls follows an opening
pub list_inside : (text : List ℕ) (S : Scenario) → sheet_of text ≡ ok S → (code : ℕ) (cs : List Call) → Inside (held_from S (fresh code) cs)
list_inside text S e code cs =
    from_inside S (sheet_count text S e) (sheet_boards text S e) cs (fresh code)
    (record { done = λ x t. not_both false t refl; way = λ m t. not_both false t refl; boards_hold = λ b m t. not_both false t refl })

-- where no refusal applies, the code is a channel's and the scratch long enough
pub watch_parts : (text : List ℕ) (code scratch_length : ℕ) (S : Scenario) → watchable text code scratch_length ≡ ok S
    → (code < channels) × (scratch_least ≤ scratch_length) × (sheet_of text ≡ ok S)
unfolding watchable
watch_parts text code scratch_length S e =
    let a = cond_ok (ltb code channels) _ _ _ S e in
    let b = cond_refused (ltb scratch_length scratch_least) _ _ _ S a.1 in
    (ltb-true code channels a.0, ltb-false scratch_length scratch_least b.0, b.1)

-- Monitors M: one opened is that of the fresh state, and what is held inside the limits is read back.
module _ {M : Type 0} (held : M → Held) (words_of : Held → M) (zeros : ℕ → M) (opened : (code : ℕ) → zeros code ≡ words_of (fresh code))
    (back : (h : Held) → Inside h → held (words_of h) ≡ h) (text : List ℕ) (code : ℕ) where
  -- what a session keeps
  record Kept (cs : List Call) (words : List ℕ) (m : M) : Type 0 where
    scenario : Scenario
    is_sheet : sheet_of text ≡ ok scenario
    code_known : code < channels
    monitor : m ≡ words_of (held_from scenario (fresh code) cs)
    answers : words ≡ words_from scenario (fresh code) cs

  -- an opening that was taken was not refused
  opened_kept : (scratch scratch_exit : List ℕ) (r : MonitorAnswer M) → Opened held words_of zeros text code scratch scratch_exit r
      → r.word ≡ taken_word → Kept [] [] r.next
  unfolding held_from words_from
  opened_kept scratch scratch_exit r o taken = go (watchable text code (length scratch)) refl
    where
      go : (w : Out Scenario) → watchable text code (length scratch) ≡ w → Kept [] [] r.next
      go (ok S) e =
          let parts = watch_parts text code (length scratch) S e in
          record {
            scenario = S;
            is_sheet = parts.2;
            code_known = parts.0;
            monitor = ap (λ (a : MonitorAnswer M). a.next) (o.opened_when S e) ∙ opened code;
            answers = refl;
          }
      go (refusal number line) e =
          let two : r.word ≡ refused_word = ap (λ (a : MonitorAnswer M). a.word) (o.refused_when number line e) in
          absurd (omega (arith, taken, two))

  kept_more : (cs : List Call) (words : List ℕ) (m : M) (c : Call) (r : MonitorAnswer M) (k : Kept cs words m)
      → ByTheRules held words_of zeros k.scenario (held_from k.scenario (fresh code) cs) m c r → Kept (cs ++ (c ∷ [])) (words ++ (r.word ∷ [])) r.next
  kept_more cs words m c r k rules =
      let S = k.scenario in
      record {
        scenario = S;
        is_sheet = k.is_sheet;
        code_known = k.code_known;
        monitor = rules.monitor ∙ ap words_of (sym (held_more S (fresh code) cs c));
        answers = ap (λ ws. ws ++ (r.word ∷ [])) k.answers
            ∙ ap (λ w. words_from S (fresh code) cs ++ (w ∷ [])) rules.word
            ∙ sym (words_more S (fresh code) cs c);
      }

  session_kept : {cs : List Call} {words : List ℕ} {m : M} → Session held words_of zeros text code cs words m → Kept cs words m
  session_kept (opening {scratch} {scratch_exit} {r} o taken) = opened_kept scratch scratch_exit r o taken
  session_kept (stepping {cs} {words} {m} {kind} {message} {scratch} {scratch_exit} {r} s p) =
      let k = session_kept s in
      kept_more cs words m (step kind message (length scratch)) r k (p.by_the_rules k.scenario code cs k.is_sheet k.code_known k.monitor)
  session_kept (switching {cs} {words} {m} {to} {scratch} {scratch_exit} {r} s p) =
      let k = session_kept s in
      kept_more cs words m (switch to (length scratch)) r k (p.by_the_rules k.scenario code cs k.is_sheet k.code_known k.monitor)

  pub whole_list : (cs : List Call) (words : List ℕ) (m : M) → Session held words_of zeros text code cs words m
      → (S : Scenario) × WholeList held words_of zeros text code S cs words m
  whole_list cs words m s =
      let k = session_kept s in
      let S = k.scenario in
      let state : held m ≡ held_from S (fresh code) cs = ap held k.monitor ∙ back (held_from S (fresh code) cs) (list_inside text S k.is_sheet code cs) in (
        S,
        record {
          is_sheet = k.is_sheet;
          causal_order = sheet_meets text S k.is_sheet;
          state = state;
          monitor = k.monitor;
          answers = k.answers;
          an_order = λ on.
              let o = list_logged S cs (fresh code) (subst (λ (ws : List ℕ). stays_on code cs ws ≡ true) k.answers on) in
              subst⁻¹ (λ (ws : List ℕ). RunOf S code (steps_taken cs ws) (held m)) k.answers
              (run_of S (sheet_causal text S k.is_sheet) code k.code_known (steps_taken cs (words_from S (fresh code) cs)) (held m) o.0 (state ∙ o.1));
        },
      )

pub whole_lists : {M : Type 0} (held : M → Held) (words_of : Held → M) (zeros : ℕ → M) → ((code : ℕ) → zeros code ≡ words_of (fresh code))
    → ((h : Held) → Inside h → held (words_of h) ≡ h) → WholeLists held words_of zeros
whole_lists held words_of zeros opened back text code cs words m s = whole_list held words_of zeros opened back text code cs words m s

-- the code in force is a channel's, as the one that was opened under
taking_code : (S : Scenario) (h : Held) (told : Option Step) → (taking S h told).code ≡ h.code
unfolding taking
taking_code S h none = refl
taking_code S h (some t) = refl

cond_code : (t : Bool) (a b : Held) → (t ≡ true → a.code < channels) → b.code < channels → (cond t a b).code < channels
cond_code true a b p q = p refl
cond_code false a b p q = q

behind_code : (S : Scenario) (h : Held) (c : Call) → h.code < channels → (behind S h c).code < channels
unfolding behind leaving word_to
behind_code S h (step kind m scratch_length) l =
    cond_code (eqb (cond (ltb scratch_length scratch_least) refused_word (cond (may_take S h (step_told kind m)) taken_word forbidden_word)) taken_word)
    (taking S h (step_told kind m)) h (λ t. subst⁻¹ (λ (n : ℕ). n < channels) (taking_code S h (step_told kind m)) l) l
behind_code S h (switch code scratch_length) l =
    let known = ltb code channels in
    let room = not (ltb scratch_length scratch_least) in
    let clear = not (is_barred code h.state) in
    cond_code (eqb (cond (known && room && clear) taken_word refused_word) taken_word) (record { state = h.state; code = code }) h
    (λ t. ltb-true code channels (and_left known room (and_left (known && room) clear (taken_when (known && room && clear) t)))) l
  where
    taken_when : (b : Bool) → eqb (cond b taken_word refused_word) taken_word ≡ true → b ≡ true
    taken_when true e = refl
    taken_when false e = e

pub held_code : (S : Scenario) (cs : List Call) (h : Held) → h.code < channels → (held_from S h cs).code < channels
unfolding held_from
held_code S [] h l = l
held_code S (c ∷ cs) h l = held_code S cs (behind S h c) (behind_code S h c l)

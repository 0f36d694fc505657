-- The step rules over phases: each step's test says exactly the facts that the paper's rule names. Assumes nothing.
use Prim.Native.Nat.{ℕ, ◌<◌, ◌≤◌}
use mathlib.Core.Path.{◌≡◌, refl, sym}
use mathlib.Core.Logic.{◌⊎◌, inl, inr, ⊎_elim}
use mathlib.Core.Bool.{Bool, true, false, not, ◌&&◌, ◌||◌}
use native.Mathlib.Decide.{dec_lt}
use native.Mathlib.Omega.{arith}
use borrow.Author.Tests.{le-ltb, eqb-true, leb-true, ltb-true, lt-ltb, eq-eqb, not-true}
use lib.Dec.{eqb, ltb}
use Rattle.model.specs.Bounded.{every}
use Rattle.model.specs.Order.{Event, send_of, receive_of, message_of, Scenario, board}
use Rattle.model.specs.Channel.{Channel, ToSend, ToDeliver, no_earlier_under_way, channel_empty, in_order, alone}
use Rattle.model.specs.Run.{State, Step, send, deliver, consume, every_event, is_ahead, ready, buffer_empty, board_free, may_send, may_deliver, allowed, no_step, finished, stuck}
use Rattle.model.specs.Schedule.{message_of_step}
use Rattle.model.proofs.Bounded.{and_left, and_right, and_both, or_cases, or_left, or_right, which, not_both, not_is_true, every_at, every_from, every_not}
use Rattle.model.proofs.Causal.{Causal}
use Rattle.model.proofs.Phases.{equal_or_not, done_at, view}

-- a conjunction that fails, with its first half passed or not
and_fails : (a b : Bool) → a ≡ true → (a && b) ≡ false → b ≡ false
and_fails true b t h = h
and_fails false b t h = not_both false t refl

and_not : (a b : Bool) → (a && b) ≡ false → (a ≡ false) ⊎ (b ≡ false)
and_not true b h = inr h
and_not false b h = inl refl

-- "a implies b", as a test
pub implies : (a b : Bool) → (not a || b) ≡ true → a ≡ true → b ≡ true
implies true b h t = h
implies false b h t = not_both false t refl

implies_from : (a b : Bool) → (a ≡ true → b ≡ true) → (not a || b) ≡ true
implies_from true b h = h refl
implies_from false b h = refl

pub implies_not : (a b : Bool) → (not a || b) ≡ false → (a ≡ true) × (b ≡ false)
implies_not true b h = (refl, h)
implies_not false b h = not_both true refl h

-- no number below n passes the test; none but m does
none_use : (n : ℕ) (p : ℕ → Bool) → every n (λ k. not (p k)) ≡ true → (k : ℕ) → k < n → p k ≡ true → ⊥
none_use n p h k l t = not_both (p k) t (not-true (p k) (every_at n (λ j. not (p j)) h k l))

none_from : (n : ℕ) (p : ℕ → Bool) → ((k : ℕ) → k < n → p k ≡ true → ⊥) → every n (λ k. not (p k)) ≡ true
none_from n p h =
    every_from n (λ j. not (p j)) (λ k l. ⊎_elim (λ (t : p k ≡ true). absurd (h k l t)) (λ f. not_is_true (p k) f) (which (p k)))

others_use : (n m : ℕ) (p : ℕ → Bool) → every n (λ k. eqb k m || not (p k)) ≡ true → (k : ℕ) → k < n → (k ≡ m → ⊥) → p k ≡ true → ⊥
others_use n m p h k l d t =
    ⊎_elim
    (λ (e : eqb k m ≡ true). d (eqb-true k m e))
    (λ (f : not (p k) ≡ true). not_both (p k) t (not-true (p k) f))
    (or_cases (eqb k m) (not (p k)) (every_at n (λ j. eqb j m || not (p j)) h k l))

others_from : (n m : ℕ) (p : ℕ → Bool) → ((k : ℕ) → k < n → (k ≡ m → ⊥) → p k ≡ true → ⊥) → every n (λ k. eqb k m || not (p k)) ≡ true
others_from n m p h =
    every_from n (λ j. eqb j m || not (p j)) (λ k l.
    ⊎_elim
    (λ (e : k ≡ m). or_left (eqb k m) (not (p k)) (eq-eqb k m e))
    (λ (d : k ≡ m → ⊥).
    ⊎_elim (λ (t : p k ≡ true). absurd (h k l d t)) (λ f. or_right (eqb k m) (not (p k)) (not_is_true (p k) f)) (which (p k)))
    (equal_or_not k m))

module _ (S : Scenario) where
  -- every event of the scenario, by its message
  pub every_event_at : (p : Event → Bool) → every_event S p ≡ true → (x : Event) → message_of x < S.count → p x ≡ true
  unfolding every_event message_of
  every_event_at p h (send_of m) l = and_left (p (send_of m)) (p (receive_of m)) (every_at S.count _ h m l)
  every_event_at p h (receive_of m) l = and_right (p (send_of m)) (p (receive_of m)) (every_at S.count _ h m l)

  pub every_event_from : (p : Event → Bool) → ((x : Event) → message_of x < S.count → p x ≡ true) → every_event S p ≡ true
  unfolding every_event message_of
  every_event_from p h = every_from S.count _ (λ m l. and_both (p (send_of m)) (p (receive_of m)) (h (send_of m) l) (h (receive_of m) l))

  pub every_event_not : (p : Event → Bool) → every_event S p ≡ false → (x : Event) × (message_of x < S.count) × (p x ≡ false)
  unfolding every_event message_of
  every_event_not p h =
      let r = every_not S.count _ h in
      ⊎_elim
      (λ (f : p (send_of r.0) ≡ false). (send_of r.0, r.1, f))
      (λ (f : p (receive_of r.0) ≡ false). (receive_of r.0, r.1, f))
      (and_not (p (send_of r.0)) (p (receive_of r.0)) r.2)

  -- finished: every message is consumed
  pub finished_use : (φ : ℕ → ℕ) → finished S (view S φ) ≡ true → (m : ℕ) → m < S.count → 3 ≤ φ m
  unfolding finished message_of
  finished_use φ h m l = leb-true 3 (φ m) (every_event_at (done_at φ) h (receive_of m) l)

  pub finished_not : (φ : ℕ → ℕ) → finished S (view S φ) ≡ false → (x : Event) × (message_of x < S.count) × (done_at φ x ≡ false)
  unfolding finished
  finished_not φ h = every_event_not (done_at φ) h

  module _ (C : Causal S) (φ : ℕ → ℕ) where
    -- an event is ready: not done, and all events before it on its board are
    pub record Ready (x : Event) : Type 0 where
      pub undone : done_at φ x ≡ false
      pub earlier : (y : Event) → S.before y x ≡ true → board S y ≡ board S x → done_at φ y ≡ true

    -- what holds an event up: an event before it on its board that is not done
    pub record Waits (x y : Event) : Type 0 where
      pub is_before : S.before y x ≡ true
      pub on_board : board S y ≡ board S x
      pub undone : done_at φ y ≡ false

    settled : Event → Event → Bool
    settled x y = not (is_ahead S y x) || done_at φ y

    pub ready_use : (x : Event) → ready S (view S φ) x ≡ true → Ready x
    unfolding ready settled is_ahead
    ready_use x h =
        record {
          undone = not-true (done_at φ x) (and_left (not (done_at φ x)) (every_event S (settled x)) h);
          earlier = λ y b e.
              implies (is_ahead S y x) (done_at φ y)
              (every_event_at (settled x) (and_right (not (done_at φ x)) (every_event S (settled x)) h) y (C.inside y x b).0)
              (and_both (S.before y x) (eqb (board S y) (board S x)) b (eq-eqb (board S y) (board S x) e));
        }

    pub ready_on : (x : Event) → Ready x → ready S (view S φ) x ≡ true
    unfolding ready settled is_ahead
    ready_on x r =
        and_both (not (done_at φ x)) (every_event S (settled x)) (not_is_true (done_at φ x) r.undone)
        (every_event_from (settled x) (λ y l.
        implies_from (is_ahead S y x) (done_at φ y) (λ t.
        r.earlier y (and_left (S.before y x) (eqb (board S y) (board S x)) t)
        (eqb-true (board S y) (board S x) (and_right (S.before y x) (eqb (board S y) (board S x)) t)))))

    pub ready_not : (x : Event) → done_at φ x ≡ false → ready S (view S φ) x ≡ false → (y : Event) × Waits x y
    unfolding ready settled is_ahead
    ready_not x u h =
        let fails : every_event S (settled x) ≡ false = and_fails (not (done_at φ x)) (every_event S (settled x)) (not_is_true (done_at φ x) u) h in
        let r = every_event_not (settled x) fails in
        let w : (is_ahead S r.0 x ≡ true) × (done_at φ r.0 ≡ false) = implies_not (is_ahead S r.0 x) (done_at φ r.0) r.2 in (
          r.0,
          record {
            is_before = and_left (S.before r.0 x) (eqb (board S r.0) (board S x)) w.0;
            on_board = eqb-true (board S r.0) (board S x) (and_right (S.before r.0 x) (eqb (board S r.0) (board S x)) w.0);
            undone = w.1;
          },
        )

  module _ (φ : ℕ → ℕ) where
    -- no message lies in the board's buffer
    abbrev pub Empty : ℕ → Type 0
    Empty b = (k : ℕ) → k < S.count → S.target k ≡ b → φ k ≡ 2 → ⊥

    empty_use : (b : ℕ) → buffer_empty S (view S φ) b ≡ true → Empty b
    unfolding buffer_empty
    empty_use b h k l e p =
        none_use S.count (λ m. eqb b (S.target m) && eqb (φ m) 2) h k l
        (and_both (eqb b (S.target k)) (eqb (φ k) 2) (eq-eqb b (S.target k) (sym e)) (eq-eqb (φ k) 2 p))

    empty_on : (b : ℕ) → Empty b → buffer_empty S (view S φ) b ≡ true
    unfolding buffer_empty
    empty_on b h =
        none_from S.count (λ m. eqb b (S.target m) && eqb (φ m) 2) (λ k l t.
        h k l (sym (eqb-true b (S.target k) (and_left (eqb b (S.target k)) (eqb (φ k) 2) t)))
        (eqb-true (φ k) 2 (and_right (eqb b (S.target k)) (eqb (φ k) 2) t)))

    -- nothing is under way
    abbrev pub Quiet : Type 0
    Quiet = (f : ℕ) → f < S.count → φ f ≡ 1 → ⊥

    -- the further condition to send m, and to deliver m
    abbrev pub SendRule : ToSend → ℕ → Type 0
    SendRule ToSend.always m = Unit {0}
    SendRule no_earlier_under_way m = (f : ℕ) → f < S.count → φ f ≡ 1 → S.before (send_of f) (receive_of m) ≡ true → ⊥
    SendRule channel_empty m = Quiet

    abbrev pub DeliverRule : ToDeliver → ℕ → Type 0
    DeliverRule ToDeliver.always m = Unit {0}
    DeliverRule in_order m =
        (f : ℕ) → f < S.count → (f ≡ m → ⊥) → φ f ≡ 1 → S.target f ≡ S.target m → S.before (send_of f) (send_of m) ≡ true → ⊥
    DeliverRule alone m = (f : ℕ) → f < S.count → (f ≡ m → ⊥) → φ f ≡ 1 → ⊥

    module _ (c : Channel) where
      send_rule_use : (r : ToSend) (m : ℕ) → may_send S c r (view S φ) m ≡ true → SendRule r m
      unfolding may_send
      send_rule_use ToSend.always m h = tt
      send_rule_use no_earlier_under_way m h = λ f l p b.
          none_use S.count (λ k. eqb (φ k) 1 && S.before (send_of k) (receive_of m)) h f l (and_both (eqb (φ f) 1) (S.before (send_of f) (receive_of m)) (eq-eqb (φ f) 1 p) b)
      send_rule_use channel_empty m h = λ f l p. none_use S.count (λ k. eqb (φ k) 1) h f l (eq-eqb (φ f) 1 p)

      send_rule_none : (r : ToSend) (m : ℕ) → r ≡ ToSend.always → may_send S c r (view S φ) m ≡ true
      unfolding may_send
      send_rule_none r m e = rw (e, may_send)

      -- where nothing is under way, no rule forbids to send
      send_rule_quiet : (r : ToSend) (m : ℕ) → Quiet → may_send S c r (view S φ) m ≡ true
      unfolding may_send
      send_rule_quiet ToSend.always m q = refl
      send_rule_quiet no_earlier_under_way m q =
          none_from S.count (λ k. eqb (φ k) 1 && S.before (send_of k) (receive_of m)) (λ f l t.
          q f l (eqb-true (φ f) 1 (and_left (eqb (φ f) 1) (S.before (send_of f) (receive_of m)) t)))
      send_rule_quiet channel_empty m q = none_from S.count (λ k. eqb (φ k) 1) (λ f l t. q f l (eqb-true (φ f) 1 t))

      -- under way to m's board, with a send before m's
      overtaken : ℕ → ℕ → Bool
      overtaken m f = eqb (φ f) 1 && eqb (S.target f) (S.target m) && S.before (send_of f) (send_of m)

      deliver_rule_use : (r : ToDeliver) (m : ℕ) → may_deliver S c r (view S φ) m ≡ true → DeliverRule r m
      unfolding may_deliver overtaken
      deliver_rule_use ToDeliver.always m h = tt
      deliver_rule_use in_order m h = λ f l d p e b.
          others_use S.count m (overtaken m) h f l d
          (and_both (eqb (φ f) 1 && eqb (S.target f) (S.target m)) (S.before (send_of f) (send_of m))
          (and_both (eqb (φ f) 1) (eqb (S.target f) (S.target m)) (eq-eqb (φ f) 1 p) (eq-eqb (S.target f) (S.target m) e)) b)
      deliver_rule_use alone m h = λ f l d p. others_use S.count m (λ k. eqb (φ k) 1) h f l d (eq-eqb (φ f) 1 p)

      deliver_rule_on : (r : ToDeliver) (m : ℕ) → DeliverRule r m → may_deliver S c r (view S φ) m ≡ true
      unfolding may_deliver overtaken
      deliver_rule_on ToDeliver.always m h = refl
      deliver_rule_on in_order m h =
          others_from S.count m (overtaken m) (λ f l d t.
          let way = eqb (φ f) 1 in
          let there = eqb (S.target f) (S.target m) in
          let both : (way && there) ≡ true = and_left (way && there) (S.before (send_of f) (send_of m)) t in
          h f l d (eqb-true (φ f) 1 (and_left way there both)) (eqb-true (S.target f) (S.target m) (and_right way there both))
          (and_right (way && there) (S.before (send_of f) (send_of m)) t))
      deliver_rule_on alone m h = others_from S.count m (λ k. eqb (φ k) 1) (λ f l d t. h f l d (eqb-true (φ f) 1 t))

      -- an eager board sends, or takes a delivery, only while its buffer is empty
      abbrev pub BoardFree : ℕ → Type 0
      BoardFree b = c.eager ≡ true → Empty b

      board_free_use : (b : ℕ) → board_free S c (view S φ) b ≡ true → BoardFree b
      unfolding board_free
      board_free_use b h e = empty_use b (implies c.eager (buffer_empty S (view S φ) b) h e)

      board_free_on : (b : ℕ) → BoardFree b → board_free S c (view S φ) b ≡ true
      unfolding board_free
      board_free_on b h = implies_from c.eager (buffer_empty S (view S φ) b) (λ e. empty_on b (h e))

      module _ (C : Causal S) where
        -- what each step's rule asks
        pub record MaySend (m : ℕ) : Type 0 where
          pub inside : m < S.count
          pub ready : Ready C φ (send_of m)
          pub free : BoardFree (S.source m)
          pub rule : SendRule c.to_send m

        pub record MayDeliver (m : ℕ) : Type 0 where
          pub inside : m < S.count
          pub under_way : φ m ≡ 1
          pub free : BoardFree (S.target m)
          pub rule : DeliverRule c.to_deliver m

        pub record MayConsume (m : ℕ) : Type 0 where
          pub inside : m < S.count
          pub held : φ m ≡ 2
          pub ready : Ready C φ (receive_of m)

        abbrev pub May : Step → Type 0
        May (send m) = MaySend m
        May (deliver m) = MayDeliver m
        May (consume m) = MayConsume m

        pub may_use : (t : Step) → allowed S c (view S φ) t ≡ true → May t
        unfolding allowed
        may_use (send m) h =
            let i = ltb m S.count in
            let r = ready S (view S φ) (send_of m) in
            let b = board_free S c (view S φ) (S.source m) in
            let u = may_send S c c.to_send (view S φ) m in
            record {
              inside = ltb-true m S.count (and_left i r (and_left (i && r) b (and_left (i && r && b) u h)));
              ready = ready_use C φ (send_of m) (and_right i r (and_left (i && r) b (and_left (i && r && b) u h)));
              free = board_free_use (S.source m) (and_right (i && r) b (and_left (i && r && b) u h));
              rule = send_rule_use c.to_send m (and_right (i && r && b) u h);
            }
        may_use (deliver m) h =
            let i = ltb m S.count in
            let w = eqb (φ m) 1 in
            let b = board_free S c (view S φ) (S.target m) in
            let u = may_deliver S c c.to_deliver (view S φ) m in
            record {
              inside = ltb-true m S.count (and_left i w (and_left (i && w) b (and_left (i && w && b) u h)));
              under_way = eqb-true (φ m) 1 (and_right i w (and_left (i && w) b (and_left (i && w && b) u h)));
              free = board_free_use (S.target m) (and_right (i && w) b (and_left (i && w && b) u h));
              rule = deliver_rule_use c.to_deliver m (and_right (i && w && b) u h);
            }
        may_use (consume m) h =
            let i = ltb m S.count in
            let w = eqb (S.target m) (S.target m) && eqb (φ m) 2 in
            let r = ready S (view S φ) (receive_of m) in
            record {
              inside = ltb-true m S.count (and_left i w (and_left (i && w) r h));
              held = eqb-true (φ m) 2 (and_right (eqb (S.target m) (S.target m)) (eqb (φ m) 2) (and_right i w (and_left (i && w) r h)));
              ready = ready_use C φ (receive_of m) (and_right (i && w) r h);
            }

        pub send_on : (m : ℕ) → m < S.count → Ready C φ (send_of m) → BoardFree (S.source m)
            → (Quiet ⊎ (c.to_send ≡ ToSend.always)) → allowed S c (view S φ) (send m) ≡ true
        unfolding allowed
        send_on m l r b q =
            let u : may_send S c c.to_send (view S φ) m ≡ true = ⊎_elim (send_rule_quiet c.to_send m) (send_rule_none c.to_send m) q in
            rw (lt-ltb m S.count l, ready_on C φ (send_of m) r, board_free_on (S.source m) b, u)

        pub deliver_on : (m : ℕ) → MayDeliver m → allowed S c (view S φ) (deliver m) ≡ true
        unfolding allowed
        deliver_on m d =
            rw (lt-ltb m S.count d.inside, eq-eqb (φ m) 1 d.under_way, board_free_on (S.target m) d.free, deliver_rule_on c.to_deliver m d.rule)

        pub consume_on : (m : ℕ) → MayConsume m → allowed S c (view S φ) (consume m) ≡ true
        unfolding allowed
        consume_on m d =
            rw (lt-ltb m S.count d.inside, eq-eqb (S.target m) (S.target m) refl, eq-eqb (φ m) 2 d.held, ready_on C φ (receive_of m) d.ready)

module _ (S : Scenario) (c : Channel) (s : State) where
  -- stuck: not finished, and no step allowed
  pub stuck_on : finished S s ≡ false → ((t : Step) → allowed S c s t ≡ true → ⊥) → stuck S c s ≡ true
  unfolding stuck no_step
  stuck_on f n =
      and_both (not (finished S s)) (no_step S c s) (not_is_true (finished S s) f)
      (every_from S.count _ (λ m l.
      and_both (not (allowed S c s (send m)) && not (allowed S c s (deliver m))) (not (allowed S c s (consume m)))
      (and_both (not (allowed S c s (send m))) (not (allowed S c s (deliver m))) (forbidden (send m)) (forbidden (deliver m))) (forbidden (consume m))))
    where
      forbidden : (t : Step) → not (allowed S c s t) ≡ true
      forbidden t = ⊎_elim (λ a. absurd (n t a)) (λ f. not_is_true (allowed S c s t) f) (which (allowed S c s t))

  pub stuck_unfinished : stuck S c s ≡ true → finished S s ≡ false
  unfolding stuck
  stuck_unfinished h = not-true (finished S s) (and_left (not (finished S s)) (no_step S c s) h)

pub may_inside : (S : Scenario) (φ : ℕ → ℕ) (c : Channel) (C : Causal S) (t : Step) → May S φ c C t → message_of_step t < S.count
may_inside S φ c C (send m) h = h.inside
may_inside S φ c C (deliver m) h = h.inside
may_inside S φ c C (consume m) h = h.inside

pub stuck_forbids : (S : Scenario) (φ : ℕ → ℕ) (c : Channel) (C : Causal S) → stuck S c (view S φ) ≡ true
    → (t : Step) → allowed S c (view S φ) t ≡ true → ⊥
unfolding stuck no_step
stuck_forbids S φ c C h t a = not_both (allowed S c (view S φ) t) a (not-true (allowed S c (view S φ) t) (each t at))
  where
    on : Step → Bool
    on u = not (allowed S c (view S φ) u)

    at : (on (send (message_of_step t)) && on (deliver (message_of_step t)) && on (consume (message_of_step t))) ≡ true
    at =
        every_at S.count (λ m. on (send m) && on (deliver m) && on (consume m))
        (and_right (not (finished S (view S φ))) (no_step S c (view S φ)) h) (message_of_step t) (may_inside S φ c C t (may_use S φ c C t a))

    each : (u : Step) → (on (send (message_of_step u)) && on (deliver (message_of_step u)) && on (consume (message_of_step u))) ≡ true → on u ≡ true
    each (send m) p = and_left (on (send m)) (on (deliver m)) (and_left (on (send m) && on (deliver m)) (on (consume m)) p)
    each (deliver m) p = and_right (on (send m)) (on (deliver m)) (and_left (on (send m) && on (deliver m)) (on (consume m)) p)
    each (consume m) p = and_right (on (send m) && on (deliver m)) (on (consume m)) p

-- no step on a message that the scenario has not is allowed
pub unknown_step : (S : Scenario) (c : Channel) (s : State) (t : Step) → S.count ≤ message_of_step t → false ≡ allowed S c s t
unfolding allowed
unknown_step S c s (send m) h = rw (le-ltb m S.count h)
unknown_step S c s (deliver m) h = rw (le-ltb m S.count h)
unknown_step S c s (consume m) h = rw (le-ltb m S.count h)

-- so a step that is allowed is on a message of the scenario
pub allowed_inside : (S : Scenario) (c : Channel) (s : State) (t : Step) → allowed S c s t ≡ true → message_of_step t < S.count
allowed_inside S c s t a = go (dec_lt (message_of_step t) S.count)
  where
    go : Dec (message_of_step t < S.count) → message_of_step t < S.count
    go (yes l) = l
    go (no g) = not_both (allowed S c s t) a (sym (unknown_step S c s t (omega arith)))

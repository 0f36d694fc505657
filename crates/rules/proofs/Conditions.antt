-- The tests of whole words are the model's tests of events and messages. Assumes nothing.
use mathlib.Core.Path.{◌≡◌, refl, sym, ap, ◌∙◌}
use mathlib.Core.Bool.{Bool, true, false, not, ◌&&◌, ◌||◌, and-false}
use mathlib.Core.List.{List}
use Prim.Native.Nat.{ℕ, ◌+◌, ◌*◌, ◌/◌, ◌%◌, ◌<◌, ◌≤◌}
use native.Mathlib.Omega.{arith}
use mathlib.Core.Logic.{⊎_elim}
use lib.Dec.{eqb, ltb}
use lib.ListN.{get_or}
use borrow.Author.Tests.{eq-eqb, lt-ltb, eqb-true, ltb-true}
use Rattle.model.specs.Limits.{boards}
use Rattle.model.specs.Bounded.{every}
use Rattle.model.specs.Channel as model
use Rattle.model.specs.Order.{send_of, receive_of, number, message_of, Scenario}
use Rattle.model.specs.Run.{buffer_empty, board_free, may_send, may_deliver}
use Rattle.model.proofs.Bounded.{and_left, and_right, every_at, every_from, which, not_is_true}
use Rattle.relation.specs.Width.{width, word_bits}
use Rattle.relation.specs.Rows.{holds}
use Rattle.relation.specs.Scenario.{scenario_in}
use Rattle.relation.proofs.Tests.{both_ways, eqb_same}
use Rattle.channel_table.specs.declared.ToSend.{ToSend}
use Rattle.channel_table.specs.declared.ToSend.TheVariants as to_send_holds
use Rattle.channel_table.specs.declared.ToDeliver.{ToDeliver}
use Rattle.channel_table.specs.declared.ToDeliver.TheVariants as to-deliver
use Rattle.channel_table.specs.Table.{to_send_in, to_deliver_in}
use Rattle.board.specs.Masks.{is_send, Standing}
use Rattle.run.specs.declared.Run.{Run}
use Rattle.run.specs.State.{in_row, Without, state_of}
use Rattle.row_tests.specs.Tests.{none_of_row, none_in}
use Rattle.row_tests.proofs.Words.{events_fit}
use Rattle.rules.specs.Rules.{free_in, BufferRow, SaysSendRule, SaysDeliverRule}

-- tests that agree below the bound
every_ext : (n : ℕ) (p q : ℕ → Bool) → ((k : ℕ) → k < n → p k ≡ q k) → every n p ≡ every n q
every_ext n p q h =
    both_ways (every n p) (every n q)
    (λ t. every_from n q (λ k l. sym (h k l) ∙ every_at n p t k l))
    (λ t. every_from n p (λ k l. h k l ∙ every_at n q t k l))

-- a test over n numbers that only sends can fail, by messages
sends_all : (n count : ℕ) (q p : ℕ → Bool) → 2 * count ≤ n → ((k : ℕ) → k < n → q k ≡ true → is_send count k ≡ true)
    → ((f : ℕ) → f < count → not (q (2 * f)) ≡ p f) → every n (λ k. not (q k)) ≡ every count p
sends_all n count q p room only agree =
    both_ways (every n (λ k. not (q k))) (every count p)
    (λ t. every_from count p (λ f l. sym (agree f l) ∙ every_at n (λ k. not (q k)) t (2 * f) (omega arith)))
    (λ t. every_from n (λ k. not (q k)) (λ k l. ⊎_elim (λ (s : q k ≡ true). found t k (only k l s)) (λ f. not_is_true (q k) f) (which (q k))))
  where
    found : every count p ≡ true → (k : ℕ) → is_send count k ≡ true → not (q k) ≡ true
    found t k s =
        let b : k < 2 * count = ltb-true k (2 * count) (and_left (ltb k (2 * count)) (eqb (k % 2) 0) s) in
        let even : k % 2 ≡ 0 = eqb-true (k % 2) 0 (and_right (ltb k (2 * count)) (eqb (k % 2) 0) s) in
        let half : 2 * (k / 2) ≡ k = omega arith in
        let f : k / 2 < count = omega arith in
        rw half at (agree (k / 2) f ∙ every_at count p t (k / 2) f)

-- the send of a message is a send
send_is : (count f : ℕ) → f < count → is_send count (2 * f) ≡ true
send_is count f h = rw (lt-ltb (2 * f) (2 * count) (omega arith), eq-eqb (2 * f % 2) 0 (omega arith))

other : (a d : Bool) → not (a && not d) ≡ (d || not a)
other false true = refl
other false false = refl
other true true = refl
other true false = refl

overtakes : (h e w d : Bool) → not (h && e && (w && not d)) ≡ (d || not (w && e && h))
overtakes h e w true = ap not (ap (λ (a : Bool). h && e && a) (and-false w) ∙ and-false (h && e))
overtakes false e false false = refl
overtakes false false true false = refl
overtakes false true true false = refl
overtakes true false false false = refl
overtakes true false true false = refl
overtakes true true false false = refl
overtakes true true true false = refl

swapped : (a w : Bool) → not (a && true && w) ≡ not (w && a)
swapped false false = refl
swapped false true = refl
swapped true false = refl
swapped true true = refl

module _ (count : ℕ) (on words masks : List ℕ) (standing : Standing count on words masks) where
  abbrev S : Scenario
  S = scenario_in count on words

  room : 2 * count ≤ word_bits * width
  room = events_fit count standing.few

  -- no message of the mask of all sends is among those given
  none_says : (given : List ℕ) (y : ℕ) → none_in (word_bits * width) width masks (2 * boards) given y ≡ every count (λ f. not (holds width given y (2 * f)))
  unfolding none_in
  none_says given y =
      sends_all (word_bits * width) count _ _ room
      (λ k h t. sym (standing.masks_of.sends k h) ∙ and_left (holds width masks (2 * boards) k) (holds width given y k) t)
      (λ f h. rw (standing.masks_of.sends (2 * f) (omega (arith, room)) ∙ send_is count f h))

  -- none but m
  others_say : (way others : List ℕ) (m : ℕ) → Without way (2 * m) others
      → none_in (word_bits * width) width masks (2 * boards) others 0 ≡ every count (λ f. eqb f m || not (in_row way (2 * f)))
  others_say way others m w =
      none_says others 0
      ∙ every_ext count _ _ (λ f h.
      ap not (w (2 * f) ∙ ap (λ (b : Bool). in_row way (2 * f) && not b) (eqb_same (2 * f) (2 * m) f m (λ e. omega arith) (λ e. omega arith)))
      ∙ other (in_row way (2 * f)) (eqb f m))

  -- no message under way has its send before m's receive
  earlier_says : (way : List ℕ) (m : ℕ) → m < count
      → none_of_row (word_bits * width) width words (2 * m + 1) masks (2 * boards) (in_row way)
      ≡ every count (λ f. not (in_row way (2 * f) && S.before (send_of f) (receive_of m)))
  unfolding none_of_row number message_of
  earlier_says way m hm =
      sends_all (word_bits * width) count _ _ room
      (λ k h t. sym (standing.masks_of.sends k h)
      ∙ and_right (holds width words (2 * m + 1) k) (holds width masks (2 * boards) k) (and_left (holds width words (2 * m + 1) k && holds width masks (2 * boards) k) (in_row way k) t))
      (λ f h.
      rw (standing.masks_of.sends (2 * f) (omega (arith, room)) ∙ send_is count f h, lt-ltb f count h, lt-ltb m count hm)
      (swapped (holds width words (2 * m + 1) (2 * f)) (in_row way (2 * f))))

  -- no other message under way to m's board has its send before m's
  order_says : (way others : List ℕ) (m : ℕ) → m < count → Without way (2 * m) others
      → none_of_row (word_bits * width) width words (2 * m) masks (boards + S.target m) (in_row others)
      ≡ every count (λ f. eqb f m || not (in_row way (2 * f) && eqb (S.target f) (S.target m) && S.before (send_of f) (send_of m)))
  unfolding none_of_row number message_of
  order_says way others m hm w =
      sends_all (word_bits * width) count _ _ room
      (λ k h t.
      and_left (is_send count k) (eqb (get_or on (k + 1) 0) (S.target m))
      (sym (standing.masks_of.to_board (S.target m) k there h)
      ∙ and_right (holds width words (2 * m) k) (holds width masks (boards + S.target m) k) (and_left (holds width words (2 * m) k && holds width masks (boards + S.target m) k) (in_row others k) t)))
      (λ f h.
      rw (
        standing.masks_of.to_board (S.target m) (2 * f) there (omega (arith, room)),
        send_is count f h,
        w (2 * f),
        eqb_same (2 * f) (2 * m) f m (λ e. omega arith) (λ e. omega arith),
        lt-ltb f count h,
        lt-ltb m count hm,
      )
      (overtakes (holds width words (2 * m) (2 * f)) (eqb (S.target f) (S.target m)) (in_row way (2 * f)) (eqb f m)))
    where
      there : S.target m < boards
      there = standing.boards_below (2 * m + 1) (omega arith)

  module _ (c : model.Channel) (run : Run) where
    -- an eager board sends, or takes a delivery, only while its buffer is empty
    pub free_says : (b : ℕ) (held : List ℕ) (y : ℕ) → BufferRow run b held y → free_in c.eager masks held y ≡ board_free S c (state_of run) b
    unfolding board_free buffer_empty
    free_says b held y e =
        ap (λ (t : Bool). not c.eager || t)
        (none_says held y ∙ every_ext count _ _ (λ f h. ap not (sym (e (2 * f) (omega (arith, room))))))

    -- the further conditions, one by one
    pub send_earlier : (m : ℕ) → m < count → c.to_send ≡ model.no_earlier_under_way
        → none_of_row (word_bits * width) width words (2 * m + 1) masks (2 * boards) (in_row run.way) ≡ may_send S c c.to_send (state_of run) m
    unfolding may_send
    send_earlier m hm e = rw (e, may_send) (earlier_says run.way m hm)

    pub send_empty : (m : ℕ) → c.to_send ≡ model.channel_empty
        → none_in (word_bits * width) width masks (2 * boards) run.way 0 ≡ may_send S c c.to_send (state_of run) m
    unfolding may_send
    send_empty m e = rw (e, may_send) (none_says run.way 0)

    pub send_always : (m : ℕ) → c.to_send ≡ model.ToSend.always → true ≡ may_send S c c.to_send (state_of run) m
    unfolding may_send
    send_always m e = rw (e, may_send)

    pub deliver_ordered : (m : ℕ) (others : List ℕ) → m < count → Without run.way (2 * m) others → c.to_deliver ≡ model.in_order
        → none_of_row (word_bits * width) width words (2 * m) masks (boards + S.target m) (in_row others) ≡ may_deliver S c c.to_deliver (state_of run) m
    unfolding may_deliver
    deliver_ordered m others hm w e = rw (e, may_deliver) (order_says run.way others m hm w)

    pub deliver_alone : (m : ℕ) (others : List ℕ) → Without run.way (2 * m) others → c.to_deliver ≡ model.alone
        → none_in (word_bits * width) width masks (2 * boards) others 0 ≡ may_deliver S c c.to_deliver (state_of run) m
    unfolding may_deliver
    deliver_alone m others w e = rw (e, may_deliver) (others_say run.way others m w)

    pub deliver_always : (m : ℕ) → c.to_deliver ≡ model.ToDeliver.always → true ≡ may_deliver S c c.to_deliver (state_of run) m
    unfolding may_deliver
    deliver_always m e = rw (e, may_deliver)

-- what the code's tests say of the rule at hand
module _ (words masks : List ℕ) (rule : ToSend) (way : List ℕ) (m : ℕ) where
  pub send_rule_always : rule ≡ to_send_holds.Always → SaysSendRule words masks rule way m true
  send_rule_always r count on standing h c run e d = send_always count on words masks standing c run m (e ∙ ap to_send_in r)

  pub send_rule_earlier : (t : Bool) → t ≡ none_of_row (word_bits * width) width words (2 * m + 1) masks (2 * boards) (in_row way) → rule ≡ to_send_holds.NoEarlierUnderWay
      → SaysSendRule words masks rule way m t
  send_rule_earlier t s r count on standing h c run e d = s ∙ rw (← d) (send_earlier count on words masks standing c run m h (e ∙ ap to_send_in r))

  pub send_rule_empty : (t : Bool) → t ≡ none_in (word_bits * width) width masks (2 * boards) way 0 → rule ≡ to_send_holds.ChannelEmpty
      → SaysSendRule words masks rule way m t
  send_rule_empty t s r count on standing h c run e d = s ∙ rw (← d) (send_empty count on words masks standing c run m (e ∙ ap to_send_in r))

module _ (words masks : List ℕ) (rule : ToDeliver) (way : List ℕ) (target m : ℕ) where
  pub deliver_rule_always : rule ≡ to-deliver.Always → SaysDeliverRule words masks rule way target m true
  deliver_rule_always r count on standing h i c run e d = deliver_always count on words masks standing c run m (e ∙ ap to_deliver_in r)

  pub deliver_rule_ordered : (t : Bool) (others : List ℕ) → t ≡ none_of_row (word_bits * width) width words (2 * m) masks (boards + target) (in_row others)
      → Without way (2 * m) others → rule ≡ to-deliver.InOrder → SaysDeliverRule words masks rule way target m t
  deliver_rule_ordered t others s w r count on standing h i c run e d =
      s ∙ rw i (deliver_ordered count on words masks standing c run m others h (rw d w) (e ∙ ap to_deliver_in r))

  pub deliver_rule_alone : (t : Bool) (others : List ℕ) → t ≡ none_in (word_bits * width) width masks (2 * boards) others 0
      → Without way (2 * m) others → rule ≡ to-deliver.Alone → SaysDeliverRule words masks rule way target m t
  deliver_rule_alone t others s w r count on standing h i c run e d =
      s ∙ deliver_alone count on words masks standing c run m others (rw d w) (e ∙ ap to_deliver_in r)

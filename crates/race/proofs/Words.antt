-- The words of the race test, bit by bit. Assumes nothing.
use mathlib.Core.Path.{◌≡◌, refl, sym, ◌∙◌, ap}
use mathlib.Core.Bool.{Bool, true, false, not, ◌&&◌, ◌||◌, and-false, or-false}
use mathlib.Core.List.{List}
use Prim.Native.Nat.{ℕ, zero, suc, ◌+◌, ◌*◌, ◌-◌, ◌%◌, ◌^◌, ◌<◌}
use native.Mathlib.Decide.{ℕ_discrete, dec_lt}
use native.Mathlib.Omega.{arith}
use lib.Bits.{bit_and, bit_or}
use lib.Dec.{eqb, ltb}
use lib.ListN.{get_or}
use borrow.Author.Tests.{eq-eqb, ne_eqb, lt-ltb, le-ltb}
use Rattle.model.specs.Limits as limits
use Rattle.model.specs.Order.{event}
use Rattle.model.specs.Race.{RaceRule, by_event, by_origin, never, not_at_or_before, is_race}
use Rattle.relation.specs.Width.{width, word_bits}
use Rattle.relation.specs.Rows.{has, holds}
use Rattle.relation.specs.Scenario.{scenario_in}
use Rattle.relation.proofs.Bits.{has_zero, has_or}
use Rattle.relation.proofs.Words.{has_and, has_not, shift_lowest, shift_higher, even_bits, has_even_bits, word_holds}
use Rattle.board.specs.Masks.{Standing}
use Rattle.race.specs.declared.Rule.{Rule}
use Rattle.race.specs.declared.Rule.TheVariants.{ByEvent, ByOrigin, Never}
use Rattle.race.specs.Bridge.{rule_in}
use Rattle.at_or_before.specs.Reached.{event_at, is_reached, ReachedWord}
use Rattle.at_or_before.proofs.Reached.{at_or_before_at}
use Rattle.race.specs.Word.{is_outside, OutsideWord, is_on, BitsOn, RaceWord}
use Rattle.race.proofs.Races.{by_event_holds, by_origin_holds, race_at}

module _ (words : List ℕ) (r : Rule) (e w word : ℕ) where
  pub outside_event : r ≡ ByEvent → word < 2 ^ word_bits → ReachedWord words e w word → OutsideWord words (rule_in r) e w (2 ^ word_bits - 1 - word)
  outside_event i small reached b h = rw (i, ← reached b h) (has_not b word_bits word h small)

  pub outside_never : r ≡ Never → OutsideWord words (rule_in r) e w 0
  outside_never i b h = rw i (has_zero b)

  -- by origin: the sends that are not reached
  module _ (small : word < 2 ^ word_bits) (reached : ReachedWord words e w word) where
    sends_out : ℕ
    sends_out = bit_and (2 ^ word_bits - 1 - word) even_bits

    send_out : (b : ℕ) → b < word_bits → b % 2 ≡ 0 → has sends_out b ≡ not (is_reached words e (event_at w b))
    unfolding sends_out
    send_out b h even =
        rw (has_and, has_not b word_bits word h small, reached b h, has_even_bits b h, eq-eqb (b % 2) 0 even) (passes (is_reached words e (event_at w b)))
      where
        passes : (p : Bool) → (not p && true) ≡ not p
        passes true = refl
        passes false = refl

    receive_out : (b : ℕ) → b < word_bits → b % 2 ≡ 1 → has sends_out b ≡ false
    unfolding sends_out
    receive_out b h odd =
        rw (has_and, has_even_bits b h, ne_eqb (b % 2) 0 (λ z. omega arith)) (and-false (has (2 ^ word_bits - 1 - word) b))

    both_out : (b : ℕ) → b < word_bits → has (bit_or sends_out (sends_out * 2 % 2 ^ word_bits)) b ≡ not (is_reached words e (event_at w b - event_at w b % 2))
    both_out b h = has_or sends_out (sends_out * 2 % 2 ^ word_bits) b ∙ go b h (ℕ_discrete (b % 2) 0)
      where
        go : (b : ℕ) → b < word_bits → Dec (b % 2 ≡ 0)
            → (has sends_out b || has (sends_out * 2 % 2 ^ word_bits) b) ≡ not (is_reached words e (event_at w b - event_at w b % 2))
        go zero h d =
            let at : event_at w 0 - event_at w 0 % 2 ≡ event_at w 0 = omega arith in
            rw (shift_lowest sends_out, send_out 0 h refl, at) (or-false (not (is_reached words e (event_at w 0))))
        go (suc j) h (yes even) =
            let at : event_at w (suc j) - event_at w (suc j) % 2 ≡ event_at w (suc j) = omega arith in
            rw (shift_higher sends_out j h, send_out (suc j) h even, receive_out j (omega arith) (omega arith), at)
            (or-false (not (is_reached words e (event_at w (suc j)))))
        go (suc j) h (no odd) =
            let at : event_at w (suc j) - event_at w (suc j) % 2 ≡ event_at w j = omega arith in
            rw (shift_higher sends_out j h, receive_out (suc j) h (omega arith), send_out j (omega arith) (omega arith), at)

    pub outside_origin : r ≡ ByOrigin
        → OutsideWord words (rule_in r) e w
        (bit_or (bit_and (2 ^ word_bits - 1 - word) even_bits) (bit_and (2 ^ word_bits - 1 - word) even_bits * 2 ^ 1 % 2 ^ word_bits))
    unfolding sends_out
    outside_origin i b h = rw i (both_out b h)

-- e's receive is on a board of the paper
pub receive_below : {count e b : ℕ} {boards words masks : List ℕ} → Standing count boards words masks → e < count → b ≡ get_or boards (2 * e + 1) 0
    → b < limits.boards
receive_below {e = e} s l i = rw i (s.boards_below (2 * e + 1) (omega arith))

-- what is not at or before e's send is what stands outside; and so a race is said by words
module _ (count : ℕ) (boards words : List ℕ) (r : RaceRule) (e : ℕ) (l : e < count) where
  outside_same : (x : ℕ) → x < 2 * count → not_at_or_before (scenario_in count boards words) r e (event x) ≡ is_outside words r e x
  unfolding not_at_or_before
  outside_same x h = go r
    where
      go : (q : RaceRule) → not_at_or_before (scenario_in count boards words) q e (event x) ≡ is_outside words q e x
      go by_event = by_event_holds count boards words e x ∙ ap not (at_or_before_at count boards words x (2 * e) h (omega arith))
      go by_origin =
          by_origin_holds count boards words e x ∙ ap not (at_or_before_at count boards words (x - x % 2) (2 * e) (omega arith) (omega arith))
      go never = refl

  pub race_outside : (x : ℕ) → x < 2 * count → is_race (scenario_in count boards words) r e (event x)
      ≡ (eqb (get_or boards x 0) (get_or boards (2 * e + 1) 0) && holds width words (2 * e + 1) x && is_outside words r e x)
  race_outside x h = race_at count boards words r e x l h ∙ rw (outside_same x h)

  -- a word of what is before e's receive and outside: its bits on the receiver's board are the events that race
  pub races_on : (w board outside word : ℕ) → OutsideWord words r e w outside → board ≡ get_or boards (2 * e + 1) 0
      → BitsOn (bit_and (get_or words ((2 * e + 1) * width + w) 0) outside) w boards (2 * count) board word → RaceWord count boards words r e w word
  races_on w board outside word out at on b h =
      on.bits b h ∙ rw (has_and, ← word_holds width words (2 * e + 1) w b h, out b h, at) (go (dec_lt (event_at w b) (2 * count)))
    where
      turns : (a c d : Bool) → ((a && c) && d) ≡ (d && a && c)
      turns true true true = refl
      turns true true false = refl
      turns true false true = refl
      turns true false false = refl
      turns false c true = refl
      turns false c false = refl

      go : Dec (event_at w b < 2 * count)
          → ((holds width words (2 * e + 1) (event_at w b) && is_outside words r e (event_at w b))
          && (ltb (event_at w b) (2 * count) && eqb (get_or boards (event_at w b) 0) (get_or boards (2 * e + 1) 0)))
          ≡ (ltb (event_at w b) (2 * count) && is_race (scenario_in count boards words) r e (event (event_at w b)))
      go (yes k) =
          rw (lt-ltb (event_at w b) (2 * count) k)
          (turns (holds width words (2 * e + 1) (event_at w b)) (is_outside words r e (event_at w b)) (eqb (get_or boards (event_at w b) 0) (get_or boards (2 * e + 1) 0))
          ∙ sym (race_outside (event_at w b) k))
      go (no k) =
          rw (le-ltb (event_at w b) (2 * count) (omega arith)) (and-false (holds width words (2 * e + 1) (event_at w b) && is_outside words r e (event_at w b)))

  -- nothing stands outside
  pub no_races : (w outside word : ℕ) → OutsideWord words r e w outside → word ≡ bit_and (get_or words ((2 * e + 1) * width + w) 0) outside → word ≡ 0
      → RaceWord count boards words r e w 0
  no_races w outside word out i z =
      races_on w (get_or boards (2 * e + 1) 0) outside 0 out refl (record { bits = λ b h. has_zero b ∙ sym (rw (sym i ∙ z, has_zero b)) })

-- the races of e in word w, by the masks
module _ (count : ℕ) (boards words masks : List ℕ) (S : Standing count boards words masks) (r : RaceRule) (e : ℕ) (l : e < count) where
  pub races_in_word : (w board outside : ℕ) → OutsideWord words r e w outside → board ≡ get_or boards (2 * e + 1) 0 → w < width
      → RaceWord count boards words r e w (bit_and (bit_and (get_or words ((2 * e + 1) * width + w) 0) (get_or masks (board * width + w) 0)) outside)
  races_in_word w board outside out at hw = races_on count boards words r e l w board outside _ out at (record { bits = λ b h. go b h })
    where
      turns : (a c d : Bool) → ((a && c) && d) ≡ ((a && d) && c)
      turns true true true = refl
      turns true true false = refl
      turns true false true = refl
      turns true false false = refl
      turns false c d = refl

      row : ℕ
      row = get_or words ((2 * e + 1) * width + w) 0

      mask : ℕ
      mask = get_or masks (board * width + w) 0

      go : (b : ℕ) → b < word_bits → has (bit_and (bit_and row mask) outside) b ≡ (has (bit_and row outside) b && is_on boards (2 * count) board (event_at w b))
      go b h =
          let on : has mask b ≡ is_on boards (2 * count) board (event_at w b) =
          sym (word_holds width masks board w b h) ∙ S.masks_of.on_board board (event_at w b) (receive_below S l at) (omega arith) in
          rw (has_and (bit_and row mask) outside b, has_and row mask b, has_and row outside b, on) (turns (has row b) (is_on boards (2 * count) board (event_at w b)) (has outside b))

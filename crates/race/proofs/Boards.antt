-- The events of a word that are on a board, bit by bit. Assumes nothing.
use mathlib.Core.Path.{◌≡◌, refl, sym, ◌∙◌, ap}
use mathlib.Core.Bool.{Bool, true, false, cond, ◌&&◌, and-false, and-true, or-false}
use mathlib.Core.List.{List}
use Prim.Native.Nat.{ℕ, zero, suc, ◌+◌, ◌*◌, ◌-◌, ◌%◌, ◌^◌, ◌<◌, ◌≤◌}
use native.Mathlib.Nat.{mod-lt}
use native.Mathlib.Decide.{dec_lt}
use native.Mathlib.Omega.{arith}
use lib.Bits.{bit_and, bit_or, and_mask}
use lib.Count.{count_trailing_zeros, count_leading_zeros, leading_le, leading_length}
use lib.Dec.{eqb, ltb}
use lib.ListN.{get_or}
use lib.Pow.{pow_pos}
use borrow.Author.Tests.{eq-eqb, ne_eqb, lt-ltb, le-ltb}
use Rattle.model.proofs.Bounded.{and_left, and_right, not_both}
use Rattle.relation.specs.Width.{word_bits}
use Rattle.relation.specs.Rows.{has}
use Rattle.relation.proofs.Bits.{has_zero, has_or, has_power, mask_power}
use Rattle.relation.proofs.Words.{has_and, has_mod, has_beyond, shift_lowest, shift_higher, shifted_up, trailing_clear, trailing_below}
use Rattle.at_or_before.specs.Reached.{event_at}
use Rattle.race.specs.Word.{is_on, OnBoard, Within, BitsOn}

-- ---- the boards one by one, from the last event to the first

-- the bit of one event
pub same_one : (a b : ℕ) → a ≡ b → ◌≡◌ {A = ℕ} 1 (cond (eqb a b) 1 0)
same_one a b e = rw (eq-eqb a b e)

pub other_none : (a b : ℕ) → (a ≡ b → ⊥) → ◌≡◌ {A = ℕ} 0 (cond (eqb a b) 1 0)
other_none a b n = rw (ne_eqb a b n)

one_lowest : (t : Bool) → has (cond t 1 0) 0 ≡ t
one_lowest true = has_power 0 0
one_lowest false = has_zero 0

one_higher : (t : Bool) (j : ℕ) → has (cond t 1 0) (suc j) ≡ false
one_higher true j = has_power 0 (suc j) ∙ ne_eqb (suc j) 0 (λ e. omega arith)
one_higher false j = has_zero (suc j)

module _ (boards : List ℕ) (board from to : ℕ) where
  -- those from x on are looked at
  pub record LookedAt (x on : ℕ) : Type 0 where
    pub so_far : OnBoard boards board x to on
    pub most : x ≤ to
    pub short : x < from → x ≡ to

  pub none_looked_at : LookedAt to 0
  none_looked_at =
      record {
        so_far = record { bits = λ b h. has_zero b ∙ sym (rw (le-ltb (to + b) to (omega arith))) };
        most = omega arith;
        short = λ h. refl;
      }

  pub one_looked_at : (x on b s : ℕ) → LookedAt x on → from < x → b ≡ get_or boards (x - 1) 0 → s ≡ cond (eqb b board) 1 0
      → LookedAt (x - 1) (bit_or (on * 2 ^ 1 % 2 ^ word_bits) s)
  one_looked_at x on b s p l e i =
      record { so_far = record { bits = λ k h. go k h }; most = omega (arith, p.most); short = λ h. absurd (omega arith) }
    where
      go : (k : ℕ) → k < word_bits → has (bit_or (on * 2 ^ 1 % 2 ^ word_bits) s) k ≡ is_on boards to board (x - 1 + k)
      go zero h =
          let at : x - 1 + 0 ≡ x - 1 = omega arith in
          rw (has_or, shift_lowest on, i, one_lowest (eqb b board), at, lt-ltb (x - 1) to (omega (arith, p.most)), e)
      go (suc j) h =
          let at : x - 1 + suc j ≡ x + j = omega arith in
          rw (has_or, shift_higher on j h, i, one_higher (eqb b board) j, at) (or-false (has on j) ∙ p.so_far.bits j (omega arith))

  pub all_looked_at : (x on : ℕ) → LookedAt x on → x ≤ from → OnBoard boards board from to on
  all_looked_at x on p l = record { bits = λ b h. p.so_far.bits b h ∙ go b (dec_lt x from) }
    where
      go : (b : ℕ) → Dec (x < from) → is_on boards to board (x + b) ≡ is_on boards to board (from + b)
      go b (yes k) =
          let end : x ≡ to = p.short k in
          rw (le-ltb (x + b) to (omega arith), le-ltb (from + b) to (omega arith))
      go b (no k) = let same : x ≡ from = omega arith in rw same

-- ---- a word cut after the last event
module _ (word w events : ℕ) where
  pub within_all : word_bits * w + word_bits ≤ events → Within word w events word
  within_all h = record { bits = λ b l. sym (rw (lt-ltb (event_at w b) events (omega arith)) (and-true (has word b))) }

  pub within_none : events ≤ word_bits * w → Within word w events 0
  within_none h = record { bits = λ b l. has_zero b ∙ sym (rw (le-ltb (event_at w b) events (omega arith)) (and-false (has word b))) }

  pub few_power : 1 ≤ 1 * 2 ^ (events % word_bits) % 2 ^ word_bits
  few_power = rw (mask_power events) (pow_pos (events % word_bits))

  pub within_some : events < word_bits * w + word_bits → word_bits * w < events
      → Within word w events (bit_and word (1 * 2 ^ (events % word_bits) % 2 ^ word_bits - 1))
  within_some h l =
      record { bits = λ b k. ap (λ (n : ℕ). has n b) cut ∙ go b k (dec_lt b (events % word_bits)) }
    where
      cut : bit_and word (1 * 2 ^ (events % word_bits) % 2 ^ word_bits - 1) ≡ word % 2 ^ (events % word_bits)
      cut = rw (mask_power events) (and_mask word (events % word_bits))

      go : (b : ℕ) → b < word_bits → Dec (b < events % word_bits) → has (word % 2 ^ (events % word_bits)) b ≡ (has word b && ltb (event_at w b) events)
      go b k (yes below) =
          rw (has_mod word (events % word_bits) b below, lt-ltb (event_at w b) events (omega arith), and-true (has word b))
      go b k (no above) =
          rw (
            has_beyond (word % 2 ^ (events % word_bits)) (events % word_bits) b (mod-lt word (pow_pos (events % word_bits))) (omega arith),
            le-ltb (event_at w b) events (omega arith),
            and-false (has word b),
          )

-- the zeros of a word below its lowest bit and above its highest
pub lowest_below : (left lowest : ℕ) → left < 2 ^ word_bits → (left ≡ 0 → ⊥) → lowest ≡ count_trailing_zeros word_bits left → lowest < word_bits
lowest_below left lowest small some e = omega (arith, trailing_below word_bits left small some)

pub above_most : (left above : ℕ) → above ≡ count_leading_zeros word_bits left → above ≤ word_bits
above_most left above e = omega (arith, leading_le word_bits left)

-- ---- the bits whose events are on the board
module _ (word w : ℕ) (boards : List ℕ) (events board left : ℕ) (cut : Within word w events left) where
  -- a bit that was cut off, or not there
  none_there : (b : ℕ) → b < word_bits → has left b ≡ false → (has word b && is_on boards events board (event_at w b)) ≡ false
  none_there b h f = go (has word b) (ltb (event_at w b) events) (sym (cut.bits b h) ∙ f)
    where
      go : (p q : Bool) → (p && q) ≡ false → (p && (q && eqb (get_or boards (event_at w b) 0) board)) ≡ false
      go true q e = rw e
      go false q e = refl

  pub none_left : left ≡ 0 → BitsOn word w boards events board 0
  none_left z = record { bits = λ b h. has_zero b ∙ sym (none_there b h (ap (λ (n : ℕ). has n b) z ∙ has_zero b)) }

  module _ (small : left < 2 ^ word_bits) (lowest above on : ℕ) (low : lowest ≡ count_trailing_zeros word_bits left) (high : above ≡ count_leading_zeros word_bits left)
      (marks : OnBoard boards board (word_bits * w + lowest) (word_bits * w + word_bits - above) on) where
    from_lowest : (b : ℕ) → has left b ≡ true → lowest ≤ b
    from_lowest b t = go (dec_lt b lowest)
      where
        go : Dec (b < lowest) → lowest ≤ b
        go (yes k) = not_both (has left b) t (trailing_clear word_bits left b (omega arith))
        go (no k) = omega arith

    to_highest : (b : ℕ) → has left b ≡ true → b + above < word_bits
    to_highest b t = go (leading_length word_bits left small) (dec_lt (b + above) word_bits)
      where
        go : (m : ℕ) × (count_leading_zeros word_bits left + m ≡ word_bits) × (left < 2 ^ m) × (2 ^ m ≤ 2 * left + 1) → Dec (b + above < word_bits) → b + above < word_bits
        go l (yes k) = k
        go l (no k) = not_both (has left b) t (has_beyond left l.0 b l.2 (omega (arith, l.1)))

    there : (b : ℕ) → b < word_bits → has left b ≡ true → has (on * 2 ^ lowest % 2 ^ word_bits) b ≡ is_on boards events board (event_at w b)
    there b h t =
        let from = from_lowest b t in
        let to = to_highest b t in
        let split : lowest + (b - lowest) ≡ b = omega arith in
        let at : word_bits * w + lowest + (b - lowest) ≡ event_at w b = omega arith in
        let inside : ltb (event_at w b) events ≡ true = and_right (has word b) (ltb (event_at w b) events) (sym (cut.bits b h) ∙ t) in
        ap (λ (n : ℕ). has (on * 2 ^ lowest % 2 ^ word_bits) n) (sym split)
        ∙ shifted_up on lowest (b - lowest) (omega arith)
        ∙ marks.bits (b - lowest) (omega arith)
        ∙ rw (at, lt-ltb (event_at w b) (word_bits * w + word_bits - above) (omega arith), inside)

    pub some_left : BitsOn word w boards events board (bit_and left (on * 2 ^ lowest % 2 ^ word_bits))
    some_left = record { bits = λ b h. has_and left (on * 2 ^ lowest % 2 ^ word_bits) b ∙ go b h (has left b) refl }
      where
        go : (b : ℕ) → b < word_bits → (t : Bool) → has left b ≡ t
            → (has left b && has (on * 2 ^ lowest % 2 ^ word_bits) b) ≡ (has word b && is_on boards events board (event_at w b))
        go b h true t =
            let is_there : has word b ≡ true = and_left (has word b) (ltb (event_at w b) events) (sym (cut.bits b h) ∙ t) in
            rw (t, is_there) (there b h t)
        go b h false t = rw t (sym (none_there b h t))

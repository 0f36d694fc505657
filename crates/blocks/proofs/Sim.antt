-- How the walk's store stands to what the model's walk has met: the same boards, rows that hold exactly "before", and for each
-- board the events of earlier blocks there and all before them. Assumes nothing.
use Prim.Native.Nat.{ℕ, ◌+◌, ◌*◌, ◌/◌, ◌<◌}
use native.Mathlib.Omega.{arith}
use mathlib.Core.Path.{◌≡◌, refl}
use mathlib.Core.Logic.{◌⊎◌}
use mathlib.Core.Bool.{Bool, true, false}
use mathlib.Core.List.{List}
use lib.ListN.{length, get_or}
use Rattle.model.specs.Limits.{boards, messages_most}
use Rattle.model.specs.Expansion.{Walk, fresh_walk}
use Rattle.model.specs.Closure.{listed}
use Rattle.model.specs.Order.{Met, nothing_met}
use Rattle.model.proofs.Bounded.{not_both}
use Rattle.relation.specs.Width.{width, word_bits}
use Rattle.relation.specs.Rows.{holds, bit_of, word_of}
use Rattle.relation.specs.Order.{before, Transitive}
use Rattle.relation.proofs.Bits.{has_zero}
use Rattle.relation.proofs.Order.{Within}
use Rattle.blocks.specs.Store.{Store}

-- a test on event numbers holds the sources of "before" among the first n messages, and is transitive there
pub record Orders (n : ℕ) (events blocks : List ℕ) (orders : List (ℕ × ℕ)) (Q : ℕ → ℕ → Bool) : Type 0 where
  pub rows : (x y : ℕ) → listed x y orders ≡ true → Q x y ≡ true
  pub owns : (k : ℕ) → k < n → Q (2 * k) (2 * k + 1) ≡ true
  pub earliers : (x y : ℕ) → x < 2 * n → y < 2 * n → get_or events x 0 ≡ get_or events y 0
      → get_or blocks (x / 2) 0 < get_or blocks (y / 2) 0
      → Q x y ≡ true
  pub closed : Transitive (2 * n) Q

-- event x is in row y
abbrev pub in_row : Store → ℕ → ℕ → Bool
in_row t x y = before width t.words x y

-- event x is past on board p
abbrev pub in_past : Store → ℕ → ℕ → Bool
in_past t p x = holds width t.past p x

-- the events that a row has bits for
abbrev pub bits : ℕ
bits = word_bits * width

pub record Sim (w : Walk) (m : Met) (t : Store) : Type 0 where
  pub events_long : length t.events ≡ 2 * messages_most
  pub words_long : length t.words ≡ 2 * messages_most * width
  pub past_long : length t.past ≡ boards * width
  pub same_boards : (k : ℕ) → get_or t.events k 0 ≡ get_or m.events k 0
  -- the rows hold the sources of "before", are transitive, and hold no more than every such test does
  pub ordered : Orders w.count m.events m.blocks m.orders (in_row t)
  pub least : (Q : ℕ → ℕ → Bool) → Orders w.count m.events m.blocks m.orders Q → Within (2 * w.count) (in_row t) Q
  -- in the rows of events met events met only; and in those of earlier blocks events of earlier blocks only
  pub inside : (x y : ℕ) → x < bits → y < 2 * w.count → in_row t x y ≡ true → x < 2 * w.count
  pub earlier : (x y : ℕ) → x < bits → y < 2 * w.first → in_row t x y ≡ true → x < 2 * w.first
  -- the past of a board: its events of earlier blocks and all before them
  pub past_holds : (e x : ℕ) → x < bits → e < 2 * w.first → (x ≡ e) ⊎ (in_row t x e ≡ true) → in_past t (get_or m.events e 0) x ≡ true
  pub past_only : (p x : ℕ) → p < boards → x < bits → in_past t p x ≡ true
      → (e : ℕ) × (e < 2 * w.first) × (get_or m.events e 0 ≡ p) × ((x ≡ e) ⊎ (in_row t x e ≡ true))

-- Where a walk may begin: every event is on board 0, and nothing is past. The rows may hold anything.
pub record Begins (t : Store) : Type 0 where
  pub events_long : length t.events ≡ 2 * messages_most
  pub words_long : length t.words ≡ 2 * messages_most * width
  pub past_long : length t.past ≡ boards * width
  pub events_zero : (k : ℕ) → get_or t.events k 0 ≡ 0
  pub past_zero : (k : ℕ) → get_or t.past k 0 ≡ 0

none_past : (t : Store) → Begins t → (p x : ℕ) → in_past t p x ≡ false
unfolding holds
none_past t z p x = rw (z.past_zero (word_of width p x)) (has_zero (bit_of x))

pub sim_start : (t : Store) → Begins t → Sim fresh_walk nothing_met t
unfolding listed
sim_start t z =
    record {
      events_long = z.events_long;
      words_long = z.words_long;
      past_long = z.past_long;
      same_boards = z.events_zero;
      ordered = record {
        rows = λ x y h. not_both false h refl;
        owns = λ k h. absurd (omega arith);
        earliers = λ x y p q s l. absurd (omega arith);
        closed = λ a b c p q r. absurd (omega arith);
      };
      least = λ Q o a b p q. absurd (omega arith);
      inside = λ x y p l h. absurd (omega arith);
      earlier = λ x y p q h. absurd (omega arith);
      past_holds = λ e x p q h. absurd (omega arith);
      past_only = λ p x q r h. not_both (in_past t p x) h (none_past t z p x);
    }

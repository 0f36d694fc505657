-- What the loop over a block's events keeps, and what the rows of a message come to.
-- Assumes nothing.
use Prim.Native.Nat.{ℕ, suc, ◌+◌, ◌-◌, ◌*◌, ◌<◌, ◌≤◌}
use native.Mathlib.Nat.{le_antisymm, sub_self, mul-le-mul_right}
use native.Mathlib.Omega.{arith}
use mathlib.Core.Path.{◌≡◌, refl, sym, ◌∙◌, ap}
use mathlib.Core.List.{List}
use lib.ListN.{length, get_or}
use Rattle.model.specs.Limits.{boards}
use Rattle.relation.specs.Width.{width}
use Rattle.relation.specs.Rows.{marked}
use Rattle.relation.proofs.Marked.{length_marked}
use Rattle.joined_rows.specs.Joins.{joined, joined_from, copied_from}
use Rattle.joined_rows.proofs.Joined.{length_joined_from}
use Rattle.blocks.specs.Store.{store_of, begun, added, passed_at, passed_in, passed}
use Rattle.blocks.specs.Room.{Room}

-- the events from .. e - 1 are past
pub record Passing (past events words : List ℕ) (from to e : ℕ) (now : List ℕ) : Type 0 where
  pub exact : now ≡ passed_in width past events words from (e - from)
  pub long : length now ≡ length past
  pub least : from ≤ e
  pub most : e ≤ to

pub passing_start : (past events words : List ℕ) (first count : ℕ) → Room first count (store_of events words past)
    → Passing past events words (2 * first) (2 * count) (2 * first) past
unfolding passed_in
passing_start past events words first count r =
    record { exact = rw (sub_self (2 * first)); long = refl; least = omega arith; most = omega (arith, r.first_most) }

pub passing_more : (past events words : List ℕ) (from to e : ℕ) (now mid after : List ℕ) → Passing past events words from to e now → e < to
    → mid ≡ joined_from width now (get_or events e 0) words e
    → after ≡ marked width mid (get_or events e 0) e
    → Passing past events words from to (e + 1) after
unfolding passed_in passed_at
passing_more past events words from to e now mid after j h f g =
    record {
      exact = g ∙ rw (f, j.exact, at) (sym next);
      long = ap length g ∙ length_marked width mid (get_or events e 0) e ∙ ap length f ∙ length_joined_from width now (get_or events e 0) words e ∙ j.long;
      least = omega arith;
      most = omega arith;
    }
  where
    at : e + 1 - from ≡ suc (e - from)
    at = omega arith

    number : from + (e - from) ≡ e
    number = omega arith

    next : passed_at width (passed_in width past events words from (e - from)) events words (from + (e - from))
        ≡ passed_at width (passed_in width past events words from (e - from)) events words e
    next = ap (passed_at width (passed_in width past events words from (e - from)) events words) number

pub passing_end : (past events words : List ℕ) (from to e : ℕ) (now : List ℕ) → Passing past events words from to e now → to ≤ e
    → now ≡ passed width past events words from to
unfolding passed
passing_end past events words from to e now j h =
    j.exact ∙ ap (λ (n : ℕ). passed_in width past events words from (n - from)) (le_antisymm j.most h)

-- each board has a row of the past, in a turn too
module _ (first count : ℕ) (events words past : List ℕ) (from to e : ℕ) (now : List ℕ) (r : Room first count (store_of events words past))
    (j : Passing past events words from to e now) where
  pub past_room : get_or events e 0 * width + width ≤ length now
  past_room = let l : suc (get_or events e 0) ≤ boards = r.boards_most e in omega (arith, mul-le-mul_right width l, r.past_long, j.long)

  pub past_room_joined : (mid : List ℕ) → mid ≡ joined_from width now (get_or events e 0) words e → get_or events e 0 * width + width ≤ length mid
  past_room_joined mid f = omega (arith, past_room, ap length f ∙ length_joined_from width now (get_or events e 0) words e)

-- the rows of a message, part by part
pub added_parts : (words past w₁ w₂ w₃ w₄ : List ℕ) (m a b : ℕ) → w₄ ≡ marked width w₃ (2 * m + 1) (2 * m) → w₃ ≡ joined width w₂ (2 * m + 1) (2 * m)
    → w₂ ≡ copied_from width w₁ (2 * m + 1) past b
    → w₁ ≡ copied_from width words (2 * m) past a
    → w₄ ≡ added width words past m a b
unfolding added begun
added_parts words past w₁ w₂ w₃ w₄ m a b d c b' a' = rw (d, c, b', a')

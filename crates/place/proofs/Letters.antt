-- The rows by their letters. Assumes nothing.
use Prim.Native.Nat.{ℕ}
use Prim.Native.Char.{code}
use mathlib.Core.Path.{◌≡◌}
use borrow.Author.Tests.{ne_eqb}
use Rattle.model.specs.Rows.{sheet, message, order, block, call, choice}
use Rattle.place.specs.Letters.{row_from}

pub row_sheet : (k a b : ℕ) → k ≡ code "S" → row_from k a b ≡ sheet a
unfolding row_from
row_sheet k a b e = rw e

pub row_message : (k a b : ℕ) → k ≡ code "M" → row_from k a b ≡ message a b
unfolding row_from
row_message k a b e = rw e

pub row_order : (k a b : ℕ) → k ≡ code "P" → row_from k a b ≡ order a b
unfolding row_from
row_order k a b e = rw e

pub row_call : (k a b : ℕ) → k ≡ code "C" → row_from k a b ≡ call a
unfolding row_from
row_call k a b e = rw e

pub row_choice : (k a b : ℕ) → k ≡ code "A" → row_from k a b ≡ choice a b
unfolding row_from
row_choice k a b e = rw e

pub row_block : (k a b : ℕ) → (k ≡ code "S" → ⊥) → (k ≡ code "M" → ⊥) → (k ≡ code "P" → ⊥) → (k ≡ code "C" → ⊥) → (k ≡ code "A" → ⊥)
    → row_from k a b ≡ block
unfolding row_from
row_block k a b e f g h i =
    rw (ne_eqb k (code "S") e, ne_eqb k (code "M") f, ne_eqb k (code "P") g, ne_eqb k (code "C") h, ne_eqb k (code "A") i)

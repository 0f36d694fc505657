-- What the loop of an insert keeps, turn by turn: the rows from .. b - 1 have been looked at.
-- Assumes nothing.
use mathlib.Core.Path.{◌≡◌, refl, sym, ap, ◌∙◌, subst}
use mathlib.Core.Bool.{Bool, true, false}
use mathlib.Core.List.{List}
use Prim.Native.Nat.{ℕ, suc, ◌+◌, ◌-◌, ◌<◌, ◌≤◌}
use native.Mathlib.Nat.{sub_self}
use native.Mathlib.Omega.{arith}
use lib.Dec.{eqb}
use lib.ListN.{length}
use borrow.Author.Tests.{eq-eqb, ne_eqb}
use Rattle.model.proofs.Bounded.{or_right}
use Rattle.relation.specs.Rows.{holds, marked}
use Rattle.joined_rows.specs.Joins.{joined}
use Rattle.closure.specs.Insertion.{behind, inserted_at, inserted_in, inserted}
use Rattle.closure.proofs.Inserted.{length_inserted_at}

pub record Inserting (W : ℕ) (l : List ℕ) (x y from to b : ℕ) (words : List ℕ) : Type 0 where
  pub exact : words ≡ inserted_in W l x y from (b - from)
  pub long : length words ≡ length l
  pub least : from ≤ b
  pub most : b - from ≤ to - from

pub inserting_start : (W : ℕ) (l : List ℕ) (x y from to : ℕ) → Inserting W l x y from to from l
unfolding inserted_in
inserting_start W l x y from to =
    record { exact = rw (sub_self from); long = refl; least = omega arith; most = omega arith }

-- the first test finds that all is done, or not
pub inserting_none : (W : ℕ) (l : List ℕ) (x y from to : ℕ) (r : Bool) → r ≡ holds W l y x → r ≡ true → l ≡ inserted W l x y from to
unfolding inserted
inserting_none W l x y from to r e t = rw (sym e ∙ t)

pub inserting_end : (W : ℕ) (l : List ℕ) (x y from to b : ℕ) (words : List ℕ) (r : Bool) → r ≡ holds W l y x → r ≡ false
    → Inserting W l x y from to b words → to ≤ b
    → words ≡ inserted W l x y from to
unfolding inserted
inserting_end W l x y from to b words r e t j h =
    rw (sym e ∙ t) (j.exact ∙ ap (λ (m : ℕ). inserted_in W l x y from m) (omega arith))

module _ (W : ℕ) (l : List ℕ) (x y from to b : ℕ) (words : List ℕ) (j : Inserting W l x y from to b words) (h : b < to) where
  looked : Inserting W l x y from to (b + 1) (inserted_at W words x y b)
  unfolding inserted_in
  looked =
      record {
        exact = rw (at, j.exact) next;
        long = length_inserted_at W x y words b ∙ j.long;
        least = omega arith;
        most = omega arith;
      }
    where
      at : b + 1 - from ≡ suc (b - from)
      at = omega arith

      row_number : from + (b - from) ≡ b
      row_number = omega arith

      next : inserted_at W (inserted_in W l x y from (b - from)) x y b ≡ inserted_at W (inserted_in W l x y from (b - from)) x y (from + (b - from))
      next = rw row_number

  -- a turn that finds row b not behind y, and one that finds it so
  pub inserting_kept : (now : List ℕ) → now ≡ words → behind W words y b ≡ false → Inserting W l x y from to (b + 1) now
  unfolding inserted_at
  inserting_kept now e t = subst (λ (s : List ℕ). Inserting W l x y from to (b + 1) s) (rw t (sym e)) looked

  pub inserting_added : (now after mid : List ℕ) → now ≡ after → after ≡ marked W mid b x → mid ≡ joined W words b x → behind W words y b ≡ true
      → Inserting W l x y from to (b + 1) now
  unfolding inserted_at
  inserting_added now after mid e g f t =
      subst (λ (s : List ℕ). Inserting W l x y from to (b + 1) s) (rw (t, ← f) (sym (e ∙ g))) looked

-- what the two tests of the code say of row b
module _ (W : ℕ) (words : List ℕ) (y b : ℕ) where
  pub behind_same : b ≡ y → behind W words y b ≡ true
  behind_same e = rw (eq-eqb b y e)

  pub behind_held : (r : Bool) → r ≡ holds W words b y → r ≡ true → behind W words y b ≡ true
  behind_held r e t = or_right (eqb b y) (holds W words b y) (sym e ∙ t)

  pub behind_not : (r : Bool) → r ≡ holds W words b y → r ≡ false → (b ≡ y → ⊥) → behind W words y b ≡ false
  behind_not r e t n = rw (ne_eqb b y n) (sym e ∙ t)

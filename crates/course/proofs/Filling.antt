-- What the loop keeps that fills the row of the events left. Assumes nothing.
use mathlib.Core.Path.{◌≡◌, refl, sym, ap, ◌∙◌, subst, subst⁻¹}
use mathlib.Core.Bool.{Bool, ◌||◌}
use mathlib.Core.List.{List}
use Prim.Native.Nat.{ℕ, ◌+◌, ◌<◌, ◌≤◌}
use native.Mathlib.Decide.{dec_lt}
use native.Mathlib.Omega.{arith}
use lib.Dec.{eqb, ltb}
use lib.ListN.{length, replicate}
use borrow.Author.Tests.{eq-eqb, ne_eqb, lt-ltb, le-ltb}
use Rattle.relation.specs.Width.{width}
use Rattle.relation.specs.Rows.{marked}
use Rattle.relation.proofs.Marked.{length_marked}
use Rattle.free_event.specs.Free.{row_bits}
use Rattle.course.specs.Left.{AllLeft}
use Rattle.course.proofs.Lists.{none_in_zeros, row_marked}

-- The first x events are in the row.
pub record Filling (n x : ℕ) (left : List ℕ) : Type 0 where
  pub filled : AllLeft x left
  pub long : length left ≡ width
  pub most : x ≤ n

pub filling_start : (n : ℕ) → Filling n 0 (replicate width 0)
filling_start n = record { filled = λ k h. none_in_zeros k ∙ sym (le-ltb k 0 (omega arith)); long = refl; most = omega arith }

pub filling_more : (n x : ℕ) (left now : List ℕ) → Filling n x left → now ≡ marked width left 0 x → x < n → n ≤ row_bits → Filling n (x + 1) now
filling_more n x left now f s h few =
    subst⁻¹ (Filling n (x + 1)) s
    (record {
      filled = λ k b. row_marked left x k f.long (omega arith) b ∙ ap (λ (q : Bool). q || eqb k x) (f.filled k b) ∙ more k (dec_lt k x) (dec_lt x k);
      long = length_marked width left 0 x ∙ f.long;
      most = omega arith;
    })
  where
    more : (k : ℕ) → Dec (k < x) → Dec (x < k) → (ltb k x || eqb k x) ≡ ltb k (x + 1)
    more k (yes l) d = rw (lt-ltb k x l, lt-ltb k (x + 1) (omega arith))
    more k (no l) (yes g) = rw (le-ltb k x (omega arith), ne_eqb k x (λ e. omega arith), le-ltb k (x + 1) (omega arith))
    more k (no l) (no g) = rw (le-ltb k x (omega arith), eq-eqb k x (omega arith), lt-ltb k (x + 1) (omega arith))

pub filling_end : (n x : ℕ) (left : List ℕ) → Filling n x left → n ≤ x → AllLeft n left
filling_end n x left f h = subst (λ (m : ℕ). AllLeft m left) (omega (arith, f.most)) f.filled

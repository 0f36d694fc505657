-- The options of a list as the bits of a number, and what a row that calls does with its option. Assumes nothing.
use Prim.Native.Nat.{ℕ, zero, suc, ◌-◌, ◌/◌, ◌%◌, ◌^◌, ◌<◌}
use native.Mathlib.Omega.{arith}
use mathlib.Core.Path.{◌≡◌, refl, sym, ◌∙◌, ap}
use mathlib.Core.Bool.{Bool, true, false, ◌||◌}
use borrow.Author.Tests.{ne_eqb}
use lib.Dec.{eqb}
use lib.ListN.{length, get_or}
use Rattle.levels.specs.Options.{options_in, is_ninth, sheet_called}

pub options_length : (n number : ℕ) → length (options_in n number) ≡ n
unfolding options_in
options_length zero number = refl
options_length (suc n) number = ap suc (options_length n number)

-- option k is the bit with k bits ahead of it
pub option_at : (n number k : ℕ) → k < n → get_or (options_in n number) k false ≡ eqb (number / 2 ^ (n - 1 - k) % 2) 1
unfolding options_in
option_at zero number k h = absurd (omega arith)
option_at (suc n) number zero h = let e : n ≡ suc n - 1 - 0 = omega arith in ap (λ (b : ℕ). eqb (number / 2 ^ b % 2) 1) e
option_at (suc n) number (suc k) h =
    let e : n - 1 - k ≡ suc n - 1 - suc k = omega arith in
    option_at n number k (omega arith) ∙ ap (λ (b : ℕ). eqb (number / 2 ^ b % 2) 1) e

pub either : (b : Bool) → (b || false) ≡ true → b ≡ true
either true e = refl
either false e = e

-- an A row is refused where there were eight
module _ (letter choices : ℕ) where
  pub room_left : (r : Bool) → r ≡ is_ninth letter choices → r ≡ false → is_ninth letter choices ≡ false
  room_left r e f = sym e ∙ f

  -- a row that is no A row calls its first sheet
  pub called_c : (m n options : ℕ) → (letter ≡ 65 → ⊥) → m ≡ sheet_called letter m n options choices
  unfolding sheet_called
  called_c m n options e = rw (ne_eqb letter 65 e)

-- The places of the lists: they tile the numbers from 0 to 255, and a number at a place has the list's options, and m behind them.
-- Assumes nothing.
use Prim.Native.Nat.{ℕ, zero, suc, ◌+◌, ◌-◌, ◌*◌, ◌/◌, ◌%◌, ◌^◌, ◌<◌, ◌≤◌}
use native.Mathlib.Omega.{arith}
use mathlib.Core.Path.{◌≡◌, refl, sym, ◌∙◌, ap, ap₂, subst, subst⁻¹}
use mathlib.Core.Bool.{Bool, true, false, cond}
use mathlib.Core.List.{List, [], ◌∷◌, ◌++◌, append-nil, append_assoc}
use lib.Arith.{digits_div}
use lib.Dec.{eqb}
use lib.ListN.{length, take, replicate, length-append, length-replicate}
use lib.Pow.{pow_pos, pow_mono}
use mir.Syntax.{w64}
use mir.Val.{Fits}
use native.Mathlib.Nat.{mod-eq_of_lt}
use lib.Seq.{take_at}
use Rattle.model.specs.Limits.{choices_most, lists_most}
use Rattle.model.specs.Rows.{Row}
use Rattle.model.specs.Choice.{ChoiceList, asks, Beginning, nothing, more, lists_from, lists_of}
use Rattle.model.proofs.Asking.{asked_short}
use Rattle.levels.specs.Options.{options_in, options_of}
use Rattle.choice_lists.specs.Places.{place_in, place_of}

pub place_below : (n : ℕ) (l : List Bool) → place_in n l < 2 ^ n
unfolding place_in
place_below n [] = pow_pos n
place_below zero (b ∷ l) = pow_pos 0
place_below (suc n) (true ∷ l) = omega (arith, place_below n l)
place_below (suc n) (false ∷ l) = omega (arith, place_below n l)

-- one option more: m leaves the place, and n goes on by the numbers that are left to it
place_more : (n left : ℕ) (l : List Bool) (b : Bool) → length l + suc left ≡ n → place_in n (l ++ (b ∷ [])) ≡ place_in n l + cond b (2 ^ left) 0
unfolding place_in
place_more zero left l b e = absurd (omega arith)
place_more (suc n) left [] b e =
    let k : n ≡ left = omega arith in
    subst (λ (m : ℕ). cond b (2 ^ n) 0 + 0 ≡ 0 + cond b (2 ^ m) 0) k (omega arith)
place_more (suc n) left (c ∷ l) b e =
    let h = place_more n left l b (omega arith) in omega (arith, h)

-- the options of the number at a list's place, whatever stands above its bits
bit : Bool → ℕ
bit b = cond b 1 0

bit_read : (h n : ℕ) (b : Bool) (x : ℕ) → x < 2 ^ n → eqb (((2 * h + bit b) * 2 ^ n + x) / 2 ^ n % 2) 1 ≡ b
unfolding bit
bit_read h n true x l = let e : (2 * h + 1) % 2 ≡ 1 = omega arith in rw (digits_div (2 * h + 1) l, e)
bit_read h n false x l = let e : (2 * h + 0) % 2 ≡ 0 = omega arith in rw (digits_div (2 * h + 0) l, e)

twice : (n : ℕ) → 2 ^ suc n ≡ 2 * 2 ^ n
twice n = omega arith

options_place : (n h : ℕ) (l : List Bool) → length l ≤ n → options_in n (h * 2 ^ n + place_in n l) ≡ l ++ replicate (n - length l) false
unfolding options_in place_in bit
options_place zero h [] e = refl
options_place zero h (b ∷ l) e = absurd (omega arith)
options_place (suc n) h [] e =
    let same : h * 2 ^ suc n + 0 ≡ (2 * h + 0) * 2 ^ n + 0 = subst⁻¹ (λ (q : ℕ). h * q + 0 ≡ (2 * h + 0) * 2 ^ n + 0) (twice n) (omega arith) in
    ap (λ (k : ℕ). eqb (k / 2 ^ n % 2) 1 ∷ options_in n k) same
    ∙ ap₂ (λ (c : Bool) (k : List Bool). c ∷ k) (bit_read h n false 0 (pow_pos n)) (options_place n (2 * h + 0) [] (omega arith))
    ∙ ap (λ (k : ℕ). replicate k false) (let m : suc (n - 0) ≡ suc n - 0 = omega arith in m)
options_place (suc n) h (b ∷ l) e =
    let same : h * 2 ^ suc n + (cond b (2 ^ n) 0 + place_in n l) ≡ (2 * h + bit b) * 2 ^ n + place_in n l = by_bit b in
    ap (λ (k : ℕ). eqb (k / 2 ^ n % 2) 1 ∷ options_in n k) same
    ∙ ap₂ (λ (c : Bool) (k : List Bool). c ∷ k) (bit_read h n b (place_in n l) (place_below n l)) (options_place n (2 * h + bit b) l (omega arith))
    ∙ ap (λ (k : ℕ). b ∷ (l ++ replicate k false)) (let m : n - length l ≡ suc n - suc (length l) = omega arith in m)
  where
    by_bit : (c : Bool) → h * 2 ^ suc n + (cond c (2 ^ n) 0 + place_in n l) ≡ (2 * h + bit c) * 2 ^ n + place_in n l
    by_bit true = subst⁻¹ (λ (q : ℕ). h * q + (2 ^ n + place_in n l) ≡ (2 * h + 1) * 2 ^ n + place_in n l) (twice n) (omega arith)
    by_bit false = subst⁻¹ (λ (q : ℕ). h * q + (0 + place_in n l) ≡ (2 * h + 0) * 2 ^ n + place_in n l) (twice n) (omega arith)

module _ (l : List Bool) (short : length l ≤ choices_most) where
  abbrev pub padding : List Bool
  padding = replicate (choices_most - length l) false

  pub options_at : options_of (place_of l) ≡ l ++ padding
  options_at =
      let e : place_of l ≡ 0 * 2 ^ choices_most + place_of l = omega arith in
      ap (options_in choices_most) e ∙ options_place choices_most 0 l short

  pub padded_length : length (l ++ padding) ≡ choices_most
  padded_length = omega (arith, length-append l padding, length-replicate {A = Bool} (choices_most - length l) false)

  pub options_taken : take (length l) (options_of (place_of l)) ≡ l
  options_taken = ap (take (length l)) options_at ∙ take_at l padding (length l) refl

-- the numbers of a list of so many options
module _ (list met : ℕ) where
  shifted : 1 * 2 ^ (choices_most - met) % 2 ^ 64 ≡ 2 ^ (choices_most - met)
  shifted =
      let h : 2 ^ (choices_most - met) ≤ 2 ^ choices_most = pow_mono {i = choices_most - met} {j = choices_most} (omega arith) in
      let one : 1 * 2 ^ (choices_most - met) ≡ 2 ^ (choices_most - met) = omega arith in
      mod-eq_of_lt (omega arith) ∙ one

  pub next_is : list + 1 * 2 ^ (choices_most - met) % 2 ^ 64 ≡ list + 2 ^ (choices_most - met)
  next_is = rw shifted

  pub next_fits : list < lists_most → Fits w64 (list + 1 * 2 ^ (choices_most - met) % 2 ^ 64)
  next_fits l =
      let h : 2 ^ (choices_most - met) ≤ 2 ^ choices_most = pow_mono {i = choices_most - met} {j = choices_most} (omega arith) in
      omega (arith, shifted)

-- the lists from a place on: each begins where the one ahead of it ends, and the last ends at 256
abbrev pub Tiles : List Row → ℕ → List (List Bool) → Type 0
Tiles file at [] = at ≡ lists_most
Tiles file at (l ∷ ls) = ChoiceList file l × (at ≡ place_of l) × Tiles file (at + 2 ^ (choices_most - length l)) ls

-- the lists that begin with l tile the numbers that do
module _ (file : List Row) where
  tiles_more : (left : ℕ) (l : List Bool) → Beginning file l → length l + left ≡ choices_most → (ls : List (List Bool))
      → Tiles file (place_of l + 2 ^ left) ls → Tiles file (place_of l) (lists_from file left l ++ ls)
  unfolding lists_from
  tiles_more zero l b n ls t =
      let e : choices_most - length l ≡ 0 = omega arith in
      (record { beginning = b; whole = not_asked (asks file l) refl }, refl, subst (λ (k : ℕ). Tiles file (place_of l + 2 ^ k) ls) (sym e) t)
    where
      not_asked : (a : Bool) → asks file l ≡ a → a ≡ false
      not_asked true f = absurd (omega (arith, asked_short file l f))
      not_asked false f = refl
  tiles_more (suc left) l b n ls t =
      go (asks file l) refl
      (λ a. tiles_more left (l ++ (false ∷ [])) (more b a false) (omega (arith, length-append l (false ∷ []))))
      (λ a. tiles_more left (l ++ (true ∷ [])) (more b a true) (omega (arith, length-append l (true ∷ []))))
    where
      A : List (List Bool)
      A = lists_from file left (l ++ (false ∷ []))

      B : List (List Bool)
      B = lists_from file left (l ++ (true ∷ []))

      m_place : place_of (l ++ (false ∷ [])) ≡ place_of l
      m_place = let h = place_more choices_most left l false n in omega arith

      n_place : place_of (l ++ (true ∷ [])) ≡ place_of l + 2 ^ left
      n_place = place_more choices_most left l true n

      go : (a : Bool) → asks file l ≡ a
          → (asks file l ≡ true → (ks : List (List Bool)) → Tiles file (place_of (l ++ (false ∷ [])) + 2 ^ left) ks → Tiles file (place_of (l ++ (false ∷ []))) (A ++ ks))
          → (asks file l ≡ true → (ks : List (List Bool)) → Tiles file (place_of (l ++ (true ∷ [])) + 2 ^ left) ks → Tiles file (place_of (l ++ (true ∷ []))) (B ++ ks))
          → Tiles file (place_of l) (elim a [ true ↦ A ++ B | false ↦ l ∷ [] ] ++ ls)
      go false a f g =
          let e : choices_most - length l ≡ suc left = omega arith in
          (record { beginning = b; whole = a }, refl, subst (λ (k : ℕ). Tiles file (place_of l + 2 ^ k) ls) (sym e) t)
      go true a f g =
          let twice : place_of l + 2 ^ suc left ≡ place_of (l ++ (true ∷ [])) + 2 ^ left = omega (arith, n_place) in
          let second : Tiles file (place_of l + 2 ^ left) (B ++ ls) =
          subst (λ (k : ℕ). Tiles file k (B ++ ls)) n_place (g a ls (subst (λ (k : ℕ). Tiles file k ls) twice t)) in
          let first : Tiles file (place_of l) (A ++ (B ++ ls)) =
          subst (λ (k : ℕ). Tiles file k (A ++ (B ++ ls))) m_place
          (f a (B ++ ls) (subst (λ (k : ℕ). Tiles file (k + 2 ^ left) (B ++ ls)) (sym m_place) second)) in
          subst (Tiles file (place_of l)) (sym (append_assoc A B ls)) first

  pub tiles_all : Tiles file 0 (lists_of file)
  unfolding lists_of place_in
  tiles_all =
      subst (Tiles file 0) (append-nil (lists_from file choices_most [])) (tiles_more choices_most [] nothing refl [] refl)

-- The number of a list, option by option from the last on. Assumes nothing.
use Prim.Native.Nat.{ℕ, suc, ◌+◌, ◌-◌, ◌*◌, ◌^◌, ◌<◌, ◌≤◌}
use native.Mathlib.Omega.{arith}
use mathlib.Core.Path.{◌≡◌, sym, ◌∙◌, ap}
use mathlib.Core.Bool.{Bool, true, false, cond}
use mathlib.Core.List.{List, ◌∷◌}
use lib.ListN.{length, take, drop, get_or, drop_of_length-le, length-drop}
use lib.Pow.{pow_mono}
use lib.Seq.{drop-cons, get_or-take, length-take-le}
use mir.Syntax.{w64}
use mir.Val.{Fits}
use Rattle.model.specs.Limits.{choices_most}
use Rattle.model.specs.Choice.{choices_number}
use Rattle.model.proofs.ChoiceBounds.{number_below}
use Rattle.levels.specs.Options.{options_of}
use Rattle.levels.proofs.Choosing.{options_length}

-- the number of the options from k on
pub record Numbering (list met number k : ℕ) : Type 0 where
  pub inside : k ≤ met
  pub is : number ≡ choices_number (drop k (take met (options_of list)))

module _ (list met : ℕ) (short : met ≤ choices_most) where
  abbrev options : List Bool
  options = take met (options_of list)

  pub options_long : length options ≡ met
  options_long = length-take-le met (options_of list) (omega (arith, options_length choices_most list))

  pub numbering_start : Numbering list met 0 met
  unfolding choices_number
  numbering_start =
      record { inside = omega arith; is = sym (ap choices_number (drop_of_length-le options {i = met} (omega (arith, options_long)))) }

  module _ (number k : ℕ) (j : Numbering list met number k) where
    small : number < 2 ^ choices_most
    small =
        let h : 2 ^ length (drop k options) ≤ 2 ^ choices_most = pow_mono {i = length (drop k options)} {j = choices_most} (omega (arith, length-drop k options, options_long)) in
        omega (arith, j.is, number_below (drop k options))

    pub twice_fits : Fits w64 (number * 2)
    twice_fits = omega (arith, small)

    pub more_fits : Fits w64 (number * 2 + 1)
    more_fits = omega (arith, small)

    module _ (h : 0 < k) where
      one_more : (b : Bool) → b ≡ get_or (options_of list) (k - 1) false → cond b 1 0 + 2 * number ≡ choices_number (drop (k - 1) options)
      unfolding choices_number
      one_more b e =
          let inside : k - 1 < length options = omega (arith, j.inside, options_long) in
          let next : suc (k - 1) ≡ k = omega arith in
          let at : get_or options (k - 1) false ≡ b = get_or-take met (options_of list) (k - 1) false (omega (arith, j.inside)) ∙ sym e in
          let split : drop (k - 1) options ≡ b ∷ drop k options = drop-cons options (k - 1) false inside ∙ rw (at, next) in
          rw split (ap (λ (n : ℕ). cond b 1 0 + 2 * n) j.is)

      pub numbering_set : (r : Bool) → r ≡ get_or (options_of list) (k - 1) false → r ≡ true → Numbering list met (number * 2 + 1) (k - 1)
      numbering_set r e t =
          let m : number * 2 + 1 ≡ 1 + 2 * number = omega arith in
          record { inside = omega (arith, j.inside); is = m ∙ one_more true (sym t ∙ e) }

      pub numbering_clear : (r : Bool) → r ≡ get_or (options_of list) (k - 1) false → r ≡ false → Numbering list met (number * 2) (k - 1)
      numbering_clear r e t =
          let m : number * 2 ≡ 0 + 2 * number = omega arith in
          record { inside = omega (arith, j.inside); is = m ∙ one_more false (sym t ∙ e) }

    pub numbered : k ≤ 0 → number ≡ choices_number options
    numbered h = let z : k ≡ 0 = omega arith in j.is ∙ ap (λ (i : ℕ). choices_number (drop i options)) z

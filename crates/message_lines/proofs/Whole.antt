-- The lines of a text's messages are those of its rows. Assumes nothing.
use Prim.Native.Nat.{ℕ, ◌+◌, ◌<◌, ◌≤◌}
use native.Mathlib.Omega.{arith}
use mathlib.Core.Path.{◌≡◌, sym, ◌∙◌, ap, subst}
use mathlib.Core.Bool.{false}
use mathlib.Core.List.{List, [], ◌++◌}
use lib.ListN.{length, get_or, take, drop, get_or-append}
use lib.Seq.{length-take-le, get_or-take}
use Rattle.model.specs.Refusal.{and_then}
use Rattle.model.specs.Senders.{lines_met}
use Rattle.std.specs.Prelude.{Result, Ok, Err}
use Rattle.outcome.specs.declared.Refusal.{Refusal}
use Rattle.sheet.specs.Bridge.{rows_of, ReadAs}
use Rattle.sheet.proofs.Bridge.{refused_is, rows_are}
use Rattle.message_lines.specs.Lines.{lines_in}

module _ (text kind one two start : List ℕ) (v : Result ℕ Refusal) (p : ReadAs false text kind one two start v) (asked : ℕ) (there : asked ≤ length (lines_met text)) where
  -- a text that is refused has no message
  pub not_read : (e : Refusal) → v ≡ Err e → (given : List ℕ) → given ≡ take asked (lines_met text) ++ drop asked given
  unfolding lines_met and_then
  not_read e i given =
      let none : lines_met text ≡ [] = rw (refused_is false text kind one two start v p e i, lines_met) in
      let no : 0 ≡ asked = omega (arith, subst (λ (l : List ℕ). asked ≤ length l) none there) in
      ap (λ (k : ℕ). take k (lines_met text) ++ drop k given) no

  module _ (count : ℕ) (i : v ≡ Ok count) where
    same : lines_met text ≡ lines_in (rows_of kind one two count)
    unfolding lines_met and_then lines_in
    same = rw (rows_are false text kind one two start v p count i, lines_met)

    pub asked_rows : asked ≤ length (lines_in (rows_of kind one two count))
    asked_rows = subst (λ (l : List ℕ). asked ≤ length l) same there

    pub found : (given now : List ℕ) → now ≡ take asked (lines_in (rows_of kind one two count)) ++ drop asked given → now ≡ take asked (lines_met text) ++ drop asked given
    found given now e = e ∙ ap (λ (l : List ℕ). take asked l ++ drop asked given) (sym same)

-- of the lines up to a message, its own
pub line_there : (lines given now : List ℕ) (m r : ℕ) → now ≡ take (m + 1) lines ++ drop (m + 1) given → r ≡ get_or now m 0 → m < length lines → r ≡ get_or lines m 0
line_there lines given now m r e f h =
    let long : length (take (m + 1) lines) ≡ m + 1 = length-take-le (m + 1) lines (omega arith) in
    f
    ∙ ap (λ (l : List ℕ). get_or l m 0) e
    ∙ get_or-append (take (m + 1) lines) (drop (m + 1) given) 0 m (omega arith)
    ∙ get_or-take (m + 1) lines m 0 (omega arith)

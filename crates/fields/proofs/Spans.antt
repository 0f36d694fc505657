-- A field by its span: it lies in the text, and holds the letter, the number or the name of its bytes. Assumes nothing.
use Prim.Native.Nat.{ℕ, zero, suc, ◌+◌, ◌-◌, ◌≤◌, ◌<◌}
use native.Mathlib.Omega.{arith}
use mathlib.Core.Path.{◌≡◌, refl, sym, ◌∙◌, ap}
use mathlib.Core.Bool.{Bool, true, false, cond, ◌&&◌}
use mathlib.Core.List.{List, [], ◌∷◌}
use mathlib.Core.Option.{none, some}
use borrow.Author.Tests.{ne_eqb, leb-true}
use lib.Dec.{leb}
use lib.ListN.{length, get_or}
use lib.Seq.{slice, slice-cons, slice_empty, length-slice}
use Rattle.std.specs.Prelude.{Option}
use Rattle.model.specs.Bounded.{same}
use Rattle.model.proofs.Bounded.{and_right}
use Rattle.model.specs.Text.{well_begun, digits_only, decimal, number_up_to}
use Rattle.outcome.specs.Options.{found_in}
use Rattle.line.specs.Parts.{Cut, fields_in}
use Rattle.line.specs.declared.Cuts.{Cuts}
use Rattle.fields.specs.Fields.{span_of, letter_of}
use Rattle.fields.specs.declared.Span.{Span}

-- the three spans, by the tests of the code
pub span_first : (c : Cuts) (place : ℕ) → place ≡ 0 → record { from = c.at; to = c.first } ≡ span_of c place
unfolding span_of
span_first c place h = rw h

pub span_second : (c : Cuts) (place : ℕ) → place ≡ 1 → record { from = c.first + 1; to = c.second } ≡ span_of c place
unfolding span_of
span_second c place h = rw h

pub span_third : (c : Cuts) (place : ℕ) → (place ≡ 0 → ⊥) → (place ≡ 1 → ⊥) → record { from = c.second + 1; to = c.end } ≡ span_of c place
unfolding span_of
span_third c place h k = rw (ne_eqb place 0 h, ne_eqb place 1 k)

-- The field with the number `place`, by its span: it lies in the text, and its bytes are those between the cuts.
module _ (text : List ℕ) (c : Cuts) (place : ℕ) (s : Span) (h : Cut text c) (b : place < 3) (e : s ≡ span_of c place) where
  span_cases : (s.from ≤ s.to) × (s.to ≤ length text) × (slice s.from s.to text ≡ get_or (fields_in text c) place [])
  unfolding span_of
  span_cases = rw e (go place b)
    where
      go : (k : ℕ) → k < 3
          → ((span_of c k).from ≤ (span_of c k).to) × ((span_of c k).to ≤ length text)
          × (slice (span_of c k).from (span_of c k).to text ≡ get_or (fields_in text c) k [])
      go zero l = (h.one, omega (arith, h.two, h.three, h.inside), refl)
      go (suc zero) l = (omega (arith, h.two), omega (arith, h.three, h.inside), refl)
      go (suc (suc zero)) l = (omega (arith, h.three), omega (arith, h.inside), refl)
      go (suc (suc (suc n))) l = absurd (omega arith)

  pub span_ordered : s.from ≤ s.to
  span_ordered = span_cases.0

  pub span_inside : s.to ≤ length text
  span_inside = span_cases.1

  span_bytes : slice s.from s.to text ≡ get_or (fields_in text c) place []
  span_bytes = span_cases.2

  -- one byte is the letter, and any other number of bytes holds none
  pub letter_inside : s.to - s.from ≡ 1 → s.from < length text
  letter_inside l = omega (arith, span_inside)

  pub letter_one : s.to - s.from ≡ 1 → get_or text s.from 0 ≡ letter_of (get_or (fields_in text c) place [])
  unfolding letter_of
  letter_one l =
      let k : suc s.from ≡ s.to = omega (arith, span_ordered) in
      let one : slice s.from s.to text ≡ get_or text s.from 0 ∷ [] =
      slice-cons s.from s.to text 0 (omega arith) span_inside
      ∙ ap (λ (x : List ℕ). get_or text s.from 0 ∷ x) (rw k (slice_empty s.to text)) in
      rw (← span_bytes, one)

  pub letter_none : (s.to - s.from ≡ 1 → ⊥) → 0 ≡ letter_of (get_or (fields_in text c) place [])
  unfolding letter_of
  letter_none n = rw (← span_bytes) (go (slice s.from s.to text) (λ l. n (sym (length-slice s.from s.to text span_inside) ∙ l)))
    where
      go : (f : List ℕ) → (length f ≡ 1 → ⊥) → 0 ≡ letter_of f
      go [] k = refl
      go (a ∷ []) k = absurd (k refl)
      go (a ∷ d ∷ f) k = refl

  -- a number or a name is that of the bytes
  pub number_field : (most : ℕ) (n : Option ℕ) → found_in n ≡ number_up_to most (slice s.from s.to text) → found_in n ≡ number_up_to most (get_or (fields_in text c) place [])
  number_field most n p = p ∙ ap (number_up_to most) span_bytes

  pub name_field : (name : List ℕ) (r : Bool) → r ≡ same name (slice s.from s.to text) → r ≡ same name (get_or (fields_in text c) place [])
  name_field name r p = p ∙ ap (same name) span_bytes

-- a number read is at most the largest
pub number_most : (most n : ℕ) (f : List ℕ) → some n ≡ number_up_to most f → n ≤ most
unfolding number_up_to
number_most most n f e = go (well_begun f && digits_only f && leb (decimal 0 f) most) refl e
  where
    go : (b : Bool) → (well_begun f && digits_only f && leb (decimal 0 f) most) ≡ b → some n ≡ cond b (some (decimal 0 f)) none → n ≤ most
    go true h d =
        let l : decimal 0 f ≤ most = leb-true (decimal 0 f) most (and_right (well_begun f && digits_only f) (leb (decimal 0 f) most) h) in
        let k : n ≡ decimal 0 f = cc in
        omega arith
    go false h d = let z : ◌≡◌ {A = ℕ} 0 1 = cc in absurd (omega arith)

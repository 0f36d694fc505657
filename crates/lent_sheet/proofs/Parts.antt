-- The sheet of a place as a part of the slice lent. Assumes nothing.
use mathlib.Core.Path.{◌≡◌, refl, sym, ◌∙◌, ap, subst}
use mathlib.Core.List.{List, [], ◌∷◌}
use Prim.Native.Nat.{ℕ, zero, suc, ◌+◌, ◌-◌, ◌*◌, ◌<◌, ◌≤◌, min}
use native.Mathlib.Nat.{not-suc-le-zero, le_of_suc-le-suc, le_of_lt, min-eq_left, min-eq_right}
use native.Mathlib.Decide.{dec_lt}
use native.Mathlib.Omega.{arith}
use lib.ListN.{length, get_or, take, drop, length-drop, drop_of_length-le, get_or-eq_default}
use lib.Seq.{take_all, take-nil, take-take}
use borrow.Rule.Slice.PartMut.{mid_of, put_mid, mid_len}
use Rattle.model.specs.Limits.{text_most, scratch_least, jobs_most, job_words_least}
use Rattle.std.specs.Prelude.{Result}
use Rattle.outcome.specs.declared.Refusal.{Refusal}
use Rattle.scenario.specs.Contract.{SheetIn}
use Rattle.places.proofs.Parts.{from, to, span, part_put}
use Rattle.lent_sheet.specs.Sheet.{sheet_in, ReadsSheet}

-- an element that there is, whatever stands for one that there is not; and one that there is not
pub there : (l : List ℕ) (i d e : ℕ) → i < length l → get_or l i d ≡ get_or l i e
there [] i d e h = absurd (not-suc-le-zero h)
there (a ∷ l) zero d e h = refl
there (a ∷ l) (suc i) d e h = there l i d e (le_of_suc-le-suc h)

pub read_there : (l : List ℕ) (i d n : ℕ) → n ≡ get_or l i 0 → i < length l → n ≡ get_or l i d
read_there l i d n e h = e ∙ there l i 0 d h

pub not_there : (l : List ℕ) (i d : ℕ) → length l ≤ i → d ≡ get_or l i d
not_there l i d h = sym (get_or-eq_default l d h)

-- the part of the sheets
take_min : (k m : ℕ) (l : List ℕ) → m ≡ min k (length l) → take m l ≡ take k l
take_min k m l e = go (dec_lt k (length l))
  where
    go : Dec (k < length l) → take m l ≡ take k l
    go (yes h) = let i : m ≡ k = e ∙ min-eq_left (le_of_lt h) in ap (λ n. take n l) i
    go (no h) =
        let i : m ≡ length l = e ∙ min-eq_right (not_lt h) in
        take_all m l (omega arith) ∙ sym (take_all k l (not_lt h))
      where
        not_lt : (k < length l → ⊥) → length l ≤ k
        not_lt n = omega arith

module _ (sheets : List ℕ) (size place first last : ℕ) (few : size ≤ text_most) (f : first ≡ min (place * text_most) (length sheets))
    (g : last ≡ min (first + size) (length sheets)) where
  part_of_sheets : take (last - first) (drop first sheets) ≡ sheet_in sheets size place
  part_of_sheets = go (dec_lt (length sheets) (place * text_most))
    where
      go : Dec (length sheets < place * text_most) → take (last - first) (drop first sheets) ≡ sheet_in sheets size place
      go (yes h) =
          let i : first ≡ length sheets = f ∙ min-eq_right (le_of_lt h) in
          let none : drop first sheets ≡ [] = drop_of_length-le sheets {i = first} (omega arith) in
          let empty : drop (text_most * place) sheets ≡ [] = drop_of_length-le sheets {i = text_most * place} (omega arith) in
          rw (none, empty, take-nil (last - first), take-nil text_most, take-nil size)
      go (no h) =
          let i : first ≡ place * text_most = f ∙ min-eq_left (omega arith) in
          let j : first ≡ text_most * place = omega arith in
          let rest : length (drop first sheets) ≡ length sheets - first = length-drop first sheets in
          take_min size (last - first) (drop first sheets) (rw (g, rest) (less (length sheets) (omega arith)))
          ∙ sym (take-take size text_most (drop (text_most * place) sheets) few ∙ ap (λ n. take size (drop n sheets)) (sym j))
        where
          less : (n : ℕ) → first ≤ n → min (first + size) n - first ≡ min size (n - first)
          less n k = split (dec_lt (first + size) n)
            where
              split : Dec (first + size < n) → min (first + size) n - first ≡ min size (n - first)
              split (yes b) = rw (min-eq_left (le_of_lt b), min-eq_left (below b)) (cancels b)
                where
                  below : first + size < n → size ≤ n - first
                  below b = omega arith

                  cancels : first + size < n → first + size - first ≡ size
                  cancels b = omega arith
              split (no b) = rw (min-eq_right (beyond b), min-eq_right (above b))
                where
                  beyond : (first + size < n → ⊥) → n ≤ first + size
                  beyond b = omega arith

                  above : (first + size < n → ⊥) → n - first ≤ size
                  above b = omega arith

  pub reads : (words boards ys : List ℕ) (r : Result ℕ Refusal) → job_words_least ≤ length words → place < jobs_most
      → SheetIn (take (last - first) (drop first sheets)) boards ys r → length ys ≡ length (mid_of (from place) (to place - from place) words)
      → ReadsSheet sheets size place words boards (put_mid (from place) (to place - from place) words ys) r
  reads words boards ys r long l s same =
      let many : length ys ≡ scratch_least = same ∙ mid_len (from place) (to place) words (omega arith) ∙ span place in
      let P = part_put words long place l ys many in
      record {
        sheet = subst (λ w. SheetIn (sheet_in sheets size place) boards w r) (sym P.here) (subst (λ text. SheetIn text boards ys r) part_of_sheets s);
        put = record { kept = P.kept; rest = P.rest; here = refl; others = P.others };
      }

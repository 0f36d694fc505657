-- Laws of the scan: one step of each at a position of the text. Assumes nothing.
use Prim.Native.Nat.{ℕ, suc, ◌+◌, ◌≤◌, ◌<◌}
use native.Mathlib.Numerals.{add-one}
use native.Mathlib.Omega.{arith}
use mathlib.Core.Path.{◌≡◌, refl, sym, ◌∙◌, ap}
use mathlib.Core.Logic.{◌⊎◌, inl, inr}
use mathlib.Core.Bool.{true, false}
use mathlib.Core.List.{List, [], ◌∷◌, ◌++◌, append_assoc}
use borrow.Author.Tests.{ne_eqb, le-ltb}
use lib.Dec.{eqb, ltb}
use lib.ListN.{length, take, drop, get_or, drop_of_length-le, length-take}
use lib.Seq.{slice, drop-cons, take-suc, slice_empty, drop-append-le}
use Rattle.model.specs.Text.{line_end, space}
use Rattle.line.specs.Scan.{first_field, behind_field, is_mark, begins_with}
use Rattle.line.specs.Parts.{FieldEnd}

-- a slice grows by a byte at its end
slice_grows : (text : List ℕ) (at i : ℕ) → at ≤ i → i < length text → slice at (i + 1) text ≡ slice at i text ++ (get_or text i 0 ∷ [])
slice_grows text at i h l =
    let k : at ≤ length (take i text) = simp length-take (omega arith) in
    ap (λ (n : ℕ). drop at (take n text)) (add-one i) ∙ ap (drop at) (take-suc text i 0 l)
    ∙ drop-append-le at (take i text) (get_or text i 0 ∷ []) k

-- the field from a position on, by its bytes scanned so far
pub record Scanned (text : List ℕ) (at i : ℕ) : Type 0 where
  pub from : at ≤ i
  pub to : i ≤ length text
  pub field : first_field (drop at text) ≡ slice at i text ++ first_field (drop i text)
  pub behind : behind_field (drop at text) ≡ behind_field (drop i text)

pub scan_begin : (text : List ℕ) (at : ℕ) → at ≤ length text → Scanned text at at
scan_begin text at h =
    record { from = omega arith; to = h; field = ap (λ (l : List ℕ). l ++ first_field (drop at text)) (sym (slice_empty at text)); behind = refl }

no_mark : (b : ℕ) → (b ≡ space → ⊥) → (b ≡ line_end → ⊥) → is_mark b ≡ false
no_mark b h k = rw (ne_eqb b space h, ne_eqb b line_end k)

pub scan_more : (text : List ℕ) (at i : ℕ) → (get_or text i 0 ≡ space → ⊥) → (get_or text i 0 ≡ line_end → ⊥) → i < length text → Scanned text at i → Scanned text at (i + 1)
unfolding first_field behind_field
scan_more text at i h k l s =
    let m : is_mark (get_or text i 0) ≡ false = no_mark (get_or text i 0) h k in
    let d : drop i text ≡ get_or text i 0 ∷ drop (i + 1) text = rw add-one (drop-cons text i 0 l) in
    let f : first_field (drop i text) ≡ get_or text i 0 ∷ first_field (drop (i + 1) text) = rw (d, m) in
    let g : behind_field (drop i text) ≡ behind_field (drop (i + 1) text) = rw (d, m) in
    record {
      from = omega arith;
      to = omega arith;
      field = s.field ∙ ap (λ (l : List ℕ). slice at i text ++ l) f
          ∙ sym (append_assoc (slice at i text) (get_or text i 0 ∷ []) (first_field (drop (i + 1) text)))
          ∙ ap (λ (l : List ℕ). l ++ first_field (drop (i + 1) text)) (sym (slice_grows text at i s.from l));
      behind = s.behind ∙ g;
    }

append_nil : (l : List ℕ) → l ++ [] ≡ l
append_nil [] = refl
append_nil (a ∷ l) = ap {B = List ℕ} (λ r. a ∷ r) (append_nil l)

scanned : (text : List ℕ) (at i : ℕ) → first_field (drop i text) ≡ [] → behind_field (drop i text) ≡ drop i text → Scanned text at i → FieldEnd text at i
scanned text at i e b s =
    record {
      from = s.from;
      to = s.to;
      field = sym (s.field ∙ ap (λ (l : List ℕ). slice at i text ++ l) e ∙ append_nil (slice at i text));
      behind = sym (s.behind ∙ b);
    }

pub scan_end : (text : List ℕ) (at i : ℕ) → length text ≤ i → Scanned text at i → FieldEnd text at i
unfolding first_field behind_field
scan_end text at i l s =
    let d : drop i text ≡ [] = drop_of_length-le text l in
    scanned text at i (rw d) (rw d) s

marked : (text : List ℕ) (at i : ℕ) → i < length text → is_mark (get_or text i 0) ≡ true → Scanned text at i → FieldEnd text at i
unfolding first_field behind_field
marked text at i l m s =
    let d : drop i text ≡ get_or text i 0 ∷ drop (suc i) text = drop-cons text i 0 l in
    scanned text at i (rw (d, m)) (rw (d, m)) s

pub scan_mark : (text : List ℕ) (at i : ℕ) → (get_or text i 0 ≡ space) ⊎ ((get_or text i 0 ≡ space → ⊥) × (get_or text i 0 ≡ line_end)) → i < length text
    → Scanned text at i → FieldEnd text at i
scan_mark text at i (inl h) l s = marked text at i l (rw h) s
scan_mark text at i (inr h) l s = marked text at i l (rw h.1) s

-- a byte at a position
pub begins_in : (text : List ℕ) (b at : ℕ) → at < length text → eqb (get_or text at 0) b ≡ begins_with b (drop at text)
unfolding begins_with
begins_in text b at h = rw (drop-cons text at 0 h)

pub begins_out : (text : List ℕ) (b at : ℕ) → length text ≤ at → ltb at (length text) ≡ begins_with b (drop at text)
unfolding begins_with
begins_out text b at h = rw (drop_of_length-le text h, le-ltb at (length text) h)

-- The rows of candidates, word by word: what each has is what its test says. Assumes nothing.
use mathlib.Core.Path.{◌≡◌, refl, sym, ap, ap₂, ◌∙◌, subst⁻¹}
use mathlib.Core.Bool.{Bool, true, false, not, ◌&&◌, ◌||◌, and-false, or-true, or-false}
use mathlib.Core.List.{List}
use Prim.Native.Nat.{ℕ, ◌+◌, ◌*◌, ◌/◌, ◌%◌, ◌^◌, ◌<◌, ◌≤◌}
use native.Mathlib.Nat.{not-suc-le-zero}
use native.Mathlib.Decide.{ℕ_discrete}
use native.Mathlib.Omega.{arith}
use lib.Bits.{bit_and}
use lib.Dec.{eqb}
use lib.ListN.{length, get_or, set, replicate, length-set}
use lib.Seq.{get_or-set_same, get_or-set_other}
use borrow.Author.Tests.{eq-eqb, ne_eqb}
use Rattle.model.specs.Limits.{messages_most}
use Rattle.relation.specs.Width.{width, word_bits}
use Rattle.relation.specs.Rows.{has, holds, marked}
use Rattle.relation.proofs.Marked.{holds_marked}
use Rattle.relation.proofs.Words.{has_and, shifted, alone_row, flipped, has_flipped, even_bits, has_even_bits}
use Rattle.run.specs.State.{in_row}
use Rattle.run.proofs.States.{zero_row}
use Rattle.step_classes.specs.declared.Class.{Class}
use Rattle.step_classes.specs.declared.Class.TheVariants.{AnyConsume, DeliveryOf, NeededDelivery, NeededSend, AnyDelivery, AnySend}
use Rattle.candidates.specs.Candidates.{Exactly, is_unsent, is_needed, is_needed_delivery, is_own, is_candidate}

-- a row whose first i words are those of f, and the rest as they were
pub record Filled (f : ℕ → ℕ) (row now : List ℕ) (i : ℕ) : Type 0 where
  pub exact : (j : ℕ) → j < i → get_or now j 0 ≡ f j
  pub kept : (j : ℕ) → i ≤ j → get_or now j 0 ≡ get_or row j 0
  pub long : length now ≡ width
  pub most : i ≤ width

pub filled_start : (f : ℕ → ℕ) (row : List ℕ) → length row ≡ width → Filled f row row 0
filled_start f row l =
    record { exact = λ j h. absurd (not-suc-le-zero h); kept = λ j h. refl; long = l; most = omega arith }

pub filled_more : (f : ℕ → ℕ) (row now : List ℕ) (i v : ℕ) → Filled f row now i → v ≡ f i → i < width → Filled f row (set now i v) (i + 1)
filled_more f row now i v p e h =
    record {
      exact = λ j l. go j l (ℕ_discrete j i);
      kept = λ j l. get_or-set_other now i j v 0 (λ s. omega arith) ∙ p.kept j (omega arith);
      long = simp length-set p.long;
      most = omega arith;
    }
  where
    go : (j : ℕ) → j < i + 1 → Dec (j ≡ i) → get_or (set now i v) j 0 ≡ f j
    go j l (yes s) = rw s (get_or-set_same now i v 0 (omega (arith, p.long)) ∙ e)
    go j l (no n) = get_or-set_other now i j v 0 n ∙ p.exact j (omega arith)

-- a bit of a filled row is that of f's word
filled_bit : (f : ℕ → ℕ) (row now : List ℕ) (i k : ℕ) → Filled f row now i → width ≤ i → k < word_bits * width
    → in_row now k ≡ has (f (k / word_bits)) (k % word_bits)
filled_bit f row now i k p h l =
    alone_row width now k ∙ ap (λ (w : ℕ). has w (k % word_bits)) (p.exact (k / word_bits) (omega arith))

-- the sends that are not in a word
abbrev pub sends_out : List ℕ → ℕ → ℕ
sends_out row j = bit_and (flipped row j) even_bits

pub unsent_all : (row now : List ℕ) (i : ℕ) → Filled (sends_out row) row now i → width ≤ i → ((j : ℕ) → get_or row j 0 < 2 ^ word_bits)
    → Exactly (is_unsent row) now
unfolding is_unsent
unsent_all row now i p h small = record { events = λ k l. filled_bit (sends_out row) row now i k p h l ∙ bits k }
  where
    even : (k : ℕ) → has even_bits (k % word_bits) ≡ eqb (k % 2) 0
    even k =
        let parity : k % word_bits % 2 ≡ k % 2 = omega arith in
        has_even_bits (k % word_bits) (omega arith) ∙ ap (λ (n : ℕ). eqb n 0) parity

    bits : (k : ℕ) → has (sends_out row (k / word_bits)) (k % word_bits) ≡ is_unsent row k
    bits k =
        has_and (flipped row (k / word_bits)) even_bits (k % word_bits)
        ∙ ap₂ (λ (a b : Bool). a && b) (has_flipped row small k ∙ ap not (sym (alone_row width row k))) (even k)

-- the words of a row in common with one of the relation's
abbrev pub common : List ℕ → ℕ → List ℕ → ℕ → ℕ
common words from row j = bit_and (get_or row j 0) (get_or words (from + j) 0)

-- what is in common is kept, and e's send with it, if the row has it
module _ (words row kept : List ℕ) (e i : ℕ) (p : Filled (common words (2 * e * width) row) row kept i) (all : width ≤ i) where
  in_common : (k : ℕ) → k < word_bits * width → in_row kept k ≡ (in_row row k && holds width words (2 * e) k)
  unfolding holds
  in_common k l =
      filled_bit (common words (2 * e * width) row) row kept i k p all l
      ∙ has_and (get_or row (k / word_bits) 0) (get_or words (2 * e * width + k / word_bits) 0) (k % word_bits)
      ∙ ap (λ (b : Bool). b && has (get_or words (2 * e * width + k / word_bits) 0) (k % word_bits)) (sym (alone_row width row k))

  pub needed_marked : (now : List ℕ) (t : Bool) → now ≡ marked width kept 0 (2 * e) → t ≡ holds width row 0 (2 * e) → t ≡ true → e < messages_most
      → Exactly (is_needed words e row) now
  unfolding is_needed
  needed_marked now t m h i few =
      record { events = λ k l. rw m (holds_marked width kept 0 (2 * e) 0 k (omega (arith, p.long)) (omega arith) l) ∙ go k l (ℕ_discrete k (2 * e)) }
    where
      go : (k : ℕ) → k < word_bits * width → Dec (k ≡ 2 * e) → (in_row kept k || eqb k (2 * e)) ≡ is_needed words e row k
      go k l (yes s) =
          let there : in_row row k ≡ true = ap (in_row row) s ∙ sym h ∙ i in
          rw (eq-eqb k (2 * e) s, there, or-true)
      go k l (no n) = rw (ne_eqb k (2 * e) n, or-false) (in_common k l)

  pub needed_absent : (t : Bool) → t ≡ holds width row 0 (2 * e) → t ≡ false → Exactly (is_needed words e row) kept
  unfolding is_needed
  needed_absent t h f = record { events = λ k l. in_common k l ∙ go k (ℕ_discrete k (2 * e)) }
    where
      go : (k : ℕ) → Dec (k ≡ 2 * e) → (in_row row k && holds width words (2 * e) k) ≡ is_needed words e row k
      go k (yes s) = let out : in_row row k ≡ false = ap (in_row row) s ∙ sym h ∙ f in rw out
      go k (no n) = rw (ne_eqb k (2 * e) n)

-- the words of the messages under way in common with the sends whose receive is in one of the relation's
abbrev pub behind_sends : List ℕ → ℕ → List ℕ → ℕ → ℕ
behind_sends words from row j = bit_and (get_or row j 0) (get_or words (from + j) 0 / 2 ^ 1)

pub needed_deliveries_all : (words way now : List ℕ) (e i : ℕ) → Filled (behind_sends words (2 * e * width) way) way now i → width ≤ i
    → Exactly (is_needed_delivery words e way) now
unfolding is_needed_delivery
needed_deliveries_all words way now e i p h =
    record { events = λ k l. filled_bit (behind_sends words (2 * e * width) way) way now i k p h l ∙ bits k }
  where
    bits : (k : ℕ) → has (behind_sends words (2 * e * width) way (k / word_bits)) (k % word_bits) ≡ is_needed_delivery words e way k
    bits k =
        let one : 1 + k % word_bits ≡ k % word_bits + 1 = omega arith in
        has_and (get_or way (k / word_bits) 0) (get_or words (2 * e * width + k / word_bits) 0 / 2 ^ 1) (k % word_bits)
        ∙ ap₂ (λ (a b : Bool). a && b) (sym (alone_row width way k))
        (sym (shifted (get_or words (2 * e * width + k / word_bits) 0) 1 (k % word_bits)) ∙ ap (has (get_or words (2 * e * width + k / word_bits) 0)) one)

-- message e is under way, and its bit set; or it is not
module _ (way : List ℕ) (e : ℕ) (t : Bool) (h : t ≡ holds width way 0 (2 * e)) where
  pub own_marked : (now : List ℕ) → now ≡ marked width (replicate width 0) 0 (2 * e) → t ≡ true → e < messages_most
      → Exactly (is_own way e) now
  unfolding is_own
  own_marked now m i few =
      record { events = λ k l. rw m (holds_marked width (replicate width 0) 0 (2 * e) 0 k (omega arith) (omega arith) l) ∙ go k (ℕ_discrete k (2 * e)) }
    where
      go : (k : ℕ) → Dec (k ≡ 2 * e) → (in_row (replicate width 0) k || eqb k (2 * e)) ≡ is_own way e k
      go k (yes s) =
          let there : in_row way k ≡ true = ap (in_row way) s ∙ sym h ∙ i in
          rw (eq-eqb k (2 * e) s, there, or-true)
      go k (no n) = rw (ne_eqb k (2 * e) n, or-false, and-false) (zero_row width k)

  pub own_absent : t ≡ false → Exactly (is_own way e) (replicate width 0)
  unfolding is_own
  own_absent f = record { events = λ k l. zero_row width k ∙ sym (go k (ℕ_discrete k (2 * e))) }
    where
      go : (k : ℕ) → Dec (k ≡ 2 * e) → is_own way e k ≡ false
      go k (yes s) = let out : in_row way k ≡ false = ap (in_row way) s ∙ sym h ∙ f in rw out
      go k (no n) = rw (ne_eqb k (2 * e) n, and-false)

-- What each return of `candidates` is to show, class by class.
module _ (words done way held : List ℕ) (e : ℕ) (q : Class) (row : List ℕ) where
  abbrev Of : Class → Type 0
  Of k = Exactly (is_candidate words done way held e k) row

  pub candidates_held : q ≡ AnyConsume → row ≡ held → Exactly (is_candidate words done way held e q) row
  candidates_held i r = subst⁻¹ Of i (record { events = λ k l. ap (λ (u : List ℕ). in_row u k) r })

  pub candidates_own : q ≡ DeliveryOf → Exactly (is_own way e) row → Exactly (is_candidate words done way held e q) row
  candidates_own i x = subst⁻¹ Of i (record { events = x.events })

  pub candidates_needed_delivery : q ≡ NeededDelivery → Exactly (is_needed_delivery words e way) row
      → Exactly (is_candidate words done way held e q) row
  candidates_needed_delivery i x = subst⁻¹ Of i (record { events = x.events })

  pub candidates_delivery : q ≡ AnyDelivery → row ≡ way → Exactly (is_candidate words done way held e q) row
  candidates_delivery i r = subst⁻¹ Of i (record { events = λ k l. ap (λ (u : List ℕ). in_row u k) r })

  pub candidates_send : q ≡ AnySend → Exactly (is_unsent done) row → Exactly (is_candidate words done way held e q) row
  candidates_send i x = subst⁻¹ Of i (record { events = x.events })

  pub candidates_needed_send : (left : List ℕ) → q ≡ NeededSend → Exactly (is_unsent done) left
      → Exactly (is_needed words e left) row → Exactly (is_candidate words done way held e q) row
  unfolding is_needed
  candidates_needed_send left i u x =
      subst⁻¹ Of i (record { events = λ k l. x.events k l ∙ ap (λ (b : Bool). b && (eqb k (2 * e) || holds width words (2 * e) k)) (u.events k l) })

-- The span of a word is found, and no row of an event is outside it. Assumes nothing.
use mathlib.Core.Path.{◌≡◌, refl, sym, ◌∙◌, ap, subst}
use mathlib.Core.Bool.{Bool, false, cond, ◌||◌}
use mathlib.Core.List.{List, [], ◌∷◌, ◌++◌, append-nil}
use Prim.Native.Nat.{ℕ, zero, suc, ◌+◌, ◌*◌, ◌-◌, ◌/◌, ◌%◌, ◌<◌, ◌≤◌}
use native.Mathlib.Decide.{ℕ_discrete}
use native.Mathlib.Omega.{arith}
use lib.Bits.{bit_or}
use Rattle.relation.specs.Width.{width, word_bits}
use Rattle.relation.specs.Rows.{has, holds}
use Rattle.relation.proofs.Bits.{has_zero, has_or}
use Rattle.relation.proofs.Words.{or_left_false, or_right_false}
use Rattle.order_count.specs.Orders.{orders_from}
use Rattle.cured_sheet.specs.declared.Span.{Span}
use Rattle.cured_sheet.specs.Spans.{word_before, NoneBefore, EventsOf, NoneFirst, NoneLast, SpanOf, SpanHeld}

module _ (words : List ℕ) (count w : ℕ) where
  -- the events before the sends below e
  pub record Gathered (e events : ℕ) : Type 0 where
    pub all : EventsOf words e w events
    pub most : e ≤ count

  pub gathered_none : Gathered 0 0
  gathered_none = record { all = record { all = λ e b h t. absurd (omega arith) }; most = omega arith }

  pub gathered_more : (e events word : ℕ) → Gathered e events → word ≡ word_before words w e → e < count → Gathered (e + 1) (bit_or events word)
  gathered_more e events word g s h =
      record { all = record { all = λ k b l t. go k b l (ℕ_discrete k e) (sym (has_or events word b) ∙ t) }; most = omega arith }
    where
      go : (k b : ℕ) → k < e + 1 → Dec (k ≡ e) → (has events b || has word b) ≡ false → has (word_before words w k) b ≡ false
      go k b l (yes i) t = rw (i, ← s) (or_right_false (has events b) (has word b) t)
      go k b l (no i) t = g.all.all k b (omega arith) (or_left_false (has events b) (has word b) t)

  pub gathered_all : (e events : ℕ) → Gathered e events → count ≤ e → EventsOf words count w events
  gathered_all e events g h = record { all = λ k b l t. g.all.all k b (omega arith) t }

  -- a word that is zero has no event
  none_in : (e word : ℕ) → word ≡ word_before words w e → word ≡ 0 → NoneBefore words w e
  none_in e word s z b = rw (← s, z) (has_zero b)

  pub first_start : NoneFirst words count w 0
  first_start = record { none = λ e h b. absurd (omega arith); most = omega arith }

  pub first_more : (e word : ℕ) → NoneFirst words count w e → word ≡ word_before words w e → word ≡ 0 → e < count → NoneFirst words count w (e + 1)
  first_more e word g s z h = record { none = λ k l. go k l (ℕ_discrete k e); most = omega arith }
    where
      go : (k : ℕ) → k < e + 1 → Dec (k ≡ e) → NoneBefore words w k
      go k l (yes i) = subst (NoneBefore words w) (sym i) (none_in e word s z)
      go k l (no i) = g.none k (omega arith)

  pub first_end : (e : ℕ) → NoneFirst words count w e → count ≤ e → NoneFirst words count w count
  first_end e g h = record { none = λ k l. g.none k (omega arith); most = omega arith }

  pub last_start : NoneLast words count w count
  last_start = record { none = λ e h l b. absurd (omega arith); most = omega arith }

  pub last_more : (end word : ℕ) → NoneLast words count w end → word ≡ word_before words w (end - 1) → word ≡ 0 → 0 < end → NoneLast words count w (end - 1)
  last_more end word g s z h = record { none = λ k m l. go k m l (ℕ_discrete k (end - 1)); most = omega (arith, g.most) }
    where
      go : (k : ℕ) → end - 1 ≤ k → k < count → Dec (k ≡ end - 1) → NoneBefore words w k
      go k m l (yes i) = subst (NoneBefore words w) (sym i) (none_in (end - 1) word s z)
      go k m l (no i) = g.none k (omega arith) l

  pub last_end : (end : ℕ) → NoneLast words count w end → end ≤ 0 → NoneLast words count w 0
  last_end end g h = record { none = λ k m l. g.none k (omega arith) l; most = omega arith }

  pub span_none : (events : ℕ) → EventsOf words count w events → events ≡ 0 → SpanOf words count w (record { events = 0; first = 0; end = 0 })
  span_none events g z =
      record {
        events = record { all = λ e b h t. clear e b h };
        first = first_start;
        last = record { none = λ e h l b. clear e b l; most = omega arith };
      }
    where
      clear : (e b : ℕ) → e < count → has (word_before words w e) b ≡ false
      clear e b h = g.all e b h (rw z (has_zero b))

module _ (words : List ℕ) (count x : ℕ) where
  pub span_goes_on : (span : Span) → SpanHeld words count x span → (x % word_bits ≡ 0 → ⊥) → SpanOf words count (x / word_bits) span
  span_goes_on span h z = h.within z

  pub held_next : (span : Span) → SpanOf words count (x / word_bits) span → SpanHeld words count (x + 1) span
  held_next span s =
      record { within = λ z. let same : x / word_bits ≡ (x + 1) / word_bits = omega arith in subst (λ (w : ℕ). SpanOf words count w span) same s }

pub held_none : (words : List ℕ) (count : ℕ) (span : Span) → SpanHeld words count 0 span
held_none words count span = record { within = λ z. absurd (z refl) }

-- The rows of event x.
module _ (words : List ℕ) (count x : ℕ) where
  -- messages that have none between them
  rows_same : (a n : ℕ) → ((e : ℕ) → a ≤ e → e < a + n → holds width words (2 * e + 1) x ≡ false) → orders_from words x a ≡ orders_from words x (a + n)
  unfolding orders_from
  rows_same a zero clear = let i : a ≡ a + 0 = omega arith in ap (orders_from words x) i
  rows_same a (suc n) clear =
      let i : suc (a + n) ≡ a + suc n = omega arith in
      rows_same a n (λ e h l. clear e h (omega arith))
      ∙ sym (append-nil (orders_from words x (a + n)))
      ∙ ap (λ (t : Bool). orders_from words x (a + n) ++ cond t ((x, 2 * (a + n)) ∷ []) []) (sym (clear (a + n) (omega arith) (omega arith)))
      ∙ ap (orders_from words x) i

  pub same_to : (a b : ℕ) → a ≤ b → ((e : ℕ) → a ≤ e → e < b → holds width words (2 * e + 1) x ≡ false) → orders_from words x a ≡ orders_from words x b
  same_to a b h clear =
      let i : a + (b - a) ≡ b = omega arith in
      rows_same a (b - a) (λ e l m. clear e l (omega arith)) ∙ ap (orders_from words x) i

  at_bit : (e : ℕ) → has (word_before words (x / word_bits) e) (x % word_bits) ≡ false → holds width words (2 * e + 1) x ≡ false
  unfolding holds
  at_bit e t = t

  module _ (span : Span) (s : SpanOf words count (x / word_bits) span) where
    pub none_first : orders_from words x 0 ≡ orders_from words x span.first
    none_first = same_to 0 span.first (omega arith) (λ e h l. at_bit e (s.first.none e l (x % word_bits)))

    pub none_last : (e : ℕ) → span.end ≤ e → e ≤ count → orders_from words x e ≡ orders_from words x count
    none_last e h l = same_to e count l (λ k m n. at_bit k (s.last.none k (omega arith) n (x % word_bits)))

    pub none_at_all : has span.events (x % word_bits) ≡ false → orders_from words x 0 ≡ orders_from words x count
    none_at_all t = same_to 0 count (omega arith) (λ k m n. at_bit k (s.events.all k (x % word_bits) n t))

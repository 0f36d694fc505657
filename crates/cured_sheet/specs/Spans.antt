-- The sends that the events of a word stand directly before: between which messages they are. Assumes nothing.
use Rattle.std.specs.Prelude.{◌≡◌, false, List, ℕ, ◌+◌, ◌*◌, ◌/◌, ◌%◌, ◌<◌, ◌≤◌, get_or}
use Rattle.relation.specs.Width.{width, word_bits}
use Rattle.relation.specs.Rows.{has}
use Rattle.cured_sheet.specs.declared.Span.{Span}

-- word w of the row of e's receive, and that it has no event
abbrev pub word_before : List ℕ → ℕ → ℕ → ℕ
word_before words w e = get_or words ((2 * e + 1) * width + w) 0

abbrev pub NoneBefore : List ℕ → ℕ → ℕ → Type 0
NoneBefore words w e = (b : ℕ) → has (word_before words w e) b ≡ false

-- a word that has each event of word w that stands directly before a send
pub record EventsOf (words : List ℕ) (count w events : ℕ) : Type 0 where
  pub all : (e b : ℕ) → e < count → has events b ≡ false → has (word_before words w e) b ≡ false

-- no event of word w stands before the send of a message below `first`; nor, from `end` on
pub record NoneFirst (words : List ℕ) (count w first : ℕ) : Type 0 where
  pub none : (e : ℕ) → e < first → NoneBefore words w e
  pub most : first ≤ count

pub record NoneLast (words : List ℕ) (count w end : ℕ) : Type 0 where
  pub none : (e : ℕ) → end ≤ e → e < count → NoneBefore words w e
  pub most : end ≤ count

pub record SpanOf (words : List ℕ) (count w : ℕ) (span : Span) : Type 0 where
  pub events : EventsOf words count w span.events
  pub first : NoneFirst words count w span.first
  pub last : NoneLast words count w span.end

-- ahead of event x the span of its word is held, unless the word begins with x
pub record SpanHeld (words : List ℕ) (count x : ℕ) (span : Span) : Type 0 where
  pub within : (x % word_bits ≡ 0 → ⊥) → SpanOf words count (x / word_bits) span

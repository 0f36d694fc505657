-- The reader's cuts of a line, as the model's fields. Assumes nothing.
use Rattle.std.specs.Prelude.{ℕ, ◌+◌, ◌≤◌, ◌<◌, ◌≡◌, List, [], ◌∷◌, length, drop, Option, Some, None}
use Rattle.std.proofs.Math.Seq.{slice}
use Rattle.line.specs.Scan.{behind_line, first_field, behind_field, Parts, three, other, parts_of}
use Rattle.line.specs.declared.Cuts.{Cuts}

-- a field ends at r
pub record FieldEnd (text : List ℕ) (at r : ℕ) : Type 0 where
  pub from : at ≤ r
  pub to : r ≤ length text
  pub field : slice at r text ≡ first_field (drop at text)
  pub behind : drop r text ≡ behind_field (drop at text)

-- the cuts lie in the text, one behind the other, and the three fields between them
pub record Cut (text : List ℕ) (c : Cuts) : Type 0 where
  pub one : c.at ≤ c.first
  pub two : c.first < c.second
  pub three : c.second < c.end
  pub inside : c.end < length text

abbrev pub fields_in : List ℕ → Cuts → List (List ℕ)
fields_in text c =
    slice c.at c.first text ∷ slice (c.first + 1) c.second text ∷ slice (c.second + 1) c.end text ∷ []

-- a split of the text from a position on, as parts
abbrev pub parts_in : List ℕ → Option Cuts → Parts
parts_in text (Some c) =
    three (slice c.at c.first text) (slice (c.first + 1) c.second text) (slice (c.second + 1) c.end text) (drop (c.end + 1) text)
parts_in text None = other

-- the cuts of a split begin at the position given, and lie in the text
abbrev pub CutFrom : List ℕ → ℕ → Option Cuts → Type 0
CutFrom text at (Some c) = (c.at ≡ at) × Cut text c
CutFrom text at None = Unit {0}

pub record SplitAs (text : List ℕ) (at : ℕ) (r : Option Cuts) : Type 0 where
  pub parts : parts_in text r ≡ parts_of (drop at text)
  pub cut : CutFrom text at r

-- the next line begins behind the one that begins at a position
pub record Onward (text : List ℕ) (at next : ℕ) : Type 0 where
  pub further : at < next
  pub inside : next ≤ length text
  pub behind : drop next text ≡ behind_line (drop at text)

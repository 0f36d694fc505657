-- The reader's columns and heading, as the model's. Assumes nothing.
use Rattle.std.specs.Prelude as code
use Rattle.std.specs.Prelude.{ℕ, ◌+◌, ◌<◌, ◌≤◌, ◌≡◌, cond, List, Some, None}
use Rattle.std.proofs.Math.Option.{Option, none, some}
use Rattle.model.specs.Text.{place_of, heading_of, columns_of, are_columns}
use Rattle.model.specs.Text as text
use Rattle.line.specs.Scan.{first_line}
use Rattle.line.specs.Parts.{fields_in, Onward}
use Rattle.line.specs.declared.Cuts.{Cuts}
use Rattle.heading.specs.declared.Columns.{Columns}
use Rattle.heading.specs.declared.Heading.{Heading}

-- the columns are those of three fields
pub record Below (c : Columns) : Type 0 where
  pub kind : c.kind < 3
  pub one : c.one < 3
  pub two : c.two < 3

-- the number of the first field that is the name, if one of the three is
abbrev pub NameAt : List ℕ → List (List ℕ) → code.Option ℕ → Type 0
NameAt name fs (Some k) = (k ≡ place_of name fs) × (k < 3)
NameAt name fs None = 3 ≤ place_of name fs

abbrev pub columns_from : Columns → text.Columns
columns_from c = record { kind = c.kind; one = c.one; two = c.two }

abbrev pub heading_from : code.Option Heading → Option text.Columns
heading_from (Some h) = some (columns_from h.columns)
heading_from None = none

-- the columns that the three fields between the cuts name; the next line begins behind the last cut
abbrev pub NamedIn : Cuts → code.Option Heading → Type 0
NamedIn cuts (Some h) = (h.first_row ≡ cuts.end + 1) × Below h.columns
NamedIn cuts None = Unit {0}

unfoldable pub columns_named : List (List ℕ) → Option text.Columns
columns_named fs = cond (are_columns (columns_of fs)) (some (columns_of fs)) none

pub record HeadingIn (text : List ℕ) (cuts : Cuts) (r : code.Option Heading) : Type 0 where
  pub heading : heading_from r ≡ columns_named (fields_in text cuts)
  pub named : NamedIn cuts r

-- the heading of a text
abbrev pub NamedFrom : List ℕ → code.Option Heading → Type 0
NamedFrom text (Some h) = Onward text 0 h.first_row × Below h.columns
NamedFrom text None = Unit {0}

pub record HeadingAs (text : List ℕ) (r : code.Option Heading) : Type 0 where
  pub heading : heading_from r ≡ heading_of (first_line text)
  pub named : NamedFrom text r

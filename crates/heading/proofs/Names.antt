-- What the heading's code finds is what the heading says. Assumes nothing.
use Prim.Native.Nat.{ℕ, ◌+◌}
use native.Mathlib.Omega.{arith}
use mathlib.Core.Path.{◌≡◌, refl, sym, ◌∙◌, subst}
use mathlib.Core.Bool.{Bool, true, false}
use mathlib.Core.List.{List, []}
use mathlib.Core.Option.{none}
use borrow.Author.Tests.{lt-ltb, le-ltb}
use lib.ListN.{get_or}
use Rattle.std.specs.Prelude.{Option, Some, None}
use Rattle.model.specs.Bounded.{same}
use Rattle.model.specs.Text.{ascii, place_of, columns_of, are_columns, heading_of}
use Rattle.line.specs.Scan.{first_line}
use Rattle.line.specs.Parts.{fields_in, SplitAs, Onward}
use Rattle.line.specs.declared.Cuts.{Cuts}
use Rattle.line.proofs.Lines.{line_ended, line_fields, line_other, onward}
use Rattle.heading.specs.Names.{NameAt, columns_named, HeadingIn, HeadingAs, NamedFrom}
use Rattle.heading.specs.declared.Heading.{Heading}

-- the first field that is the name
module _ (text name : List ℕ) (c : Cuts) (r₀ : Bool) (p₀ : r₀ ≡ same name (get_or (fields_in text c) 0 [])) where
  pub place_first : r₀ ≡ true → NameAt name (fields_in text c) (Some 0)
  unfolding place_of
  place_first q = (rw (sym p₀ ∙ q), omega arith)

  module _ (q₀ : r₀ ≡ false) (r₁ : Bool) (p₁ : r₁ ≡ same name (get_or (fields_in text c) 1 [])) where
    pub place_second : r₁ ≡ true → NameAt name (fields_in text c) (Some 1)
    unfolding place_of
    place_second q = (rw (sym p₀ ∙ q₀, sym p₁ ∙ q), omega arith)

    module _ (q₁ : r₁ ≡ false) (r₂ : Bool) (p₂ : r₂ ≡ same name (get_or (fields_in text c) 2 [])) where
      pub place_third : r₂ ≡ true → NameAt name (fields_in text c) (Some 2)
      unfolding place_of
      place_third q = (rw (sym p₀ ∙ q₀, sym p₁ ∙ q₁, sym p₂ ∙ q), omega arith)

      pub place_none : r₂ ≡ false → NameAt name (fields_in text c) None
      unfolding place_of
      place_none q = rw (sym p₀ ∙ q₀, sym p₁ ∙ q₁, sym p₂ ∙ q) (omega arith)

-- the places of the three names
module _ (text : List ℕ) (c : Cuts) where
  pub no_kind : NameAt (ascii "kind") (fields_in text c) None → HeadingIn text c None
  unfolding columns_named are_columns columns_of
  no_kind h = record { heading = rw (le-ltb (place_of (ascii "kind") (fields_in text c)) 3 h); named = tt }

  module _ (kind : ℕ) (e : NameAt (ascii "kind") (fields_in text c) (Some kind)) where
    pub no_one : NameAt (ascii "one") (fields_in text c) None → HeadingIn text c None
    unfolding columns_named are_columns columns_of
    no_one h = record { heading = rw (← e.0, lt-ltb kind 3 e.1, le-ltb (place_of (ascii "one") (fields_in text c)) 3 h); named = tt }

    module _ (one : ℕ) (f : NameAt (ascii "one") (fields_in text c) (Some one)) where
      pub no_two : NameAt (ascii "two") (fields_in text c) None → HeadingIn text c None
      unfolding columns_named are_columns columns_of
      no_two h =
          record {
            heading = rw (← e.0, lt-ltb kind 3 e.1, ← f.0, lt-ltb one 3 f.1, le-ltb (place_of (ascii "two") (fields_in text c)) 3 h);
            named = tt;
          }

      pub columns_named_holds : (two : ℕ) → NameAt (ascii "two") (fields_in text c) (Some two)
          → HeadingIn text c (Some (record { columns = record { kind = kind; one = one; two = two }; first_row = c.end + 1 }))
      unfolding columns_named are_columns columns_of
      columns_named_holds two g =
          record {
            heading = rw (← e.0, ← f.0, ← g.0, lt-ltb kind 3 e.1, lt-ltb one 3 f.1, lt-ltb two 3 g.1);
            named = (refl, record { kind = e.1; one = f.1; two = g.1 });
          }

-- the first line, by its split
module _ (text : List ℕ) where
  module _ (c : Cuts) (p : SplitAs text 0 (Some c)) where
    named_fields : heading_of (first_line text) ≡ columns_named (fields_in text c)
    unfolding heading_of columns_named
    named_fields = rw (line_ended text 0 c p, line_fields text 0 c p)

    pub heading_split : (r : Option Heading) → HeadingIn text c r → HeadingAs text r
    heading_split r k = record { heading = k.heading ∙ sym named_fields; named = named_from r k }
      where
        named_from : (r' : Option Heading) → HeadingIn text c r' → NamedFrom text r'
        named_from (Some h) k' = (subst (λ (n : ℕ). Onward text 0 n) (sym k'.named.0) (onward text 0 c p), k'.named.1)
        named_from None k' = tt

  pub heading_unsplit : SplitAs text 0 None → HeadingAs text None
  unfolding heading_of
  heading_unsplit p = let unnamed : heading_of (first_line text) ≡ none = rw (line_other text 0 p) in record { heading = sym unnamed; named = tt }

-- A line of a table, by its split: the names, or a rule. Assumes nothing.
use Prim.Native.Nat.{ℕ, ◌+◌, ◌^◌, ◌<◌}
use native.Mathlib.Omega.{arith}
use mathlib.Core.Path.{◌≡◌, refl, sym, ◌∙◌, subst}
use mathlib.Core.Bool.{Bool, true, false}
use mathlib.Core.List.{List, []}
use mathlib.Core.Option.{none, some}
use lib.ListN.{get_or, drop}
use Rattle.std.specs.Prelude as code
use Rattle.std.specs.Prelude.{Some, None}
use Rattle.model.specs.Limits.{set_most, verdict_most}
use Rattle.model.specs.Bounded.{same}
use Rattle.model.specs.Text.{ascii, number_up_to}
use Rattle.model.specs.Senders.{are_names, is_names_line, rule_from, rule_in, rule_of}
use Rattle.line.specs.Scan.{first_line}
use Rattle.line.specs.Parts.{fields_in, SplitAs, Onward}
use Rattle.line.specs.declared.Cuts.{Cuts}
use Rattle.line.proofs.Lines.{line_ended, line_fields, line_other, onward}
use Rattle.fields.proofs.Spans.{number_most}
use Rattle.sender_table.specs.Table.{NamesIn, NamesAs, ReadFrom, RuleIn, RuleAs}
use Rattle.sender_table.specs.declared.Reading.{Reading}

-- the three names, one after the other
module _ (text : List ℕ) (c : Cuts) where
  abbrev at_place : ℕ → List ℕ
  at_place place = get_or (fields_in text c) place []

  pub names_all : (p q r : Bool) → p ≡ same (ascii "from") (at_place 0) → p ≡ true → q ≡ same (ascii "to") (at_place 1) → q ≡ true
      → r ≡ same (ascii "verdict") (at_place 2) → r ≡ true → NamesIn text c (Some (c.end + 1))
  unfolding are_names
  names_all p q r e h f k g l = (rw (← e, h, ← f, k, ← g, l), refl)

  pub no_verdict : (p q r : Bool) → p ≡ same (ascii "from") (at_place 0) → p ≡ true → q ≡ same (ascii "to") (at_place 1) → q ≡ true
      → r ≡ same (ascii "verdict") (at_place 2) → r ≡ false → NamesIn text c None
  unfolding are_names
  no_verdict p q r e h f k g l = rw (← e, h, ← f, k, ← g, l)

  pub no_to : (p q : Bool) → p ≡ same (ascii "from") (at_place 0) → p ≡ true → q ≡ same (ascii "to") (at_place 1) → q ≡ false → NamesIn text c None
  unfolding are_names
  no_to p q e h f k = rw (← e, h, ← f, k)

  pub no_from : (p : Bool) → p ≡ same (ascii "from") (at_place 0) → p ≡ false → NamesIn text c None
  unfolding are_names
  no_from p e h = rw (← e, h)

  -- the three numbers, one after the other
  pub rule_no_from : none ≡ number_up_to set_most (at_place 0) → RuleIn text c None
  unfolding rule_in rule_from
  rule_no_from p = record { rule = rw (← p); next = tt }

  module _ (a : ℕ) (p : some a ≡ number_up_to set_most (at_place 0)) where
    pub rule_no_to : none ≡ number_up_to set_most (at_place 1) → RuleIn text c None
    unfolding rule_in rule_from
    rule_no_to q = record { rule = rw (← p, ← q); next = tt }

    module _ (b : ℕ) (q : some b ≡ number_up_to set_most (at_place 1)) where
      pub rule_no_verdict : none ≡ number_up_to verdict_most (at_place 2) → RuleIn text c None
      unfolding rule_in rule_from
      rule_no_verdict e = record { rule = rw (← p, ← q, ← e); next = tt }

      pub rule_read : (w : ℕ) → some w ≡ number_up_to verdict_most (at_place 2)
          → RuleIn text c (Some (record { rule = record { from = a; to = b; verdict = w }; next = c.end + 1 }))
      unfolding rule_in rule_from
      rule_read w e = record { rule = rw (← p, ← q, ← e); next = refl }

  pub verdict_fits : (w : ℕ) → some w ≡ number_up_to verdict_most (at_place 2) → w < 2 ^ 8
  verdict_fits w e = omega (arith, number_most verdict_most w (at_place 2) e)

-- the line at a position, by its split
module _ (text : List ℕ) (at : ℕ) where
  pub rule_unsplit : SplitAs text at None → RuleAs text at None
  unfolding rule_of
  rule_unsplit p = let none_there : rule_of (first_line (drop at text)) ≡ none = rw (line_other text at p) in record { rule = sym none_there; next = tt }

  pub rule_split : (c : Cuts) (r : code.Option Reading) → SplitAs text at (Some c) → RuleIn text c r → RuleAs text at r
  unfolding rule_of
  rule_split c r p k =
      let there : rule_of (first_line (drop at text)) ≡ rule_in (fields_in text c) = rw (line_ended text at c p, line_fields text at c p) in
      record { rule = k.rule ∙ sym there; next = behind r k }
    where
      behind : (r' : code.Option Reading) → RuleIn text c r' → ReadFrom text at r'
      behind (Some d) k' = subst (λ (n : ℕ). Onward text at n) (sym k'.next) (onward text at c p)
      behind None k' = tt

-- the first line, by its split
module _ (text : List ℕ) where
  pub names_unsplit : SplitAs text 0 None → NamesAs text None
  unfolding is_names_line
  names_unsplit p = rw (line_other text 0 p)

  names_there : (c : Cuts) → SplitAs text 0 (Some c) → is_names_line (first_line text) ≡ are_names (fields_in text c)
  unfolding is_names_line
  names_there c p = rw (line_ended text 0 c p, line_fields text 0 c p)

  pub names_split : (c : Cuts) (r : code.Option ℕ) → SplitAs text 0 (Some c) → NamesIn text c r → NamesAs text r
  names_split c r p k = go r k
    where
      go : (r' : code.Option ℕ) → NamesIn text c r' → NamesAs text r'
      go (Some next) k' = (names_there c p ∙ k'.0, subst (λ (n : ℕ). Onward text 0 n) (sym k'.1) (onward text 0 c p))
      go None k' = names_there c p ∙ k'

-- The reader's names, rules and verdict, as the model's. Assumes nothing.
use Rattle.std.specs.Prelude as code
use Rattle.std.specs.Prelude.{ℕ, ◌+◌, ◌≤◌, ◌≡◌, true, false, List, take, drop, Some, None, Result, Ok, Err}
use Rattle.std.proofs.Math.Option.{Option, none, some}
use Rattle.model.specs.Limits.{rules_most}
use Rattle.model.specs.Refusal.{Out, ok}
use Rattle.model.specs.Text.{lines_of}
use Rattle.model.specs.Senders.{are_names, is_names_line, rule_in, rule_of, rules_from, rules_of}
use Rattle.model.specs.Senders as senders
use Rattle.line.specs.Scan.{first_line}
use Rattle.line.specs.Parts.{fields_in, Onward}
use Rattle.line.specs.declared.Cuts.{Cuts}
use Rattle.outcome.specs.declared.Refusal.{Refusal}
use Rattle.outcome.specs.Refusals.{refused_in}
use Rattle.coverage.specs.Rules.{rule_as, rules_as}
use Rattle.sender_table.specs.declared.Reading.{Reading}
use Rattle.sender_table.specs.declared.Table.{Table}

-- the fields between the cuts are the names, and the next line begins behind the last cut
abbrev pub NamesIn : List ℕ → Cuts → code.Option ℕ → Type 0
NamesIn text cuts (Some next) = (are_names (fields_in text cuts) ≡ true) × (next ≡ cuts.end + 1)
NamesIn text cuts None = are_names (fields_in text cuts) ≡ false

-- the first line is the names line, and the next begins behind it; or it is not
abbrev pub NamesAs : List ℕ → code.Option ℕ → Type 0
NamesAs text (Some next) = (is_names_line (first_line text) ≡ true) × Onward text 0 next
NamesAs text None = is_names_line (first_line text) ≡ false

abbrev pub reading_from : code.Option Reading → Option senders.Rule
reading_from (Some r) = some (rule_as r.rule)
reading_from None = none

-- the rule of the fields between the cuts; the next line begins behind the last cut
abbrev pub ReadIn : Cuts → code.Option Reading → Type 0
ReadIn cuts (Some r) = r.next ≡ cuts.end + 1
ReadIn cuts None = Unit {0}

pub record RuleIn (text : List ℕ) (cuts : Cuts) (r : code.Option Reading) : Type 0 where
  pub rule : reading_from r ≡ rule_in (fields_in text cuts)
  pub next : ReadIn cuts r

-- the rule that begins at a position; the next one begins behind it
abbrev pub ReadFrom : List ℕ → ℕ → code.Option Reading → Type 0
ReadFrom text at (Some r) = Onward text at r.next
ReadFrom text at None = Unit {0}

pub record RuleAs (text : List ℕ) (at : ℕ) (r : code.Option Reading) : Type 0 where
  pub rule : reading_from r ≡ rule_of (first_line (drop at text))
  pub next : ReadFrom text at r

-- the rules read, or the refusal
abbrev pub outcome_of : Result Table Refusal → Out (List senders.Rule)
outcome_of (Ok t) = ok (rules_as (take t.count t.rules))
outcome_of (Err r) = refused_in r

-- where there are rules, there are at most 64
abbrev pub Few : Result Table Refusal → Type 0
Few (Ok t) = t.count ≤ rules_most
Few (Err r) = Unit {0}

-- the rules behind the names
pub record RulesAs (text : List ℕ) (first : ℕ) (t : Result Table Refusal) : Type 0 where
  pub outcome : outcome_of t ≡ rules_from 0 (lines_of (drop first text))
  pub few : Few t

-- the outcome is the request's
pub record TableAs (text : List ℕ) (t : Result Table Refusal) : Type 0 where
  pub outcome : outcome_of t ≡ rules_of text
  pub few : Few t

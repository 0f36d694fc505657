-- The loop over the rules keeps to the model: each line read, and stored. Assumes nothing.
use Prim.Native.Nat.{ℕ, suc, ◌+◌, ◌-◌, ◌≤◌, ◌<◌}
use native.Mathlib.Numerals.{add-one}
use native.Mathlib.Omega.{arith}
use mathlib.Core.Path.{◌≡◌, refl, sym, ◌∙◌, ap}
use mathlib.Core.Bool.{cond}
use mathlib.Core.List.{List, [], ◌∷◌, ◌++◌}
use mathlib.Core.Option.{none, some}
use borrow.Author.Tests.{lt-ltb, le-ltb}
use lib.Dec.{ltb}
use lib.ListN.{length, take, drop, set, length-set, drop_of_length-le}
use lib.Seq.{take-suc-set}
use Rattle.std.specs.Prelude.{Some, None, Ok, Err}
use Rattle.outcome.specs.declared.Reason.TheVariants.{SenderTable}
use Rattle.outcome.specs.declared.Refusal.{Refusal}
use Rattle.model.specs.Limits.{rules_most}
use Rattle.model.specs.Refusal.{Out, ok, refusal, sender_table_refusal}
use Rattle.model.specs.Text.{Line, lines_of}
use Rattle.model.specs.Place.{line_of}
use Rattle.model.specs.Senders.{rule_of, ahead_of_rule, rules_from}
use Rattle.model.specs.Senders as senders
use Rattle.line.specs.Scan.{first_line, behind_line}
use Rattle.line.proofs.Lines.{lines_at}
use Rattle.coverage.specs.Rules.{rule_as, rules_as}
use Rattle.coverage.specs.declared.Rule.{Rule}
use Rattle.sender_table.specs.Table.{RuleAs, RulesAs}
use Rattle.sender_table.specs.declared.Reading.{Reading}

-- rules ahead of what is still to be read
pub ahead_all : List Rule → Out (List senders.Rule) → Out (List senders.Rule)
ahead_all [] o = o
ahead_all (r ∷ rs) o = ahead_of_rule (rule_as r) (ahead_all rs o)

ahead_snoc : (rs : List Rule) (r : Rule) (o : Out (List senders.Rule)) → ahead_all (rs ++ (r ∷ [])) o ≡ ahead_all rs (ahead_of_rule (rule_as r) o)
unfolding ahead_all
ahead_snoc [] r o = refl
ahead_snoc (q ∷ rs) r o = ap (ahead_of_rule (rule_as q)) (ahead_snoc rs r o)

ahead_refused : (rs : List Rule) (number line : ℕ) → ahead_all rs (refusal number line) ≡ refusal number line
unfolding ahead_all ahead_of_rule
ahead_refused [] number line = refl
ahead_refused (r ∷ rs) number line = ap (ahead_of_rule (rule_as r)) (ahead_refused rs number line)

ahead_all_holds : (rs : List Rule) → ahead_all rs (ok []) ≡ ok (rules_as rs)
unfolding ahead_all ahead_of_rule
ahead_all_holds [] = refl
ahead_all_holds (r ∷ rs) = ap (ahead_of_rule (rule_as r)) (ahead_all_holds rs)

-- where the reader stands: at a line, behind so many rules
pub record Looping (text : List ℕ) (first at count : ℕ) (rules : List Rule) : Type 0 where
  pub inside : at ≤ length text
  pub few : count ≤ rules_most
  pub long : length rules ≡ rules_most
  pub read : rules_from 0 (lines_of (drop first text)) ≡ ahead_all (take count rules) (rules_from count (lines_of (drop at text)))

pub loop_begin : (text : List ℕ) (first : ℕ) (rules : List Rule) → first ≤ length text → length rules ≡ rules_most → Looping text first first 0 rules
unfolding ahead_all
loop_begin text first rules h l = record { inside = h; few = omega arith; long = l; read = refl }

-- a table refused, at a line
abbrev pub bad_line : ℕ → Refusal
bad_line line = record { reason = SenderTable; line = line }

refused_as : (text : List ℕ) (first line : ℕ) → rules_from 0 (lines_of (drop first text)) ≡ refusal sender_table_refusal line → RulesAs text first (Err (bad_line line))
refused_as text first line f = record { outcome = sym f; few = tt }

module _ (text : List ℕ) (first at count : ℕ) (rules : List Rule) (v : Looping text first at count rules) (h : at < length text) where
  abbrev next_line : Line
  next_line = first_line (drop at text)

  abbrev others : List Line
  others = lines_of (behind_line (drop at text))

  read_line : rules_from 0 (lines_of (drop first text)) ≡ ahead_all (take count rules) (rules_from count (next_line ∷ others))
  read_line = v.read ∙ ap (λ (ls : List Line). ahead_all (take count rules) (rules_from count ls)) (lines_at text at h)

  -- the line is no rule, or one rule too many
  no_rule : cond (ltb count rules_most) (rule_of next_line) none ≡ none → rules_from 0 (lines_of (drop first text)) ≡ refusal sender_table_refusal (line_of count)
  unfolding rules_from
  no_rule e = read_line ∙ ap (ahead_all (take count rules)) (rw (e, rules_from)) ∙ ahead_refused (take count rules) sender_table_refusal (line_of count)

  pub loop_full : rules_most ≤ count → RulesAs text first (Err (bad_line (count + 2)))
  loop_full full = refused_as text first (count + 2) (no_rule (rw (le-ltb count rules_most full)))

  module _ (room : count < rules_most) where
    pub loop_malformed : RuleAs text at None → RulesAs text first (Err (bad_line (count + 2)))
    loop_malformed p = refused_as text first (count + 2) (no_rule (rw (lt-ltb count rules_most room) (sym p.rule)))

    module _ (r : Reading) (read_on : RuleAs text at (Some r)) where
      pub loop_further : length text - r.next < length text - at
      loop_further = omega (arith, read_on.next.further, read_on.next.inside)

      a_rule : rules_from count (next_line ∷ others) ≡ ahead_of_rule (rule_as r.rule) (rules_from (suc count) (lines_of (drop r.next text)))
      unfolding rules_from
      a_rule =
          let e : cond (ltb count rules_most) (rule_of next_line) none ≡ some (rule_as r.rule) = rw (lt-ltb count rules_most room) (sym read_on.rule) in
          rw (e, rules_from) (ap (λ (l : List ℕ). ahead_of_rule (rule_as r.rule) (rules_from (suc count) (lines_of l))) (sym read_on.next.behind))

      pub loop_more : Looping text first r.next (count + 1) (set rules count r.rule)
      loop_more =
          let l : count < length rules = omega (arith, v.long) in
          record {
            inside = read_on.next.inside;
            few = omega arith;
            long = length-set rules count r.rule ∙ v.long;
            read = rw (add-one count) (read_line ∙ ap (ahead_all (take count rules)) a_rule
                ∙ sym (ahead_snoc (take count rules) r.rule (rules_from (suc count) (lines_of (drop r.next text))))
                ∙ ap (λ (rs : List Rule). ahead_all rs (rules_from (suc count) (lines_of (drop r.next text)))) (sym (take-suc-set rules count r.rule l)));
          }

pub loop_done : (text : List ℕ) (first at count : ℕ) (rules : List Rule) → Looping text first at count rules → length text ≤ at
    → RulesAs text first (Ok (record { rules = rules; count = count }))
unfolding rules_from lines_of
loop_done text first at count rules v h =
    let d : drop at text ≡ [] = drop_of_length-le text h in
    let e : rules_from 0 (lines_of (drop first text)) ≡ ok (rules_as (take count rules)) =
    v.read ∙ ap (λ (l : List ℕ). ahead_all (take count rules) (rules_from count (lines_of l))) d ∙ ahead_all_holds (take count rules) in
    record { outcome = sym e; few = v.few }

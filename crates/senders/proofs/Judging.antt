-- The judgement, sender by sender: the lowest faulty pair, and what it is. Assumes nothing.
use Prim.Native.Nat.{ℕ, ◌+◌, ◌-◌, ◌*◌, ◌≤◌, ◌<◌}
use native.Mathlib.Omega.{arith}
use mathlib.Core.Path.{◌≡◌, refl, sym, ◌∙◌, ap, subst}
use mathlib.Core.Bool.{Bool, true, false, not}
use mathlib.Core.List.{List, [], ◌∷◌}
use mathlib.Core.Option.{none, some}
use borrow.Author.Tests.{leb-true, leb-false}
use lib.Dec.{eqb, leb}
use lib.ListN.{length, take}
use Rattle.model.specs.Limits.{boards, pairs}
use Rattle.model.specs.Bounded.{lowest}
use Rattle.model.specs.Refusal.{ok}
use Rattle.model.specs.Senders.{pair_of, rules_with, is_faulty, gap, clash, fault_of, soundness_of, rules_of, judged_table, table_answer, table_numbers, TableJudged}
use Rattle.model.proofs.Bounded.{IsLowest, lowest_none, lowest_some, lowest_hit, not_both}
use Rattle.model.proofs.Senders.{none_of, table_judged}
use Rattle.coverage.specs.Rules.{rules_as}
use Rattle.coverage.specs.Search.{begun, searched}
use Rattle.coverage.specs.declared.Rule.{Rule}
use Rattle.coverage.specs.declared.Search.{Search}
use Rattle.coverage.proofs.Covered.{faulty_sets, FirstTwo, first_two}
use Rattle.std.specs.Prelude.{Ok, Err}
use Rattle.outcome.specs.declared.Refusal.{Refusal}
use Rattle.outcome.specs.Refusals.{refused_in}
use Rattle.sender_table.specs.Table.{TableAs}
use Rattle.sender_table.specs.declared.Table.{Table}
use Rattle.senders.specs.Judgement.{judgement_as, numbers_for, is_fault}
use Rattle.senders.specs.declared.Judgement.{Judgement}
use Rattle.senders.specs.declared.Judgement.TheVariants.{Sound, Gap, Clash}

-- no pair of the senders passed is faulty
pub record Judging (rs : List Rule) (sender : ℕ) : Type 0 where
  pub below : sender ≤ boards
  pub none : lowest (boards * sender) (is_faulty (rules_as rs)) ≡ none

pub judge_begin : (rs : List Rule) → Judging rs 0
unfolding lowest
judge_begin rs = record { below = omega arith; none = refl }

module _ (rs : List Rule) (sender : ℕ) (s t : Search) (b : s ≡ begun sender 0) (m : t ≡ searched 0 rs s) where
  met_is : t ≡ searched 0 rs (begun sender 0)
  met_is = m ∙ ap (searched 0 rs) b

  row_faulty : (k : ℕ) → k < boards → is_faulty (rules_as rs) (pair_of sender k) ≡ is_fault t.once t.twice k
  unfolding is_fault
  row_faulty k h = faulty_sets sender rs k 0 h ∙ rw (← met_is)

  -- no pair of an earlier sender, or of this one with an earlier receiver
  faultless : Judging rs sender → (n : ℕ) → n ≤ boards → ((k : ℕ) → k < n → is_fault t.once t.twice k ≡ false)
      → (k : ℕ) → k < boards * sender + n → is_faulty (rules_as rs) k ≡ false
  faultless j n h clear k l = go (leb (boards * sender) k) refl
    where
      go : (c : Bool) → leb (boards * sender) k ≡ c → is_faulty (rules_as rs) k ≡ false
      go true e =
          let d : boards * sender ≤ k = leb-true (boards * sender) k e in
          let p : pair_of sender (k - boards * sender) ≡ k = omega arith in
          subst (λ (x : ℕ). is_faulty (rules_as rs) x ≡ false) p
          (row_faulty (k - boards * sender) (omega arith) ∙ clear (k - boards * sender) (omega arith))
      go false e = lowest_none (boards * sender) (is_faulty (rules_as rs)) j.none k (leb-false (boards * sender) k e)

  pub judge_more : Judging rs sender → sender < boards → none ≡ lowest boards (is_fault t.once t.twice) → Judging rs (sender + 1)
  judge_more j h n =
      let e : boards * (sender + 1) ≡ boards * sender + boards = omega arith in
      record {
        below = omega arith;
        none = rw e (none_of (boards * sender + boards) (is_faulty (rules_as rs)) (faultless j boards (omega arith) (lowest_none boards (is_fault t.once t.twice) (sym n))));
      }

  module _ (r : ℕ) (f : some r ≡ lowest boards (is_fault t.once t.twice)) where
    first : IsLowest boards (is_fault t.once t.twice) r
    first = lowest_some boards (is_fault t.once t.twice) r (sym f)

    pub receiver_inside : r < boards
    receiver_inside = first.below

    pub judge_faulty : is_faulty (rules_as rs) (pair_of sender r) ≡ true
    judge_faulty = row_faulty r first.below ∙ first.passes

    -- the pair named is the lowest
    named : Judging rs sender → sender < boards → lowest pairs (is_faulty (rules_as rs)) ≡ some (pair_of sender r)
    named j h =
        let inside : r < boards = first.below in
        lowest_hit pairs (pair_of sender r) (is_faulty (rules_as rs))
        (none_of (pair_of sender r) (is_faulty (rules_as rs)) (faultless j r (omega arith) first.first))
        judge_faulty (omega arith)

    pub judge_fault : (j : Judgement) → Judging rs sender → sender < boards
        → judgement_as j ≡ fault_of (pair_of sender r) (rules_with (pair_of sender r) 0 (rules_as rs)) → judgement_as j ≡ soundness_of (rules_as rs)
    unfolding soundness_of
    judge_fault j v h e = e ∙ rw (named v h, soundness_of)

pub judge_end : (rs : List Rule) (sender : ℕ) → Judging rs sender → boards ≤ sender → judgement_as Sound ≡ soundness_of (rules_as rs)
unfolding soundness_of
judge_end rs sender v h =
    let e : sender ≡ boards = omega (arith, v.below) in
    let n : lowest pairs (is_faulty (rules_as rs)) ≡ none = rw e at v.none in
    rw (n, soundness_of)

-- what a faulty pair is, by the lines noted
module _ (rs : List Rule) (sender receiver : ℕ) (inside : receiver < boards) (s t : Search) (b : s ≡ begun sender receiver) (m : t ≡ searched 0 rs s) where
  abbrev in_rules : List ℕ
  in_rules = rules_with (pair_of sender receiver) 0 (rules_as rs)

  noted : FirstTwo sender rs in_rules t
  noted = subst (λ (x : Search). FirstTwo sender rs in_rules x) (sym (m ∙ ap (searched 0 rs) b)) (first_two sender rs receiver inside)

  pub fault_gap : t.first ≡ 0 → judgement_as (Gap (boards * sender + receiver)) ≡ fault_of (pair_of sender receiver) in_rules
  unfolding fault_of
  fault_gap z = go in_rules noted
    where
      go : (ks : List ℕ) → FirstTwo sender rs ks t → gap (pair_of sender receiver) ≡ fault_of (pair_of sender receiver) ks
      go [] n = refl
      go (k ∷ []) n = absurd (omega (arith, n.0))
      go (k ∷ j ∷ ks) n = absurd (omega (arith, n.0))

  pub fault_clash : is_faulty (rules_as rs) (pair_of sender receiver) ≡ true → (t.first ≡ 0 → ⊥)
      → judgement_as (Clash (boards * sender + receiver) t.first t.second) ≡ fault_of (pair_of sender receiver) in_rules
  unfolding fault_of is_faulty
  fault_clash h z = go in_rules noted h
    where
      go : (ks : List ℕ) → FirstTwo sender rs ks t → not (eqb (length ks) 1) ≡ true
          → clash (pair_of sender receiver) t.first t.second ≡ fault_of (pair_of sender receiver) ks
      go [] n l = absurd (z n)
      go (k ∷ []) n l = not_both false l refl
      go (k ∷ j ∷ ks) n l = rw (n.0, n.1)

-- the table as a whole
module _ (table : List ℕ) where
  pub judged_refused : (r : Refusal) → TableAs table (Err r) → TableJudged table (numbers_for (Err r))
  unfolding table_answer judged_table
  judged_refused r p = let o : rules_of table ≡ refused_in r = sym p.outcome in table_judged table _ (rw (o, table_answer, judged_table))

  pub judged_rules : (t : Table) (j : Judgement) → TableAs table (Ok t) → judgement_as j ≡ soundness_of (rules_as (take t.count t.rules)) → TableJudged table (numbers_for (Ok j))
  unfolding table_answer judged_table
  judged_rules t j p f =
      let o : rules_of table ≡ ok (rules_as (take t.count t.rules)) = sym p.outcome in
      let a : table_answer table ≡ soundness_of (rules_as (take t.count t.rules)) = rw (o, table_answer, judged_table) in
      table_judged table _ (ap table_numbers (f ∙ sym a))

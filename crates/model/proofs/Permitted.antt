-- The sheet check with a table of permitted senders: the check's outcome with a sound table, unless a message is forbidden. Assumes nothing.
use Prim.Native.Nat.{ℕ, ◌+◌, ◌*◌, ◌<◌, ◌≤◌}
use mathlib.Core.Path.{◌≡◌, refl, sym, ◌∙◌, ap, subst, subst⁻¹}
use mathlib.Core.Logic.{◌↔◌}
use mathlib.Core.Bool.{Bool, true, false, cond, ◌&&◌, ◌||◌}
use mathlib.Core.List.{List, []}
use mathlib.Core.Option.{Option, none, some}
use native.Mathlib.Omega.{arith}
use borrow.Author.Tests.{lt-ltb, le-ltb, le-leb}
use lib.Dec.{leb, ltb}
use lib.ListN.{length, get_or}
use Rattle.model.specs.Limits.{text_most, channels, scratch_least, trace_least}
use Rattle.model.specs.Bounded.{lowest}
use Rattle.model.specs.Refusal.{Out, ok, refusal, and_then, channel_refusal, bench_refusal, length_refusal, sender_table_refusal, forbidden_refusal}
use Rattle.model.specs.Text.{lines_of}
use Rattle.model.specs.Place.{body_of, read_with}
use Rattle.model.specs.Expansion.{Progress, expand}
use Rattle.model.specs.Order.{Met, send_of, receive_of, board_of, Scenario, exchange_of, scenario_of}
use Rattle.model.specs.Answer.{refused, Numbers, sheet_of, accepted_of, answer_for, answer_of, numbers_of, scratch_behind, trace_after}
use Rattle.model.specs.Verdict.{Meets, Verdict}
use Rattle.model.specs.Senders.{Rule, pair_of, no_rule, InOne, sound_table, is_forbidden, with_lines, line_ops, lines_met, permitted, permitted_of, MessageRow, FirstForbidden, PermittedCheck}
use Rattle.model.proofs.Bounded.{lowest_hit}
use Rattle.model.proofs.Refusal.{not_refused, and_then_ok, cond_ok, cond_refused}
use Rattle.model.proofs.Accepted.{SheetParts, sheet_parts, accepted_parts, sheet_boards, sheet_meets}
use Rattle.model.proofs.PointThree.{point_three_holds}
use Rattle.model.proofs.MessageLines.{AtRow, Both, expand_alike}
use Rattle.model.proofs.Senders.{none_of, sound_table_holds, forbidden_by}

-- a sheet of another length than 1 to 8,192 bytes is refused, 3
abbrev fits : List ℕ → Bool
fits text = ltb 0 (length text) && leb (length text) text_most

unread : (text : List ℕ) → fits text ≡ false → sheet_of text ≡ refusal length_refusal 0
unfolding sheet_of read_with and_then
unread text h = rw h

read_fits : (text : List ℕ) (S : Scenario) → sheet_of text ≡ ok S → fits text ≡ true
unfolding read_with
read_fits text S e = (cond_ok (fits text) (body_of false (lines_of text)) length_refusal 0 _ (sheet_parts text S e).read).0

-- the scenario kept, where no message is forbidden
permitted_ok : (rules : List Rule) (lines : List ℕ) (S T : Scenario) → permitted rules lines S ≡ ok T → S ≡ T
unfolding permitted
permitted_ok rules lines S T = go (lowest S.count (is_forbidden rules S))
  where
    go : (o : Option ℕ) → elim o [ none ↦ ok S | some m ↦ refusal forbidden_refusal (get_or lines m 0) ] ≡ ok T → S ≡ T
    go none e = cc
    go (some m) e = not_refused e

module _ (text : List ℕ) (code scratch_length trace_length : ℕ) (table : List ℕ) where
  abbrev outcome : Out Scenario
  outcome = permitted_of text code scratch_length trace_length table

  abbrev check : Out Scenario
  check = accepted_of text code scratch_length trace_length

  pub permitted_accepted : (S : Scenario) → outcome ≡ ok S → check ≡ ok S
  unfolding permitted_of accepted_of
  permitted_accepted S e =
      let a = cond_ok (ltb code channels) _ _ _ S e in
      let b = cond_refused (ltb scratch_length scratch_least || ltb trace_length trace_least) _ _ _ S a.1 in
      let c = cond_ok (fits text) _ _ _ S b.1 in
      let d = and_then_ok (sound_table table) (λ rules. and_then (sheet_of text) (permitted rules (lines_met text))) S c.1 in
      let f = and_then_ok (sheet_of text) (permitted d.0 (lines_met text)) S d.2 in
      rw (a.0, b.0, f.1) (ap ok (permitted_ok d.0 (lines_met text) f.0 S f.2))

  module _ (rules : List Rule) (s : sound_table table ≡ ok rules) where
    same_sheet : ((S : Scenario) → sheet_of text ≡ ok S → (m : ℕ) → m < S.count → is_forbidden rules S m ≡ false)
        → (o : Out Scenario) → sheet_of text ≡ o → and_then o (permitted rules (lines_met text)) ≡ o
    unfolding and_then permitted
    same_sheet h (ok S) e = rw (none_of S.count (is_forbidden rules S) (h S e), permitted)
    same_sheet h (refusal number line) e = refl

    from_the_sheet : ((S : Scenario) → sheet_of text ≡ ok S → (m : ℕ) → m < S.count → is_forbidden rules S m ≡ false) → (f : Bool) → fits text ≡ f
        → cond f (and_then (sound_table table) (λ rs. and_then (sheet_of text) (permitted rs (lines_met text)))) (refusal length_refusal 0) ≡ sheet_of text
    unfolding and_then
    from_the_sheet h true e = rw s (same_sheet h (sheet_of text) refl)
    from_the_sheet h false e = sym (unread text e)

    -- the check's outcome, where no message is forbidden
    pub permitted_same : ((S : Scenario) → sheet_of text ≡ ok S → (m : ℕ) → m < S.count → is_forbidden rules S m ≡ false) → outcome ≡ check
    unfolding permitted_of accepted_of
    permitted_same h =
        ap (λ (o : Out Scenario). cond (ltb code channels) (cond (ltb scratch_length scratch_least || ltb trace_length trace_least) (refusal bench_refusal 0) o) (refusal channel_refusal 0))
        (from_the_sheet h (fits text) refl)

  -- an accepted sheet's outcome, by the table
  outcome_is : (S : Scenario) → check ≡ ok S → outcome ≡ and_then (sound_table table) (λ rules. permitted rules (lines_met text) S)
  unfolding permitted_of accepted_of and_then
  outcome_is S e =
      let a = cond_ok (ltb code channels) _ _ _ S e in
      let b = cond_refused (ltb scratch_length scratch_least || ltb trace_length trace_least) _ _ _ S a.1 in
      rw (a.0, b.0, read_fits text S b.1, b.1)

  -- 18 for the table, behind 1 to 3
  pub permitted_unsound : (line : ℕ) → sound_table table ≡ refusal sender_table_refusal line → code < channels → scratch_least ≤ scratch_length → trace_least ≤ trace_length
      → 0 < length text → length text ≤ text_most → outcome ≡ refusal sender_table_refusal line
  unfolding permitted_of and_then
  permitted_unsound line s c w t l h =
      rw (lt-ltb code channels c, le-ltb scratch_length scratch_least w, le-ltb trace_length trace_least t, lt-ltb 0 (length text) l, le-leb (length text) text_most h, s)

  -- 19 for the first forbidden message
  pub permitted_forbidden : (rules : List Rule) (S : Scenario) (m : ℕ) → sound_table table ≡ ok rules → check ≡ ok S → FirstForbidden rules S m
      → outcome ≡ refusal forbidden_refusal (get_or (lines_met text) m 0)
  unfolding and_then permitted
  permitted_forbidden rules S m s e f =
      let n : lowest S.count (is_forbidden rules S) ≡ some m =
      lowest_hit S.count m (is_forbidden rules S) (none_of m (is_forbidden rules S) f.first) f.forbidden f.met in
      outcome_is S e ∙ rw s (rw (n, permitted))

-- the line of a message of the walk is that of its M row
pub line_met : (text : List ℕ) (S : Scenario) → sheet_of text ≡ ok S → (m : ℕ) → m < S.count → MessageRow text m (get_or (lines_met text) m 0) (S.source m) (S.target m)
unfolding lines_met and_then scenario_of exchange_of
line_met text S e m l =
    let a = sheet_parts text S e in
    go a (expand line_ops [] (with_lines 0 a.rows) []) refl (subst (λ (o : Out (Progress Met)). Both a.rows o (expand line_ops [] (with_lines 0 a.rows) [])) a.parts.expanded (expand_alike a.rows))
  where
    go : (a : SheetParts text S) (o : Out (Progress (List ℕ))) → expand line_ops [] (with_lines 0 a.rows) [] ≡ o → Both a.rows (ok a.parts.walked) o
        → MessageRow text m (get_or (lines_met text) m 0) (S.source m) (S.target m)
    go a (refusal number line) f k = absurd k
    go a (ok q) f k =
        let lines : lines_met text ≡ q.kept = rw (a.read, f, lines_met) in
        let same : scenario_of (exchange_of a.parts.walked) ≡ S = a.parts.scenario in
        let r : AtRow a.rows (get_or q.kept m 0) (get_or a.parts.walked.kept.events (2 * m) 0) (get_or a.parts.walked.kept.events (2 * m + 1) 0) =
        k.rows m (subst⁻¹ (λ (T : Scenario). m < T.count) same l) in
        rw lines (subst (λ (T : Scenario). MessageRow text m (get_or q.kept m 0) (T.source m) (T.target m)) same
        (record { file = a.rows; read = a.read; own = ap (λ (l : List ℕ). get_or l m 0) (sym lines); row = r.row; at_line = r.at_line; is_message = r.is_message }))

-- What is answered and left in the buffers, as the outcome says: then the whole promise holds.
pub permitted_check : (text : List ℕ) (code : ℕ) (scratch scratch_exit trace trace_exit table : List ℕ) (r : Numbers)
    → r ≡ numbers_of (answer_for (permitted_of text code (length scratch) (length trace) table) code)
    → scratch_exit ≡ scratch_behind (permitted_of text code (length scratch) (length trace) table) scratch
    → trace_exit ≡ trace_after (answer_for (permitted_of text code (length scratch) (length trace) table) code) trace
    → PermittedCheck text code scratch scratch_exit trace trace_exit table r
unfolding answer_for answer_of board_of
permitted_check text code scratch scratch_exit trace trace_exit table r a s t =
    record {
      answer = a;
      scratch_left = s;
      trace_left = t;
      accepted = λ S e. accepted S e (permitted_accepted text code (length scratch) (length trace) table S e);
      sound_when = sound_table_holds table;
      by_its_rule = λ rules S m u e. by_its_rule_holds rules S m u e;
      as_the_check = λ rules u h. permitted_same text code (length scratch) (length trace) table rules u h;
      forbidden = λ rules S m u e f. forbidden S m (permitted_forbidden text code (length scratch) (length trace) table rules S m u e f)
          (line_met text S (accepted_parts text code (length scratch) (length trace) S e).sheet m f.met);
      unsound = λ line u c w l h i. a ∙ ap (λ (o : Out Scenario). numbers_of (answer_for o code)) (permitted_unsound text code (length scratch) (length trace) table line u c w l h i);
    }
  where
    by_its_rule_holds : (rules : List Rule) (S : Scenario) (m : ℕ) → sound_table table ≡ ok rules → sheet_of text ≡ ok S
        → (o : InOne rules (pair_of (S.source m) (S.target m))) × ((is_forbidden rules S m ≡ false) ↔ ((get_or rules o.rule no_rule).verdict ≡ 1))
    by_its_rule_holds rules S m u e =
        let from = sheet_boards text S e (send_of m) in
        let to = sheet_boards text S e (receive_of m) in
        let o = ((sound_table_holds table rules).0 u).1 (pair_of (S.source m) (S.target m)) (omega arith) in
        (o, forbidden_by rules (pair_of (S.source m) (S.target m)) o)

    accepted : (S : Scenario) → permitted_of text code (length scratch) (length trace) table ≡ ok S → accepted_of text code (length scratch) (length trace) ≡ ok S
        → (accepted_of text code (length scratch) (length trace) ≡ ok S) × Meets text S × Verdict S code r trace_exit
    accepted S e c =
        let same : answer_for (permitted_of text code (length scratch) (length trace) table) code ≡ answer_of text code (length scratch) (length trace) =
        ap (λ (o : Out Scenario). answer_for o code) (e ∙ sym c) in (
          c,
          sheet_meets text S (accepted_parts text code (length scratch) (length trace) S c).sheet,
          subst⁻¹ (λ (n : Numbers). Verdict S code n trace_exit) (a ∙ ap numbers_of same)
              (subst⁻¹ (λ (l : List ℕ). Verdict S code (numbers_of (answer_of text code (length scratch) (length trace))) l) (t ∙ ap (λ x. trace_after x trace) same)
              (point_three_holds text code (length scratch) trace S c)),
        )

    forbidden : (S : Scenario) (m : ℕ) → permitted_of text code (length scratch) (length trace) table ≡ refusal forbidden_refusal (get_or (lines_met text) m 0)
        → MessageRow text m (get_or (lines_met text) m 0) (S.source m) (S.target m)
        → (r ≡ numbers_of (refused forbidden_refusal r.two)) × MessageRow text m r.two (S.source m) (S.target m)
    forbidden S m e w =
        let n : r ≡ numbers_of (refused forbidden_refusal (get_or (lines_met text) m 0)) = a ∙ ap (λ (o : Out Scenario). numbers_of (answer_for o code)) e in
        let two : r.two ≡ get_or (lines_met text) m 0 = ap (λ (x : Numbers). x.two) n in
        (n ∙ ap (λ (line : ℕ). numbers_of (refused forbidden_refusal line)) (sym two), rw two w)

-- Request (l): the table of permitted senders, its soundness, and a sheet check with such a table.
-- Assumes nothing.
use Rattle.std.specs.Prelude.{ℕ, suc, ◌+◌, ◌*◌, ◌/◌, ◌%◌, ◌^◌, ◌<◌, ◌≤◌, ◌≡◌, ◌↔◌, Bool, true, false, not, cond, ◌&&◌, ◌||◌, List, [], ◌∷◌, ◌++◌, eqb, leb, ltb, length, get_or}
use Rattle.std.proofs.Math.Option.{Option, none, some}
use Rattle.model.specs.Limits.{text_most, boards, channels, scratch_least, trace_least, rules_most, set_most, verdict_most, pairs}
use Rattle.model.specs.Bounded.{lowest, same}
use Rattle.model.specs.Refusal.{Out, ok, refusal, and_then, channel_refusal, bench_refusal, length_refusal, sender_table_refusal, forbidden_refusal}
use Rattle.model.specs.Text.{ascii, Line, lines_of, fields_of, number_up_to}
use Rattle.model.specs.Rows.{Row, sheet, message, order, block, call, choice}
use Rattle.model.specs.Place.{line_of, read_of}
use Rattle.model.specs.Expansion.{Ops, expand}
use Rattle.model.specs.Order.{Scenario}
use Rattle.model.specs.Answer.{refused, Numbers, sheet_of, accepted_of, answer_for, numbers_of, scratch_behind, trace_after}
use Rattle.model.specs.Verdict.{Meets, Verdict}

-- A rule: two sets of boards, bit k of each being board k, and 1 for permitted or 0.
pub record Rule : Type 0 where
  pub from : ℕ
  pub to : ℕ
  pub verdict : ℕ

-- The table's text. Its names line, line 1, is `from to verdict`.
unfoldable pub are_names : List (List ℕ) → Bool
are_names fs = same (ascii "from") (get_or fs 0 []) && same (ascii "to") (get_or fs 1 []) && same (ascii "verdict") (get_or fs 2 [])

unfoldable pub is_names_line : Line → Bool
is_names_line l =
    let fs = fields_of l.bytes in
    l.ended && eqb (length fs) 3 && are_names fs

-- two sets and a verdict
unfoldable pub rule_from : Option ℕ → Option ℕ → Option ℕ → Option Rule
rule_from none to verdict = none
rule_from (some a) none verdict = none
rule_from (some a) (some b) none = none
rule_from (some a) (some b) (some v) = some (record { from = a; to = b; verdict = v })

unfoldable pub rule_in : List (List ℕ) → Option Rule
rule_in fs = rule_from (number_up_to set_most (get_or fs 0 [])) (number_up_to set_most (get_or fs 1 [])) (number_up_to verdict_most (get_or fs 2 []))

-- a line of a rule: three numbers, one space between, and its line end
unfoldable pub rule_of : Line → Option Rule
rule_of l =
    let fs = fields_of l.bytes in
    cond (l.ended && eqb (length fs) 3) (rule_in fs) none

unfoldable pub ahead_of_rule : Rule → Out (List Rule) → Out (List Rule)
ahead_of_rule r (ok rs) = ok (r ∷ rs)
ahead_of_rule r (refusal number line) = refusal number line

-- the rules, read one by one, at most 64; i is the number of the first
unfoldable pub rules_from : ℕ → List Line → Out (List Rule)
rules_from i [] = ok []
rules_from i (l ∷ ls) =
    elim (cond (ltb i rules_most) (rule_of l) none) [
      | none ↦ refusal sender_table_refusal (line_of i)
      | some r ↦ ahead_of_rule r (rules_from (suc i) ls)
    ]

-- the rules behind the names line
unfoldable pub rules_behind : List Line → Out (List Rule)
rules_behind [] = refusal sender_table_refusal 1
rules_behind (h ∷ ls) = cond (is_names_line h) (rules_from 0 ls) (refusal sender_table_refusal 1)

-- the rules of a table, or refusal 18: 0 for its length, else the first bad line
unfoldable pub rules_of : List ℕ → Out (List Rule)
rules_of table = cond (ltb 0 (length table) && leb (length table) text_most) (rules_behind (lines_of table)) (refusal sender_table_refusal 0)

-- A pair is numbered 16 times sender plus receiver.
abbrev pub pair_of : ℕ → ℕ → ℕ
pair_of sender receiver = boards * sender + receiver

-- the board is in the set
unfoldable pub in_set : ℕ → ℕ → Bool
in_set set board = eqb (set / 2 ^ board % 2) 1

-- the pair is in the rule
unfoldable pub covers : Rule → ℕ → Bool
covers r pair = in_set r.from (pair / boards) && in_set r.to (pair % boards)

-- the numbers of the rules that a pair is in; i is the number of the first
unfoldable pub rules_with : ℕ → ℕ → List Rule → List ℕ
rules_with pair i [] = []
rules_with pair i (r ∷ rs) = cond (covers r pair) (i ∷ rules_with pair (suc i) rs) (rules_with pair (suc i) rs)

-- each pair must be in exactly one rule
unfoldable pub is_faulty : List Rule → ℕ → Bool
is_faulty rules pair = not (eqb (length (rules_with pair 0 rules)) 1)

-- The judgement of a table: sound; or its lowest faulty pair, as a gap or with the lines of its first two rules; or malformed, with the refusal.
pub data Soundness : Type 0 where
  sound : Soundness
  gap : ℕ → Soundness
  clash : ℕ → ℕ → ℕ → Soundness
  malformed : ℕ → ℕ → Soundness

-- what a pair in these rules is
unfoldable pub fault_of : ℕ → List ℕ → Soundness
fault_of pair [] = gap pair
fault_of pair (i ∷ []) = sound
fault_of pair (i ∷ j ∷ ks) = clash pair (line_of i) (line_of j)

unfoldable pub soundness_of : List Rule → Soundness
soundness_of rules = elim (lowest pairs (is_faulty rules)) [ none ↦ sound | some pair ↦ fault_of pair (rules_with pair 0 rules) ]

unfoldable pub judged_table : Out (List Rule) → Soundness
judged_table (ok rules) = soundness_of rules
judged_table (refusal number line) = malformed number line

unfoldable pub table_answer : List ℕ → Soundness
table_answer table = judged_table (rules_of table)

-- The word of a judgement, as a number, and the three numbers behind it.
abbrev pub sound_word : ℕ
sound_word = 0

abbrev pub gap_word : ℕ
gap_word = 1

abbrev pub clash_word : ℕ
clash_word = 2

abbrev pub table_refused_word : ℕ
table_refused_word = 3

-- the pair, and the two lines of a clash; the refusal's number and line
abbrev pub table_numbers : Soundness → Numbers
table_numbers sound = record { word = sound_word; one = 0; two = 0; three = 0 }
table_numbers (gap pair) = record { word = gap_word; one = pair; two = 0; three = 0 }
table_numbers (clash pair a b) = record { word = clash_word; one = pair; two = a; three = b }
table_numbers (malformed number line) = record { word = table_refused_word; one = number; two = line; three = 0 }

-- no rule: it has no board in its sets
abbrev pub no_rule : Rule
no_rule = record { from = 0; to = 0; verdict = 0 }

-- the pair is in the rule with the given number
abbrev pub is_in : List Rule → ℕ → ℕ → Type 0
is_in rules pair k = covers (get_or rules k no_rule) pair ≡ true

-- the pair is in exactly one rule
pub record InOne (rules : List Rule) (pair : ℕ) : Type 0 where
  pub rule : ℕ
  pub there : rule < length rules
  pub in_it : is_in rules pair rule
  pub alone : (k : ℕ) → k < length rules → is_in rules pair k → k ≡ rule

-- the lowest faulty pair: every lower one is in exactly one rule
abbrev pub NoneLower : List Rule → ℕ → Type 0
NoneLower rules pair = (pair < pairs) × ((q : ℕ) → q < pair → InOne rules q)

-- a gap is in no rule
abbrev pub Gap : List Rule → ℕ → Type 0
Gap rules pair = (k : ℕ) → k < length rules → is_in rules pair k → ⊥

-- the first two rules of a clash, by their lines
pub record Clash (rules : List Rule) (pair a b : ℕ) : Type 0 where
  pub first : ℕ
  pub second : ℕ
  pub lines : (a ≡ line_of first) × (b ≡ line_of second)
  pub in_order : (first < second) × (second < length rules)
  pub in_both : is_in rules pair first × is_in rules pair second
  pub first_two : (k : ℕ) → k < second → is_in rules pair k → k ≡ first

-- What a call gives for a table.
pub record TableJudged (table : List ℕ) (r : Numbers) : Type 0 where
  -- the answer is the request's
  pub answer : r ≡ table_numbers (table_answer table)
  -- sound exactly if the table is well formed and each of the 256 pairs is in exactly one rule
  pub sound_when : (r.word ≡ sound_word) ↔ ((rules : List Rule) × (rules_of table ≡ ok rules) × ((pair : ℕ) → pair < pairs → InOne rules pair))
  -- a gap or a clash names the lowest faulty pair
  pub gap_named : (rules : List Rule) → rules_of table ≡ ok rules → r.word ≡ gap_word → NoneLower rules r.one × Gap rules r.one
  pub clash_named : (rules : List Rule) → rules_of table ≡ ok rules → r.word ≡ clash_word
      → NoneLower rules r.one × Clash rules r.one r.two r.three
  -- refused exactly if the table is malformed, with its first bad line
  pub refused_when : (r.word ≡ table_refused_word) ↔ (rules_of table ≡ refusal sender_table_refusal r.two)

-- The sheet check with a table: one that is not judged sound is refused, 18, without a line.
unfoldable pub sound_by : Soundness → List Rule → Out (List Rule)
sound_by sound rules = ok rules
sound_by (gap pair) rules = refusal sender_table_refusal 0
sound_by (clash pair a b) rules = refusal sender_table_refusal 0
sound_by (malformed number line) rules = refusal number line

unfoldable pub sound_rules : List Rule → Out (List Rule)
sound_rules rules = sound_by (soundness_of rules) rules

unfoldable pub sound_table : List ℕ → Out (List Rule)
sound_table table = and_then (rules_of table) sound_rules

-- the pair is permitted by the rule that it is in
unfoldable pub permits : List Rule → ℕ → Bool
permits [] pair = false
permits (r ∷ rs) pair = cond (covers r pair) (eqb r.verdict 1) (permits rs pair)

abbrev pub is_forbidden : List Rule → Scenario → ℕ → Bool
is_forbidden rules S m = not (permits rules (pair_of (S.source m) (S.target m)))

-- The line of each message's M row. A walk does not read the boards of a message, so it is walked with the M row's line in the sender's place;
-- i is the number of the first row.
unfoldable pub lined : ℕ → Row → Row
lined line (sheet n) = sheet n
lined line (message a b) = message line b
lined line (order x y) = order x y
lined line block = block
lined line (call n) = call n
lined line (choice m n) = choice m n

unfoldable pub with_lines : ℕ → List Row → List Row
with_lines i [] = []
with_lines i (r ∷ rs) = lined (line_of i) r ∷ with_lines (suc i) rs

unfoldable pub line_ops : Ops (List ℕ)
line_ops = record { with_message = λ w line b lines. lines ++ (line ∷ []); with_order = λ w x y lines. lines; with_block = λ w lines. lines }

-- the lines of the messages that the walk of a text meets, in walk order
unfoldable pub lines_met : List ℕ → List ℕ
lines_met text =
    elim (and_then (read_of text) (λ file. expand line_ops [] (with_lines 0 file) [])) [ ok s ↦ s.kept | refusal number line ↦ [] ]

-- the scenario, once the walk has ended, unless a message is forbidden: 19 for the first, with its line
unfoldable pub permitted : List Rule → List ℕ → Scenario → Out Scenario
permitted rules lines S =
    elim (lowest S.count (is_forbidden rules S)) [ none ↦ ok S | some m ↦ refusal forbidden_refusal (get_or lines m 0) ]

-- A sheet is accepted with a table if no refusal applies: 1, 2, 3, then 18, then 4 to 11 as in the check, then 19.
unfoldable pub permitted_of : List ℕ → ℕ → ℕ → ℕ → List ℕ → Out Scenario
permitted_of text code scratch_length trace_length table =
    cond (ltb code channels)
    (cond (ltb scratch_length scratch_least || ltb trace_length trace_least) (refusal bench_refusal 0)
    (cond (ltb 0 (length text) && leb (length text) text_most)
    (and_then (sound_table table) (λ rules. and_then (sheet_of text) (permitted rules (lines_met text))))
    (refusal length_refusal 0)))
    (refusal channel_refusal 0)

-- The line is that of message m's own row, the row of the text at which the walk meets m: a row `M a b`, row i.
pub record MessageRow (text : List ℕ) (m line a b : ℕ) : Type 0 where
  pub file : List Row
  pub read : read_of text ≡ ok file
  pub own : line ≡ get_or (lines_met text) m 0
  pub row : ℕ
  pub at_line : line ≡ line_of row
  pub is_message : get_or file row block ≡ message a b

-- message m is the first forbidden one
pub record FirstForbidden (rules : List Rule) (S : Scenario) (m : ℕ) : Type 0 where
  pub met : m < S.count
  pub forbidden : is_forbidden rules S m ≡ true
  pub first : (k : ℕ) → k < m → is_forbidden rules S k ≡ false

-- What a call gives, with the table lent behind what the check is lent.
pub record PermittedCheck (text : List ℕ) (code : ℕ) (scratch scratch_exit trace trace_exit table : List ℕ) (r : Numbers) : Type 0 where
  pub answer : r ≡ numbers_of (answer_for (permitted_of text code (length scratch) (length trace) table) code)
  pub scratch_left : scratch_exit ≡ scratch_behind (permitted_of text code (length scratch) (length trace) table) scratch
  pub trace_left : trace_exit ≡ trace_after (answer_for (permitted_of text code (length scratch) (length trace) table) code) trace
  -- a sheet that no refusal applies to, 18 and 19 among them, is accepted by the check too, and has point 3
  pub accepted : (S : Scenario) → permitted_of text code (length scratch) (length trace) table ≡ ok S
      → (accepted_of text code (length scratch) (length trace) ≡ ok S) × Meets text S × Verdict S code r trace_exit
  -- a table is sound exactly if it is well formed and each of the 256 pairs is in exactly one rule
  pub sound_when : (rules : List Rule) → (sound_table table ≡ ok rules) ↔ ((rules_of table ≡ ok rules) × ((pair : ℕ) → pair < pairs → InOne rules pair))
  -- the sender and the receiver of a message are in exactly one of its rules, and the message is forbidden unless that rule says 1
  pub by_its_rule : (rules : List Rule) (S : Scenario) (m : ℕ) → sound_table table ≡ ok rules → sheet_of text ≡ ok S
      → (o : InOne rules (pair_of (S.source m) (S.target m))) × ((is_forbidden rules S m ≡ false) ↔ ((get_or rules o.rule no_rule).verdict ≡ 1))
  -- with a sound table the outcome is the check's, unless a message met by the walk is forbidden
  pub as_the_check : (rules : List Rule) → sound_table table ≡ ok rules
      → ((S : Scenario) → sheet_of text ≡ ok S → (m : ℕ) → m < S.count → is_forbidden rules S m ≡ false)
      → permitted_of text code (length scratch) (length trace) table ≡ accepted_of text code (length scratch) (length trace)
  -- and then it is 19 for the first, with the line of its own M row
  pub forbidden : (rules : List Rule) (S : Scenario) (m : ℕ) → sound_table table ≡ ok rules
      → accepted_of text code (length scratch) (length trace) ≡ ok S → FirstForbidden rules S m
      → (r ≡ numbers_of (refused forbidden_refusal r.two)) × MessageRow text m r.two (S.source m) (S.target m)
  -- a table that is malformed or unsound is refused, 18, behind 1 to 3 and whatever the sheet: with the first bad line, 0 for its length or an
  -- unsound one
  pub unsound : (line : ℕ) → sound_table table ≡ refusal sender_table_refusal line → code < channels → scratch_least ≤ length scratch → trace_least ≤ length trace
      → 0 < length text → length text ≤ text_most → r ≡ numbers_of (refused sender_table_refusal line)

-- Request (c), a choice between two subprograms: the choice lists of a file, their order, the answer over all of them, and what the
-- call promises. Assumes nothing.
use Rattle.std.specs.Prelude.{ℕ, zero, suc, ◌+◌, ◌*◌, ◌≤◌, ◌≡◌, ◌↔◌, ◌⊎◌, Bool, true, false, cond, ◌&&◌, ◌||◌, List, [], ◌∷◌, ◌++◌, eqb, ltb, length}
use Rattle.std.proofs.Math.Option.{Option, none, some}
use Rattle.model.specs.Limits.{choices_most, lists_most, channels, scratch_least, trace_least}
use Rattle.model.specs.Refusal.{Out, ok, refusal, channel_refusal, bench_refusal, choices_refusal}
use Rattle.model.specs.Text.{Line, Columns, lines_of, heading_of}
use Rattle.model.specs.Rows.{Row, sheet, message, order, block, call, choice, row_of}
use Rattle.model.specs.Place.{read_with}
use Rattle.model.specs.Expansion.{Progress, expand}
use Rattle.model.specs.Order.{Met, nothing_met, met_ops, Scenario}
use Rattle.model.specs.Channel.{channel_of}
use Rattle.model.specs.Run.{Step, IsOrder, EndsStuck, CanFinish}
use Rattle.model.specs.Answer.{free, locked, refused, expanded_with, exchange_with, answer_for, scratch_behind, trace_after, Numbers, free_word, locked_word, refused_word}
use Rattle.model.specs.Verdict.{IsMet, Verdict, Checked}

-- A choice list fixes one option for each A row `A m n` as the walk meets it: false is m, true is n.

-- a walk is refused with 13: it met an A row that its list has no option for
unfoldable pub is_asked : {T : Type 0} → Out T → Bool
is_asked (ok t) = false
is_asked (refusal number line) = eqb number choices_refusal

module _ (file : List Row) where
  -- the walk with these options, fewer than eight, asks for one more
  unfoldable pub asks : List Bool → Bool
  asks l = ltb (length l) choices_most && is_asked (exchange_with l file)

  -- the beginnings of choice lists: nothing is fixed yet; and where the walk asks, either option more
  pub data Beginning : List Bool → Type 0 where
    nothing : Beginning []
    more : {l : List Bool} → Beginning l → asks l ≡ true → (option : Bool) → Beginning (l ++ (option ∷ []))

  -- a choice list: a beginning with which the walk asks for nothing more; a walk that is refused ends its list there
  pub record ChoiceList (l : List Bool) : Type 0 where
    pub beginning : Beginning l
    pub whole : asks l ≡ false

  -- the lists that begin with l, with so many options left to take, in their order
  unfoldable pub lists_from : ℕ → List Bool → List (List Bool)
  lists_from zero l = l ∷ []
  lists_from (suc left) l =
      elim (asks l) [
        | true ↦ lists_from left (l ++ (false ∷ [])) ++ lists_from left (l ++ (true ∷ []))
        | false ↦ l ∷ []
      ]

  -- all choice lists of the file
  unfoldable pub lists_of : List (List Bool)
  lists_of = lists_from choices_most []

-- The order of the lists: the earlier A row decides first, and m is ahead of n.
abbrev pub Ahead : List Bool → List Bool → Type 0
Ahead [] k = ⊥
Ahead (b ∷ l) [] = ⊥
Ahead (false ∷ l) (false ∷ k) = Ahead l k
Ahead (false ∷ l) (true ∷ k) = Unit {0}
Ahead (true ∷ l) (false ∷ k) = ⊥
Ahead (true ∷ l) (true ∷ k) = Ahead l k

-- l is one of the lists
abbrev pub Among : List Bool → List (List Bool) → Type 0
Among l [] = ⊥
Among l (k ∷ ks) = (l ≡ k) ⊎ Among l ks

-- each is ahead of all behind it
abbrev pub InOrder : List (List Bool) → Type 0
InOrder [] = Unit {0}
InOrder (l ∷ ls) = ((k : List Bool) → Among k ls → Ahead l k) × InOrder ls

-- These are exactly the choice lists of the file, in that order, each once, at most 256.
pub record AllLists (file : List Row) (ls : List (List Bool)) : Type 0 where
  pub each : (l : List Bool) → Among l ls ↔ ChoiceList file l
  pub in_order : InOrder ls
  -- no list is ahead of itself, so none stands there twice
  pub once : (l : List Bool) → Ahead l l → ⊥
  pub few : length ls ≤ lists_most
  -- a list fixes one option for each A row that its walk meets
  pub each_met : (l : List Bool) → ChoiceList file l → (s : Progress Met) → expand met_ops l file nothing_met ≡ ok s → s.walk.choices ≡ length l

-- Each list gives a free sheet; or the first locked list, its race and its steps; or a refusal's number and line.
pub data ChoiceAnswer : Type 0 where
  each_free : ChoiceAnswer
  first_locked : List Bool → ℕ → ℕ → List Step → ChoiceAnswer
  first_refused : ℕ → ℕ → ChoiceAnswer

module _ (file : List Row) where
  -- the refusal of the first refused list
  unfoldable pub refusal_in : List (List Bool) → Option (ℕ × ℕ)
  refusal_in [] = none
  refusal_in (l ∷ ls) = elim (expanded_with l file) [ ok S ↦ refusal_in ls | refusal number line ↦ some (number, line) ]

  -- the first locked list
  unfoldable pub lock_in : ℕ → List (List Bool) → ChoiceAnswer
  lock_in code [] = each_free
  lock_in code (l ∷ ls) =
      elim (answer_for (expanded_with l file) code) [
        | free ↦ lock_in code ls
        | locked e x ts ↦ first_locked l e x ts
        | refused number line ↦ lock_in code ls
      ]

  -- the answer over the lists: a refusal in any of them comes before any lock
  unfoldable pub judged_over : ℕ → List (List Bool) → ChoiceAnswer
  judged_over code ls = elim (refusal_in ls) [ none ↦ lock_in code ls | some r ↦ first_refused r.0 r.1 ]

-- the rows, A rows let through, unless refusal 1, 2 or one of reading applies
unfoldable pub choosable : List ℕ → ℕ → ℕ → ℕ → Out (List Row)
choosable text code scratch_length trace_length =
    cond (ltb code channels)
    (cond (ltb scratch_length scratch_least || ltb trace_length trace_least) (refusal bench_refusal 0) (read_with true text))
    (refusal channel_refusal 0)

unfoldable pub choice_answer_for : Out (List Row) → ℕ → ChoiceAnswer
choice_answer_for (ok file) code = judged_over file code (lists_of file)
choice_answer_for (refusal number line) code = first_refused number line

unfoldable pub choice_answer_of : List ℕ → ℕ → ℕ → ℕ → ChoiceAnswer
choice_answer_of text code scratch_length trace_length = choice_answer_for (choosable text code scratch_length trace_length) code

-- the number of a list, with bit k set where its A row k (from 0) takes n
unfoldable pub choices_number : List Bool → ℕ
choices_number [] = 0
choices_number (b ∷ l) = cond b 1 0 + 2 * choices_number l

-- The word of an answer, as the check's, the three numbers behind it, and the length and the number of the list.
pub record ChoiceNumbers : Type 0 where
  pub word : ℕ
  pub one : ℕ
  pub two : ℕ
  pub three : ℕ
  pub options : ℕ
  pub choices : ℕ

abbrev pub choice_numbers : ChoiceAnswer → ChoiceNumbers
choice_numbers each_free = record { word = free_word; one = 0; two = 0; three = 0; options = 0; choices = 0 }
choice_numbers (first_locked l e x ts) =
    record { word = locked_word; one = e; two = x; three = length ts; options = length l; choices = choices_number l }
choice_numbers (first_refused number line) = record { word = refused_word; one = number; two = line; three = 0; options = 0; choices = 0 }

-- without those of the list
abbrev pub first_four : ChoiceNumbers → Numbers
first_four r = record { word = r.word; one = r.one; two = r.two; three = r.three }

-- the trace buffer changes only on "locked", in the bytes of the steps reported
unfoldable pub trace_chosen : ChoiceAnswer → List ℕ → List ℕ
trace_chosen each_free trace = trace
trace_chosen (first_locked l e x ts) trace = trace_after (locked e x ts) trace
trace_chosen (first_refused number line) trace = trace

-- A file without A rows: no line behind the heading reads as one.
unfoldable pub is_choice : Row → Bool
is_choice (sheet n) = false
is_choice (message a b) = false
is_choice (order x y) = false
is_choice block = false
is_choice (call n) = false
is_choice (choice m n) = true

-- no row is an A row
abbrev pub Plain : List Row → Type 0
Plain [] = Unit {0}
Plain (r ∷ rs) = (is_choice r ≡ false) × Plain rs

unfoldable pub reads_as_choice : Columns → Line → Bool
reads_as_choice c l = elim (row_of true c l) [ none ↦ false | some r ↦ is_choice r ]

unfoldable pub any_choice : Columns → List Line → Bool
any_choice c [] = false
any_choice c (l ∷ ls) = reads_as_choice c l || any_choice c ls

unfoldable pub choices_behind : List Line → Bool
choices_behind [] = false
choices_behind (h ∷ ls) = elim (heading_of h) [ none ↦ false | some c ↦ any_choice c ls ]

unfoldable pub has_choices : List ℕ → Bool
has_choices text = choices_behind (lines_of text)

-- What the answer says, for a file, a code and the lists of the file.
module _ (file : List Row) (code : ℕ) where
  -- on this list some allowed order ends stuck
  pub record Sticking (l : List Bool) : Type 0 where
    pub scenario : Scenario
    pub is_scenario : expanded_with l file ≡ ok scenario
    pub steps : List Step
    pub ends_stuck : EndsStuck scenario (channel_of code) steps

  -- on this list every allowed order, the empty one too, can be carried on until all is consumed
  pub record Finishing (l : List Bool) : Type 0 where
    pub scenario : Scenario
    pub is_scenario : expanded_with l file ≡ ok scenario
    pub finishes : (ts : List Step) → IsOrder scenario (channel_of code) ts → CanFinish scenario (channel_of code) ts

  -- the list is refused with this number and line, and no list ahead of it is refused
  pub record FirstRefused (number line : ℕ) : Type 0 where
    pub list : List Bool
    pub is_list : ChoiceList file list
    pub is_refused : expanded_with list file ≡ refusal number line
    pub none_ahead : (k : List Bool) → ChoiceList file k → Ahead k list → (S : Scenario) × (expanded_with k file ≡ ok S)

  -- the list named is locked, with its lowest race and with steps that are an allowed order of its scenario and end stuck; and no list
  -- ahead of it is locked
  pub record FirstLocked (r : ChoiceNumbers) (trace : List ℕ) : Type 0 where
    pub list : List Bool
    pub is_list : ChoiceList file list
    pub list_length : length list ≡ r.options
    pub list_number : choices_number list ≡ r.choices
    pub scenario : Scenario
    pub is_scenario : expanded_with list file ≡ ok scenario
    pub verdict : Verdict scenario code (first_four r) trace
    pub none_ahead : (k : List Bool) → ChoiceList file k → Ahead k list → Finishing k

  pub record ChoiceVerdict (r : ChoiceNumbers) (trace : List ℕ) : Type 0 where
    pub lists : AllLists file (lists_of file)
    -- a list's scenario is what its walk meets, with "before" the paper's relation
    pub causal_order : (l : List Bool) (S : Scenario) → expanded_with l file ≡ ok S → IsMet (exchange_with l file) S
    -- refused exactly if some list is, and then as the first one is
    pub refused_when : (r.word ≡ refused_word)
        ↔ ((l : List Bool) × (number : ℕ) × (line : ℕ) × ChoiceList file l × (expanded_with l file ≡ refusal number line))
    pub refused_first : r.word ≡ refused_word → FirstRefused r.one r.two
    -- locked exactly if none is refused and for some list some allowed order of its scenario ends stuck
    pub locked_when : (r.word ≡ locked_word)
        ↔ (((l : List Bool) → ChoiceList file l → (S : Scenario) × (expanded_with l file ≡ ok S)) × ((l : List Bool) × ChoiceList file l × Sticking l))
    pub locked_first : r.word ≡ locked_word → FirstLocked r trace
    -- free exactly if for every list every allowed order can be carried on until all is consumed
    pub free_when : (r.word ≡ free_word) ↔ ((l : List Bool) → ChoiceList file l → Finishing l)

-- What a call gives, from what it was lent: the text, the code, and the scratch and the trace at entry.
pub record ChoiceChecked (text : List ℕ) (code : ℕ) (scratch scratch_exit trace trace_exit : List ℕ) (r : ChoiceNumbers) : Type 0 where
  -- the answer is the request's, and the buffers are left as the check leaves them
  pub answer : r ≡ choice_numbers (choice_answer_of text code (length scratch) (length trace))
  pub scratch_left : scratch_exit ≡ scratch_behind (choosable text code (length scratch) (length trace)) scratch
  pub trace_left : trace_exit ≡ trace_chosen (choice_answer_of text code (length scratch) (length trace)) trace
  -- where the text is read, the answer is right for every choice list, over whole orders
  pub verdict : (file : List Row) → choosable text code (length scratch) (length trace) ≡ ok file → ChoiceVerdict file code r trace_exit
  -- on a file without A rows the call gives what the check gives, and no list
  pub without_choices : has_choices text ≡ false
      → Checked text code scratch scratch_exit trace trace_exit (first_four r) × (r.options ≡ 0) × (r.choices ≡ 0)

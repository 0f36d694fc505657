-- Request (m), two taps on one machine: each gives a list of event numbers in the order seen. Whether both fit one course of events, and the course
-- that is built; else the event that would have to precede itself. Assumes nothing.
use Rattle.std.specs.Prelude.{ℕ, zero, suc, ◌*◌, ◌<◌, ◌≡◌, ◌↔◌, ◌⊎◌, Bool, true, false, not, cond, ◌&&◌, ◌||◌, List, [], ◌∷◌, ◌++◌, eqb, ltb, length, get_or, take, drop}
use Rattle.std.proofs.Math.Option.{none, some}
use Rattle.model.specs.Limits.{scratch_least, tap_numbers_least}
use Rattle.model.specs.Bounded.{every, lowest, among, each_once}
use Rattle.model.specs.Refusal.{Out, ok, refusal, and_then, bench_refusal, tap_refusal}
use Rattle.model.specs.Closure.{reads, linked}
use Rattle.model.specs.Order.{Event, number, event, Scenario}
use Rattle.model.specs.Answer.{refused_word, sheet_of, scratch_behind}
use Rattle.model.specs.Verdict.{Meets}

-- x stands ahead of y in the list
unfoldable pub ahead : List ℕ → ℕ → ℕ → Bool
ahead [] x y = false
ahead (k ∷ ks) x y = eqb x k && among y ks || ahead ks x y

-- an event not in the sheet, or twice in one list: refusal 20, first list first, with 1 or 2 for the list as its line
unfoldable pub with_lists : List ℕ → List ℕ → Scenario → Out Scenario
with_lists first second S =
    cond (each_once (2 * S.count) first)
    (cond (each_once (2 * S.count) second) (ok S) (refusal tap_refusal 2))
    (refusal tap_refusal 1)

-- the scenario of an accepted sheet with its lists; refusal 2 for the buffers, then the sheet's, then 20
unfoldable pub taps_accepted_of : List ℕ → ℕ → List ℕ → List ℕ → ℕ → Out Scenario
taps_accepted_of text scratch_length first second output_length =
    cond (ltb scratch_length scratch_least || ltb output_length tap_numbers_least)
    (refusal bench_refusal 0)
    (and_then (sheet_of text) (with_lists first second))

module _ (S : Scenario) (first second : List ℕ) where
  -- x has to precede y: the least transitive relation with "before" and the order of both lists
  pub data Precedes : ℕ → ℕ → Type 0 where
    by_sheet : {x y : ℕ} → S.before (event x) (event y) ≡ true → Precedes x y
    by_first : {x y : ℕ} → ahead first x y ≡ true → Precedes x y
    by_second : {x y : ℕ} → ahead second x y ≡ true → Precedes x y
    link : {x y z : ℕ} → Precedes x y → Precedes y z → Precedes x z

  -- the sources of it
  unfoldable pub is_sooner : ℕ → ℕ → Bool
  is_sooner x y = S.before (event x) (event y) || ahead first x y || ahead second x y

  -- the same relation as a computed test on the event numbers
  unfoldable pub precedes : ℕ → ℕ → Bool
  precedes x y = reads (linked (2 * S.count) is_sooner (2 * S.count)) x y

-- Taking one number after the other of those below n, where R says which is before which.
module _ (n : ℕ) (R : ℕ → ℕ → Bool) where
  -- k is not taken, and nothing is left before it
  unfoldable pub is_next : List ℕ → ℕ → Bool
  is_next taken k = not (among k taken) && every n (λ x. not (R x k) || among x taken)

  -- those taken, and behind them the lowest that has nothing left before it
  unfoldable pub with_next : List ℕ → List ℕ
  with_next taken = elim (lowest n (is_next taken)) [ none ↦ taken | some k ↦ taken ++ (k ∷ []) ]

  -- the first i of the course
  unfoldable pub course_of : ℕ → List ℕ
  course_of zero = []
  course_of (suc i) = with_next (course_of i)

-- Fit gives the course of all events; clash names the event that would have to precede itself; refused gives number and line.
pub data Tapped : Type 0 where
  fit : List ℕ → Tapped
  clash : ℕ → Tapped
  refused : ℕ → ℕ → Tapped

unfoldable pub tapped_on : List ℕ → List ℕ → Scenario → Tapped
tapped_on first second S =
    elim (lowest (2 * S.count) (λ x. precedes S first second x x)) [
      | none ↦ fit (course_of (2 * S.count) (is_sooner S first second) (2 * S.count))
      | some x ↦ clash x
    ]

unfoldable pub tapped_for : List ℕ → List ℕ → Out Scenario → Tapped
tapped_for first second (ok S) = tapped_on first second S
tapped_for first second (refusal number line) = refused number line

unfoldable pub tapped_of : List ℕ → ℕ → List ℕ → List ℕ → ℕ → Tapped
tapped_of text scratch_length first second output_length =
    tapped_for first second (taps_accepted_of text scratch_length first second output_length)

-- the output changes only on fit, in the numbers of the course
unfoldable pub output_after : Tapped → List ℕ → List ℕ
output_after (fit course) output = course ++ drop (length course) output
output_after (clash x) output = output
output_after (refused number line) output = output

-- The word of an answer, as a number, and the two numbers behind it.
abbrev pub fit_word : ℕ
fit_word = 0

abbrev pub clash_word : ℕ
clash_word = 1

pub record TapNumbers : Type 0 where
  pub word : ℕ
  pub one : ℕ
  pub two : ℕ

-- the events written and 0 for fit; the event and 0 for clash; the refusal's number and its line for refused
abbrev pub tap_numbers_of : Tapped → TapNumbers
tap_numbers_of (fit course) = record { word = fit_word; one = length course; two = 0 }
tap_numbers_of (clash x) = record { word = clash_word; one = x; two = 0 }
tap_numbers_of (refused number line) = record { word = refused_word; one = number; two = line }

module _ (S : Scenario) (first second : List ℕ) where
  -- an order of all events, each once, that obeys "before" and both lists
  pub record Obeys (order : List ℕ) : Type 0 where
    pub once : each_once (2 * S.count) order ≡ true
    pub all : (x : ℕ) → x < 2 * S.count → among x order ≡ true
    pub obeys_before : (x y : Event) → S.before x y ≡ true → ahead order (number x) (number y) ≡ true
    pub obeys_first : (x y : ℕ) → ahead first x y ≡ true → ahead order x y ≡ true
    pub obeys_second : (x y : ℕ) → ahead second x y ≡ true → ahead order x y ≡ true

  -- event k is left, those of the list being taken, and nothing is left before it by all three
  pub record NothingBefore (taken : List ℕ) (k : ℕ) : Type 0 where
    pub in_sheet : k < 2 * S.count
    pub left : among k taken ≡ false
    pub taken_before : (x : Event) → S.before x (event k) ≡ true → among (number x) taken ≡ true
    pub taken_first : (x : ℕ) → ahead first x k ≡ true → among x taken ≡ true
    pub taken_second : (x : ℕ) → ahead second x k ≡ true → among x taken ≡ true

  -- and it is the lowest such event
  pub record LowestNext (taken : List ℕ) (k : ℕ) : Type 0 where
    pub nothing_before : NothingBefore taken k
    pub no_lower : (j : ℕ) → j < k → NothingBefore taken j → ⊥

  -- the event has to precede itself, and no lower one has
  pub record LowestCircle (x : ℕ) : Type 0 where
    pub in_sheet : x < 2 * S.count
    pub circle : Precedes S first second x x
    pub no_lower : (y : ℕ) → y < x → Precedes S first second y y → ⊥

  -- The answer's numbers r and the output as the call leaves it, for the scenario of an accepted sheet and its lists.
  pub record Fitted (r : TapNumbers) (output : List ℕ) : Type 0 where
    pub fit_or_clash : (r.word ≡ fit_word) ⊎ (r.word ≡ clash_word)
    -- fit exactly if some order of all events obeys "before" and both lists
    pub fit_when_obeyed : (r.word ≡ fit_word) ↔ ((order : List ℕ) × Obeys order)
    -- empty lists fit
    pub empty_fit : first ≡ [] → second ≡ [] → r.word ≡ fit_word
    -- all events are written, in such an order
    pub fit_count : r.word ≡ fit_word → r.one ≡ 2 * S.count
    pub fit_order : r.word ≡ fit_word → Obeys (take r.one output)
    -- and at each place stands the lowest event that has nothing left before it by all three
    pub fit_lowest : r.word ≡ fit_word → (i : ℕ) → i < r.one → LowestNext (take i output) (get_or output i 0)
    -- clash exactly if some event has to precede itself, and it names the lowest
    pub clash_when_circle : (r.word ≡ clash_word) ↔ ((x : ℕ) × Precedes S first second x x)
    pub clash_lowest : r.word ≡ clash_word → LowestCircle r.one

-- What a call gives, from what it was lent: the text, the two lists, and the scratch and the output at entry.
pub record TapsChecked (text scratch scratch_exit first second output output_exit : List ℕ) (r : TapNumbers) : Type 0 where
  -- the answer is the request's
  pub answer : r ≡ tap_numbers_of (tapped_of text (length scratch) first second (length output))
  -- refusal 2 touches neither buffer; behind every other call the first scratch words are zero and the rest unchanged
  pub scratch_left : scratch_exit ≡ scratch_behind (taps_accepted_of text (length scratch) first second (length output)) scratch
  -- the output changes only on fit, in the numbers written
  pub output_left : output_exit ≡ output_after (tapped_of text (length scratch) first second (length output)) output
  -- an accepted sheet's scenario is what its walk meets, with "before" the paper's relation
  pub causal_order : (S : Scenario) → taps_accepted_of text (length scratch) first second (length output) ≡ ok S → Meets text S
  -- one course of events for both lists, or the event that would have to precede itself
  pub course : (S : Scenario) → taps_accepted_of text (length scratch) first second (length output) ≡ ok S → Fitted S first second r output_exit
